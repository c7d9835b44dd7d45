-- What the code's values stand for.
use Rattle.std.specs.Prelude.{◌≡◌, ◌≢◌, ℕ, Bool, true, false, List, map, reverse, Option, Some, None, Vec, String}
use Rattle.std.specs.Prelude.{string_bytes}
use Rattle.std.specs.declared.alloc.Global.{Global}
use Rattle.language_types.specs.declared.position.SourcePosition.{SourcePosition}
use Rattle.language_types.specs.declared.position.Span.{Span}
use Rattle.language_types.specs.declared.position.Spanning.{Spanning}
use Rattle.language_values.specs.declared.value.InputValue.{InputValue, fold-InputValue}
use Rattle.language_values.specs.declared.value.InputValue.TheOpen.{InputValue-F}
use Rattle.sdl_scalars.specs.declared.scalar.SourceScalar.{SourceScalar}
use Rattle.sdl_scalars.specs.declared.scalar.SourceScalar.TheVariants as scalar
use Rattle.graphql_lexer.specs.Lexemes.{Lexeme}
use Rattle.graphql_lexer.specs.Lexical as token
use Rattle.graphql_lexer.specs.declared.error.ReadError.{ReadError}
use Rattle.graphql_lexer.specs.declared.error.ReadError.TheVariants.{Syntax, OutOfMemory}
use Rattle.value_reader.specs.Grammar.{Rules, IsTextOf}
use Rattle.value_reader.specs.Faults.{IsPlaceOf}
use Rattle.value_reader.specs.Machine.{Entry, Frame, in_list, at_key, at_colon, at_value, at_name, Turn, going, done}
use Rattle.value_reader.specs.Machine.{refused, items_of, fields_of, span_of, plain_of, takes_value}
use Rattle.value_reader.specs.Values.{Plain, variable, int, float, string, boolean, null, enum, Key, Value, plain, list}
use Rattle.value_reader.specs.Values.{object}
use Rattle.value_reader.specs.declared.rules.Rules.{Rules as GivenRules}
use Rattle.value_reader.specs.declared.rules.Variables.{Variables}
use Rattle.value_reader.specs.declared.rules.Variables.TheVariants.{Allowed, Refused}
use Rattle.value_reader.specs.declared.begun.Begun.{Begun}
use Rattle.value_reader.specs.declared.begun.Begun.TheVariants as begun

abbrev pub allows : Variables → Bool
allows Allowed = true
allows Refused = false

-- the rules by which a caller wants a value read
abbrev pub rules_of : Variables → Option ℕ → Rules
rules_of variables max_depth = record { variables = allows variables; limit = max_depth }

abbrev pub rules_seen : GivenRules → Rules
rules_seen r = rules_of r.variables r.max_depth

-- a value without its span
abbrev pub Spanless : Type 0
Spanless = Span → Value

abbrev pub scalar_seen : SourceScalar → Plain
scalar_seen (scalar.Int s) = int (string_bytes s)
scalar_seen (scalar.Float s) = float (string_bytes s)
scalar_seen (scalar.String s) = string (string_bytes s)
scalar_seen (scalar.Boolean b) = boolean b

abbrev pub key_seen : Spanning (String Global) Span → Key
key_seen k = record { name = string_bytes k.item; span = k.span }

abbrev pub spanned : Spanning Spanless Span → Value
spanned v = v.item v.span

abbrev pub entry_spanned : Spanning (String Global) Span × Spanning Spanless Span → Entry
entry_spanned e = record { key = key_seen e.0; value = spanned e.1 }

abbrev pub value_layer : InputValue-F SourceScalar Spanless → Spanless
value_layer InputValue-F.Null span = plain null span
value_layer (InputValue-F.Scalar s) span = plain (scalar_seen s) span
value_layer (InputValue-F.Enum name) span = plain (enum (string_bytes name)) span
value_layer (InputValue-F.Variable name) span = plain (variable (string_bytes name)) span
value_layer (InputValue-F.List vs) span = list (items_of (map spanned vs.items)) span
value_layer (InputValue-F.Object es) span = object (fields_of (map entry_spanned es.items)) span

abbrev pub content_seen : InputValue SourceScalar → Spanless
content_seen = fold-InputValue SourceScalar Spanless value_layer

-- the value that a tree stands for
abbrev pub value_seen : Spanning (InputValue SourceScalar) Span → Value
value_seen v = content_seen v.item v.span

abbrev pub values_seen : Vec (Spanning (InputValue SourceScalar) Span) Global → List Value
values_seen vs = map value_seen vs.items

abbrev pub entry_seen : Spanning (String Global) Span × Spanning (InputValue SourceScalar) Span → Entry
entry_seen e = record { key = key_seen e.0; value = value_seen e.1 }

abbrev pub entries_seen : Vec (Spanning (String Global) Span × Spanning (InputValue SourceScalar) Span) Global → List Entry
entries_seen es = map entry_seen es.items

abbrev pub begun_seen : Begun → Frame
begun_seen (begun.List from vs) = in_list from (values_seen vs)
begun_seen (begun.Key from es) = at_key from (entries_seen es)
begun_seen (begun.Colon from es key) = at_colon from (entries_seen es) (key_seen key)
begun_seen (begun.Value from es key) = at_value from (entries_seen es) (key_seen key)
begun_seen (begun.Name from) = at_name from

-- the innermost first
abbrev pub stack_seen : Vec Begun Global → List Frame
stack_seen parts = reverse (map begun_seen parts.items)

-- the whole value, or none while something is begun
abbrev pub IsTurn : Vec Begun Global → Option (Spanning (InputValue SourceScalar) Span) → Turn → Type 0
IsTurn parts None turn = turn ≡ going (stack_seen parts)
IsTurn parts (Some v) turn = turn ≡ done (value_seen v)

-- the token at fault is refused, with its place
abbrev pub IsRefusal : List Frame → Lexeme → Turn → ReadError → Type 0
IsRefusal fs x turn (Syntax e) = (turn ≡ refused) × IsPlaceOf (takes_value fs ≡ true) x.token x.start e.position
IsRefusal fs x turn OutOfMemory = Unit {0}

-- a value without its span is that of the one token; a value is, with this span
abbrev pub IsContentOf : Option Plain → Spanless → Type 0
IsContentOf (Some p) content = (span : Span) → content span ≡ plain p span
IsContentOf None content = ⊥

abbrev pub IsPlainOf : Option Plain → Span → Value → Type 0
IsPlainOf (Some p) span v = v ≡ plain p span
IsPlainOf None span v = ⊥

-- the token stands for no value
abbrev pub IsPlainRefusal : Lexeme → ReadError → Type 0
IsPlainRefusal x (Syntax e) = (plain_of x.token ≡ None) × IsPlaceOf (Unit {0}) x.token x.start e.position
IsPlainRefusal x OutOfMemory = Unit {0}

-- a value without its span is that of a string
abbrev pub IsStringContent : token.Token → Spanless → Type 0
IsStringContent t content = (s : List ℕ) × IsTextOf t s × ((span : Span) → content span ≡ plain (string s) span)

-- no name is there
abbrev pub IsNameless : Lexeme → ReadError → Type 0
IsNameless x (Syntax e) = ((n : List ℕ) → x.token ≡ token.name n → ⊥) × (x.token ≢ token.fault → e.position ≡ x.start)
IsNameless x OutOfMemory = Unit {0}

-- the token is the name of this variable, which starts there
abbrev pub IsVariable : SourcePosition → Lexeme → Value → Type 0
IsVariable start x v = (n : List ℕ) × (x.token ≡ token.name n) × (v ≡ plain (variable n) (span_of start x.stop))

-- a turn at a token that might begin a value is refused
abbrev pub IsFirstRefusal : Lexeme → Turn → ReadError → Type 0
IsFirstRefusal x turn (Syntax e) = (turn ≡ refused) × IsPlaceOf (Unit {0}) x.token x.start e.position
IsFirstRefusal x turn OutOfMemory = Unit {0}

-- one is refused where the token starts
abbrev pub IsRefusedAt : SourcePosition → Turn → ReadError → Type 0
IsRefusedAt start turn (Syntax e) = (turn ≡ refused) × (e.position ≡ start)
IsRefusedAt start turn OutOfMemory = Unit {0}
