-- The tokens that a value is written with, production by production (GraphQL, October 2021, appendix B.2). A value
-- starts where its first token starts, and ends where its last one ends.
use Rattle.std.specs.Prelude.{◌≡◌, ℕ, suc, Bool, true, false, List, [], ◌∷◌, ◌++◌, Option, Some, None, nat_lt, codes}
use Rattle.language_types.specs.declared.position.SourcePosition.{SourcePosition}
use Rattle.language_types.specs.declared.position.Span.{Span}
use Rattle.graphql_strings.specs.BlockStrings.{block_string_value}
use Rattle.graphql_strings.specs.StringValues.{IsStringValue}
use Rattle.graphql_lexer.specs.Lexemes.{Lexeme}
use Rattle.graphql_lexer.specs.Lexical as token
use Rattle.graphql_lexer.specs.declared.lexer.Punctuator.{Punctuator}
use Rattle.graphql_lexer.specs.declared.lexer.Punctuator.TheVariants.{Dollar, Colon, BracketOpen, BracketClose}
use Rattle.graphql_lexer.specs.declared.lexer.Punctuator.TheVariants.{BraceOpen, BraceClose}
use Rattle.value_reader.specs.Values.{Plain, variable, int, float, string, boolean, null, enum, Value, plain, list}
use Rattle.value_reader.specs.Values.{object, Items, no_items, item, Fields, no_fields, field}

-- whether a value may be or hold variables, which a constant may not, and how deep lists and objects may nest, where a
-- caller sets that
pub record Rules : Type 0 where
  pub variables : Bool
  pub limit : Option ℕ

-- a list or an object may stand inside of so many
abbrev pub may_nest : Option ℕ → ℕ → Bool
may_nest None depth = true
may_nest (Some limit) depth = nat_lt depth limit

abbrev pub lexeme : token.Token → SourcePosition → SourcePosition → Lexeme
lexeme t start stop = record { token = t; start = start; stop = stop }

abbrev pub sign : Punctuator → SourcePosition → SourcePosition → Lexeme
sign p start stop = lexeme (token.punctuator p) start stop

-- the tokens are this one alone
abbrev pub IsAlone : token.Token → Span → List Lexeme → Type 0
IsAlone t span ts = ts ≡ lexeme t span.start span.end ∷ []

-- StringValue: the text that the token stands for
abbrev pub IsTextOf : token.Token → List ℕ → Type 0
IsTextOf (token.punctuator p) text = ⊥
IsTextOf (token.name s) text = ⊥
IsTextOf (token.int s) text = ⊥
IsTextOf (token.float s) text = ⊥
IsTextOf (token.string raw) text = IsStringValue raw text
IsTextOf (token.block_string raw) text = text ≡ block_string_value raw
IsTextOf token.end text = ⊥
IsTextOf token.fault text = ⊥

-- BooleanValue: one of `true` and `false`
abbrev pub boolean_name : Bool → List ℕ
boolean_name true = codes "true"
boolean_name false = codes "false"

-- NullValue: `null`
abbrev pub null_name : List ℕ
null_name = codes "null"

-- EnumValue: Name but not `true`, `false` or `null`
abbrev pub IsEnumName : List ℕ → Type 0
IsEnumName n = (n ≡ boolean_name true → ⊥) × (n ≡ boolean_name false → ⊥) × (n ≡ null_name → ⊥)

-- Value[Const]: Variable, where it is no constant, IntValue, FloatValue, StringValue, BooleanValue, NullValue,
-- EnumValue
abbrev pub SpellsPlain : Rules → Plain → Span → List Lexeme → Type 0
SpellsPlain rules (variable n) span ts =
    (rules.variables ≡ true)
    × (a : SourcePosition) × (b : SourcePosition) × (ts ≡ sign Dollar span.start a ∷ lexeme (token.name n) b span.end ∷ [])
SpellsPlain rules (int s) span ts = IsAlone (token.int s) span ts
SpellsPlain rules (float s) span ts = IsAlone (token.float s) span ts
SpellsPlain rules (string s) span ts = (t : token.Token) × IsTextOf t s × IsAlone t span ts
SpellsPlain rules (boolean b) span ts = IsAlone (token.name (boolean_name b)) span ts
SpellsPlain rules null span ts = IsAlone (token.name null_name) span ts
SpellsPlain rules (enum n) span ts = IsEnumName n × IsAlone (token.name n) span ts

abbrev mutual
  -- Value[Const], inside of so many lists and objects: one of the above, ListValue[Const] or ObjectValue[Const]
  pub Spells : Rules → ℕ → Value → List Lexeme → Type 0
  Spells rules depth (plain p span) ts = SpellsPlain rules p span ts
  -- ListValue[Const]: `[` Value[Const]* `]`
  Spells rules depth (list vs span) ts =
      (may_nest rules.limit depth ≡ true) × (inner : List Lexeme) × (a : SourcePosition) × (b : SourcePosition)
      × (ts ≡ sign BracketOpen span.start a ∷ (inner ++ sign BracketClose b span.end ∷ [])) × SpellsItems rules (suc depth) vs inner
  -- ObjectValue[Const]: `{` ObjectField[Const]* `}`
  Spells rules depth (object fs span) ts =
      (may_nest rules.limit depth ≡ true) × (inner : List Lexeme) × (a : SourcePosition) × (b : SourcePosition)
      × (ts ≡ sign BraceOpen span.start a ∷ (inner ++ sign BraceClose b span.end ∷ [])) × SpellsFields rules (suc depth) fs inner

  pub SpellsItems : Rules → ℕ → Items → List Lexeme → Type 0
  SpellsItems rules depth no_items ts = ts ≡ []
  SpellsItems rules depth (item v vs) ts =
      (one : List Lexeme) × (more : List Lexeme) × (ts ≡ one ++ more) × Spells rules depth v one × SpellsItems rules depth vs more

  -- ObjectField[Const]: Name `:` Value[Const]
  pub SpellsFields : Rules → ℕ → Fields → List Lexeme → Type 0
  SpellsFields rules depth no_fields ts = ts ≡ []
  SpellsFields rules depth (field k v fs) ts =
      (a : SourcePosition) × (b : SourcePosition) × (one : List Lexeme) × (more : List Lexeme)
      × (ts ≡ lexeme (token.name k.name) k.span.start k.span.end ∷ sign Colon a b ∷ (one ++ more))
      × Spells rules depth v one × SpellsFields rules depth fs more

-- the first tokens are those of a value, and the rest stands behind them
abbrev pub Begins : Rules → List Lexeme → Value → List Lexeme → Type 0
Begins rules ts v rest = (front : List Lexeme) × (ts ≡ front ++ rest) × Spells rules 0 v front

-- some value begins with these tokens
abbrev pub GoesOn : Rules → List Lexeme → Type 0
GoesOn rules ts = (v : Value) × (more : List Lexeme) × Spells rules 0 v (ts ++ more)
