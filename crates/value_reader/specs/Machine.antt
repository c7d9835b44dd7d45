-- Reading a value over a list of the parts that are begun, the innermost first: what the code does at each token.
-- Nothing of this needs to be believed: that it reads what the grammar spells is proved.
use Rattle.std.specs.Prelude.{ℕ, zero, suc, Bool, true, false, if◌then◌else◌, List, [], ◌∷◌, ◌++◌, length, drop, Option}
use Rattle.std.specs.Prelude.{Some, None, option_map, Result, Ok, Err, bytes_eq}
use Rattle.std.specs.Char.{encode_utf8}
use Rattle.language_types.specs.declared.position.SourcePosition.{SourcePosition}
use Rattle.language_types.specs.declared.position.Span.{Span}
use Rattle.graphql_strings.specs.BlockStrings.{block_string_value}
use Rattle.graphql_strings.specs.StringValues.{is_plain}
use Rattle.graphql_strings.specs.Unescaping.{escape_at}
use Rattle.graphql_lexer.specs.Lexemes.{Lexeme}
use Rattle.graphql_lexer.specs.Lexical as token
use Rattle.graphql_lexer.specs.declared.lexer.Punctuator.TheVariants.{Dollar, Colon, BracketOpen, BracketClose}
use Rattle.graphql_lexer.specs.declared.lexer.Punctuator.TheVariants.{BraceOpen, BraceClose}
use Rattle.value_reader.specs.Grammar.{Rules, may_nest, boolean_name, null_name}
use Rattle.value_reader.specs.Values.{Plain, int, float, string, boolean, null, enum, variable, Key, Value, plain, list}
use Rattle.value_reader.specs.Values.{object, Items, no_items, item, Fields, no_fields, field}

pub record Entry : Type 0 where
  pub key : Key
  pub value : Value

-- What is begun, from where on, and what it holds so far: a list; an object, where a key or its end comes next, the
-- colon behind a key, or the value of a key; a variable, whose name comes next.
pub data Frame : Type 0 where
  in_list : SourcePosition → List Value → Frame
  at_key : SourcePosition → List Entry → Frame
  at_colon : SourcePosition → List Entry → Key → Frame
  at_value : SourcePosition → List Entry → Key → Frame
  at_name : SourcePosition → Frame

-- what a token leads to
pub data Turn : Type 0 where
  going : List Frame → Turn
  done : Value → Turn
  refused : Turn

abbrev pub items_of : List Value → Items
items_of [] = no_items
items_of (v ∷ vs) = item v (items_of vs)

abbrev pub fields_of : List Entry → Fields
fields_of [] = no_fields
fields_of (e ∷ es) = field e.key e.value (fields_of es)

abbrev pub span_of : SourcePosition → SourcePosition → Span
span_of start stop = record { start = start; end = stop }

-- in how many lists and objects the next token stands
abbrev pub depth_of : List Frame → ℕ
depth_of [] = 0
depth_of (f ∷ fs) = suc (depth_of fs)

-- A value put into what is innermost, or the whole value where nothing is begun. Where no value may come next none is
-- put.
abbrev pub attach : Value → List Frame → Turn
attach v [] = done v
attach v (in_list start vs ∷ fs) = going (in_list start (vs ++ v ∷ []) ∷ fs)
attach v (at_key start es ∷ fs) = going fs
attach v (at_colon start es k ∷ fs) = going fs
attach v (at_value start es k ∷ fs) = going (at_key start (es ++ record { key = k; value = v } ∷ []) ∷ fs)
attach v (at_name start ∷ fs) = going fs

abbrev pub push : Bool → Frame → List Frame → Turn
push true f fs = going (f ∷ fs)
push false f fs = refused

-- the character of an escape, and the text of what follows it
abbrev pub text_behind : (List ℕ → Option (List ℕ)) → Result (ℕ × ℕ) ℕ → List ℕ → Option (List ℕ)
text_behind next (Ok (c, n)) raw = option_map (λ v. encode_utf8 c ++ v) (next (drop n raw))
text_behind next (Err passed) raw = None

-- the text of a string, by its escapes; the number bounds how many steps there are
unfoldable pub text_from : ℕ → List ℕ → Option (List ℕ)
text_from zero raw = None
text_from (suc n) [] = Some []
text_from (suc n) (c ∷ cs) =
    if is_plain c then option_map (λ v. c ∷ v) (text_from n cs) else text_behind (λ rest. text_from n rest) (escape_at (c ∷ cs)) (c ∷ cs)

abbrev pub string_text : List ℕ → Option (List ℕ)
string_text raw = text_from (suc (length raw)) raw

-- what a name stands for as a value
abbrev pub named : List ℕ → Plain
named n =
    if bytes_eq n null_name then null
    else if bytes_eq n (boolean_name true) then boolean true
    else if bytes_eq n (boolean_name false) then boolean false
    else enum n

-- the value that one token stands for
abbrev pub plain_of : token.Token → Option Plain
plain_of (token.punctuator p) = None
plain_of (token.name n) = Some (named n)
plain_of (token.int s) = Some (int s)
plain_of (token.float s) = Some (float s)
plain_of (token.string raw) = option_map string (string_text raw)
plain_of (token.block_string raw) = Some (string (block_string_value raw))
plain_of token.end = None
plain_of token.fault = None

abbrev pub attach_plain : Option Plain → Span → List Frame → Turn
attach_plain (Some p) span fs = attach (plain p span) fs
attach_plain None span fs = refused

-- the first token of a value
abbrev pub value_turn : Rules → List Frame → token.Token → SourcePosition → SourcePosition → Turn
value_turn rules fs (token.punctuator BracketOpen) start stop = push (may_nest rules.limit (depth_of fs)) (in_list start []) fs
value_turn rules fs (token.punctuator BraceOpen) start stop = push (may_nest rules.limit (depth_of fs)) (at_key start []) fs
value_turn rules fs (token.punctuator Dollar) start stop = push rules.variables (at_name start) fs
value_turn rules fs t start stop = attach_plain (plain_of t) (span_of start stop) fs

-- the end of a list, or its next value
abbrev pub item_turn : Rules → SourcePosition → List Value → List Frame → token.Token → SourcePosition → SourcePosition → Turn
item_turn rules from vs fs (token.punctuator BracketClose) start stop = attach (list (items_of vs) (span_of from stop)) fs
item_turn rules from vs fs t start stop = value_turn rules (in_list from vs ∷ fs) t start stop

-- the end of an object, or its next key
abbrev pub key_turn : SourcePosition → List Entry → List Frame → token.Token → SourcePosition → SourcePosition → Turn
key_turn from es fs (token.punctuator BraceClose) start stop = attach (object (fields_of es) (span_of from stop)) fs
key_turn from es fs (token.name n) start stop = going (at_colon from es (record { name = n; span = span_of start stop }) ∷ fs)
key_turn from es fs t start stop = refused

abbrev pub colon_turn : SourcePosition → List Entry → Key → List Frame → token.Token → Turn
colon_turn from es k fs (token.punctuator Colon) = going (at_value from es k ∷ fs)
colon_turn from es k fs t = refused

abbrev pub name_turn : SourcePosition → List Frame → token.Token → SourcePosition → Turn
name_turn from fs (token.name n) stop = attach (plain (variable n) (span_of from stop)) fs
name_turn from fs t stop = refused

abbrev pub step_by : Rules → List Frame → token.Token → SourcePosition → SourcePosition → Turn
step_by rules [] t start stop = value_turn rules [] t start stop
step_by rules (in_list from vs ∷ fs) t start stop = item_turn rules from vs fs t start stop
step_by rules (at_key from es ∷ fs) t start stop = key_turn from es fs t start stop
step_by rules (at_colon from es k ∷ fs) t start stop = colon_turn from es k fs t
step_by rules (at_value from es k ∷ fs) t start stop = value_turn rules (at_value from es k ∷ fs) t start stop
step_by rules (at_name from ∷ fs) t start stop = name_turn from fs t stop

abbrev pub step : Rules → List Frame → Lexeme → Turn
step rules fs x = step_by rules fs x.token x.start x.stop

abbrev pub is_punctuator : token.Token → Bool
is_punctuator (token.punctuator p) = true
is_punctuator (token.name s) = false
is_punctuator (token.int s) = false
is_punctuator (token.float s) = false
is_punctuator (token.string s) = false
is_punctuator (token.block_string s) = false
is_punctuator token.end = false
is_punctuator token.fault = false

-- a value may come next
abbrev pub takes_value : List Frame → Bool
takes_value [] = true
takes_value (in_list from vs ∷ fs) = true
takes_value (at_key from es ∷ fs) = false
takes_value (at_colon from es k ∷ fs) = false
takes_value (at_value from es k ∷ fs) = true
takes_value (at_name from ∷ fs) = false
