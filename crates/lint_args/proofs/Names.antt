-- What is held while words that name files are read.
use Rattle.std.proofs.Common.{◌≡◌, ◌∙◌, ◌∷◌, ◌++◌, ◌&&◌, [], Bool, List, None, Option, Some, ap, append-nil, append_assoc, codes, false, not, refl, sym, true, ℕ}
use Rattle.std.specs.List.{fold, list_all}
use Rattle.std.specs.Option.{is_some}
use Rattle.std.specs.Prelude.{if◌then◌else◌}
use Rattle.std.specs.Str.{bytes_eq}
use Rattle.clap.proofs.OnLiterals.{clap_on_literals}
use Rattle.clap.specs.Lexer.{long_of, short_of}
use Rattle.clap.specs.Simple.{built}
use Rattle.clap.specs.Walk.{Held, Row, Rule, Text, Waiting, Walk, after_step, idle, long_or_other, nothing_held, option, plain_word, positional, short_or_plain, trailing, walk_from, walked, word_met, arg_by_id, used_by_id}
use Rattle.lint_args.specs.CommandLine.{Choices, lint}
use Rattle.lint_args.specs.Laws.{is_name}

-- what a word that names a file is not
pub record IsName (word : Text) : Type 0 where
  pub dashes : bytes_eq word (codes "--") ≡ false
  pub long : long_of word ≡ None
  pub short : short_of word ≡ None

none_of : {X : Type 0} (o : Option X) → not (is_some o) ≡ true → None ≡ o
none_of None e = refl
none_of (Some x) e = cc

both : (a b c : Bool) → (a && (b && c)) ≡ true → (a ≡ true) × (b ≡ true) × (c ≡ true)
both true true true e = (refl, refl, refl)
both true true false e = cc
both true false c e = cc
both false b c e = cc

false_of : (b : Bool) → not b ≡ true → b ≡ false
false_of false e = refl
false_of true e = cc

pub name_of : (word : Text) → is_name word ≡ true → IsName word
name_of word e =
    let parts = both (not (bytes_eq word (codes "--"))) (not (is_some (long_of word))) (not (is_some (short_of word))) e in
    record {
      dashes = false_of (bytes_eq word (codes "--")) parts.0;
      long = sym (none_of (long_of word) parts.1);
      short = sym (none_of (short_of word) parts.2);
    }

module _ (rules : List Rule) where
  other : (waiting : Waiting) (position : ℕ) (word : Text) (h : Held) → IsName word
      → (if bytes_eq word (codes "--") then (h, trailing position) else long_or_other rules waiting word (long_of word) h) ≡ plain_word rules waiting word h
  other waiting position word h name =
      ap (λ b. if b then (h, trailing position) else long_or_other rules waiting word (long_of word) h) name.dashes
      ∙ ap (λ o. long_or_other rules waiting word o h) name.long
      ∙ ap (λ o. short_or_plain rules waiting word o h) name.short

  -- such a word is no flag
  plain_met : (waiting : Waiting) (position : ℕ) (word : Text) (h : Held) → IsName word → word_met rules [] false waiting position word h ≡ plain_word rules waiting word h
  plain_met idle position word h name = other idle position word h name
  plain_met (option id) position word h name = other (option id) position word h name
  plain_met positional position word h name = other positional position word h name

  pub name_walked : (held : Held) (waiting : Waiting) (word : Text) → IsName word
      → walked rules [] (record { held = held; waiting = waiting; position = 1; is_trailing = false; stopped = None }) word
      ≡ after_step rules word (record { held = held; waiting = waiting; position = 1; is_trailing = false; stopped = None }) (plain_word rules waiting word held).0 (plain_word rules waiting word held).1
  unfolding clap_on_literals
  name_walked held waiting word name =
      ap (λ met. after_step rules word (record { held = held; waiting = waiting; position = 1; is_trailing = false; stopped = None }) met.0 met.1) (plain_met waiting 1 word held name)

module _ (choices : Choices) where
  abbrev pub lint_rules : List Rule
  lint_rules = (built (lint choices)).top.rules

  -- the option waits for its file
  abbrev option_met : Walk
  option_met = record { held = record { rows = []; pending = Some (codes "schema", []); skip = 0 }; waiting = option (codes "schema"); position = 1; is_trailing = false; stopped = None }

  -- it has its file
  abbrev schema_met : Text → Walk
  schema_met schema = record { held = record { rows = []; pending = Some (codes "schema", schema ∷ []); skip = 0 }; waiting = idle; position = 1; is_trailing = false; stopped = None }

  abbrev schema_rows : Text → List Row
  schema_rows schema = used_by_id (arg_by_id lint_rules (codes "schema")) (schema ∷ []) []

  -- files of queries were read
  abbrev pub queries_met : Text → List Text → Walk
  queries_met schema queries = record { held = record { rows = schema_rows schema; pending = Some (codes "query", queries); skip = 0 }; waiting = positional; position = 1; is_trailing = false; stopped = None }

  first : walked lint_rules [] (walk_from nothing_held) (codes "--schema") ≡ option_met
  unfolding clap_on_literals
  first = refl

  second : (schema : Text) → IsName schema → walked lint_rules [] option_met schema ≡ schema_met schema
  second schema name = name_walked lint_rules option_met.held option_met.waiting schema name

  third : (schema query : Text) → IsName query → walked lint_rules [] (schema_met schema) query ≡ queries_met schema (query ∷ [])
  third schema query name = name_walked lint_rules (schema_met schema).held idle query name

  more : (schema word : Text) (queries : List Text) → IsName word → walked lint_rules [] (queries_met schema queries) word ≡ queries_met schema (queries ++ word ∷ [])
  more schema word queries name = name_walked lint_rules (queries_met schema queries).held positional word name

  rest : (schema : Text) (queries words : List Text) → list_all is_name words ≡ true → fold (walked lint_rules []) (queries_met schema queries) words ≡ queries_met schema (queries ++ words)
  rest schema queries [] names = ap (queries_met schema) (sym (append-nil queries))
  rest schema queries (word ∷ words) names =
      let (one, others) = two (is_name word) (list_all is_name words) names in
      ap (λ w. fold (walked lint_rules []) w words) (more schema word queries (name_of word one)) ∙ rest schema (queries ++ word ∷ []) words others
      ∙ ap (queries_met schema) (append_assoc queries (word ∷ []) words)
    where
      two : (a b : Bool) → (a && b) ≡ true → (a ≡ true) × (b ≡ true)
      two true true e = (refl, refl)
      two true false e = cc
      two false b e = cc

  -- all words
  pub walk_known : (schema query : Text) (queries : List Text) → list_all is_name (schema ∷ query ∷ queries) ≡ true
      → fold (walked lint_rules []) (walk_from nothing_held) (codes "--schema" ∷ schema ∷ query ∷ queries) ≡ queries_met schema (query ∷ queries)
  walk_known schema query queries names =
      let parts = both (is_name schema) (is_name query) (list_all is_name queries) names in
      ap (λ w. fold (walked lint_rules []) w (schema ∷ query ∷ queries)) first
      ∙ ap (λ w. fold (walked lint_rules []) w (query ∷ queries)) (second schema (name_of schema parts.0))
      ∙ ap (λ w. fold (walked lint_rules []) w queries) (third schema query (name_of query parts.1))
      ∙ rest schema (query ∷ []) queries parts.2
