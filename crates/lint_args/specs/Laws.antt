-- What a sample command line, and one of file names alone, ask for.
use Rattle.std.specs.Prelude.{◌≡◌, ◌&&◌, ◌∷◌, [], Bool, List, None, Some, codes, false, not, option_map, true}
use Rattle.std.specs.List.{list_all}
use Rattle.std.specs.Str.{bytes_eq}
use Rattle.clap.specs.Lexer.{is_long_word, is_short_word}
use Rattle.clap.specs.Walk.{Text, texts}
use Rattle.lint_args.specs.Asks.{AsksFor, distinct}
use Rattle.lint_args.specs.declared.task.Form.TheVariants as form
use Rattle.lint_args.specs.declared.task.Task.{Task}

abbrev pub sample_words : List Text
sample_words =
    codes "lint" ∷ codes "--schema" ∷ codes "types.graphql" ∷ codes "first.graphql" ∷ codes "--no-introspection"
    ∷ codes "--schema=more.graphql" ∷ codes "--format" ∷ codes "json"
    ∷ codes "second.graphql" ∷ codes "--variables=values.json" ∷ codes "--max-depth" ∷ codes "20" ∷ codes "--dialect=juniper"
    ∷ codes "--max-errors" ∷ codes "50"
    ∷ codes "--" ∷ codes "--third" ∷ []

-- both files of types, all three of queries, the values, JSON, both limits and the dialect, with introspection closed
pub record IsSampleTask (task : Task) : Type 0 where
  pub schemas : texts task.schemas.items ≡ codes "types.graphql" ∷ codes "more.graphql" ∷ []
  pub queries : texts task.queries.items ≡ codes "first.graphql" ∷ codes "second.graphql" ∷ codes "--third" ∷ []
  pub variables : option_map (λ path. path.now) task.variables ≡ Some (codes "values.json")
  pub form : task.form ≡ form.Json
  pub closed : task.is_closed ≡ true
  pub together : task.is_together ≡ false
  pub depth : task.max_depth ≡ Some 20
  pub errors : task.max_errors ≡ 50
  pub juniper : task.is_juniper ≡ true

abbrev pub KnowsSample : Type 0
KnowsSample = (task : Task) → AsksFor sample_words task → IsSampleTask task

-- the word is no option: it is `-`, or begins with no hyphen
abbrev pub is_name : Text → Bool
is_name word = not (bytes_eq word (codes "--")) && (not (is_long_word word) && not (is_short_word word))

-- these files, each once, and every option at its default
pub record IsPlainTask (schema : Text) (files : List Text) (task : Task) : Type 0 where
  pub schemas : texts task.schemas.items ≡ schema ∷ []
  pub queries : texts task.queries.items ≡ distinct files
  pub variables : option_map (λ path. path.now) task.variables ≡ None
  pub form : task.form ≡ form.Text
  pub closed : task.is_closed ≡ false
  pub together : task.is_together ≡ false
  pub depth : task.max_depth ≡ None
  pub errors : task.max_errors ≡ 1000
  pub juniper : task.is_juniper ≡ false

abbrev pub KnowsNames : Type 0
KnowsNames =
    (schema query : Text) (queries : List Text) (task : Task)
    → list_all is_name (schema ∷ query ∷ queries) ≡ true
    → AsksFor (codes "lint" ∷ codes "--schema" ∷ schema ∷ query ∷ queries) task
    → IsPlainTask schema (query ∷ queries) task
