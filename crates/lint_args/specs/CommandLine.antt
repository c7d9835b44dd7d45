-- The command line of `lint`, as `clap` reads it.
use Rattle.std.specs.Prelude.{◌≡◌, ◌∷◌, [], true, List, Some, codes}
use Rattle.std.specs.Borrow.{Bor}
use Rattle.clap.specs.Lexer.{usize_max}
use Rattle.clap.specs.Walk.{Rule, Text, texts}
use Rattle.clap.specs.Simple.{App, app_of, new_app, new_rule, on_top, with_rule}
use Rattle.clap.specs.declared.builder.action.ArgAction.TheVariants.{Append, SetTrue}
use Rattle.clap.specs.declared.builder.command.Command.{Command}
use Rattle.clap.specs.declared.builder.value_parser.ValueParser.TheVariants.{Names, Unsigned}

-- `--schema FILE`, at least once
abbrev pub schema_rule : Rule
schema_rule = record (new_rule (codes "schema")) {
  long = Some (codes "schema");
  action = Some Append;
  value_names = 1;
  required = true;
}

-- `--format FORM`, which is `text` where it is left out
abbrev pub format_rule : Bor (List (Bor Text)) → Rule
format_rule forms = record (new_rule (codes "format")) {
  long = Some (codes "format");
  value_names = 1;
  parser = Some (Names forms);
  defaults = codes "text" ∷ [];
}

-- the known forms
abbrev pub HasForms : Bor (List (Bor Text)) → Type 0
HasForms forms = texts forms.now ≡ codes "text" ∷ codes "json" ∷ codes "github" ∷ []

-- `--no-introspection`
abbrev pub closed_rule : Rule
closed_rule = record (new_rule (codes "closed")) { long = Some (codes "no-introspection"); action = Some SetTrue }

-- `--variables FILE`
abbrev pub variables_rule : Rule
variables_rule = record (new_rule (codes "variables")) { long = Some (codes "variables"); value_names = 1 }

-- `--together`
abbrev pub together_rule : Rule
together_rule = record (new_rule (codes "together")) { long = Some (codes "together"); action = Some SetTrue }

-- `--max-depth N`, a number
abbrev pub depth_rule : Rule
depth_rule = record (new_rule (codes "depth")) {
  long = Some (codes "max-depth");
  value_names = 1;
  parser = Some (Unsigned 0 usize_max);
}

-- `--max-errors N`, a number, which is 1000 where it is left out
abbrev pub errors_rule : Rule
errors_rule = record (new_rule (codes "errors")) {
  long = Some (codes "max-errors");
  value_names = 1;
  parser = Some (Unsigned 0 usize_max);
  defaults = codes "1000" ∷ [];
}

-- `--dialect NAME`, which is `october2021` where it is left out
abbrev pub dialect_rule : Bor (List (Bor Text)) → Rule
dialect_rule dialects = record (new_rule (codes "dialect")) {
  long = Some (codes "dialect");
  value_names = 1;
  parser = Some (Names dialects);
  defaults = codes "october2021" ∷ [];
}

-- the known dialects
abbrev pub HasDialects : Bor (List (Bor Text)) → Type 0
HasDialects dialects = texts dialects.now ≡ codes "october2021" ∷ codes "juniper" ∷ []

-- what the options with a choice take
pub record Choices : Type 0 where
  pub forms : Bor (List (Bor Text))
  pub dialects : Bor (List (Bor Text))

-- which is known
pub record AreKnown (choices : Choices) : Type 0 where
  pub forms : HasForms choices.forms
  pub dialects : HasDialects choices.dialects

-- each other word
abbrev pub query_rule : Rule
query_rule = record (new_rule (codes "query")) {
  action = Some Append;
  range = Some (record { start_inclusive = 1; end_inclusive = usize_max });
  value_names = 1;
}

-- the program has a version, which `--version` and `-V` ask for
abbrev pub versioned : App
versioned = on_top (λ shape. record shape { has_version = true }) (new_app (codes "lint"))

-- all of them
abbrev pub lint : Choices → App
lint choices =
    with_rule (with_rule (with_rule (with_rule (with_rule (with_rule (with_rule (with_rule (with_rule versioned
    schema_rule) (format_rule choices.forms)) closed_rule) variables_rule) together_rule) depth_rule) errors_rule)
    (dialect_rule choices.dialects)) query_rule

-- a command has them
abbrev pub IsLint : Command → Type 0
IsLint command = (choices : Choices) × AreKnown choices × (app_of command ≡ lint choices)
