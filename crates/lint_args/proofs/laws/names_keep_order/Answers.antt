use Rattle.std.proofs.Common.{◌≡◌, ◌∙◌, ◌∷◌, List, ap, codes, subst, true}
use Rattle.std.specs.List.{list_all}
use Rattle.clap.specs.Simple.{matches_of}
use Rattle.clap.specs.Walk.{Row, Text, finished, first_of}
use Rattle.lint_args.specs.Asks.{IsDepth, IsLimit, files_of, form_of, is_value}
use Rattle.lint_args.specs.CommandLine.{Choices, lint}
use Rattle.lint_args.specs.Laws.{is_name}
use Rattle.lint_args.proofs.Limits.{limit_from, written_1000}
use Rattle.lint_args.proofs.Names.{lint_rules, queries_met, walk_known}
use Rattle.lint_args.proofs.laws.names_keep_order.Goals as goal

module _ (choices : Choices) (schema query : Text) (queries : List Text) where
  abbrev rows : List Row
  rows = finished (lint_rules choices) (queries_met choices schema (query ∷ queries)).held

  matched : list_all is_name (schema ∷ query ∷ queries) ≡ true → matches_of (lint choices) (codes "lint" ∷ codes "--schema" ∷ schema ∷ query ∷ queries) ≡ rows
  matched names = ap (λ w. finished (lint_rules choices) w.held) (walk_known choices schema query queries names)

-- what the words match is known
pub returns : goal.returns
returns c = λ schema query queries task names asked.
    let rows = matched asked.choices schema query queries names in
    record {
      schemas = asked.matched.schemas ∙ ap (files_of (codes "schema")) rows;
      queries = asked.matched.queries ∙ ap (files_of (codes "query")) rows;
      variables = asked.matched.variables ∙ ap (first_of (codes "variables")) rows;
      form = asked.matched.form ∙ ap form_of rows;
      closed = asked.matched.closed ∙ ap (is_value (codes "closed") (codes "true")) rows;
      together = asked.matched.together ∙ ap (is_value (codes "together") (codes "true")) rows;
      depth = subst (λ found. IsDepth (first_of (codes "depth") found) task.max_depth) rows asked.matched.depth;
      errors = limit_from (codes "1000") 1000 task.max_errors written_1000
          (subst (λ found. IsLimit (first_of (codes "errors") found) task.max_errors) rows asked.matched.errors);
      juniper = asked.matched.juniper ∙ ap (is_value (codes "dialect") (codes "juniper")) rows;
    }
