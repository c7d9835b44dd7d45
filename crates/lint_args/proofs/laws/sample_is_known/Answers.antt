use Rattle.std.proofs.Common.{◌≡◌, ◌∙◌, ◌∷◌, [], List, Option, Some, arith, codes, false, refl, subst, true, ℕ}
use Rattle.clap.proofs.OnLiterals.{clap_on_literals}
use Rattle.clap.specs.Simple.{matches_of}
use Rattle.clap.specs.Walk.{Text, first_of}
use Rattle.lint_args.specs.Asks.{IsDepth, IsLimit, IsNumberOf, files_of, form_of, is_value}
use Rattle.lint_args.specs.CommandLine.{Choices, lint}
use Rattle.lint_args.specs.Laws.{sample_words}
use Rattle.lint_args.specs.declared.task.Form.TheVariants as form
use Rattle.lint_args.proofs.Limits.{limit_from, written_50}
use Rattle.lint_args.proofs.laws.sample_is_known.Goals as goal

module _ (choices : Choices) where
  schemas : files_of (codes "schema") (matches_of (lint choices) sample_words) ≡ codes "types.graphql" ∷ codes "more.graphql" ∷ []
  unfolding clap_on_literals
  schemas = refl

  queries : files_of (codes "query") (matches_of (lint choices) sample_words) ≡ codes "first.graphql" ∷ codes "second.graphql" ∷ codes "--third" ∷ []
  unfolding clap_on_literals
  queries = refl

  variables : first_of (codes "variables") (matches_of (lint choices) sample_words) ≡ Some (codes "values.json")
  unfolding clap_on_literals
  variables = refl

  form_is : form_of (matches_of (lint choices) sample_words) ≡ form.Json
  unfolding clap_on_literals
  form_is = refl

  closed : is_value (codes "closed") (codes "true") (matches_of (lint choices) sample_words) ≡ true
  unfolding clap_on_literals
  closed = refl

  together : is_value (codes "together") (codes "true") (matches_of (lint choices) sample_words) ≡ false
  unfolding clap_on_literals
  together = refl

  depth : first_of (codes "depth") (matches_of (lint choices) sample_words) ≡ Some (codes "20")
  unfolding clap_on_literals
  depth = refl

  errors : first_of (codes "errors") (matches_of (lint choices) sample_words) ≡ Some (codes "50")
  unfolding clap_on_literals
  errors = refl

  juniper : is_value (codes "dialect") (codes "juniper") (matches_of (lint choices) sample_words) ≡ true
  unfolding clap_on_literals
  juniper = refl

-- the text writes that number
twenty : (levels : Option ℕ) → IsNumberOf (codes "20") levels → levels ≡ Some 20
twenty levels is = is.some (omega arith, (omega arith, (omega arith, tt))) (omega arith)

-- each by computing what the words match
pub returns : goal.returns
returns c = λ task asked. record {
  schemas = asked.matched.schemas ∙ schemas asked.choices;
  queries = asked.matched.queries ∙ queries asked.choices;
  variables = asked.matched.variables ∙ variables asked.choices;
  form = asked.matched.form ∙ form_is asked.choices;
  closed = asked.matched.closed ∙ closed asked.choices;
  together = asked.matched.together ∙ together asked.choices;
  depth = twenty task.max_depth (subst (λ found. IsDepth found task.max_depth) (depth asked.choices) asked.matched.depth);
  errors = limit_from (codes "50") 50 task.max_errors written_50
      (subst (λ found. IsLimit found task.max_errors) (errors asked.choices) asked.matched.errors);
  juniper = asked.matched.juniper ∙ juniper asked.choices;
}
