use Rattle.std.proofs.Common.{◌∙◌, None, ap, codes, refl, subst, sym}
use Rattle.std.specs.Option.{option_map}
use Rattle.clap.proofs.WalkLemmas.{first_value-rows}
use Rattle.clap.specs.Words.{found_of}
use Rattle.lint_args.specs.Asks.{IsLimit}
use Rattle.lint_args.proofs.task.limit_of.Goals as goal

-- the first value is that of the row
pub returns-in-Some : goal.returns-in-Some
returns-in-Some c =
    subst (λ found. IsLimit found c.unwrap_or.result) (sym (ap (option_map (λ s. s.now)) c.in-Some.is) ∙ c.get_str.ensures ∙ first_value-rows (found_of c.args.matches.now) (codes "errors")) (c.number_of.result, c.number_of.ensures, c.unwrap_or.ensures)

-- the row has none
pub returns-in-None : goal.returns-in-None
returns-in-None c =
    subst (λ found. IsLimit found 0) (sym (ap (option_map (λ s. s.now)) c.in-None.is) ∙ c.get_str.ensures ∙ first_value-rows (found_of c.args.matches.now) (codes "errors")) refl
