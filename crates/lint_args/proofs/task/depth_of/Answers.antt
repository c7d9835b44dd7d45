use Rattle.std.proofs.Common.{◌∙◌, None, ap, codes, refl, subst, sym}
use Rattle.std.specs.Option.{option_map}
use Rattle.clap.proofs.WalkLemmas.{first_value-rows}
use Rattle.clap.specs.Words.{found_of}
use Rattle.lint_args.specs.Asks.{IsDepth}
use Rattle.lint_args.proofs.task.depth_of.Goals as goal

-- the first value is that of the row
pub returns-in-Some : goal.returns-in-Some
returns-in-Some c =
    subst (λ found. IsDepth found c.number_of.result) (sym (ap (option_map (λ s. s.now)) c.in-Some.is) ∙ c.get_str.ensures ∙ first_value-rows (found_of c.args.matches.now) (codes "depth")) c.number_of.ensures

-- the row has none
pub returns-in-None : goal.returns-in-None
returns-in-None c =
    subst (λ found. IsDepth found None) (sym (ap (option_map (λ s. s.now)) c.in-None.is) ∙ c.get_str.ensures ∙ first_value-rows (found_of c.args.matches.now) (codes "depth")) refl
