use Rattle.std.proofs.Common.{◌≡◌, ◌∙◌, Bor, List, None, Option, Some, ap, false, refl, ℕ}
use Rattle.std.specs.Option.{option_eq, option_map, option_map_or}
use Rattle.std.specs.Str.{bytes_eq}
use Rattle.std.specs.contracts.prelude.RefStrPartialEq.TheImpl.{eq-value}
use Rattle.clap.proofs.WalkLemmas.{first_value-rows}
use Rattle.clap.specs.Words.{found_of}
use Rattle.lint_args.proofs.task.is_value.Goals as goal

-- texts behind references are compared as texts
same_text : (known : Option (Bor (List ℕ))) (value : Bor (List ℕ))
    → option_eq eq-value.it known (Some value) ≡ option_map_or (λ v. bytes_eq v value.now) (option_map (λ s. s.now) known) false
same_text None value = refl
same_text (Some known) value = refl

-- the first value is that of the row
pub returns : goal.returns
returns c =
    c.eq.ensures ∙ same_text c.get_str.result c.args.value
    ∙ ap (λ first. option_map_or (λ v. bytes_eq v c.args.value.now) first false) (c.get_str.ensures ∙ first_value-rows (found_of c.args.matches.now) c.args.id.now)
