use Rattle.std.proofs.Common.{arith, false, refl}
use Rattle.variable_usages.specs.Unused.{variable_at}
use Rattle.variable_usages.proofs.Variables.{true_false}
use Rattle.variable_usages.proofs.unused.is_found.Goals as goal

pub returns-then-latest-index : goal.returns-then-latest-index
returns-then-latest-index c =
    let behind = c.if-latest-index.true in
    let start = c.index.ensures in (
      λ t. absurd (true_false false t refl),
      λ h. let early = c.requires (variable_at c.args.variable.now) h in absurd (omega (arith, early, behind, start)),
    )
