use Rattle.std.proofs.Common.{◌≡◌, drop}
use Rattle.std.specs.Prelude.{find}
use Rattle.std.specs.Str.{bytes_eq}
use Rattle.meta.proofs.named.first_named.Given as goal

abbrev pub invariant-loop-x : goal.invariant-loop-x
invariant-loop-x g l =
    find (λ x. bytes_eq (g.T.Named.name_of x) l.name) l.items ≡ find (λ x. bytes_eq (g.T.Named.name_of x) l.name) (drop l.x-index l.items)
