use Rattle.std.proofs.Common.{◌≡◌, Bool, arith, false, inl, inr, refl, true}
use Rattle.std.specs.Bool.{OnTrue}
use Rattle.std.proofs.lemmas.Bool.Decides.{nat_tests}
use Rattle.merge_sets.specs.World.{HasRoom, world}
use Rattle.merge_search.proofs.state.is_full.Goals as goal

told : {P : Type 0} (b : Bool) → (b ≡ true → P) → OnTrue b P
told true f = f refl
told false f = tt

pub returns : goal.returns
returns g c =
    told {P = HasRoom (world g.J.Judge.judgement c.args.graph.now) c.args.search.now.found.items → ⊥} _ (λ is room. elim room [
      | inl none ↦ omega (arith, none)
      | inr less ↦ grind (arith, nat_tests, less, is)
    ])
