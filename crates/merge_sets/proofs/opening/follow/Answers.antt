use Rattle.std.proofs.Common.{ℕ, subst, ap, ◌∙◌}
use Rattle.std.proofs.lemmas.Result.{on_ok_weaker}
use Rattle.merge_sets.specs.World.{world, spreads_of}
use Rattle.merge_sets.specs.Sound.{Gains}
use Rattle.merge_sets.proofs.opening.follow.Goals as goal

pub returns : goal.returns
returns g c =
    let v = world g.J.Judge.judgement c.args.graph.now in
    on_ok_weaker c.open_all.result
    (λ gains. subst (λ zs. Gains zs zs c.args.opening.now c.open_all.new.opening) (c.spreads.ensures ∙ ap (λ (s : ℕ). spreads_of v s) c.set.ensures) gains) c.open_all.ensures
