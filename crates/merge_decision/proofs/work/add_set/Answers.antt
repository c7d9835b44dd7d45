use Rattle.std.proofs.Common.{rules, arith, ◌≡◌, ◌∷◌, [], sym, subst}
use Rattle.std.proofs.lemmas.Grind.{common_steps}
use Rattle.merge_sets.specs.World.{world}
use Rattle.merge_decision.specs.Decided.{Adds}
use Rattle.merge_decision.proofs.Deciding.{adds_held, adds_within}
use Rattle.merge_decision.proofs.work.add_set.Goals as goal

pub returns-then-contains : goal.returns-then-contains
returns-then-contains g c =
    adds_held (world g.J.Judge.judgement c.args.graph.now) c.args.work.now c.args.flag c.args.s c.inmost-inner.result c.inmost-inner.ensures
    (sym c.if-contains.ensures)

pub returns : goal.returns
returns g c =
    let w = world g.J.Judge.judgement c.args.graph.now in
    let inner = c.inmost-inner.result in
    let old = c.args.work.now in
    let new = c.add_union.new.work in
    let is : c.push.new.self.items ≡ inner ∷ [] = first_of (search rules, grind (arith, common_steps)) in
    adds_within w old new c.args.flag c.args.s inner c.inmost-inner.ensures (subst (λ zs. Adds w c.args.flag zs old new) is (c.in_ok-add_union.ensures w))
