use Rattle.std.proofs.Common.{inl, inr, sym}
use Rattle.std.proofs.lemmas.Result.{on_ok_weaker}
use Rattle.merge_sets.specs.World.{world}
use Rattle.merge_search.proofs.Asking.{each_one, each_skipped}
use Rattle.merge_search.proofs.opening.open_new.Goals as goal
use Rattle.merge_search.proofs.opening.open_new.Goals.{then-contains-via-then-contains, then-contains-via-else-contains+then-is_settled}

pub returns-then-contains : goal.returns-then-contains
returns-then-contains g c =
    let v = world g.J.Judge.judgement c.args.graph.now in
    each_skipped v c.args.e c.args.i c.args.f c.args.opening.now c.args.search.now
    (elim c.then-contains.branch [
      | then-contains-via-then-contains w ↦ inl (sym w.if-contains.ensures)
      | then-contains-via-else-contains+then-is_settled w ↦ inr (w.is_settled.ensures.yes w.if-is_settled.true)
    ])

pub returns : goal.returns
returns g c =
    let v = world g.J.Judge.judgement c.args.graph.now in
    on_ok_weaker c.push_open.result
    (λ push. each_one v c.args.e c.args.i c.args.f c.args.opening.now _ c.args.search.now _ c.requires.set c.requires.fragment (sym c.if-contains.ensures)
    (c.is_settled.ensures.no c.if-is_settled.false) c.in_ok-note_search.ensures push)
    c.push_open.ensures
