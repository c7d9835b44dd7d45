use Rattle.std.proofs.Common.{◌≡◌, inl, inr, arith, below_more, true}
use Rattle.std.proofs.lemmas.Bool.{cases_lt}
use Rattle.std.specs.List.{Contains}
use Rattle.bit_matrix.specs.Set.{has}
use Rattle.merge_sets.specs.declared.node.Entry.{Entry}
use Rattle.merge_sets.specs.World.{world, own_of}
use Rattle.merge_sets.proofs.NoSet.{no_own}
use Rattle.merge_sets.proofs.plain_names.marked_fields.Goals as goal

pub loop-s-preserved : goal.loop-s-preserved
loop-s-preserved g c =
    let w = world g.J.Judge.judgement c.args.graph.now in
    let marked = c.args.marked.now in
    below_more (λ i. (a : Entry) → Contains (own_of w i) a → has marked a.response ≡ true → Contains c.add_own.new.fields.items a) c.loop-s.s
    (λ i l a p h. c.in_ok-add_own.ensures.kept a (c.loop-s.invariant i l a p h)) c.in_ok-add_own.ensures.there

pub returns : goal.returns
returns g c =
    let w = world g.J.Judge.judgement c.args.graph.now in
    let n = c.len-s-end.ensures in
    λ a p h. elim (cases_lt p.0 c.loop-s.s) [
      | inl l ↦ c.loop-s.invariant p.0 l a p.1 h
      | inr past ↦ absurd (omega (arith, p.1.1, no_own w p.0 (omega (arith, past, n, c.loop-s-test.false))))
    ]
