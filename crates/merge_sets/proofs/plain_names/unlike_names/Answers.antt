use Rattle.std.proofs.Common.{◌<◌, length, inl, inr, arith, below_more}
use Rattle.std.proofs.lemmas.Bool.{cases_lt}
use Rattle.std.specs.List.{Contains}
use Rattle.merge_sets.specs.declared.node.Entry.{Entry}
use Rattle.merge_sets.specs.World.{world, own_of}
use Rattle.merge_sets.specs.Firsts.{IsNoted}
use Rattle.merge_sets.proofs.NoSet.{no_own}
use Rattle.merge_sets.proofs.NamesSeen.{plain_name}
use Rattle.merge_sets.proofs.plain_names.unlike_names.Goals as goal

pub loop-s-preserved : goal.loop-s-preserved
loop-s-preserved g c =
    let w = world g.J.Judge.judgement c.args.graph.now in
    let alike = g.J.Judge.are_alike c.args.graph.now.judge in
    let notes = c.in_ok-note_own.ensures.notes in (
      below_more (λ i. (a : Entry) → Contains (own_of w i) a → IsNoted alike c.note_own.new.seen a) c.loop-s.s
          (λ i l a p. notes.kept a (c.loop-s.invariant.0 i l a p)) (λ a p. notes.noted a p),
      omega (arith, c.loop-s.invariant.1, c.note_own.ensures.spent),
      below_more (λ i. 0 < length (own_of w i) → 0 < c.args.budget.now → c.note_own.new.budget < c.args.budget.now) c.loop-s.s
          (λ i l own some. omega (arith, c.loop-s.invariant.2 i l own some, c.note_own.ensures.spent))
          (λ own some. elim (cases_lt 0 c.loop-s.budget) [
            | inl left ↦ omega (arith, c.loop-s.invariant.1, c.in_ok-note_own.ensures.ticks own left)
            | inr none ↦ omega (arith, none, some, c.note_own.ensures.spent)
          ]),
    )

pub returns-clause-names : goal.returns-clause-names
returns-clause-names g c =
    let w = world g.J.Judge.judgement c.args.graph.now in
    let alike = g.J.Judge.are_alike c.args.graph.now.judge in
    let n = c.len-s-end.ensures in
    λ name clean. plain_name alike w (g.J.Judge.agree c.args.graph.now.judge) c.loop-s.seen
    (λ a p. elim (cases_lt p.0 c.loop-s.s) [
      | inl l ↦ c.loop-s.invariant.0 p.0 l a p.1
      | inr past ↦ absurd (omega (arith, p.1.1, no_own w p.0 (omega (arith, past, n, c.loop-s-test.false))))
    ]) name clean

pub returns-clause-ticks : goal.returns-clause-ticks
returns-clause-ticks g c s own some = elim (cases_lt s c.loop-s.s) [
  | inl l ↦ c.loop-s.invariant.2 s l own some
  | inr past ↦
      let none = no_own (world g.J.Judge.judgement c.args.graph.now) s (omega (arith, past, c.len-s-end.ensures, c.loop-s-test.false)) in
      absurd (omega (arith, own, none))
]
