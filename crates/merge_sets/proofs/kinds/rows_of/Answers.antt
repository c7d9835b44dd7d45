use Rattle.std.proofs.Common.{◌<◌, arith, get_or, subst, sym, ap, ◌∙◌}
use Rattle.std.specs.Bool.{OnTrue}
use Rattle.bit_matrix.specs.Set.{has}
use Rattle.bit_matrix.specs.declared.set.BitSet.{BitSet}
use Rattle.merge_sets.specs.declared.node.Entry.{Entry}
use Rattle.merge_sets.specs.Kinds.{IsClearKind}
use Rattle.merge_sets.proofs.OneOfKind.{rows_more}
use Rattle.merge_sets.proofs.OneName.{no_entry}
use Rattle.merge_sets.proofs.kinds.rows_of.Goals as goal
use Rattle.merge_sets.proofs.kinds.rows_of.Goals.{then-branch+in_ok-insert, else-branch}

pub loop-k-preserved : goal.loop-k-preserved
loop-k-preserved g c =
    let j = g.J.Judge.judgement c.args.graph.now.judge in
    let kin = g.J.Judge.are_kin c.args.graph.now.judge in
    let left = c.args.left.now in
    let n = c.loop-k.k in (
      c.in_ok-is_clear_kind.ensures.kinds,
      λ k a p h. elim c.if-branch.branch [
        | then-branch+in_ok-insert w ↦
            rows_more (λ (x : Entry). IsClearKind j kin c.args.e c.args.others.now x.field) left n c.loop-k.rows c.if-branch.rows (λ m ne. ap (λ (r : BitSet). has r m) w.rows-is ∙ w.insert.ensures.others m ne)
            (subst (λ b. OnTrue b (IsClearKind j kin c.args.e c.args.others.now (get_or left n no_entry).field)) w.if-branch.true c.in_ok-is_clear_kind.ensures.clear) c.loop-k.invariant.1 k a p h
        | else-branch w ↦ c.loop-k.invariant.1 k a p (ap (λ (r : BitSet). has r k) (sym w.rows-is) ∙ h)
      ],
      omega (arith, c.loop-k.invariant.2, c.is_clear_kind.ensures.spent),
      λ m h. elim c.if-branch.branch [
        | then-branch+in_ok-insert w ↦
            (let asked = subst (λ b. OnTrue b (c.is_clear_kind.new.budget < c.loop-k.budget)) w.if-branch.true c.in_ok-is_clear_kind.ensures.ticks in
            omega (arith, asked, c.loop-k.invariant.2))
        | else-branch w ↦ omega (arith, c.loop-k.invariant.3 m (ap (λ (r : BitSet). has r m) (sym w.rows-is) ∙ h), c.is_clear_kind.ensures.spent)
      ],
    )
