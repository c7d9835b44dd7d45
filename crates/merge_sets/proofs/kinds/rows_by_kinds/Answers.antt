use Rattle.std.proofs.Common.{subst, sym}
use Rattle.std.specs.List.{All}
use Rattle.std.specs.Option.{IfSome}
use Rattle.merge_sets.specs.declared.node.Entry.{Entry}
use Rattle.merge_sets.specs.Kinds.{IsOfKind}
use Rattle.merge_sets.proofs.OneOfKind.{clear_with}
use Rattle.merge_sets.proofs.kinds.rows_by_kinds.Goals as goal

pub returns-clause-rows : goal.returns-clause-rows
returns-clause-rows g c = λ k a p h.
    let j = g.J.Judge.judgement c.args.graph.now.judge in
    let kin = g.J.Judge.are_kin c.args.graph.now.judge in
    let known = subst (λ o. IfSome o (λ v. All (λ (b : Entry). IsOfKind kin v.items b.field) c.args.right.now)) c.in-Some.is c.in_ok-others.ensures.kinds in
    clear_with j kin (g.J.Judge.kin_agree c.args.graph.now.judge) c.args.e c.as_slice.result.now c.args.right.now (subst (λ zs. All (λ (b : Entry). IsOfKind kin zs b.field) c.args.right.now) (sym c.as_slice.ensures.value) known) a (c.in_ok-rows.ensures.rows k a p h)
