use Rattle.std.proofs.Common.{arith, subst, take, get_or}
use Rattle.std.specs.Bool.{OnTrue}
use Rattle.std.specs.List.{All}
use Rattle.std.proofs.lemmas.List.{take_all}
use Rattle.std.proofs.lemmas.List.Elements.{All-more, All-weaker}
use Rattle.merge_sets.specs.declared.node.Entry.{Entry}
use Rattle.merge_sets.specs.Kinds.{IsOfKind}
use Rattle.merge_sets.proofs.OneName.{no_entry}
use Rattle.merge_sets.proofs.kinds.kinds_of.Goals as goal

pub loop-a-preserved : goal.loop-a-preserved
loop-a-preserved g c =
    let kin = g.J.Judge.are_kin c.args.graph.now.judge in
    let old = c.loop-a.kinds.items in
    let new = c.add_kind.new.kinds.items in
    let fields = c.args.fields.now in (
      All-more (λ (a : Entry). IsOfKind kin new a.field) fields c.loop-a.a-index no_entry c.loop-a-test.true
          (All-weaker (λ (a : Entry). IsOfKind kin old a.field) (λ (a : Entry). IsOfKind kin new a.field) (λ a h. c.in_ok-add_kind.ensures.kept a.field h) (take c.loop-a.a-index fields) c.loop-a.invariant.0)
          (subst (λ b. OnTrue b (IsOfKind kin new (get_or fields c.loop-a.a-index no_entry).field)) c.if-not-branch.false c.in_ok-add_kind.ensures.added),
      omega (arith, c.loop-a.invariant.1, c.add_kind.ensures.spent),
    )

pub returns-clause-kinds : goal.returns-clause-kinds
returns-clause-kinds g c =
    let kin = g.J.Judge.are_kin c.args.graph.now.judge in
    subst (λ zs. All (λ (a : Entry). IsOfKind kin c.loop-a.kinds.items a.field) zs) (take_all c.loop-a.a-index c.args.fields.now c.loop-a-test.false) c.loop-a.invariant.0
