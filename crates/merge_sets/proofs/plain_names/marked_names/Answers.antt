use Rattle.std.proofs.Common.{arith, take, subst}
use Rattle.std.specs.List.{All}
use Rattle.std.proofs.lemmas.List.{take_all}
use Rattle.std.proofs.lemmas.List.Elements.{All-more, All-weaker}
use Rattle.merge_sets.specs.declared.node.Entry.{Entry}
use Rattle.merge_sets.specs.Kinds.{IsToldOf}
use Rattle.merge_sets.proofs.NamesSeen.{told_more, told_all}
use Rattle.merge_sets.proofs.OneName.{no_entry}
use Rattle.merge_sets.proofs.plain_names.marked_names.Goals as goal

pub loop-first-preserved : goal.loop-first-preserved
loop-first-preserved g c =
    let j = g.J.Judge.judgement c.args.graph.now.judge in
    let own = c.args.set.now.own.items in
    let fields = c.first_fields-first-items.result.now in (
      c.loop-first.invariant.0,
      All-more (λ (f : Entry). IsToldOf j own c.mark_name.new.mixed f.response) fields c.loop-first.first-index no_entry c.loop-first-test.true
          (All-weaker (λ (f : Entry). IsToldOf j own c.loop-first.mixed f.response) (λ (f : Entry). IsToldOf j own c.mark_name.new.mixed f.response)
          (λ f h. told_more j own c.loop-first.mixed c.mark_name.new.mixed f.response c.in_ok-mark_name.ensures.kept h) (take c.loop-first.first-index fields) c.loop-first.invariant.1)
          c.in_ok-mark_name.ensures.told,
      omega (arith, c.loop-first.invariant.2, c.mark_name.ensures.spent),
    )

pub returns-clause-told : goal.returns-clause-told
returns-clause-told g c =
    let j = g.J.Judge.judgement c.args.graph.now.judge in
    let own = c.args.set.now.own.items in
    let fields = c.first_fields-first-items.result.now in
    let all = subst (λ zs. All (λ (f : Entry). IsToldOf j own c.loop-first.mixed f.response) zs) (take_all c.loop-first.first-index fields c.loop-first-test.false) c.loop-first.invariant.1 in
    told_all (IsToldOf j own c.loop-first.mixed) _ own c.args.set.now.listed (subst (λ zs. All (λ (f : Entry). IsToldOf j own c.loop-first.mixed f.response) zs) c.loop-first.invariant.0 all)
