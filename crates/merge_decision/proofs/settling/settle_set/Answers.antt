use Rattle.std.proofs.Common.{◌<◌, ℕ, List, take, get_or, subst, ◌∙◌, length, arith}
use Rattle.std.specs.Bool.{OnTrue}
use Rattle.std.specs.List.{All}
use Rattle.std.proofs.lemmas.List.{take_all, length-take}
use Rattle.merge_sets.specs.declared.node.Entry.{Entry}
use Rattle.merge_sets.specs.Names.{named}
use Rattle.merge_sets.specs.World.{world}
use Rattle.merge_sets.proofs.OneName.{no_entry}
use Rattle.merge_decision.specs.Decided.{AreSettled, Settles}
use Rattle.merge_decision.proofs.Deciding.{grown_kept, groups_more, grows_same, grows_then, settled_groups}
use Rattle.merge_decision.proofs.settling.settle_set.Goals as goal

pub loop-first-init : goal.loop-first-init
loop-first-init g c = (c.first_fields-first-items.ensures, grows_same (world g.J.Judge.judgement c.args.graph.now) c.args.work.now, λ sound k d l. none c.first_fields-first-items.result.now k l)
  where
    none : (xs : List Entry) (k : ℕ) {X : Type 0} → k < length (take 0 xs) → X
    none xs k l = absurd (omega (arith, length-take 0 xs, l))

pub loop-first-preserved : goal.loop-first-preserved
loop-first-preserved g c =
    let w = world g.J.Judge.judgement c.args.graph.now in
    let x = c.args.x in
    let own = c.args.set.now.own.items in
    let firsts = c.first_fields-first-items.result.now in
    let k = c.loop-first.first-index in
    let f = get_or firsts k no_entry in
    let group = c.fields_named-group.result.now in
    let is = c.fields_named-group.ensures ∙ c.sorted_fields.ensures.grouped f.response in
    let old = c.loop-first.work in
    let new = c.settle_group.new.work in
    let step = subst (λ b. OnTrue b (Settles w x group old new)) c.if-not-branch.false c.in_ok-settle_group.ensures.settles in
    let before = c.loop-first.invariant.1 in (
      c.loop-first.invariant.0,
      grows_then w c.args.work.now old new before step.grows,
      λ sound. groups_more w old.unions.items new.unions.items x firsts own k no_entry c.loop-first-test.true (grown_kept w old new step.grows)
          (c.loop-first.invariant.2 sound) (subst (λ zs. AreSettled w new.unions.items x zs) is (step.settled (before.sound sound))),
    )

pub returns-then-not-branch-clause-grows : goal.returns-then-not-branch-clause-grows
returns-then-not-branch-clause-grows g c =
    grows_then (world g.J.Judge.judgement c.args.graph.now) c.args.work.now c.loop-first.work c.settle_group.new.work c.loop-first.invariant.1 c.in_ok-settle_group.ensures.grows

pub returns : goal.returns
returns g c =
    let w = world g.J.Judge.judgement c.args.graph.now in
    let x = c.args.x in
    let own = c.args.set.now.own.items in
    let firsts = c.first_fields-first-items.result.now in
    let new = c.loop-first.work in
    record {
      grows = c.loop-first.invariant.1;
      settles = record {
        grows = c.loop-first.invariant.1;
        settled = λ sound.
            let whole = subst (λ zs. All (λ (h : Entry). AreSettled w new.unions.items x (named h.response own)) zs) (take_all c.loop-first.first-index firsts c.loop-first-test.false) (c.loop-first.invariant.2 sound) in
            settled_groups w new.unions.items x _ own c.args.set.now.listed (subst (λ zs. All (λ (h : Entry). AreSettled w new.unions.items x (named h.response own)) zs) c.loop-first.invariant.0 whole);
      };
    }
