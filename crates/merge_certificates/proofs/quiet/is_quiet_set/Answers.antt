use Rattle.std.proofs.Common.{◌≡◌, ◌<◌, Bool, ℕ, List, take, get_or, refl, sym, subst, ◌∙◌, ap, length, arith}
use Rattle.std.specs.Bool.{OnTrue}
use Rattle.std.specs.List.{All}
use Rattle.std.proofs.lemmas.List.{take_all, length-take}
use Rattle.std.proofs.lemmas.List.Elements.{All-more, Contains-get_or}
use Rattle.merge_sets.specs.declared.node.Entry.{Entry}
use Rattle.merge_certificates.specs.declared.quiet.Apart.{Apart}
use Rattle.merge_sets.specs.Names.{named}
use Rattle.merge_certificates.specs.Quiet.{AllMergeBut, AllQuietBut, Covers}
use Rattle.merge_sets.specs.World.{world}
use Rattle.merge_certificates.proofs.Merged.{groups_merged}
use Rattle.merge_sets.proofs.OneName.{named_is, no_entry}
use Rattle.merge_certificates.proofs.quiet.is_quiet_set.Goals as goal

pub is_quiet_group-requires : goal.is_quiet_group-requires
is_quiet_group-requires g c =
    let own = c.args.set.now.own.items in
    let n = (get_or c.first_fields-first-items.result.now c.loop-first.first-index no_entry).response in
    let is = c.fields_named-group.ensures ∙ c.sorted_fields.ensures.grouped n in
    subst (λ zs. All (λ (a : Entry). a.response ≡ n) zs) (sym is) (λ k d l. named_is n own (get_or (named n own) k d) (Contains-get_or (named n own) k d l))

pub loop-first-init : goal.loop-first-init
loop-first-init g c = (c.first_fields-first-items.ensures, λ n h. h, λ none. refl, λ m covers all. (all, λ k d l. none c.first_fields-first-items.result.now k l), omega arith)
  where
    none : (xs : List Entry) (k : ℕ) {X : Type 0} → k < length (take 0 xs) → X
    none xs k l = absurd (omega (arith, length-take 0 xs, l))

pub loop-first-preserved : goal.loop-first-preserved
loop-first-preserved g c =
    let v = world g.J.Judge.judgement c.args.graph.now in
    let x = c.args.x in
    let own = c.args.set.now.own.items in
    let fields = c.first_fields-first-items.result.now in
    let f = get_or fields c.loop-first.first-index no_entry in
    let group = c.fields_named-group.result.now in
    let is = c.fields_named-group.ensures ∙ c.sorted_fields.ensures.grouped f.response in
    let told = c.in_ok-is_quiet_group.ensures in
    let step = subst (λ b. OnTrue b ((m : ℕ → Bool) → Covers m c.is_quiet_group.new.apart.names → AllQuietBut v m c.is_quiet_group.new.waiting.items → AllQuietBut v m c.loop-first.waiting.items × AllMergeBut v m x group)) c.if-not-branch.false told.quiet in (
      c.loop-first.invariant.0,
      λ n h. told.kept n (c.loop-first.invariant.1 n h),
      λ none.
          let before = c.loop-first.invariant.2 none in
          told.full (ap (λ (a : Apart). a.room) before ∙ none) ∙ before,
      λ m covers all.
          let z = step m covers all in
          let y = c.loop-first.invariant.3 m (λ n h. covers n (told.kept n h)) z.0 in
          (y.0, All-more (λ (h : Entry). AllMergeBut v m x (named h.response own)) fields c.loop-first.first-index no_entry c.loop-first-test.true y.1 (subst (AllMergeBut v m x) is z.1)),
      omega (arith, c.loop-first.invariant.4, c.is_quiet_group.ensures.spent),
    )

pub returns : goal.returns
returns g c =
    let v = world g.J.Judge.judgement c.args.graph.now in
    let x = c.args.x in
    let own = c.args.set.now.own.items in
    let fields = c.first_fields-first-items.result.now in
    record {
      kept = c.loop-first.invariant.1;
      quiet = λ m covers all.
          let y = c.loop-first.invariant.3 m covers all in
          let whole = subst (λ zs. All (λ (h : Entry). AllMergeBut v m x (named h.response own)) zs) (take_all c.loop-first.first-index fields c.loop-first-test.false) y.1 in
          (y.0, groups_merged v m x _ own c.args.set.now.listed (subst (λ zs. All (λ (h : Entry). AllMergeBut v m x (named h.response own)) zs) c.loop-first.invariant.0 whole));
      full = c.loop-first.invariant.2;
      spent = c.loop-first.invariant.4;
    }
