use Rattle.std.proofs.Common.{◌<◌, ℕ, List, false, take, get_or, sym, subst, length, arith}
use Rattle.std.specs.List.{All}
use Rattle.std.proofs.lemmas.List.{take_all, length-take}
use Rattle.std.proofs.lemmas.List.Elements.{All-contains, All-more, All-weaker}
use Rattle.merge_sets.specs.declared.node.Entry.{Entry}
use Rattle.merge_sets.specs.Indexed.{firsts_of}
use Rattle.merge_sets.specs.Names.{named}
use Rattle.merge_certificates.specs.Unions.{HasUnion}
use Rattle.merge_sets.proofs.OneName.{listed_in, no_entry}
use Rattle.merge_certificates.proofs.Uniting.{union_in, union_kept}
use Rattle.merge_certificates.proofs.unions.add_unions.Goals as goal

pub loop-first-init : goal.loop-first-init
loop-first-init c = (c.first_fields-first-items.ensures, λ u h. h, λ k d l. none c.first_fields-first-items.result.now k l)
  where
    none : (xs : List Entry) (k : ℕ) {X : Type 0} → k < length (take 0 xs) → X
    none xs k l = absurd (omega (arith, length-take 0 xs, l))

pub loop-first-preserved : goal.loop-first-preserved
loop-first-preserved c =
    let own = c.args.set.now.own.items in
    let common = c.args.common.now in
    let firsts = c.first_fields-first-items.result.now in
    let n = c.loop-first.first-index in
    let f = get_or firsts n no_entry in
    let old = c.loop-first.unions.items in
    let new = c.add_union.new.unions.items in
    let told = c.in_ok-add_union.ensures in
    let is = c.fields_in-group.ensures in (
      c.loop-first.invariant.0,
      λ u h. told.kept u (c.loop-first.invariant.1 u h),
      All-more (λ (y : Entry). HasUnion new false (named y.response own) common) firsts n no_entry c.loop-first-test.true
          (All-weaker (λ (y : Entry). HasUnion old false (named y.response own) common) (λ (y : Entry). HasUnion new false (named y.response own) common)
          (λ y u. union_kept old new false (named y.response own) common told.kept u) (take n firsts) c.loop-first.invariant.2)
          (union_in new own (c.fields_in-group.result.now) common f.response c.requires is told.added),
    )

pub returns-clause-kept : goal.returns-clause-kept
returns-clause-kept c = c.loop-first.invariant.1

pub returns-clause-added : goal.returns-clause-added
returns-clause-added c a p =
    let own = c.args.set.now.own.items in
    let common = c.args.common.now in
    let firsts = c.first_fields-first-items.result.now in
    let new = c.loop-first.unions.items in
    let whole = subst (λ zs. All (λ (y : Entry). HasUnion new false (named y.response own) common) zs) (take_all c.loop-first.first-index firsts c.loop-first-test.false) c.loop-first.invariant.2 in
    let all = subst (λ zs. All (λ (y : Entry). HasUnion new false (named y.response own) common) zs) c.loop-first.invariant.0 whole in
    let (f, there, is) = listed_in (firsts_of own c.args.set.now.index) own a c.args.set.now.listed p in
    subst (λ (n : ℕ). HasUnion new false (named n own) common) (sym is)
    (All-contains (λ (y : Entry). HasUnion new false (named y.response own) common) (firsts_of own c.args.set.now.index) f all there)
