use Rattle.std.proofs.Common.{◌≡◌, ◌∙◌, ◌||◌, ◌&&◌, ℕ, Bool, true, false, arith, get_or, refl, subst, take}
use Rattle.std.specs.Prelude.{nat_lt}
use Rattle.std.proofs.lemmas.Bool.Decides.{nat_tests}
use Rattle.std.specs.List.{All, Contains}
use Rattle.std.proofs.lemmas.List.{take_all}
use Rattle.std.proofs.lemmas.List.Elements.{All-contains, All-more, All-weaker}
use Rattle.bit_matrix.specs.Set.{has}
use Rattle.merge_sets.specs.declared.node.Entry.{Entry}
use Rattle.merge_sets.specs.Names.{named}
use Rattle.merge_certificates.specs.Near.{listed_at}
use Rattle.merge_certificates.proofs.Nearness.{row_apart}
use Rattle.merge_sets.proofs.OneName.{named_in}
use Rattle.merge_certificates.proofs.near.places_near.Goals as goal

pub loop-name-init : goal.loop-name-init
loop-name-init c = (
  λ m less h. c.in_ok-insert_below.ensures.union m ∙ added (has c.new-rows.result m) (has c.args.near.now.untold m) (nat_lt m c.args.count) h (grind (arith, nat_tests)),
  λ k d l. absurd (omega (arith, l)),
)
  where
    added : (x y z : Bool) → y ≡ true → z ≡ true → (x || (y && z)) ≡ true
    added true y z p q = refl
    added false y z p q = cc

pub loop-name-preserved : goal.loop-name-preserved
loop-name-preserved c =
    let list = c.in-Some.list.now in
    let own = c.args.near.now.index.own.items in
    let k = c.loop-name.name-index in
    let n = get_or list k 0 in
    let old = c.loop-name.rows in
    let new = c.add_group.new.rows in
    let told = c.in_ok-add_group.ensures in
    let is = c.fields_named-group.ensures ∙ c.sorted_fields.ensures.grouped n in
    let added = subst (λ zs. All (λ (a : Entry). has new a.field ≡ true) zs) is told.added in (
      λ m less h. told.kept m (c.loop-name.invariant.0 m less h),
      All-more (λ (x : ℕ). (m : ℕ) → Contains own (listed_at x m) → has new m ≡ true) list k 0 c.loop-name-test.true
          (All-weaker (λ (x : ℕ). (m : ℕ) → Contains own (listed_at x m) → has old m ≡ true) (λ (x : ℕ). (m : ℕ) → Contains own (listed_at x m) → has new m ≡ true)
          (λ x h m p. told.kept m (h m p)) (take k list) c.loop-name.invariant.1)
          (λ m p. All-contains (λ (a : Entry). has new a.field ≡ true) (named n own) (listed_at n m) added (named_in n own (listed_at n m) p refl)),
    )

pub returns : goal.returns
returns c near =
    let own = c.args.near.now.index.own.items in
    let at = c.in-Some.ensures in
    let whole = subst (λ zs. All (λ (n : ℕ). (m : ℕ) → Contains own (listed_at n m) → has c.loop-name.rows m ≡ true) zs) (take_all c.loop-name.name-index c.in-Some.list.now c.loop-name-test.false) c.loop-name.invariant.1 in
    row_apart c.args.touched.now c.args.k c.args.count c.args.near.now.untold c.loop-name.rows own at.0 at.1 near c.loop-name.invariant.0
    (subst (λ zs. All (λ (n : ℕ). (m : ℕ) → Contains own (listed_at n m) → has c.loop-name.rows m ≡ true) zs) at.2 whole)
