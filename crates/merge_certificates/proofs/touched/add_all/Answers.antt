use Rattle.std.proofs.Common.{◌≡◌, ℕ, true, arith, get_or, subst, take}
use Rattle.std.specs.List.{All}
use Rattle.std.proofs.lemmas.List.{length-take, take_all}
use Rattle.std.proofs.lemmas.List.Elements.{All-more, All-weaker}
use Rattle.bit_matrix.specs.Set.{has}
use Rattle.merge_sets.proofs.Marks.{stays}
use Rattle.merge_certificates.proofs.touched.add_all.Goals as goal

pub loop-number-init : goal.loop-number-init
loop-number-init c = (λ n h. h, λ k d l. absurd (omega (arith, length-take 0 c.args.list.now, l)))

pub loop-number-preserved : goal.loop-number-preserved
loop-number-preserved c =
    let old = c.loop-number.names in
    let new = c.insert.new.self in
    let list = c.args.list.now in
    let k = c.loop-number.number-index in
    let one = c.in_ok-insert.ensures in
    let kept = stays old new (get_or list k 0) one.there one.others in (
      λ n h. kept n (c.loop-number.invariant.0 n h),
      All-more (λ (n : ℕ). has new n ≡ true) list k 0 c.loop-number-test.true
          (All-weaker (λ (n : ℕ). has old n ≡ true) (λ (n : ℕ). has new n ≡ true) kept (take k list) c.loop-number.invariant.1) one.there,
    )

pub returns : goal.returns
returns c = record {
  kept = c.loop-number.invariant.0;
  added = subst (λ zs. All (λ (n : ℕ). has c.loop-number.names n ≡ true) zs) (take_all c.loop-number.number-index c.args.list.now c.loop-number-test.false) c.loop-number.invariant.1;
}
