use Rattle.std.proofs.Common.{◌≡◌, ℕ, List, true, inl, inr, sym, subst, ◌∙◌, take, get_or}
use Rattle.std.specs.List.{All, Contains}
use Rattle.std.proofs.lemmas.Bool.{cases_eq}
use Rattle.std.proofs.lemmas.List.{take_all}
use Rattle.std.proofs.lemmas.List.Elements.{All-more, All-weaker, Contains-get_or}
use Rattle.bit_matrix.specs.Set.{has}
use Rattle.bit_matrix.specs.declared.set.BitSet.{BitSet}
use Rattle.merge_sets.proofs.Marks.{stays}
use Rattle.merge_sets.proofs.numbers.set_of_numbers.Goals as goal

only : (old new : BitSet) (n : ℕ) (list : List ℕ) → Contains list n → ((m : ℕ) → (m ≡ n → ⊥) → has new m ≡ has old m)
    → ((m : ℕ) → has old m ≡ true → Contains list m) → (m : ℕ) → has new m ≡ true → Contains list m
only old new n list c others before m h = elim (cases_eq m n) [
  | inl is ↦ subst (λ (k : ℕ). Contains list k) (sym is) c
  | inr other ↦ before m (sym (others m other) ∙ h)
]

pub loop-number-preserved : goal.loop-number-preserved
loop-number-preserved c =
    let old = c.loop-number.set in
    let new = c.insert.new.self in
    let list = c.args.list.now in
    let k = c.loop-number.number-index in
    let n = get_or list k 0 in (
      All-more (λ (g : ℕ). has new g ≡ true) list k 0 c.loop-number-test.true
          (All-weaker (λ (g : ℕ). has old g ≡ true) (λ (g : ℕ). has new g ≡ true) (λ g h. stays old new n c.in_ok-insert.ensures.there c.in_ok-insert.ensures.others g h) (take k list) c.loop-number.invariant.0) c.in_ok-insert.ensures.there,
      only old new n list (Contains-get_or list k 0 c.loop-number-test.true) c.in_ok-insert.ensures.others c.loop-number.invariant.1,
    )

pub returns : goal.returns
returns c = record {
  all = subst (λ (zs : List ℕ). All (λ (g : ℕ). has c.loop-number.set g ≡ true) zs) (take_all c.loop-number.number-index c.args.list.now c.loop-number-test.false) c.loop-number.invariant.0;
  only = c.loop-number.invariant.1;
}
