use Rattle.std.proofs.Common.{ℕ, ◌≡◌, true, arith, inl, inr, subst}
use Rattle.std.specs.List.{Contains}
use Rattle.bit_matrix.specs.Set.{has}
use Rattle.merge_sets.proofs.Laws.{clash}
use Rattle.merge_certificates.proofs.below.some_known.Goals as goal

pub returns-then-branch-clause-ticks : goal.returns-then-branch-clause-ticks
returns-then-branch-clause-ticks g c = λ knows. elim knows.2 [
  | inl all ↦ cc
  | inr some ↦ elim some [
    | inl both ↦ absurd (clash (has c.new.result knows.0) both.0 (c.new.ensures knows.0))
    | inr at ↦ c.in_ok-touched.ensures.ticks (knows.0, at.left, at.told_left)
  ]
]

pub returns-clause-ticks : goal.returns-clause-ticks
returns-clause-ticks g c = λ knows.
    let only = subst (λ zs. (m : ℕ) → has c.in_ok-places.places m ≡ true → Contains zs m) c.as_slice.ensures.value c.in_ok-places.ensures.only in
    elim knows.2 [
      | inl all ↦ cc
      | inr some ↦ elim some [
        | inl both ↦ omega (arith, c.in_ok-good.ensures.ticks (omega (arith, (only knows.0 both.0).1)), c.touched_by_half.ensures.spent)
        | inr at ↦ omega (arith, c.in_ok-touched.ensures.ticks (knows.0, at.left, at.told_left), c.good_places.ensures.spent)
      ]
    ]

pub returns-then-branch-clause-knows : goal.returns-then-branch-clause-knows
returns-then-branch-clause-knows g c = λ k l a b known p q. elim known [
  | inl all ↦ cc
  | inr some ↦ elim some [
    | inl both ↦ absurd (clash (has c.new.result k) both.0 (c.new.ensures k))
    | inr at ↦ c.in_ok-touched.ensures.knows k l a b at p q
  ]
]

pub returns-clause-knows : goal.returns-clause-knows
returns-clause-knows g c = λ k l a b known p q.
    let only = subst (λ zs. (m : ℕ) → has c.in_ok-places.places m ≡ true → Contains zs m) c.as_slice.ensures.value c.in_ok-places.ensures.only in
    elim known [
      | inl all ↦ cc
      | inr some ↦ elim some [
        | inl both ↦ c.in_ok-good.ensures.merge k l a b (only k both.0) (only l both.1) p q
        | inr at ↦ c.in_ok-touched.ensures.knows k l a b at p q
      ]
    ]
