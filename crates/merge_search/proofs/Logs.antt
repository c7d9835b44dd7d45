-- How questions are added.
use Rattle.std.proofs.Common.{◌≡◌, ℕ, sym, subst, ◌∙◌, refl, Bool, false, true, inl, inr, ◌⊎◌}
use Rattle.std.proofs.lemmas.Bool.{cases_eq}
use Rattle.bit_matrix.specs.declared.rows.BitRows.{BitRows}
use Rattle.bit_matrix.specs.Rows.{marked}
use Rattle.merge_search.specs.declared.log.Log.{Log}
use Rattle.merge_search.specs.Log.{in_log, Notes}

-- column g was added to row f, and nothing else
abbrev pub Inserts : ℕ → ℕ → BitRows → BitRows → Type 0
Inserts f g old new = (marked new f g ≡ true) × ((i j : ℕ) → ((i ≡ f) × (j ≡ g) → ⊥) → marked new i j ≡ marked old i j)

cases_pair : (f g i j : ℕ) → ((i ≡ f) × (j ≡ g)) ⊎ ((i ≡ f) × (j ≡ g) → ⊥)
cases_pair f g i j =
    elim (cases_eq i f) [
      | inl is ↦ elim (cases_eq j g) [ inl too ↦ inl (is, too) | inr other ↦ inr (λ z. other z.1) ]
      | inr other ↦ inr (λ z. other z.0)
    ]

still : (f g i j : ℕ) (old new : BitRows) → Inserts f g old new → marked old i j ≡ true → marked new i j ≡ true
still f g i j old new u h =
    elim (cases_pair f g i j) [
      | inl is ↦ subst (λ (x : ℕ). marked new x j ≡ true) (sym is.0) (subst (λ (y : ℕ). marked new f y ≡ true) (sym is.1) u.0)
      | inr other ↦ u.1 i j other ∙ h
    ]

only_one : (f g i j : ℕ) (old new : BitRows) → Inserts f g old new → marked new i j ≡ true → (marked old i j ≡ true) ⊎ ((i ≡ f) × (j ≡ g))
only_one f g i j old new u h = elim (cases_pair f g i j) [ inl is ↦ inr is | inr other ↦ inl (sym (u.1 i j other) ∙ h) ]

pub notes_flagged : (f g : ℕ) (old new : Log) → new.plain ≡ old.plain → Inserts f g old.flagged new.flagged → Notes true f g (in_log old) (in_log new)
notes_flagged f g old new same u = record { noted = u.0; kept = kept; only = only }
  where
    kept : (x : Bool) (i j : ℕ) → in_log old x i j ≡ true → in_log new x i j ≡ true
    kept true i j h = still f g i j old.flagged new.flagged u h
    kept false i j h = subst (λ s. marked s i j ≡ true) (sym same) h

    only : (x : Bool) (i j : ℕ) → in_log new x i j ≡ true → (in_log old x i j ≡ true) ⊎ ((x ≡ true) × (i ≡ f) × (j ≡ g))
    only true i j h = elim (only_one f g i j old.flagged new.flagged u h) [ inl o ↦ inl o | inr z ↦ inr (refl, z.0, z.1) ]
    only false i j h = inl (subst (λ s. marked s i j ≡ true) same h)

pub notes_plain : (f g : ℕ) (old new : Log) → new.flagged ≡ old.flagged → Inserts f g old.plain new.plain → Notes false f g (in_log old) (in_log new)
notes_plain f g old new same u = record { noted = u.0; kept = kept; only = only }
  where
    kept : (x : Bool) (i j : ℕ) → in_log old x i j ≡ true → in_log new x i j ≡ true
    kept false i j h = still f g i j old.plain new.plain u h
    kept true i j h = subst (λ s. marked s i j ≡ true) (sym same) h

    only : (x : Bool) (i j : ℕ) → in_log new x i j ≡ true → (in_log old x i j ≡ true) ⊎ ((x ≡ false) × (i ≡ f) × (j ≡ g))
    only false i j h = elim (only_one f g i j old.plain new.plain u h) [ inl o ↦ inl o | inr z ↦ inr (refl, z.0, z.1) ]
    only true i j h = inl (subst (λ s. marked s i j ≡ true) same h)
