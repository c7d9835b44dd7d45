-- A name takes its slot.
use Rattle.std.proofs.Common.{◌≡◌, ℕ, List, [], ◌∷◌, ◌++◌, length, length-append, length-set, refl, sym, ap, ◌∙◌, inl, inr, suc, Bool, true, false, cond, Option, Some, None, slice_get, slice_set, arith}
use Rattle.std.specs.Str.{bytes_eq}
use Rattle.std.proofs.lemmas.Bool.{cases_eq}
use Rattle.std.proofs.lemmas.Slice.Eq.{bytes_eq-Decides}
use denote.Ref.{Bor}
use Rattle.name_tables.specs.Slots.{slot_number}
use Rattle.name_tables.specs.Adding.{or_else}
use Rattle.name_tables.specs.Looking.{Entries, Others, is_named, other_index, index_held, index_by, held_by, index_in, AreHeld, AreTaken}
use Rattle.name_tables.proofs.Lists.{get_last, same_some, set_same, set_other}
use Rattle.name_tables.proofs.Looking.{index_more, longer}

or_none : (o : Option ℕ) → o ≡ or_else o None
or_none None = refl
or_none (Some x) = refl

module _ {T : Type 0} (es : Entries T) (slots : List ℕ) (others : Others) (name : Bor (List ℕ)) (value : T) (slot next : ℕ)
    (at : slot ≡ slot_number name.now (length slots)) (free : held_by slots name.now ≡ Some 0) (is : next ≡ suc (length es))
    (held : AreHeld es slots) (taken : AreTaken slots others) where
  abbrev more : Entries T
  more = es ++ (name, value) ∷ []

  abbrev now : List ℕ
  now = slice_set slots slot next

  free_at : slice_get slots slot ≡ Some 0
  free_at = ap (slice_get slots) at ∙ free

  here : slice_get now slot ≡ Some next
  here = set_same slots slot 0 next free_at

  held_now : (other : List ℕ) → held_by now other ≡ slice_get now (slot_number other (length slots))
  held_now other = ap (λ n. slice_get now (slot_number other n)) (length-set slots slot next)

  pub take_held : AreHeld more now
  take_held s k h = elim (cases_eq s slot) [
    | inl e ↦
        let same = same_some next (suc k) (sym here ∙ ap (slice_get now) (sym e) ∙ h) in
        let l : length more ≡ _ = length-append es ((name, value) ∷ []) in
        omega (arith, same, l, is)
    | inr ne ↦ longer es (name, value) k (held s k (sym (set_other slots slot s next ne) ∙ h))
  ]

  pub take_taken : AreTaken now others
  take_taken other h = elim (cases_eq (slot_number other (length slots)) slot) [
    | inl e ↦
        let zero_is = same_some next 0 (sym here ∙ ap (slice_get now) (sym e) ∙ sym (held_now other) ∙ h) in
        absurd (omega (arith, zero_is, is))
    | inr ne ↦ taken other (sym (set_other slots slot _ next ne) ∙ sym (held_now other) ∙ h)
  ]

  found_here : (other : List ℕ) → other_index others other ≡ None → index_held more others other next ≡ cond (bytes_eq name.now other) (Some (length es)) None
  found_here other n =
      ap (index_held more others other) is
      ∙ ap (λ z. cond (is_named z other) (Some (length es)) (other_index others other)) (get_last es (name, value))
      ∙ ap (λ z. cond (bytes_eq name.now other) (Some (length es)) z) n

  apart : (other : List ℕ) (b : Bool) → bytes_eq name.now other ≡ b → (slot_number other (length slots) ≡ slot → ⊥) → None ≡ cond b (Some (length es)) None
  apart other true e ne = absurd (ne (ap (λ n. slot_number n (length slots)) (sym ((bytes_eq-Decides name.now other).0 e)) ∙ sym at))
  apart other false e ne = refl

  pub take_indices : (other : List ℕ) → index_in more now others other ≡ or_else (index_in es slots others other) (cond (bytes_eq name.now other) (Some (length es)) None)
  take_indices other = ap (index_by more others other) (held_now other) ∙ elim (cases_eq (slot_number other (length slots)) slot) [
    | inl e ↦
        let was : held_by slots other ≡ Some 0 = ap (slice_get slots) e ∙ free_at in
        ap (index_by more others other) (ap (slice_get now) e ∙ here)
        ∙ found_here other (taken other was)
        ∙ ap (λ o. or_else (index_by es others other o) (cond (bytes_eq name.now other) (Some (length es)) None)) (sym was)
    | inr ne ↦
        ap (index_by more others other) (set_other slots slot _ next ne)
        ∙ index_more es others (name, value) other (held_by slots other) (λ k. held _ k)
        ∙ or_none (index_in es slots others other)
        ∙ ap (or_else (index_in es slots others other)) (apart other (bytes_eq name.now other) refl ne)
  ]
