-- A name whose slot is taken goes into the ordered map.
use Rattle.std.proofs.Common.{◌≡◌, ℕ, ◌<◌, List, [], ◌∷◌, ◌++◌, length, length-append, refl, sym, ap, ◌∙◌, zero, suc, Bool, true, false, cond, Option, Some, None, slice_get, arith}
use Rattle.std.specs.Map.{update}
use Rattle.std.specs.Str.{bytes_eq}
use Rattle.std.proofs.lemmas.Slice.Eq.{bytes_eq-Decides}
use denote.Ref.{Bor}
use Rattle.name_tables.specs.Adding.{or_else}
use Rattle.name_tables.specs.Looking.{Entries, Others, is_named, other_index, index_by, held_by, index_in, AreHeld, AreTaken, AreWithin}
use Rattle.name_tables.proofs.Lists.{get_before, same_some}
use Rattle.name_tables.proofs.Looking.{adds_new, longer, other_none}

module _ {T : Type 0} (es : Entries T) (slots : List ℕ) (others now : Others) (name : Bor (List ℕ)) (value : T)
    (busy : held_by slots name.now ≡ Some 0 → ⊥) (new : index_in es slots others name.now ≡ None)
    (updates : (q : List ℕ) → other_index now q ≡ update bytes_eq (other_index others) name.now (Some (length es)) q)
    (held : AreHeld es slots) (within : AreWithin es others) (taken : AreTaken slots others) where
  abbrev more : Entries T
  more = es ++ (name, value) ∷ []

  same_name : (other : List ℕ) → bytes_eq name.now other ≡ true → name.now ≡ other
  same_name other e = (bytes_eq-Decides name.now other).0 e

  added : (other : List ℕ) → other_index now other ≡ or_else (other_index others other) (cond (bytes_eq name.now other) (Some (length es)) None)
  added = adds_new (other_index others) (other_index now) name.now (length es) (sym (other_none es others slots name.now busy new)) updates

  pub pass_held : AreHeld more slots
  pass_held s k h = longer es (name, value) k (held s k h)

  pub pass_within : AreWithin more now
  pass_within other k h = by (bytes_eq name.now other) (sym (updates other) ∙ h)
    where
      by : (b : Bool) → cond b (Some (length es)) (other_index others other) ≡ Some k → k < length more
      by true e = let same = same_some (length es) k e in let l : length more ≡ _ = length-append es ((name, value) ∷ []) in omega (arith, same, l)
      by false e = longer es (name, value) k (within other k e)

  pub pass_taken : AreTaken slots now
  pass_taken other h = updates other ∙ by (bytes_eq name.now other) refl
    where
      by : (b : Bool) → bytes_eq name.now other ≡ b → cond b (Some (length es)) (other_index others other) ≡ None
      by true e = absurd (busy (ap (held_by slots) (same_name other e) ∙ h))
      by false e = taken other h

  apart : (other : List ℕ) (b : Bool) → bytes_eq name.now other ≡ b → held_by slots other ≡ Some 0 → None ≡ cond b (Some (length es)) None
  apart other true e h = absurd (busy (ap (held_by slots) (same_name other e) ∙ h))
  apart other false e h = refl

  by_held : (other : List ℕ) (o : Option ℕ) → held_by slots other ≡ o → index_by more now other o ≡ or_else (index_by es others other o) (cond (bytes_eq name.now other) (Some (length es)) None)
  by_held other None h = added other
  by_held other (Some zero) h = apart other (bytes_eq name.now other) refl h
  by_held other (Some (suc k)) h =
      ap (λ z. cond (is_named z other) (Some k) (other_index now other)) (get_before es ((name, value) ∷ []) k (held _ k h))
      ∙ by (is_named (slice_get es k) other)
    where
      by : (t : Bool) → cond t (Some k) (other_index now other) ≡ or_else (cond t (Some k) (other_index others other)) (cond (bytes_eq name.now other) (Some (length es)) None)
      by true = refl
      by false = added other

  pub pass_indices : (other : List ℕ) → index_in more slots now other ≡ or_else (index_in es slots others other) (cond (bytes_eq name.now other) (Some (length es)) None)
  pass_indices other = by_held other (held_by slots other) refl
