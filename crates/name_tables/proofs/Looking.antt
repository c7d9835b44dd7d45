-- Where names are found.
use Rattle.std.proofs.Common.{◌≡◌, ℕ, ◌<◌, List, [], ◌∷◌, ◌++◌, length, length-append, refl, sym, ap, ◌∙◌, zero, suc, Bool, true, false, cond, Option, Some, None, slice_get, replicate, arith}
use Rattle.std.specs.Str.{bytes_eq}
use Rattle.std.specs.Map.{lookup, update}
use Rattle.std.specs.BTreeMap.{is_at}
use Rattle.std.specs.Cmp.Lexicographic.{slice_cmp}
use Rattle.std.specs.Ordering.{nat_cmp}
use Rattle.std.proofs.lemmas.Slice.Eq.{bytes_eq-Decides}
use denote.Ref.{Bor}
use Rattle.name_tables.specs.Slots.{slot_number}
use Rattle.name_tables.specs.Adding.{or_else}
use Rattle.name_tables.specs.Looking.{Entries, Others, other_index, is_named, index_by, held_by, index_in}
use Rattle.name_tables.proofs.Lists.{get_before, get_same, none_some}

pub other_empty : (others : Others) → others.entries ≡ [] → (name : List ℕ) → other_index others name ≡ None
other_empty others e name = ap (lookup (is_at (λ (k : Bor (List ℕ)). slice_cmp nat_cmp name k.now))) e

pub other_same : (m n : Others) → n.entries ≡ m.entries → (name : List ℕ) → other_index n name ≡ other_index m name
other_same m n e name = ap (lookup (is_at (λ (k : Bor (List ℕ)). slice_cmp nat_cmp name k.now))) e

module _ {T : Type 0} (es : Entries T) (others : Others) where
  -- a name whose slot is free is not in the map
  pub index_free : (slots : List ℕ) (name : List ℕ) → held_by slots name ≡ Some 0 → index_in es slots others name ≡ None
  index_free slots name h = ap (index_by es others name) h

  none_by : (name : List ℕ) (o : Option ℕ) → other_index others name ≡ None → ((x : ℕ) → o ≡ Some x → 0 ≡ x) → index_by es others name o ≡ None
  none_by name None n z = n
  none_by name (Some zero) n z = refl
  none_by name (Some (suc k)) n z = let e = z (suc k) refl in absurd (omega (arith, e))

  -- where all slots are free, no name is there
  pub index_none : (slots : List ℕ) (count : ℕ) → slots ≡ replicate count 0 → ((name : List ℕ) → other_index others name ≡ None) → (name : List ℕ) → index_in es slots others name ≡ None
  index_none slots count e n name = none_by name (held_by slots name) (n name) (λ x h. get_same count (slot_number name (length slots)) 0 x (ap (λ s. slice_get s (slot_number name (length slots))) (sym e) ∙ h))

  other_by : (name : List ℕ) (o : Option ℕ) → (o ≡ Some 0 → ⊥) → index_by es others name o ≡ None → other_index others name ≡ None
  other_by name None b h = h
  other_by name (Some zero) b h = absurd (b refl)
  other_by name (Some (suc k)) b h = by (is_named (slice_get es k) name) h
    where
      by : (t : Bool) → cond t (Some k) (other_index others name) ≡ None → other_index others name ≡ None
      by true e = absurd (none_some k (sym e))
      by false e = e

  -- a name that is not in the map, and whose slot is not free, is not in the ordered map
  pub other_none : (slots : List ℕ) (name : List ℕ) → (held_by slots name ≡ Some 0 → ⊥) → index_in es slots others name ≡ None → other_index others name ≡ None
  other_none slots name b h = other_by name (held_by slots name) b h

  -- an entry more changes no index
  pub index_more : (e : Bor (List ℕ) × T) (name : List ℕ) (o : Option ℕ) → ((k : ℕ) → o ≡ Some (suc k) → k < length es) → index_by (es ++ e ∷ []) others name o ≡ index_by es others name o
  index_more e name None h = refl
  index_more e name (Some zero) h = refl
  index_more e name (Some (suc k)) h = ap (λ z. cond (is_named z name) (Some k) (other_index others name)) (get_before es (e ∷ []) k (h k refl))

pub longer : {X : Type 0} (xs : List X) (x : X) (k : ℕ) → k < length xs → k < length (xs ++ x ∷ [])
longer xs x k l = let e : length (xs ++ x ∷ []) ≡ _ = length-append xs (x ∷ []) in omega (arith, l, e)

new_by : (b : Bool) (f : Option ℕ) (k : ℕ) → (b ≡ true → f ≡ None) → cond b (Some k) f ≡ or_else f (cond b (Some k) None)
new_by true f k h = ap (λ z. or_else z (Some k)) (sym (h refl))
new_by false None k h = refl
new_by false (Some p) k h = refl

-- to get a value where there was none
pub adds_new : (p q : List ℕ → Option ℕ) (name : List ℕ) (k : ℕ) → None ≡ p name → ((o : List ℕ) → q o ≡ update bytes_eq p name (Some k) o)
    → (o : List ℕ) → q o ≡ or_else (p o) (cond (bytes_eq name o) (Some k) None)
adds_new p q name k h u o = u o ∙ new_by (bytes_eq name o) (p o) k (λ e. ap p (sym ((bytes_eq-Decides name o).0 e)) ∙ sym h)
