-- The values of names when one is added.
use Rattle.std.proofs.Common.{◌≡◌, ◌∙◌, ℕ, ◌<◌, List, [], ◌∷◌, ◌++◌, length, refl, sym, ap, subst, zero, suc, Bool, true, false, cond, Option, Some, None, option_map, slice_get}
use Rattle.std.specs.Option.{is_some}
use Rattle.std.specs.Str.{bytes_eq}
use Rattle.std.proofs.lemmas.Slice.Eq.{bytes_eq-Decides}
use denote.Ref.{Bor}
use Rattle.name_tables.specs.declared.map.NameMap.{NameMap}
use Rattle.name_tables.specs.Adding.{or_else, Adds}
use Rattle.name_tables.specs.Looking.{Entries, Others, is_named, other_index, index_by, held_by, AreWithin}
use Rattle.name_tables.specs.Maps.{entries_of, index_of, value_at, value_of}
use Rattle.name_tables.proofs.Lists.{get_before, get_last, get_some, none_some, same_some}

within_by : {T : Type 0} (es : Entries T) (others : Others) (name : List ℕ) (o : Option ℕ) (k : ℕ) → AreWithin es others → ((j : ℕ) → o ≡ Some (suc j) → j < length es)
    → index_by es others name o ≡ Some k → k < length es
within_by es others name None k w h e = w name k e
within_by es others name (Some zero) k w h e = absurd (none_some k e)
within_by es others name (Some (suc j)) k w h e = by (is_named (slice_get es j) name) e
  where
    by : (t : Bool) → cond t (Some j) (other_index others name) ≡ Some k → k < length es
    by true p = subst (λ n. n < length es) (same_some j k p) (h j refl)
    by false p = w name k p

-- an index is one of an entry
pub index_within : {T : Type 0} (m : NameMap T) (name : List ℕ) (k : ℕ) → index_of m name ≡ Some k → k < length (entries_of m)
index_within m name k e = within_by (entries_of m) m.others name (held_by m.slots.items name) k m.within (λ j. m.held _ j) e

module _ {T : Type 0} (old new : NameMap T) (name : Bor (List ℕ)) (value : T) (a : Adds name value old new) where
  entries_by : (o : Option ℕ) → index_of old name.now ≡ o → entries_of new ≡ cond (is_some o) (entries_of old) (entries_of old ++ (name, value) ∷ [])
  entries_by o h = a.entries ∙ ap (λ z. cond (is_some z) (entries_of old) (entries_of old ++ (name, value) ∷ [])) h

  -- an entry stays where it is
  entry_kept : (o : Option ℕ) → index_of old name.now ≡ o → (k : ℕ) → k < length (entries_of old) → slice_get (entries_of new) k ≡ slice_get (entries_of old) k
  entry_kept None h k l = ap (λ es. slice_get es k) (entries_by None h) ∙ get_before (entries_of old) ((name, value) ∷ []) k l
  entry_kept (Some j) h k l = ap (λ es. slice_get es k) (entries_by (Some j) h)

  here : index_of old name.now ≡ None → slice_get (entries_of new) (length (entries_of old)) ≡ Some (name, value)
  here h = ap (λ es. slice_get es (length (entries_of old))) (entries_by None h) ∙ get_last (entries_of old) (name, value)

  found : (other : List ℕ) (k : ℕ) → index_of old other ≡ Some k → value_at (entries_of new) (Some k) ≡ or_else (value_of old other) (cond (bytes_eq name.now other) (Some value) None)
  found other k h =
      let l = index_within old other k h in
      let (e, is) = get_some (entries_of old) k l in
      ap (option_map (λ z. z.1)) (entry_kept (index_of old name.now) refl k l ∙ is)
      ∙ sym (ap (λ o. or_else o (cond (bytes_eq name.now other) (Some value) None)) (ap (value_at (entries_of old)) h ∙ ap (option_map (λ z. z.1)) is))

  added : (other : List ℕ) (b : Bool) → bytes_eq name.now other ≡ b → index_of old other ≡ None
      → value_at (entries_of new) (cond b (Some (length (entries_of old))) None) ≡ or_else (value_of old other) (cond b (Some value) None)
  added other true e h =
      ap (option_map (λ z. z.1)) (here (ap (index_of old) ((bytes_eq-Decides name.now other).0 e) ∙ h))
      ∙ sym (ap (λ o. or_else o (Some value)) (ap (value_at (entries_of old)) h))
  added other false e h = sym (ap (λ o. or_else o None) (ap (value_at (entries_of old)) h))

  by_index : (other : List ℕ) (o : Option ℕ) → index_of old other ≡ o → value_of new other ≡ or_else (value_of old other) (cond (bytes_eq name.now other) (Some value) None)
  by_index other None h =
      ap (value_at (entries_of new)) (a.indices other ∙ ap (λ o. or_else o (cond (bytes_eq name.now other) (Some (length (entries_of old))) None)) h)
      ∙ added other (bytes_eq name.now other) refl h
  by_index other (Some k) h =
      ap (value_at (entries_of new)) (a.indices other ∙ ap (λ o. or_else o (cond (bytes_eq name.now other) (Some (length (entries_of old))) None)) h)
      ∙ found other k h

  pub values_noted : (other : List ℕ) → value_of new other ≡ or_else (value_of old other) (cond (bytes_eq name.now other) (Some value) None)
  values_noted other = by_index other (index_of old other) refl

  -- a name that was there keeps what belongs to it
  pub value_there : (k : ℕ) → Some k ≡ index_of old name.now → value_at (entries_of new) (Some k) ≡ value_of old name.now
  value_there k h = ap (λ es. value_at es (Some k)) (entries_by (Some k) (sym h)) ∙ ap (value_at (entries_of old)) h
