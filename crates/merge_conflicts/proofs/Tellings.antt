-- What is told of parts, and what is written of it.
use Rattle.std.proofs.Common.{◌≡◌, ℕ, List, [], ◌∷◌, ◌++◌, map, length, Bool, Some, slice_get, option_map, refl, sym, ap, subst, ◌∙◌, append_assoc, codes}
use denote.Ref.{Bor}
use Rattle.std.proofs.lemmas.List.{append-nil}
use Rattle.std.proofs.lemmas.Option.{slice_get-map, same_Some}
use Rattle.language_types.specs.declared.position.SourcePosition.{SourcePosition}
use Rattle.merge_sets.specs.declared.node.Entry.{Entry}
use Rattle.merge_sets.specs.declared.finding.Finding.{Finding}
use Rattle.schema.specs.Catalog.{Catalog}
use Rattle.merge_field_pairs.specs.declared.entry.Entry as field
use Rattle.merge_field_pairs.specs.Entries.{PlainEntry, plain, response_of}
use Rattle.merge_conflicts.specs.declared.account.Account.{Account}
use Rattle.merge_conflicts.specs.declared.parts.Part.{Part}
use Rattle.merge_conflicts.specs.declared.parts.Why.{Why}
use Rattle.merge_conflicts.specs.declared.parts.Why.TheVariants as why
use Rattle.merge_conflicts.specs.Reports.{Reports, AreReportsOf, of_none, of_direct, of_nested}
use Rattle.merge_conflicts.specs.Parts.{ArePartsOf, no_parts, and_direct, and_nested}
use Rattle.merge_conflicts.specs.Texts.{Told, told, told_over, place_of}
use Rattle.merge_conflicts.specs.Telling.{Adds, AddsNested, AddsJoined, AddsBehind, IsToldBy, IsToldOf, AreToldOf, none, more}

pub adds_then : {x y : List ℕ} {ls ms rs ss : List SourcePosition} {a b c : Account} → Adds x ls rs a b → Adds y ms ss b c → Adds (x ++ y) (ls ++ ms) (rs ++ ss) a c
adds_then {x} {y} {ls} {ms} {rs} {ss} h k = record {
  text_added = k.text_added ∙ ap (λ t. t ++ y) h.text_added ∙ append_assoc _ x y;
  lefts_added = k.lefts_added ∙ ap (λ t. t ++ ms) h.lefts_added ∙ append_assoc _ ls ms;
  rights_added = k.rights_added ∙ ap (λ t. t ++ ss) h.rights_added ∙ append_assoc _ rs ss;
}

pub adds_nothing : (a : Account) → Adds [] [] [] a a
adds_nothing a = record { text_added = sym (append-nil _); lefts_added = sym (append-nil _); rights_added = sym (append-nil _) }

module _ {S C : Type 0} (E : S → S → Bool) (schema : Catalog S C) (fields : List (PlainEntry S C)) where
  pub told_of_parts : {rs : Reports Entry} {ps : List Part} {ts : Reports (PlainEntry S C)} → ArePartsOf rs ps → AreReportsOf fields rs ts → AreToldOf E schema fields ps (told E schema ts)
  told_of_parts no_parts of_none = none
  told_of_parts (and_direct e h) (of_direct f x y k) = more (record { first = _; second = _; is_first = x; is_second = y; by = refl }) (told_of_parts h k)
  told_of_parts (and_nested found is h) (of_nested x y below k) =
      more (record { first = _; second = _; is_first = x; is_second = y; by = (_, _, is, below, refl) }) (told_of_parts h k)

  -- of the same parts
  pub told_in : {rs : Reports Entry} {ps qs : List Part} {ts : Reports (PlainEntry S C)} → ArePartsOf rs ps → qs ≡ ps → AreReportsOf fields rs ts → AreToldOf E schema fields qs (told E schema ts)
  told_in {ts = ts} h same r = subst (λ qs. AreToldOf E schema fields qs (told E schema ts)) (sym same) (told_of_parts h r)

  -- of no part nothing is added
  pub adds_none : {ps : List Part} {us : List Told} → length ps ≡ 0 → AreToldOf E schema fields ps us → (a : Account) → AddsJoined us a a
  adds_none n none a = adds_nothing a
  adds_none n (more h k) a = cc

  pub behind_none : {ps : List Part} {us : List Told} → ps ≡ [] → AreToldOf E schema fields ps us → (a : Account) → AddsBehind us a a
  behind_none e none a = adds_nothing a
  behind_none e (more h k) a = cc

  -- what is left completes all, behind the first part and behind each further one
  abbrev pub Completes : List Part → List Told → Account → Account → Type 0
  Completes ps all a b = (left : List Told) × AreToldOf E schema fields ps left × ((now : Account) → AddsBehind left b now → AddsJoined all a now)

  pub behind_first : {p : Part} {ps : List Part} {all : List Told} {a b : Account} → AreToldOf E schema fields (p ∷ ps) all → ((t : Told) → IsToldOf E schema fields p t → AddsNested t a b) → Completes ps all a b
  behind_first (more h k) first = (_, k, λ now m. adds_then (first _ h) m)

  pub behind_next : (all : List Told) {p : Part} {ps : List Part} {left : List Told} {a b c d : Account} → AreToldOf E schema fields (p ∷ ps) left
      → ((now : Account) → AddsBehind left b now → AddsJoined all a now) → Adds (codes " and ") [] [] b c → ((t : Told) → IsToldOf E schema fields p t → AddsNested t c d) → Completes ps all a d
  behind_next all (more h k) whole m next = (_, k, λ now n. whole now (adds_then (adds_then m (next _ h)) n))

  -- of two fields, by what is added below them
  pub over_added : (below : List Told) {u : Told} {v w x y : PlainEntry S C} {a b c : Account} → u ≡ told_over E schema x y below → v ≡ x → w ≡ y
      → Adds [] (place_of v ∷ []) (place_of w ∷ []) a b → AddsJoined below b c → Adds u.reason u.lefts u.rights a c
  over_added below {w = w} {x = x} {a = a} {b = b} {c = c} is first second h k =
      subst (λ u. Adds u.reason u.lefts u.rights a c) (sym is)
      (adds_then (subst (λ z. Adds [] (place_of x ∷ []) (place_of z ∷ []) a b) second (subst (λ z. Adds [] (place_of z ∷ []) (place_of w ∷ []) a b) first h)) k)

  pub told_below : {p : Part} {u : Told} (found : Bor (List Finding)) (h : IsToldOf E schema fields p u) → p.why ≡ why.Below found → IsToldBy E schema fields (why.Below found) h.first h.second u
  told_below {u = u} found h is = subst (λ w. IsToldBy E schema fields w h.first h.second u) is h.by

  response_by : (w : Why) (x y : PlainEntry S C) (t : Told) → IsToldBy E schema fields w x y t → t.response ≡ response_of x
  response_by (why.Direct e) x y t h = ap (λ u. u.response) h
  response_by (why.Below found) x y t h = ap (λ u. u.response) h.4

  pub response_told : {p : Part} {t : Told} (h : IsToldOf E schema fields p t) → t.response ≡ response_of h.first
  response_told h = response_by _ h.first h.second _ h.by

-- a field that was looked up
pub same_field : {S C : Type 0} (fields : List (field.Entry S C)) (i : ℕ) (x : field.Entry S C) (y : PlainEntry S C) → slice_get fields i ≡ Some x → slice_get (map plain fields) i ≡ Some y → plain x ≡ y
same_field fields i x y e h = same_Some _ _ (sym (ap (option_map plain) e) ∙ sym (slice_get-map plain fields i) ∙ h)

pub around : (a b r : List ℕ) {n m : List ℕ} → n ≡ m → (a ++ (n ++ b)) ++ r ≡ a ++ (m ++ (b ++ r))
around a b r {n} same = append_assoc a (n ++ b) r ∙ ap (λ t. a ++ t) (append_assoc n b r) ∙ ap (λ n. a ++ (n ++ (b ++ r))) same

pub nested_added : (t : Told) {name : List ℕ} {a b c : Account} → name ≡ t.response
    → Adds (codes "subfields \"" ++ (name ++ codes "\" conflict because ")) [] [] a b → Adds t.reason t.lefts t.rights b c → AddsNested t a c
nested_added t {a = a} {c = c} same h k =
    subst (λ x. Adds x t.lefts t.rights a c) (around (codes "subfields \"") (codes "\" conflict because ") t.reason same) (adds_then h k)
