-- How what is told of some tasks joins.
use Rattle.std.proofs.Common.{◌≡◌, ℕ, ◌+◌, ◌<◌, ◌≤◌, List, [], ◌∷◌, ◌++◌, map, length, reverse, drop, get_or, Bool, refl, sym, ap, subst, ◌∙◌, codes, arith, Some, None, slice_get, option_map}
use Rattle.std.proofs.lemmas.Option.{slice_get-map, slice_get_past}
use Rattle.merge_field_pairs.specs.declared.entry.Entry as field
use Rattle.std.proofs.lemmas.List.{reverse-append, drop_more}
use Rattle.std.proofs.Math.ListN.{drop_of_length-le}
use Rattle.schema.specs.Catalog.{Catalog}
use Rattle.merge_field_pairs.specs.Entries.{PlainEntry, plain}
use Rattle.merge_conflicts.specs.declared.account.Account.{Account}
use Rattle.merge_conflicts.specs.declared.parts.Part.{Part}
use Rattle.merge_conflicts.specs.declared.reasons.Task.{Task}
use Rattle.merge_conflicts.specs.declared.reasons.Task.TheVariants.{One, Others}
use Rattle.merge_conflicts.specs.Texts.{Told, told_directly, reason_between, place_of}
use Rattle.merge_conflicts.specs.declared.parts.Why.{Why}
use Rattle.merge_conflicts.specs.Telling.{Adds, AddsBehind, IsToldBy, IsToldOf, AreToldOf, more}
use Rattle.merge_conflicts.specs.Tasks.{AreLeft, IsWaiting, MeetsPart, MeetsParts, Meets, MeetsAll, Leads}
use Rattle.merge_conflicts.proofs.Tellings.{adds_then, adds_nothing, behind_none}

pushed : {A : Type 0} (ts : List A) (t : A) → reverse (ts ++ t ∷ []) ≡ t ∷ reverse ts
pushed ts t = reverse-append ts (t ∷ [])

two_pushed : {A : Type 0} (ts : List A) (a b : A) → reverse (ts ++ a ∷ b ∷ []) ≡ b ∷ a ∷ reverse ts
two_pushed ts a b = reverse-append ts (a ∷ b ∷ [])

-- there is no such field
pub absent_field : {S C : Type 0} (fields : List (field.Entry S C)) (i : ℕ) (y : PlainEntry S C) {X : Type 0} → length fields ≤ i → slice_get (map plain fields) i ≡ Some y → X
absent_field fields i y l h =
    let no : Some y ≡ None = sym h ∙ slice_get-map plain fields i ∙ ap (option_map plain) (slice_get_past fields i l) in
    cc

-- the parts that wait are those that are listed
pub waiting_some : (ps : List Part) (p : Part) (old new : List Task) (others : Task) → 0 < length ps → p ≡ get_or ps 0 p → AreLeft (drop 1 ps) others → new ≡ old ++ others ∷ One p ∷ []
    → IsWaiting ps old new
waiting_some [] p old new others l is left h = absurd (omega (arith, l))
waiting_some (q ∷ qs) p old new others l is left h = (others, left, subst (λ x. new ≡ old ++ others ∷ One x ∷ []) is h)

pub waiting_none : (ps : List Part) (old : List Task) → ps ≡ [] → IsWaiting ps old old
waiting_none ps old h = subst (λ xs. IsWaiting xs old old) (sym h) refl

module _ {S C : Type 0} (E : S → S → Bool) (schema : Catalog S C) (fields : List (PlainEntry S C)) where
  pub told_by : {p : Part} {u : Told} (y : Why) (h : IsToldOf E schema fields p u) → p.why ≡ y → IsToldBy E schema fields y h.first h.second u
  told_by {u = u} y h is = subst (λ w. IsToldBy E schema fields w h.first h.second u) is h.by

  -- of two fields that fail by themselves
  pub direct_added : (e : Bool) {u : Told} {v w x y : PlainEntry S C} {a b : Account} → u ≡ told_directly E schema e x y → v ≡ x → w ≡ y
      → Adds (reason_between E schema e v w) (place_of v ∷ []) (place_of w ∷ []) a b → Adds u.reason u.lefts u.rights a b
  direct_added e {w = w} {x = x} {a = a} {b = b} is first second h =
      subst (λ u. Adds u.reason u.lefts u.rights a b) (sym is)
      (subst (λ z. Adds (reason_between E schema e x z) (place_of x ∷ []) (place_of z ∷ []) a b) second
      (subst (λ z. Adds (reason_between E schema e z w) (place_of z ∷ []) (place_of w ∷ []) a b) first h))

  pub leads_done : (R : Account → Account → Type 0) (ts : List Task) (old now : Account) → R old now → Leads E schema fields ts now R ts old
  leads_done R ts old now r end m = (now, r, m)

  pub leads_turn : (R T : Account → Account → Type 0) (ts us : List Task) (mid old now : Account) → ((t : Account) → R mid t → T old t)
      → Leads E schema fields ts now R us mid → Leads E schema fields ts now T us old
  leads_turn R T ts us mid old now f go end m = let x = go end m in (x.0, f x.0 x.1, x.2)

  pub leads_task : (t u : Task) (ts us : List Task) (now old : Account) → t ≡ u
      → Leads E schema fields ts now (Meets E schema fields u) us old → Leads E schema fields ts now (Meets E schema fields t) us old
  leads_task t u ts us now old e go = subst (λ z. Leads E schema fields ts now (Meets E schema fields z) us old) (sym e) go

  -- what comes after it waits
  pub leads_next : (R T : Account → Account → Type 0) (t : Task) (ts us vs : List Task) (now mid old : Account) → us ≡ vs ++ t ∷ []
      → ((x y : Account) → R mid x → Meets E schema fields t x y → T old y)
      → Leads E schema fields ts now R (reverse us) mid → Leads E schema fields ts now T (reverse vs) old
  leads_next R T t ts us vs now mid old h f go end m =
      let x = go end m in
      let all : MeetsAll E schema fields (t ∷ reverse vs) (x.0) end = subst (λ zs. MeetsAll E schema fields zs (x.0) end) (ap reverse h ∙ pushed vs t) x.2 in
      (all.0, f (x.0) (all.0) x.1 all.1, all.2)

  first_then : (p : Part) (ps : List Part) (others : Task) (a b c : Account) → AreLeft ps others → MeetsPart E schema fields p a b → Meets E schema fields others b c → MeetsParts E schema fields (p ∷ ps) a c
  first_then p ps (One q) a b c left one rest ts told = absurd left
  first_then p ps (Others all k) a b c left one rest [] told = elim told [ ]
  first_then p ps (Others all k) a b c left one rest (t ∷ us) (more h z) =
      adds_then (one t h) (rest us (subst (λ qs. AreToldOf E schema fields qs us) (sym left) z))

  no_parts : (a : Account) → MeetsParts E schema fields [] a a
  no_parts a [] told = adds_nothing a
  no_parts a (t ∷ ts) told = elim told [ ]

  -- the parts that wait are told
  pub leads_parts : (ps : List Part) (old new : List Task) (now : Account) → IsWaiting ps old new → Leads E schema fields (reverse new) now (MeetsParts E schema fields ps) (reverse old) now
  leads_parts [] old new now h end m = (now, no_parts now, subst (λ ts. MeetsAll E schema fields (reverse ts) now end) h m)
  leads_parts (p ∷ ps) old new now h end m =
      let others : Task = h.0 in
      let all : MeetsAll E schema fields (One p ∷ others ∷ reverse old) now end = subst (λ ts. MeetsAll E schema fields ts now end) (ap reverse h.2 ∙ two_pushed old others (One p)) m in
      (all.2.0, first_then p ps others now (all.0) (all.2.0) h.1 all.1 all.2.1, all.2.2)

  -- no part is left
  pub others_none : (ps : List Part) (k : ℕ) (a : Account) → length ps ≤ k → (ts : List Told) → AreToldOf E schema fields (drop k ps) ts → AddsBehind ts a a
  others_none ps k a l ts told = behind_none E schema fields (drop_of_length-le ps l) told a

  behind_more : (p : Part) (ps : List Part) (ts : List Told) (a b c d : Account) → AreToldOf E schema fields (p ∷ ps) ts → Adds (codes " and ") [] [] a b → MeetsPart E schema fields p b c
      → ((us : List Told) → AreToldOf E schema fields ps us → AddsBehind us c d) → AddsBehind ts a d
  behind_more p ps [] a b c d told m one rest = elim told [ ]
  behind_more p ps (t ∷ us) a b c d (more h z) m one rest = adds_then (adds_then m (one t h)) (rest us z)

  -- one is told behind another, and then those that are left
  pub others_next : (ps : List Part) (k : ℕ) (p : Part) (a b c d : Account) → k < length ps → p ≡ get_or ps k p → Adds (codes " and ") [] [] a b → MeetsPart E schema fields p b c
      → ((us : List Told) → AreToldOf E schema fields (drop (k + 1) ps) us → AddsBehind us c d) → (ts : List Told) → AreToldOf E schema fields (drop k ps) ts → AddsBehind ts a d
  others_next ps k p a b c d l is m one rest ts told =
      behind_more p (drop (k + 1) ps) ts a b c d (subst (λ qs. AreToldOf E schema fields qs ts) (drop_more ps k p l ∙ ap (λ q. q ∷ drop (k + 1) ps) (sym is)) told) m one rest

  -- a task that was taken off leads on
  pub taken : (ts rest new us : List Task) (t : Task) (now mid old : Account) → ts ≡ rest ++ t ∷ []
      → ((end : Account) → MeetsAll E schema fields (reverse ts) mid end → MeetsAll E schema fields us old end)
      → Leads E schema fields (reverse new) now (Meets E schema fields t) (reverse rest) mid
      → (end : Account) → MeetsAll E schema fields (reverse new) now end → MeetsAll E schema fields us old end
  taken ts rest new us t now mid old e h go end m = h end (subst (λ vs. MeetsAll E schema fields vs mid end) (sym (ap reverse e ∙ pushed rest t)) (go end m))

  -- with all tasks done, so is what led to them
  pub all_done : (R : Account → Account → Type 0) (ts us : List Task) (now old end : Account) → us ≡ [] → Leads E schema fields ts now R (reverse us) old → MeetsAll E schema fields ts now end → R old end
  all_done R ts us now old end empty go m =
      let x = go end m in
      let same : x.0 ≡ end = subst (λ vs. MeetsAll E schema fields (reverse vs) (x.0) end) empty x.2 in
      subst (λ z. R old z) same x.1

  pub none_left : (ts us : List Task) (now old : Account) → ts ≡ []
      → ((end : Account) → MeetsAll E schema fields (reverse ts) now end → MeetsAll E schema fields us old end) → MeetsAll E schema fields us old now
  none_left ts us now old e h = h now (subst (λ vs. MeetsAll E schema fields (reverse vs) now now) (sym e) refl)
