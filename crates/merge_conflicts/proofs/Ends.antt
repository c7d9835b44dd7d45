-- The last conflict of some, and its findings at the end of theirs.
use Rattle.std.proofs.Common.{◌≡◌, ℕ, ◌-◌, List, [], ◌∷◌, ◌++◌, length, take, drop, Bool, refl, sym, ap, ◌∙◌, append_assoc, length-append, subst}
use Rattle.std.proofs.Math.Nat.{add-sub_cancel}
use Rattle.std.proofs.Math.Seq.{drop-append_seam, take-append_seam}
use Rattle.merge_sets.specs.declared.node.Entry.{Entry}
use Rattle.merge_sets.specs.declared.finding.Finding.{Finding}
use Rattle.merge_sets.specs.declared.finding.Finding.TheVariants.{Direct, Nested}
use Rattle.merge_conflicts.specs.declared.parts.Part.{Part}
use Rattle.merge_conflicts.specs.Reports.{Reports, none, direct, nested, postfix}
use Rattle.merge_conflicts.specs.declared.parts.Why.TheVariants as why
use denote.Ref.{Bor}
use Rattle.merge_conflicts.specs.Parts.{part_of, ArePartsOf, no_parts, and_direct, and_nested}

-- the one, then the other
abbrev pub together : {X : Type 0} → Reports X → Reports X → Reports X
together none ys = ys
together (direct a b e rest) ys = direct a b e (together rest ys)
together (nested a b below rest) ys = nested a b below (together rest ys)

pub postfix-together : (xs ys : Reports Entry) → postfix (together xs ys) ≡ postfix xs ++ postfix ys
postfix-together none ys = refl
postfix-together (direct a b e rest) ys = ap (λ fs. Direct a b e ∷ fs) (postfix-together rest ys)
postfix-together (nested a b below rest) ys =
    ap (λ fs. postfix below ++ (Nested a b (length (postfix below)) ∷ fs)) (postfix-together rest ys)
    ∙ sym (append_assoc (postfix below) (Nested a b (length (postfix below)) ∷ postfix rest) (postfix ys))

pub parts-together : {xs ys : Reports Entry} {ps qs : List Part} → ArePartsOf xs ps → ArePartsOf ys qs → ArePartsOf (together xs ys) (ps ++ qs)
parts-together no_parts k = k
parts-together (and_direct e h) k = and_direct e (parts-together h k)
parts-together (and_nested found is h) k = and_nested found is (parts-together h k)

-- some are none, or there is a last one
data Ends : Reports Entry → Type 0 where
  nothing : Ends none
  with_direct : (front : Reports Entry) (a b : Entry) (e : Bool) → Ends (together front (direct a b e none))
  with_nested : (front : Reports Entry) (a b : Entry) (below : Reports Entry) → Ends (together front (nested a b below none))

behind_direct : (a b : Entry) (e : Bool) {rest : Reports Entry} → Ends rest → Ends (direct a b e rest)
behind_direct a b e nothing = with_direct none a b e
behind_direct a b e (with_direct front c d f) = with_direct (direct a b e front) c d f
behind_direct a b e (with_nested front c d below) = with_nested (direct a b e front) c d below

behind_nested : (a b : Entry) (under : Reports Entry) {rest : Reports Entry} → Ends rest → Ends (nested a b under rest)
behind_nested a b under nothing = with_nested none a b under
behind_nested a b under (with_direct front c d f) = with_direct (nested a b under front) c d f
behind_nested a b under (with_nested front c d below) = with_nested (nested a b under front) c d below

ends : (rs : Reports Entry) → Ends rs
ends none = nothing
ends (direct a b e rest) = behind_direct a b e (ends rest)
ends (nested a b below rest) = behind_nested a b below (ends rest)

-- the last of two equal lists, and what stands before it
snoc_same : {A : Type 0} (xs ys : List A) (x y : A) → xs ++ x ∷ [] ≡ ys ++ y ∷ [] → (xs ≡ ys) × (x ≡ y)
snoc_same [] [] x y h = (refl, cc)
snoc_same [] (b ∷ []) x y h = cc
snoc_same [] (b ∷ (c ∷ ys)) x y h = cc
snoc_same (a ∷ []) [] x y h = cc
snoc_same (a ∷ (c ∷ xs)) [] x y h = cc
snoc_same (a ∷ xs) (b ∷ ys) x y h =
    let t : xs ++ x ∷ [] ≡ ys ++ y ∷ [] = cc in
    let r = snoc_same xs ys x y t in
    let first : a ≡ b = cc in
    let others : xs ≡ ys = r.0 in
    (cc, r.1)

no_snoc : {A : Type 0} (xs : List A) (x : A) → xs ++ x ∷ [] ≡ [] → ⊥
no_snoc [] x h = cc
no_snoc (a ∷ xs) x h = cc

abbrev EndsBy : Reports Entry → List Finding → Finding → Type 0
EndsBy rs before (Direct a b e) = (front : Reports Entry) × (before ≡ postfix front) × (rs ≡ together front (direct a b e none))
EndsBy rs before (Nested a b k) =
    (front : Reports Entry) × (below : Reports Entry) × (before ≡ postfix front ++ postfix below) × (k ≡ length (postfix below)) × (rs ≡ together front (nested a b below none))

direct_end : (front : Reports Entry) (a b : Entry) (e : Bool) (before : List Finding) (x : Finding) → before ++ x ∷ [] ≡ postfix front ++ Direct a b e ∷ [] → EndsBy (together front (direct a b e none)) before x
direct_end front a b e before x h =
    let r = snoc_same before (postfix front) x (Direct a b e) h in
    subst (EndsBy (together front (direct a b e none)) before) (sym r.1) (front, r.0, refl)

nested_end : (front : Reports Entry) (a b : Entry) (below : Reports Entry) (before : List Finding) (x : Finding)
    → before ++ x ∷ [] ≡ postfix front ++ (postfix below ++ Nested a b (length (postfix below)) ∷ []) → EndsBy (together front (nested a b below none)) before x
nested_end front a b below before x h =
    let r = snoc_same before (postfix front ++ postfix below) x (Nested a b (length (postfix below))) (h ∙ sym (append_assoc (postfix front) (postfix below) (Nested a b (length (postfix below)) ∷ []))) in
    subst (EndsBy (together front (nested a b below none)) before) (sym r.1) (front, below, r.0, refl, refl)

by_ends : {rs : Reports Entry} → Ends rs → (before : List Finding) (x : Finding) → before ++ x ∷ [] ≡ postfix rs → EndsBy rs before x
by_ends nothing before x h = absurd (no_snoc before x h)
by_ends (with_direct front a b e) before x h = direct_end front a b e before x (h ∙ postfix-together front (direct a b e none))
by_ends (with_nested front a b below) before x h = nested_end front a b below before x (h ∙ postfix-together front (nested a b below none))

pub ends_by : (rs : Reports Entry) (before : List Finding) (x : Finding) → before ++ x ∷ [] ≡ postfix rs → EndsBy rs before x
ends_by rs = by_ends (ends rs)

no_middle : {A : Type 0} (xs : List A) (x : A) (ys : List A) → [] ≡ xs ++ x ∷ ys → ⊥
no_middle [] x ys h = cc
no_middle (a ∷ xs) x ys h = cc

pub none_of : (rs : Reports Entry) → [] ≡ postfix rs → rs ≡ none
none_of none h = refl
none_of (direct a b e rest) h = cc
none_of (nested a b below rest) h = absurd (no_middle (postfix below) (Nested a b (length (postfix below))) (postfix rest) h)

abbrev pub EndsFor : Reports Entry → List Finding → Part → Type 0
EndsFor rs rest p = (before : Reports Entry) × (rest ≡ postfix before) × ((parts : List Part) → ArePartsOf before parts → ArePartsOf rs (parts ++ p ∷ []))

pub last_direct : (rs : Reports Entry) (before : List Finding) (a b : Entry) (e : Bool) → before ++ Direct a b e ∷ [] ≡ postfix rs → EndsFor rs before (part_of a b (why.Direct e))
last_direct rs before a b e h =
    let r = ends_by rs before (Direct a b e) h in
    (r.0, r.1, λ parts k. subst (λ q. ArePartsOf q (parts ++ part_of a b (why.Direct e) ∷ [])) (sym r.2) (parts-together k (and_direct e no_parts)))

take_front : (xs ys : List Finding) → take (length (xs ++ ys) - length ys) (xs ++ ys) ≡ xs
take_front xs ys = ap (λ n. take n (xs ++ ys)) (ap (λ n. n - length ys) (length-append xs ys) ∙ add-sub_cancel (length xs) (length ys)) ∙ take-append_seam xs ys

drop_front : (xs ys : List Finding) → drop (length (xs ++ ys) - length ys) (xs ++ ys) ≡ ys
drop_front xs ys = ap (λ n. drop n (xs ++ ys)) (ap (λ n. n - length ys) (length-append xs ys) ∙ add-sub_cancel (length xs) (length ys)) ∙ drop-append_seam xs ys

pub last_nested : (rs : Reports Entry) (before : List Finding) (a b : Entry) (k : ℕ) (rest : List Finding) (found : Bor (List Finding))
    → before ++ Nested a b k ∷ [] ≡ postfix rs → rest ≡ take (length before - k) before → found.now ≡ drop (length before - k) before → EndsFor rs rest (part_of a b (why.Below found))
last_nested rs before a b k rest found h is_rest is_found =
    let r = ends_by rs before (Nested a b k) h in
    let at_rest : take (length before - k) before ≡ postfix r.0 = ap (λ n. take (length before - n) before) r.3 ∙ ap (λ q. take (length q - length (postfix r.1)) q) r.2 ∙ take_front (postfix r.0) (postfix r.1) in
    let at_found : drop (length before - k) before ≡ postfix r.1 = ap (λ n. drop (length before - n) before) r.3 ∙ ap (λ q. drop (length q - length (postfix r.1)) q) r.2 ∙ drop_front (postfix r.0) (postfix r.1) in
    (r.0, is_rest ∙ at_rest, λ parts j. subst (λ q. ArePartsOf q (parts ++ part_of a b (why.Below found) ∷ [])) (sym r.4) (parts-together j (and_nested found (is_found ∙ at_found) no_parts)))

pub none_of_empty : (rs : Reports Entry) (xs : List Finding) → length xs ≡ 0 → xs ≡ postfix rs → rs ≡ none
none_of_empty rs [] n h = none_of rs h
none_of_empty rs (x ∷ xs) n h = cc
