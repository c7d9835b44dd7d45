-- Where no escape stands, the scanner stops at the first byte with which none goes on.
use Rattle.std.proofs.Common.{◌≡◌, ◌⊎◌, ◌<◌, ◌+◌, inl, inr, ℕ, suc, List, [], ◌∷◌, ◌++◌, Bool, true, false, not, ◌==◌, if◌then◌else◌, Option, Some, None, Result, Ok, Err, length, take, drop, refl, sym, ap, subst, ◌∙◌, arith, append_assoc}
use Rattle.std.proofs.lemmas.Bool.Decides.{nat_tests}
use Rattle.std.proofs.lemmas.List.{take-append-drop, append-nil}
use Rattle.std.specs.List.{list_all}
use Rattle.std.specs.Char.Utf16.{is_high_surrogate, is_low_surrogate, surrogate_pair_char}
use Rattle.graphql_strings.specs.Characters.{at}
use Rattle.graphql_strings.specs.StringFaults.{IsWritten, character_written, unit_written, pair_written, GoesOn, Stops}
use Rattle.graphql_strings.specs.StringValues.{escaped_character, is_hex, code_unit, IsEscapedUnicode, IsEscape}
use Rattle.graphql_strings.specs.Unescaping.{and_then, found_or, unit_at, pair_at, unicode_at, escape_at}
use Rattle.graphql_strings.proofs.EscapeLaws.{found_at, zero_no_character, same_number, all_four, spelled, Digits, unit_found_2, unit_found_8, escape_read}

-- ---- four digits of which some are there
abbrev Hex4 : List ℕ → Type 0
Hex4 s = (a : ℕ) × (b : ℕ) × (c : ℕ) × (d : ℕ) × (s ≡ a ∷ b ∷ c ∷ d ∷ []) × (is_hex a ≡ true) × (is_hex b ≡ true) × (is_hex c ≡ true) × (is_hex d ≡ true)

-- the digits before the one that is missing, and whether the text ends there
abbrev Missed : List ℕ → ℕ → Type 0
Missed xs k =
    ((more : List ℕ) × Hex4 (take k xs ++ more))
    × ((k ≡ length xs) ⊎ ((x : ℕ) × (ys : List ℕ) × (rest : List ℕ) × (take (suc k) xs ≡ ys ++ x ∷ []) × (length ys < 4) × (is_hex x ≡ false)))

missed_0 : (xs : List ℕ) → is_hex (at xs 0) ≡ false → Missed xs 0
missed_0 [] h = ((48 ∷ 48 ∷ 48 ∷ 48 ∷ [], (48, 48, 48, 48, refl, refl, refl, refl, refl)), inl refl)
missed_0 (x ∷ xs) h = ((48 ∷ 48 ∷ 48 ∷ 48 ∷ [], (48, 48, 48, 48, refl, refl, refl, refl, refl)), inr (x, [], xs, refl, omega arith, h))

missed_1 : (xs : List ℕ) → is_hex (at xs 0) ≡ true → is_hex (at xs 1) ≡ false → Missed xs 1
missed_1 [] p h = absurd cc
missed_1 (a ∷ []) p h = ((48 ∷ 48 ∷ 48 ∷ [], (a, 48, 48, 48, refl, p, refl, refl, refl)), inl refl)
missed_1 (a ∷ x ∷ xs) p h = ((48 ∷ 48 ∷ 48 ∷ [], (a, 48, 48, 48, refl, p, refl, refl, refl)), inr (x, a ∷ [], xs, refl, omega arith, h))

missed_2 : (xs : List ℕ) → is_hex (at xs 0) ≡ true → is_hex (at xs 1) ≡ true → is_hex (at xs 2) ≡ false → Missed xs 2
missed_2 [] p q h = absurd cc
missed_2 (a ∷ []) p q h = absurd cc
missed_2 (a ∷ b ∷ []) p q h = ((48 ∷ 48 ∷ [], (a, b, 48, 48, refl, p, q, refl, refl)), inl refl)
missed_2 (a ∷ b ∷ x ∷ xs) p q h = ((48 ∷ 48 ∷ [], (a, b, 48, 48, refl, p, q, refl, refl)), inr (x, a ∷ b ∷ [], xs, refl, omega arith, h))

missed_3 : (xs : List ℕ) → is_hex (at xs 0) ≡ true → is_hex (at xs 1) ≡ true → is_hex (at xs 2) ≡ true → is_hex (at xs 3) ≡ false → Missed xs 3
missed_3 [] p q r h = absurd cc
missed_3 (a ∷ []) p q r h = absurd cc
missed_3 (a ∷ b ∷ []) p q r h = absurd cc
missed_3 (a ∷ b ∷ c ∷ []) p q r h = ((48 ∷ [], (a, b, c, 48, refl, p, q, r, refl)), inl refl)
missed_3 (a ∷ b ∷ c ∷ x ∷ xs) p q r h = ((48 ∷ [], (a, b, c, 48, refl, p, q, r, refl)), inr (x, a ∷ b ∷ c ∷ [], xs, refl, omega arith, h))

four_missed : (p q r s : Bool) (i j k l u m : ℕ) → (if not p then Err i else if not q then Err j else if not r then Err k else if not s then Err l else Ok u) ≡ Err m
    → ((p ≡ false) × (i ≡ m)) ⊎ ((p ≡ true) × (q ≡ false) × (j ≡ m)) ⊎ ((p ≡ true) × (q ≡ true) × (r ≡ false) × (k ≡ m)) ⊎ ((p ≡ true) × (q ≡ true) × (r ≡ true) × (s ≡ false) × (l ≡ m))
four_missed false q r s i j k l u m h = inl (refl, cc)
four_missed true false r s i j k l u m h = inr (inl (refl, refl, cc))
four_missed true true false s i j k l u m h = inr (inr (inl (refl, refl, refl, cc)))
four_missed true true true false i j k l u m h = inr (inr (inr (refl, refl, refl, refl, cc)))
four_missed true true true true i j k l u m h = cc

abbrev MissedFrom : List ℕ → ℕ → ℕ → Type 0
MissedFrom xs n m = (k : ℕ) × (n + k ≡ m) × Missed xs k

missed_from : (xs : List ℕ) (n u m : ℕ) → (if not (is_hex (at xs 0)) then Err n else if not (is_hex (at xs 1)) then Err (n + 1) else if not (is_hex (at xs 2)) then Err (n + 2) else if not (is_hex (at xs 3)) then Err (n + 3) else Ok u) ≡ Err m → MissedFrom xs n m
missed_from xs n u m h =
    elim (four_missed (is_hex (at xs 0)) (is_hex (at xs 1)) (is_hex (at xs 2)) (is_hex (at xs 3)) n (n + 1) (n + 2) (n + 3) u m h) [
      | inl a ↦ (0, (let e = a.1 in omega arith), missed_0 xs a.0)
      | inr w ↦ elim w [
        | inl a ↦ (1, a.2, missed_1 xs a.0 a.1)
        | inr v ↦ elim v [
          | inl a ↦ (2, a.3, missed_2 xs a.0 a.1 a.2)
          | inr a ↦ (3, a.4, missed_3 xs a.0 a.1 a.2 a.3)
        ]
      ]
    ]

missed_from_2 : (xs : List ℕ) (m : ℕ) → unit_at (92 ∷ 117 ∷ xs) 2 ≡ Err m → MissedFrom xs 2 m
unfolding unit_at
missed_from_2 xs m h = missed_from xs 2 (code_unit (at xs 0) (at xs 1) (at xs 2) (at xs 3)) m h

missed_from_8 : (a b c d : ℕ) (xs : List ℕ) (m : ℕ) → unit_at (92 ∷ 117 ∷ a ∷ b ∷ c ∷ d ∷ 92 ∷ 117 ∷ xs) 8 ≡ Err m → MissedFrom xs 8 m
unfolding unit_at
missed_from_8 a b c d xs m h = missed_from xs 8 (code_unit (at xs 0) (at xs 1) (at xs 2) (at xs 3)) m h

-- ---- what goes on
unit_of : (s : List ℕ) → Hex4 s → (u : ℕ) × IsEscapedUnicode s u
unit_of s (a, b, c, d, same, p, q, r, t) = (code_unit a b c d, subst (λ w. IsEscapedUnicode w (code_unit a b c d)) (sym same) (spelled a b c d (code_unit a b c d) p q r t refl))

zeros : Hex4 (48 ∷ 48 ∷ 48 ∷ 48 ∷ [])
zeros = (48, 48, 48, 48, refl, refl, refl, refl, refl)

unit_goes_if : (s : List ℕ) (u : ℕ) (b : Bool) → is_high_surrogate u ≡ b → IsEscapedUnicode s u → (more : List ℕ) × IsWritten (92 ∷ 117 ∷ (s ++ more))
unit_goes_if s u true h e = let z = unit_of (48 ∷ 48 ∷ 48 ∷ 48 ∷ []) zeros in (92 ∷ 117 ∷ 48 ∷ 48 ∷ 48 ∷ 48 ∷ [], pair_written e h z.1)
unit_goes_if s u false h e = ([], rw (append-nil s) (unit_written e h))

-- digits that are the first of four go on
digits_go : (s more : List ℕ) → Hex4 (s ++ more) → GoesOn (92 ∷ 117 ∷ s)
digits_go s more h =
    let u = unit_of (s ++ more) h in
    let go = unit_goes_if (s ++ more) u.0 (is_high_surrogate u.0) refl u.1 in
    (more ++ go.0, subst (λ w. IsWritten (92 ∷ 117 ∷ w)) (append_assoc s more go.0) go.1)

second_go : (a b c d u : ℕ) (s more : List ℕ) → IsEscapedUnicode (a ∷ b ∷ c ∷ d ∷ []) u → is_high_surrogate u ≡ true → Hex4 (s ++ more) → GoesOn (92 ∷ 117 ∷ a ∷ b ∷ c ∷ d ∷ 92 ∷ 117 ∷ s)
second_go a b c d u s more e h k = let v = unit_of (s ++ more) k in (more, pair_written e h v.1)

-- ---- what does not
abbrev Shape : List ℕ → Type 0
Shape w =
    ((e : ℕ) × (c : ℕ) × (w ≡ 92 ∷ e ∷ []) × (escaped_character e ≡ Some c))
    ⊎ ((s : List ℕ) × (w ≡ 92 ∷ 117 ∷ s) × Hex4 s)
    ⊎ ((s : List ℕ) × (t : List ℕ) × (w ≡ 92 ∷ 117 ∷ (s ++ (92 ∷ 117 ∷ t))) × Hex4 s × Hex4 t)

hex_of : (s : List ℕ) (u : ℕ) → IsEscapedUnicode s u → Hex4 s
hex_of s u (a, b, c, d, same, hex, unit) =
    let f = all_four (is_hex a) (is_hex b) (is_hex c) (is_hex d) (subst (λ t. list_all is_hex t ≡ true) same hex) in
    (a, b, c, d, same, f.0, f.1, f.2, f.3)

shape : {w : List ℕ} → IsWritten w → Shape w
shape (character_written {e} {c} h) = inl (e, c, refl, h)
shape (unit_written {s} {u} h k) = inr (inl (s, refl, hex_of s u h))
shape (pair_written {s} {t} {u} {v} h k g) = inr (inr (s, t, refl, hex_of s u h, hex_of t v g))

-- four digits hold no other byte
hex_place : (ys : List ℕ) (x : ℕ) (r a b c d : ℕ) (more z : List ℕ) → ys ++ (x ∷ more) ≡ a ∷ b ∷ c ∷ d ∷ z → length ys < 4 → is_hex x ≡ false → is_hex a ≡ true → is_hex b ≡ true → is_hex c ≡ true → is_hex d ≡ true → ⊥
hex_place [] x r a b c d more z e l h p q s t = let same : x ≡ a = cc in let no : is_hex x ≡ true = ap is_hex same ∙ p in absurd (let bad : true ≡ false = sym no ∙ h in cc)
hex_place (y ∷ []) x r a b c d more z e l h p q s t = let same : x ≡ b = cc in let no : is_hex x ≡ true = ap is_hex same ∙ q in absurd (let bad : true ≡ false = sym no ∙ h in cc)
hex_place (y ∷ w ∷ []) x r a b c d more z e l h p q s t = let same : x ≡ c = cc in let no : is_hex x ≡ true = ap is_hex same ∙ s in absurd (let bad : true ≡ false = sym no ∙ h in cc)
hex_place (y ∷ w ∷ v ∷ []) x r a b c d more z e l h p q s t = let same : x ≡ d = cc in let no : is_hex x ≡ true = ap is_hex same ∙ t in absurd (let bad : true ≡ false = sym no ∙ h in cc)
hex_place (y ∷ w ∷ v ∷ u ∷ ys) x r a b c d more z e l h p q s t = absurd (omega arith)

hex_in : (ys : List ℕ) (x : ℕ) (more s z : List ℕ) → ys ++ (x ∷ more) ≡ s ++ z → length ys < 4 → is_hex x ≡ false → Hex4 s → ⊥
hex_in ys x more s z e l h (a, b, c, d, same, p, q, r, t) = hex_place ys x 0 a b c d more z (e ∙ ap (λ w. w ++ z) same) l h p q r t

some_more : (ys : List ℕ) (x : ℕ) (more : List ℕ) → ys ++ (x ∷ more) ≡ [] → ⊥
some_more [] x more h = absurd (let bad = h in cc)
some_more (y ∷ ys) x more h = absurd (let bad = h in cc)

-- a byte that is no digit, among the first four
digits_stop : (ys : List ℕ) (x : ℕ) → length ys < 4 → is_hex x ≡ false → GoesOn (92 ∷ 117 ∷ (ys ++ x ∷ [])) → ⊥
digits_stop ys x l h (more, w) =
    let whole = append_assoc ys (x ∷ []) more in
    elim (shape w) [
      | inl a ↦ some_more ys x more (sym whole ∙ ap (drop 2) a.2)
      | inr v ↦ elim v [
        | inl a ↦ hex_in ys x more a.0 [] (sym whole ∙ ap (drop 2) a.1 ∙ sym (append-nil a.0)) l h a.2
        | inr a ↦ hex_in ys x more a.0 (92 ∷ 117 ∷ a.1) (sym whole ∙ ap (drop 2) a.2) l h a.3
      ]
    ]

second_stop : (a b c d : ℕ) (ys : List ℕ) (x : ℕ) → length ys < 4 → is_hex x ≡ false → GoesOn (92 ∷ 117 ∷ a ∷ b ∷ c ∷ d ∷ 92 ∷ 117 ∷ (ys ++ x ∷ [])) → ⊥
second_stop a b c d ys x l h (more, w) =
    let whole = append_assoc ys (x ∷ []) more in
    elim (shape w) [
      | inl e ↦ absurd (let bad = ap (drop 2) e.2 in cc)
      | inr v ↦ elim v [
        | inl e ↦ absurd (let bad : 92 ∷ 117 ∷ ((ys ++ x ∷ []) ++ more) ≡ [] = ap (drop 6) e.1 ∙ ap (drop 4) e.2.4 in cc)
        | inr e ↦ hex_in ys x more e.1 [] (sym whole ∙ ap (drop 8) e.2 ∙ ap (λ t. drop 6 (t ++ (92 ∷ 117 ∷ e.1))) e.3.4 ∙ sym (append-nil e.1)) l h e.4
      ]
    ]

same_self : (n : ℕ) → (n == n) ≡ true
same_self n = grind (arith, nat_tests)

differ : (x n : ℕ) → (x == n) ≡ false → x ≡ n → ⊥
differ x n h e = absurd (let no : (x == n) ≡ true = rw e (same_self n) in let bad : true ≡ false = sym no ∙ h in cc)

n_stands : escaped_character 110 ≡ Some 10
unfolding escaped_character
n_stands = refl

backslash_goes : GoesOn (92 ∷ [])
backslash_goes = (110 ∷ [], character_written n_stands)

other_stop : (e : ℕ) → (e == 117) ≡ false → escaped_character e ≡ None → GoesOn (92 ∷ e ∷ []) → ⊥
other_stop e h k (more, w) =
    elim (shape w) [
      | inl a ↦ (let same : e ≡ a.0 = ap (λ t. at t 1) a.2 in absurd (let bad : None ≡ Some a.1 = sym k ∙ ap escaped_character same ∙ a.3 in cc))
      | inr v ↦ elim v [
        | inl a ↦ differ e 117 h (ap (λ t. at t 1) a.1)
        | inr a ↦ differ e 117 h (ap (λ t. at t 1) a.2)
      ]
    ]

half_goes : (a b c d u : ℕ) → IsEscapedUnicode (a ∷ b ∷ c ∷ d ∷ []) u → is_high_surrogate u ≡ true → GoesOn (92 ∷ 117 ∷ a ∷ b ∷ c ∷ d ∷ [])
half_goes a b c d u e h = let z = unit_of (48 ∷ 48 ∷ 48 ∷ 48 ∷ []) zeros in (92 ∷ 117 ∷ 48 ∷ 48 ∷ 48 ∷ 48 ∷ [], pair_written e h z.1)

backslash_half_goes : (a b c d u : ℕ) → IsEscapedUnicode (a ∷ b ∷ c ∷ d ∷ []) u → is_high_surrogate u ≡ true → GoesOn (92 ∷ 117 ∷ a ∷ b ∷ c ∷ d ∷ 92 ∷ [])
backslash_half_goes a b c d u e h = let z = unit_of (48 ∷ 48 ∷ 48 ∷ 48 ∷ []) zeros in (117 ∷ 48 ∷ 48 ∷ 48 ∷ 48 ∷ [], pair_written e h z.1)

half_stop : (a b c d y : ℕ) → (y == 92) ≡ false → GoesOn (92 ∷ 117 ∷ a ∷ b ∷ c ∷ d ∷ y ∷ []) → ⊥
half_stop a b c d y h (more, w) =
    elim (shape w) [
      | inl e ↦ absurd (let bad = ap (drop 2) e.2 in cc)
      | inr v ↦ elim v [
        | inl e ↦ absurd (let bad : y ∷ more ≡ [] = ap (drop 6) e.1 ∙ ap (drop 4) e.2.4 in cc)
        | inr e ↦ differ y 92 h (ap (λ t. at t 6) e.2 ∙ ap (λ t. at (t ++ (92 ∷ 117 ∷ e.1)) 4) e.3.4)
      ]
    ]

backslash_half_stop : (a b c d z : ℕ) → (z == 117) ≡ false → GoesOn (92 ∷ 117 ∷ a ∷ b ∷ c ∷ d ∷ 92 ∷ z ∷ []) → ⊥
backslash_half_stop a b c d z h (more, w) =
    elim (shape w) [
      | inl e ↦ absurd (let bad = ap (drop 2) e.2 in cc)
      | inr v ↦ elim v [
        | inl e ↦ absurd (let bad : 92 ∷ z ∷ more ≡ [] = ap (drop 6) e.1 ∙ ap (drop 4) e.2.4 in cc)
        | inr e ↦ differ z 117 h (ap (λ t. at t 7) e.2 ∙ ap (λ t. at (t ++ (92 ∷ 117 ∷ e.1)) 5) e.3.4)
      ]
    ]

no_escape : (text : List ℕ) (p n c : ℕ) → escape_at text ≡ Err p → IsEscape (take n text) c → ⊥
no_escape text p n c h i =
    absurd (let bad : Err p ≡ found_at c (length (take n text)) = sym h ∙ sym (ap escape_at (take-append-drop n text)) ∙ escape_read i (drop n text) in cc)

-- ---- the scanner's stop
unit_stop : (xs : List ℕ) (m : ℕ) → MissedFrom xs 2 m → Stops (92 ∷ 117 ∷ xs) m
unit_stop xs m (k, e, (go, ends)) =
    let place : suc (suc k) ≡ m = omega arith in
    subst (Stops (92 ∷ 117 ∷ xs)) place (
      digits_go (take k xs) go.0 go.1,
      elim ends [
        | inl l ↦ inl (ap (λ (n : ℕ). suc (suc n)) l)
        | inr t ↦ inr (inl (λ g. digits_stop t.1 t.0 t.4 t.5 (subst (λ w. GoesOn (92 ∷ 117 ∷ w)) t.3 g)))
      ],
    )

second_unit_stop : (a b c d u : ℕ) (xs : List ℕ) (m : ℕ) → IsEscapedUnicode (a ∷ b ∷ c ∷ d ∷ []) u → is_high_surrogate u ≡ true → MissedFrom xs 8 m → Stops (92 ∷ 117 ∷ a ∷ b ∷ c ∷ d ∷ 92 ∷ 117 ∷ xs) m
second_unit_stop a b c d u xs m i h (k, e, (go, ends)) =
    let place : suc (suc (suc (suc (suc (suc (suc (suc k))))))) ≡ m = omega arith in
    subst (Stops (92 ∷ 117 ∷ a ∷ b ∷ c ∷ d ∷ 92 ∷ 117 ∷ xs)) place (
      second_go a b c d u (take k xs) go.0 i h go.1,
      elim ends [
        | inl l ↦ inl (ap (λ (n : ℕ). suc (suc (suc (suc (suc (suc (suc (suc n)))))))) l)
        | inr t ↦ inr (inl (λ g. second_stop a b c d t.1 t.0 t.4 t.5 (subst (λ w. GoesOn (92 ∷ 117 ∷ a ∷ b ∷ c ∷ d ∷ 92 ∷ 117 ∷ w)) t.3 g)))
      ],
    )

and_then_missed : {A B : Type 0} (o : Result A ℕ) (next : A → Result B ℕ) (p : ℕ) → and_then o next ≡ Err p → (o ≡ Err p) ⊎ ((x : A) × (o ≡ Ok x) × (next x ≡ Err p))
and_then_missed (Ok x) next p h = inr (x, refl, h)
and_then_missed (Err e) next p h = let same : e ≡ p = cc in inl (ap Err same)

low_missed : (b : Bool) (i p c n : ℕ) → (if b then found_at c n else Err i) ≡ Err p → (b ≡ false) × (i ≡ p)
low_missed true i p c n h = absurd cc
low_missed false i p c n h = (refl, cc)

lone_pair_stop : (a b c d u : ℕ) (xs : List ℕ) (v p : ℕ) → IsEscapedUnicode (a ∷ b ∷ c ∷ d ∷ []) u → is_high_surrogate u ≡ true → Digits xs v (drop 4 xs) → escape_at (92 ∷ 117 ∷ a ∷ b ∷ c ∷ d ∷ 92 ∷ 117 ∷ xs) ≡ Err p → Stops (92 ∷ 117 ∷ a ∷ b ∷ c ∷ d ∷ 92 ∷ 117 ∷ xs) 11
lone_pair_stop a b c d u xs v p e h (i, j, k, l, same, hi, hj, hk, hl, unit) err =
    let text = 92 ∷ 117 ∷ a ∷ b ∷ c ∷ d ∷ 92 ∷ 117 ∷ i ∷ j ∷ k ∷ l ∷ drop 4 xs in
    let whole = ap (λ t. escape_at (92 ∷ 117 ∷ a ∷ b ∷ c ∷ d ∷ 92 ∷ 117 ∷ t)) same in
    let here : escape_at text ≡ Err p = sym whole ∙ err in
    subst (λ t. Stops (92 ∷ 117 ∷ a ∷ b ∷ c ∷ d ∷ 92 ∷ 117 ∷ t) 11) (sym same) (
      second_go a b c d u (i ∷ j ∷ k ∷ []) (l ∷ []) e h (i, j, k, l, refl, hi, hj, hk, hl),
      inr (inr (pair_written e h (spelled i j k l v hi hj hk hl unit), λ x y. no_escape text p 12 x here y)),
    )

at_half : (a b c d u p : ℕ) (xs : List ℕ) → IsEscapedUnicode (a ∷ b ∷ c ∷ d ∷ []) u → is_high_surrogate u ≡ true → escape_at (92 ∷ 117 ∷ a ∷ b ∷ c ∷ d ∷ 92 ∷ 117 ∷ xs) ≡ Err p
    → and_then (unit_at (92 ∷ 117 ∷ a ∷ b ∷ c ∷ d ∷ 92 ∷ 117 ∷ xs) 8) (λ low. if is_low_surrogate low then found_at (surrogate_pair_char u low) 12 else Err 11) ≡ Err p → Stops (92 ∷ 117 ∷ a ∷ b ∷ c ∷ d ∷ 92 ∷ 117 ∷ xs) p
at_half a b c d u p xs e h err k =
    elim (and_then_missed (unit_at (92 ∷ 117 ∷ a ∷ b ∷ c ∷ d ∷ 92 ∷ 117 ∷ xs) 8) (λ low. if is_low_surrogate low then found_at (surrogate_pair_char u low) 12 else Err 11) p k) [
      | inl m ↦ second_unit_stop a b c d u xs p e h (missed_from_8 a b c d xs p m)
      | inr f ↦ (let low = low_missed (is_low_surrogate f.0) 11 p (surrogate_pair_char u f.0) 12 f.2 in
          subst (Stops (92 ∷ 117 ∷ a ∷ b ∷ c ∷ d ∷ 92 ∷ 117 ∷ xs)) low.1 (lone_pair_stop a b c d u xs f.0 p e h (unit_found_8 a b c d xs f.0 f.1) err))
    ]

half_if : (f g : Bool) (a b c d u p y z : ℕ) (zs : List ℕ) → (y == 92) ≡ f → (z == 117) ≡ g → IsEscapedUnicode (a ∷ b ∷ c ∷ d ∷ []) u → is_high_surrogate u ≡ true → escape_at (92 ∷ 117 ∷ a ∷ b ∷ c ∷ d ∷ y ∷ z ∷ zs) ≡ Err p
    → (if not f then Err 6 else if not g then Err 7 else and_then (unit_at (92 ∷ 117 ∷ a ∷ b ∷ c ∷ d ∷ y ∷ z ∷ zs) 8) (λ low. if is_low_surrogate low then found_at (surrogate_pair_char u low) 12 else Err 11)) ≡ Err p
    → Stops (92 ∷ 117 ∷ a ∷ b ∷ c ∷ d ∷ y ∷ z ∷ zs) p
half_if false g a b c d u p y z zs hy hz e h err k =
    let six : 6 ≡ p = cc in
    subst (Stops (92 ∷ 117 ∷ a ∷ b ∷ c ∷ d ∷ y ∷ z ∷ zs)) six (half_goes a b c d u e h, inr (inl (half_stop a b c d y hy)))
half_if true false a b c d u p y z zs hy hz e h err k =
    let seven : 7 ≡ p = cc in
    let same = same_number y 92 hy in
    subst (Stops (92 ∷ 117 ∷ a ∷ b ∷ c ∷ d ∷ y ∷ z ∷ zs)) seven
    (subst (λ (w : ℕ). Stops (92 ∷ 117 ∷ a ∷ b ∷ c ∷ d ∷ w ∷ z ∷ zs) 7) (sym same) (backslash_half_goes a b c d u e h, inr (inl (backslash_half_stop a b c d z hz))))
half_if true true a b c d u p y z zs hy hz e h err k =
    let isy = same_number y 92 hy in
    let isz = same_number z 117 hz in
    let next : ℕ → Result (ℕ × ℕ) ℕ = λ low. if is_low_surrogate low then found_at (surrogate_pair_char u low) 12 else Err 11 in
    let k1 = subst (λ (w : ℕ). and_then (unit_at (92 ∷ 117 ∷ a ∷ b ∷ c ∷ d ∷ w ∷ z ∷ zs) 8) next ≡ Err p) isy k in
    let k2 = subst (λ (w : ℕ). and_then (unit_at (92 ∷ 117 ∷ a ∷ b ∷ c ∷ d ∷ 92 ∷ w ∷ zs) 8) next ≡ Err p) isz k1 in
    let e1 = subst (λ (w : ℕ). escape_at (92 ∷ 117 ∷ a ∷ b ∷ c ∷ d ∷ w ∷ z ∷ zs) ≡ Err p) isy err in
    let e2 = subst (λ (w : ℕ). escape_at (92 ∷ 117 ∷ a ∷ b ∷ c ∷ d ∷ 92 ∷ w ∷ zs) ≡ Err p) isz e1 in
    subst (λ (w : ℕ). Stops (92 ∷ 117 ∷ a ∷ b ∷ c ∷ d ∷ w ∷ z ∷ zs) p) (sym isy)
    (subst (λ (w : ℕ). Stops (92 ∷ 117 ∷ a ∷ b ∷ c ∷ d ∷ 92 ∷ w ∷ zs) p) (sym isz) (at_half a b c d u p zs e h e2 k2))

short_if : (f : Bool) (a b c d u p y : ℕ) → (y == 92) ≡ f → IsEscapedUnicode (a ∷ b ∷ c ∷ d ∷ []) u → is_high_surrogate u ≡ true → ◌≡◌ {A = Result (ℕ × ℕ) ℕ} (if not f then Err 6 else Err 7) (Err p) → Stops (92 ∷ 117 ∷ a ∷ b ∷ c ∷ d ∷ y ∷ []) p
short_if false a b c d u p y hy e h k =
    let six : 6 ≡ p = cc in
    subst (Stops (92 ∷ 117 ∷ a ∷ b ∷ c ∷ d ∷ y ∷ [])) six (half_goes a b c d u e h, inr (inl (half_stop a b c d y hy)))
short_if true a b c d u p y hy e h k =
    let seven : 7 ≡ p = cc in
    subst (Stops (92 ∷ 117 ∷ a ∷ b ∷ c ∷ d ∷ y ∷ [])) seven
    (subst (λ (w : ℕ). Stops (92 ∷ 117 ∷ a ∷ b ∷ c ∷ d ∷ w ∷ []) 7) (sym (same_number y 92 hy)) (backslash_half_goes a b c d u e h, inl refl))

pair_stop : (a b c d u p : ℕ) (ys : List ℕ) → IsEscapedUnicode (a ∷ b ∷ c ∷ d ∷ []) u → is_high_surrogate u ≡ true → escape_at (92 ∷ 117 ∷ a ∷ b ∷ c ∷ d ∷ ys) ≡ Err p → pair_at (92 ∷ 117 ∷ a ∷ b ∷ c ∷ d ∷ ys) u ≡ Err p → Stops (92 ∷ 117 ∷ a ∷ b ∷ c ∷ d ∷ ys) p
unfolding pair_at
pair_stop a b c d u p [] e h err k =
    let six : 6 ≡ p = cc in
    subst (Stops (92 ∷ 117 ∷ a ∷ b ∷ c ∷ d ∷ [])) six (half_goes a b c d u e h, inl refl)
pair_stop a b c d u p (y ∷ []) e h err k = short_if (y == 92) a b c d u p y refl e h k
pair_stop a b c d u p (y ∷ z ∷ zs) e h err k = half_if (y == 92) (z == 117) a b c d u p y z zs refl refl e h err k

alone_stop : (high low : Bool) (a b c d u p : ℕ) (rest : List ℕ) → is_high_surrogate u ≡ high → is_low_surrogate u ≡ low → IsEscapedUnicode (a ∷ b ∷ c ∷ d ∷ []) u → Hex4 (a ∷ b ∷ c ∷ d ∷ []) → escape_at (92 ∷ 117 ∷ a ∷ b ∷ c ∷ d ∷ rest) ≡ Err p
    → (if high then pair_at (92 ∷ 117 ∷ a ∷ b ∷ c ∷ d ∷ rest) u else if low then Err 5 else Ok (u, 6)) ≡ Err p → Stops (92 ∷ 117 ∷ a ∷ b ∷ c ∷ d ∷ rest) p
alone_stop true low a b c d u p rest hh hl e x err k = pair_stop a b c d u p rest e hh err k
alone_stop false true a b c d u p rest hh hl e x err k =
    let five : 5 ≡ p = cc in
    subst (Stops (92 ∷ 117 ∷ a ∷ b ∷ c ∷ d ∷ rest)) five
    (digits_go (a ∷ b ∷ c ∷ []) (d ∷ []) x, inr (inr (unit_written e hh, λ y z. no_escape (92 ∷ 117 ∷ a ∷ b ∷ c ∷ d ∷ rest) p 6 y err z)))
alone_stop false false a b c d u p rest hh hl e x err k = absurd cc

unicode_stop_at : (xs : List ℕ) (u p : ℕ) → Digits xs u (drop 4 xs) → escape_at (92 ∷ 117 ∷ xs) ≡ Err p → (if is_high_surrogate u then pair_at (92 ∷ 117 ∷ xs) u else if is_low_surrogate u then Err 5 else Ok (u, 6)) ≡ Err p → Stops (92 ∷ 117 ∷ xs) p
unicode_stop_at xs u p (a, b, c, d, same, ha, hb, hc, hd, unit) err k =
    let text : 92 ∷ 117 ∷ xs ≡ 92 ∷ 117 ∷ a ∷ b ∷ c ∷ d ∷ drop 4 xs = ap (λ ws. 92 ∷ 117 ∷ ws) same in
    let k1 = subst (λ ws. (if is_high_surrogate u then pair_at ws u else if is_low_surrogate u then Err 5 else Ok (u, 6)) ≡ Err p) text k in
    let e1 = subst (λ ws. escape_at ws ≡ Err p) text err in
    subst (λ ws. Stops ws p) (sym text) (alone_stop (is_high_surrogate u) (is_low_surrogate u) a b c d u p (drop 4 xs) refl refl (spelled a b c d u ha hb hc hd unit) (a, b, c, d, refl, ha, hb, hc, hd) e1 k1)

unicode_stop : (xs : List ℕ) (p : ℕ) → escape_at (92 ∷ 117 ∷ xs) ≡ Err p → unicode_at (92 ∷ 117 ∷ xs) ≡ Err p → Stops (92 ∷ 117 ∷ xs) p
unfolding unicode_at
unicode_stop xs p err k =
    elim (and_then_missed (unit_at (92 ∷ 117 ∷ xs) 2) (λ u. if is_high_surrogate u then pair_at (92 ∷ 117 ∷ xs) u else if is_low_surrogate u then Err 5 else found_at u 6) p k) [
      | inl m ↦ unit_stop xs p (missed_from_2 xs p m)
      | inr f ↦ unicode_stop_at xs f.0 p (unit_found_2 xs f.0 f.1) err f.2
    ]

character_stop : (e p : ℕ) (xs : List ℕ) (o : Option ℕ) → (e == 117) ≡ false → escaped_character e ≡ o → found_or 1 2 o ≡ Err p → Stops (92 ∷ e ∷ xs) p
character_stop e p xs (Some c) h k f = absurd cc
character_stop e p xs None h k f =
    let one : 1 ≡ p = cc in
    subst (Stops (92 ∷ e ∷ xs)) one (backslash_goes, inr (inl (other_stop e h k)))

second_if : (b : Bool) (e p : ℕ) (xs : List ℕ) → (e == 117) ≡ b → escape_at (92 ∷ e ∷ xs) ≡ Err p → (if b then unicode_at (92 ∷ e ∷ xs) else found_or 1 2 (escaped_character e)) ≡ Err p → Stops (92 ∷ e ∷ xs) p
second_if true e p xs h err k =
    let same = same_number e 117 h in
    subst (λ (w : ℕ). Stops (92 ∷ w ∷ xs) p) (sym same)
    (unicode_stop xs p (subst (λ (w : ℕ). escape_at (92 ∷ w ∷ xs) ≡ Err p) same err) (subst (λ (w : ℕ). unicode_at (92 ∷ w ∷ xs) ≡ Err p) same k))
second_if false e p xs h err k = character_stop e p xs (escaped_character e) h refl k

nothing_stops : (p : ℕ) (o : Option ℕ) → o ≡ None → found_or 1 2 o ≡ Err p → Stops (92 ∷ []) p
nothing_stops p (Some c) h k = absurd (let bad = h in cc)
nothing_stops p None h k = let one : 1 ≡ p = cc in subst (Stops (92 ∷ [])) one (backslash_goes, inl refl)

pub escape_stops : (cs : List ℕ) (p : ℕ) → escape_at (92 ∷ cs) ≡ Err p → Stops (92 ∷ cs) p
unfolding escape_at
escape_stops [] p k = nothing_stops p (escaped_character 0) zero_no_character k
escape_stops (e ∷ xs) p k = second_if (e == 117) e p xs refl k k

backslash_cons : (t : List ℕ) → at t 0 ≡ 92 → (cs : List ℕ) × (t ≡ 92 ∷ cs)
backslash_cons [] h = absurd cc
backslash_cons (c ∷ cs) h = (cs, ap (λ x. x ∷ cs) h)

pub stops_behind : (t : List ℕ) (p : ℕ) → at t 0 ≡ 92 → escape_at t ≡ Err p → Stops t p
stops_behind t p h k =
    let slash = backslash_cons t h in
    subst (λ s. Stops s p) (sym slash.1) (escape_stops slash.0 p (subst (λ s. escape_at s ≡ Err p) slash.1 k))
