-- The escape at the front of a text is what the scanner takes for it.
use Rattle.std.proofs.Common.{◌≡◌, ◌<◌, ◌≤◌, ◌+◌, ◌*◌, ◌-◌, ℕ, suc, List, [], ◌∷◌, ◌++◌, Bool, true, false, not, ◌&&◌, ◌==◌, if◌then◌else◌, Option, Some, None, Result, Ok, Err, length, take, drop, get_or, refl, sym, ap, subst, ◌∙◌, arith, append_assoc}
use Rattle.std.proofs.lemmas.List.{length-append}
use Rattle.std.proofs.lemmas.Bool.Decides.{nat_tests}
use Rattle.std.specs.Char.{IsScalar, digit_value}
use Rattle.std.specs.Char.Utf16.{is_high_surrogate, is_low_surrogate, surrogate_pair_char}
use Rattle.std.specs.List.{list_all}
use Rattle.graphql_strings.specs.Characters.{at}
use Rattle.graphql_strings.specs.StringValues.{escaped_character, is_hex, code_unit, IsEscapedUnicode, IsEscape, character, unicode, pair}
use Rattle.graphql_strings.specs.Unescaping.{and_then, found_or, unit_at, pair_at, unicode_at, escape_at}

-- what is found: a character, and its length
abbrev pub found_at : ℕ → ℕ → Result (ℕ × ℕ) ℕ
found_at c n = Ok (c, n)

abbrev char_of : Result (ℕ × ℕ) ℕ → ℕ
char_of (Ok r) = r.0
char_of (Err e) = 0

abbrev length_of : Result (ℕ × ℕ) ℕ → ℕ
length_of (Ok r) = r.1
length_of (Err e) = 0

pub same_char : (c n d m : ℕ) → found_at c n ≡ found_at d m → c ≡ d
same_char c n d m h = ap char_of h

pub same_length : (c n d m : ℕ) → found_at c n ≡ found_at d m → n ≡ m
same_length c n d m h = ap length_of h

-- the second half of a pair, once its unit is read
abbrev second : ℕ → ℕ → Result (ℕ × ℕ) ℕ
second u low = if is_low_surrogate low then Ok (surrogate_pair_char u low, 12) else Err 11

-- ---- bytes
hex_ascii : (c : ℕ) → is_hex c ≡ true → c < 128
hex_ascii c h = grind (arith, nat_tests)

escaped_ascii : (e c : ℕ) → escaped_character e ≡ Some c → e < 128
unfolding escaped_character
escaped_ascii e c h = grind (arith, nat_tests)

u_no_character : escaped_character 117 ≡ None
unfolding escaped_character
u_no_character = refl

pub same_number : (a b : ℕ) → (a == b) ≡ true → a ≡ b
same_number a b h = grind (arith, nat_tests)

not_u_if : (b : Bool) (e c : ℕ) → (e == 117) ≡ b → escaped_character e ≡ Some c → b ≡ false
not_u_if false e c h k = refl
not_u_if true e c h k =
    let none : escaped_character e ≡ None = ap escaped_character (same_number e 117 h) ∙ u_no_character in
    cc

not_u : (e c : ℕ) → escaped_character e ≡ Some c → (e == 117) ≡ false
not_u e c h = not_u_if (e == 117) e c refl h

-- ---- four digits
four_found : (p q r s : Bool) (i j k l u v : ℕ) → (if not p then Err i else if not q then Err j else if not r then Err k else if not s then Err l else Ok u) ≡ Ok v → (p ≡ true) × (q ≡ true) × (r ≡ true) × (s ≡ true) × (u ≡ v)
four_found false q r s i j k l u v h = cc
four_found true false r s i j k l u v h = cc
four_found true true false s i j k l u v h = cc
four_found true true true false i j k l u v h = cc
four_found true true true true i j k l u v h = (refl, refl, refl, refl, cc)

four_read : (p q r s : Bool) (i j k l u : ℕ) → p ≡ true → q ≡ true → r ≡ true → s ≡ true → (if not p then Err i else if not q then Err j else if not r then Err k else if not s then Err l else Ok u) ≡ Ok u
four_read p q r s i j k l u a b c d = rw (a, b, c, d) refl

abbrev pub Digits : List ℕ → ℕ → List ℕ → Type 0
Digits xs u rest =
    (a : ℕ) × (b : ℕ) × (c : ℕ) × (d : ℕ) × (xs ≡ a ∷ b ∷ c ∷ d ∷ rest) × (is_hex a ≡ true) × (is_hex b ≡ true) × (is_hex c ≡ true) × (is_hex d ≡ true) × (code_unit a b c d ≡ u)

digits_front : (xs : List ℕ) (u : ℕ) → is_hex (at xs 0) ≡ true → is_hex (at xs 1) ≡ true → is_hex (at xs 2) ≡ true → is_hex (at xs 3) ≡ true → code_unit (at xs 0) (at xs 1) (at xs 2) (at xs 3) ≡ u → Digits xs u (drop 4 xs)
digits_front [] u p q r s e = cc
digits_front (a ∷ []) u p q r s e = cc
digits_front (a ∷ b ∷ []) u p q r s e = cc
digits_front (a ∷ b ∷ c ∷ []) u p q r s e = cc
digits_front (a ∷ b ∷ c ∷ d ∷ xs) u p q r s e = (a, b, c, d, refl, p, q, r, s, e)

pub unit_found_2 : (xs : List ℕ) (u : ℕ) → unit_at (92 ∷ 117 ∷ xs) 2 ≡ Ok u → Digits xs u (drop 4 xs)
unfolding unit_at
unit_found_2 xs u h =
    let f = four_found (is_hex (at xs 0)) (is_hex (at xs 1)) (is_hex (at xs 2)) (is_hex (at xs 3)) 2 3 4 5 (code_unit (at xs 0) (at xs 1) (at xs 2) (at xs 3)) u h in
    digits_front xs u f.0 f.1 f.2 f.3 f.4

pub unit_found_8 : (a b c d : ℕ) (xs : List ℕ) (u : ℕ) → unit_at (92 ∷ 117 ∷ a ∷ b ∷ c ∷ d ∷ 92 ∷ 117 ∷ xs) 8 ≡ Ok u → Digits xs u (drop 4 xs)
unfolding unit_at
unit_found_8 a b c d xs u h =
    let f = four_found (is_hex (at xs 0)) (is_hex (at xs 1)) (is_hex (at xs 2)) (is_hex (at xs 3)) 8 9 10 11 (code_unit (at xs 0) (at xs 1) (at xs 2) (at xs 3)) u h in
    digits_front xs u f.0 f.1 f.2 f.3 f.4

unit_read_2 : (a b c d : ℕ) (rest : List ℕ) → is_hex a ≡ true → is_hex b ≡ true → is_hex c ≡ true → is_hex d ≡ true → unit_at (92 ∷ 117 ∷ a ∷ b ∷ c ∷ d ∷ rest) 2 ≡ Ok (code_unit a b c d)
unfolding unit_at
unit_read_2 a b c d rest p q r s = four_read (is_hex a) (is_hex b) (is_hex c) (is_hex d) 2 3 4 5 (code_unit a b c d) p q r s

unit_read_8 : (i j k l a b c d : ℕ) (rest : List ℕ) → is_hex a ≡ true → is_hex b ≡ true → is_hex c ≡ true → is_hex d ≡ true → unit_at (92 ∷ 117 ∷ i ∷ j ∷ k ∷ l ∷ 92 ∷ 117 ∷ a ∷ b ∷ c ∷ d ∷ rest) 8 ≡ Ok (code_unit a b c d)
unfolding unit_at
unit_read_8 i j k l a b c d rest p q r s = four_read (is_hex a) (is_hex b) (is_hex c) (is_hex d) 8 9 10 11 (code_unit a b c d) p q r s

pub all_four : (p q r s : Bool) → (p && (q && (r && (s && true)))) ≡ true → (p ≡ true) × (q ≡ true) × (r ≡ true) × (s ≡ true)
all_four false q r s h = cc
all_four true false r s h = cc
all_four true true false s h = cc
all_four true true true false h = cc
all_four true true true true h = (refl, refl, refl, refl)

pub spelled : (a b c d u : ℕ) → is_hex a ≡ true → is_hex b ≡ true → is_hex c ≡ true → is_hex d ≡ true → code_unit a b c d ≡ u → IsEscapedUnicode (a ∷ b ∷ c ∷ d ∷ []) u
spelled a b c d u p q r s e = (a, b, c, d, refl, rw (p, q, r, s) refl, e)

-- ---- code units
hex_value : (c : ℕ) → is_hex c ≡ true → digit_value c < 16
hex_value c h = grind (arith, nat_tests)

unit_fits : (a b c d : ℕ) → is_hex a ≡ true → is_hex b ≡ true → is_hex c ≡ true → is_hex d ≡ true → code_unit a b c d < 65536
unit_fits a b c d p q r s = omega (arith, hex_value a p, hex_value b q, hex_value c r, hex_value d s)

lone_scalar : (u : ℕ) → u < 65536 → is_high_surrogate u ≡ false → is_low_surrogate u ≡ false → IsScalar u
lone_scalar u h p q = grind (arith, nat_tests)

scalar_not_high : (u : ℕ) → IsScalar u → is_high_surrogate u ≡ false
scalar_not_high u h = grind (arith, nat_tests)

scalar_not_low : (u : ℕ) → IsScalar u → is_low_surrogate u ≡ false
scalar_not_low u h = grind (arith, nat_tests)

-- ---- what the reader of digits found is the code unit
abbrev pub IsDigitAt : List ℕ → ℕ → ℕ → Type 0
IsDigitAt text n d = (d ≡ digit_value (at text n)) × (d < 16) × (n < length text)

abbrev pub IsMissingAt : List ℕ → ℕ → ℕ → Type 0
IsMissingAt text n e = (is_hex (at text n) ≡ false) × (e ≡ n)

hex_digit : (text : List ℕ) (n : ℕ) {d : ℕ} → IsDigitAt text n d → is_hex (at text n) ≡ true
hex_digit text n h = grind (arith, nat_tests)

pub first_missing : (text : List ℕ) (n : ℕ) {e : ℕ} → IsMissingAt text n e → unit_at text n ≡ Err e
unfolding unit_at
first_missing text n h = rw (h.0, h.1) refl

pub second_missing : (text : List ℕ) (n : ℕ) {a e : ℕ} → IsDigitAt text n a → IsMissingAt text (n + 1) e → unit_at text n ≡ Err e
unfolding unit_at
second_missing text n h i = rw (hex_digit text n h, i.0, i.1) refl

pub third_missing : (text : List ℕ) (n : ℕ) {a b e : ℕ} → IsDigitAt text n a → IsDigitAt text (n + 1) b → IsMissingAt text (n + 2) e → unit_at text n ≡ Err e
unfolding unit_at
third_missing text n h i j = rw (hex_digit text n h, hex_digit text (n + 1) i, j.0, j.1) refl

pub fourth_missing : (text : List ℕ) (n : ℕ) {a b c e : ℕ} → IsDigitAt text n a → IsDigitAt text (n + 1) b → IsDigitAt text (n + 2) c → IsMissingAt text (n + 3) e → unit_at text n ≡ Err e
unfolding unit_at
fourth_missing text n h i j k = rw (hex_digit text n h, hex_digit text (n + 1) i, hex_digit text (n + 2) j, k.0, k.1) refl

pub four_digits : (text : List ℕ) (n : ℕ) {a b c d : ℕ} → IsDigitAt text n a → IsDigitAt text (n + 1) b → IsDigitAt text (n + 2) c → IsDigitAt text (n + 3) d → unit_at text n ≡ Ok (a * 4096 + b * 256 + c * 16 + d)
unfolding unit_at
four_digits text n h i j k = rw (hex_digit text n h, hex_digit text (n + 1) i, hex_digit text (n + 2) j, hex_digit text (n + 3) k, h.0, i.0, j.0, k.0) refl

-- ---- what the scanner found is an escape
and_then_found : {A B : Type 0} (o : Result A ℕ) (next : A → Result B ℕ) (r : B) → and_then o next ≡ Ok r → (x : A) × (o ≡ Ok x) × (next x ≡ Ok r)
and_then_found (Ok x) next r h = (x, refl, h)
and_then_found (Err e) next r h = cc

both_found : {A : Type 0} (p q : Bool) (i j : ℕ) (x : Result A ℕ) (r : A) → (if not p then Err i else if not q then Err j else x) ≡ Ok r → (p ≡ true) × (q ≡ true) × (x ≡ Ok r)
both_found false q i j x r h = cc
both_found true false i j x r h = cc
both_found true true i j x r h = (refl, refl, h)

low_found : (b : Bool) (i c n d m : ℕ) → (if b then found_at c n else Err i) ≡ found_at d m → (b ≡ true) × (c ≡ d) × (n ≡ m)
low_found true i c n d m h = (refl, same_char c n d m h, same_length c n d m h)
low_found false i c n d m h = cc

-- what was found at the front of a text: n bytes, which are an escape for c
abbrev pub Found : List ℕ → ℕ → ℕ → Type 0
Found text c n = (n ≤ length text) × IsEscape (take n text) c

-- a pair of escapes
low_escape : (a b c d u x n : ℕ) (zs : List ℕ) (low : ℕ) → IsEscapedUnicode (a ∷ b ∷ c ∷ d ∷ []) u → is_high_surrogate u ≡ true → Digits zs low (drop 4 zs) → is_low_surrogate low ≡ true → surrogate_pair_char u low ≡ x → 12 ≡ n → Found (92 ∷ 117 ∷ a ∷ b ∷ c ∷ d ∷ 92 ∷ 117 ∷ zs) x n
low_escape a b c d u x n zs low e h (i, j, k, l, same, p, q, r, s, unit) isl v m =
    let t = i ∷ j ∷ k ∷ l ∷ [] in
    let there : IsEscape (92 ∷ 117 ∷ a ∷ b ∷ c ∷ d ∷ 92 ∷ 117 ∷ t) (surrogate_pair_char u low) = pair e (spelled i j k l low p q r s unit) h isl in
    let all : Found (92 ∷ 117 ∷ a ∷ b ∷ c ∷ d ∷ 92 ∷ 117 ∷ i ∷ j ∷ k ∷ l ∷ drop 4 zs) x 12 = (omega arith, subst (IsEscape (92 ∷ 117 ∷ a ∷ b ∷ c ∷ d ∷ 92 ∷ 117 ∷ t)) v there) in
    subst (Found (92 ∷ 117 ∷ a ∷ b ∷ c ∷ d ∷ 92 ∷ 117 ∷ zs) x) m (subst (λ ws. Found (92 ∷ 117 ∷ a ∷ b ∷ c ∷ d ∷ 92 ∷ 117 ∷ ws) x 12) (sym same) all)

at_u : (a b c d u x n : ℕ) (zs : List ℕ) → IsEscapedUnicode (a ∷ b ∷ c ∷ d ∷ []) u → is_high_surrogate u ≡ true → and_then (unit_at (92 ∷ 117 ∷ a ∷ b ∷ c ∷ d ∷ 92 ∷ 117 ∷ zs) 8) (second u) ≡ found_at x n → Found (92 ∷ 117 ∷ a ∷ b ∷ c ∷ d ∷ 92 ∷ 117 ∷ zs) x n
at_u a b c d u x n zs e h k =
    let f = and_then_found (unit_at (92 ∷ 117 ∷ a ∷ b ∷ c ∷ d ∷ 92 ∷ 117 ∷ zs) 8) (second u) (x, n) k in
    let g = low_found (is_low_surrogate f.0) 11 (surrogate_pair_char u f.0) 12 x n f.2 in
    low_escape a b c d u x n zs f.0 e h (unit_found_8 a b c d zs f.0 f.1) g.0 g.1 g.2

second_found : (a b c d u x n y z : ℕ) (zs : List ℕ) → IsEscapedUnicode (a ∷ b ∷ c ∷ d ∷ []) u → is_high_surrogate u ≡ true → y ≡ 92 → z ≡ 117 → and_then (unit_at (92 ∷ 117 ∷ a ∷ b ∷ c ∷ d ∷ y ∷ z ∷ zs) 8) (second u) ≡ found_at x n → Found (92 ∷ 117 ∷ a ∷ b ∷ c ∷ d ∷ y ∷ z ∷ zs) x n
second_found a b c d u x n y z zs e h isy isz k =
    let k1 = subst (λ (w : ℕ). and_then (unit_at (92 ∷ 117 ∷ a ∷ b ∷ c ∷ d ∷ w ∷ z ∷ zs) 8) (second u) ≡ found_at x n) isy k in
    let k2 = subst (λ (w : ℕ). and_then (unit_at (92 ∷ 117 ∷ a ∷ b ∷ c ∷ d ∷ 92 ∷ w ∷ zs) 8) (second u) ≡ found_at x n) isz k1 in
    subst (λ (w : ℕ). Found (92 ∷ 117 ∷ a ∷ b ∷ c ∷ d ∷ w ∷ z ∷ zs) x n) (sym isy)
    (subst (λ (w : ℕ). Found (92 ∷ 117 ∷ a ∷ b ∷ c ∷ d ∷ 92 ∷ w ∷ zs) x n) (sym isz) (at_u a b c d u x n zs e h k2))

pair_found : (a b c d u x n : ℕ) (ys : List ℕ) → IsEscapedUnicode (a ∷ b ∷ c ∷ d ∷ []) u → is_high_surrogate u ≡ true → pair_at (92 ∷ 117 ∷ a ∷ b ∷ c ∷ d ∷ ys) u ≡ found_at x n → Found (92 ∷ 117 ∷ a ∷ b ∷ c ∷ d ∷ ys) x n
unfolding pair_at
pair_found a b c d u x n [] e h k = cc
pair_found a b c d u x n (y ∷ []) e h k =
    let f = both_found (y == 92) false 6 7 (and_then (unit_at (92 ∷ 117 ∷ a ∷ b ∷ c ∷ d ∷ y ∷ []) 8) (second u)) (x, n) k in
    cc
pair_found a b c d u x n (y ∷ z ∷ zs) e h k =
    let f = both_found (y == 92) (z == 117) 6 7 (and_then (unit_at (92 ∷ 117 ∷ a ∷ b ∷ c ∷ d ∷ y ∷ z ∷ zs) 8) (second u)) (x, n) k in
    second_found a b c d u x n y z zs e h (same_number y 92 f.0) (same_number z 117 f.1) f.2

alone_found : (a b c d u x n : ℕ) (rest : List ℕ) → IsEscapedUnicode (a ∷ b ∷ c ∷ d ∷ []) u → u < 65536 → (high low : Bool) → is_high_surrogate u ≡ high → is_low_surrogate u ≡ low
    → (if high then pair_at (92 ∷ 117 ∷ a ∷ b ∷ c ∷ d ∷ rest) u else if low then Err 5 else Ok (u, 6)) ≡ found_at x n → Found (92 ∷ 117 ∷ a ∷ b ∷ c ∷ d ∷ rest) x n
alone_found a b c d u x n rest e f true low p q k = pair_found a b c d u x n rest e p k
alone_found a b c d u x n rest e f false true p q k = cc
alone_found a b c d u x n rest e f false false p q k =
    let same = same_char u 6 x n k in
    let six = same_length u 6 x n k in
    let all : Found (92 ∷ 117 ∷ a ∷ b ∷ c ∷ d ∷ rest) x 6 = (omega arith, subst (IsEscape (92 ∷ 117 ∷ a ∷ b ∷ c ∷ d ∷ [])) same (unicode e (lone_scalar u f p q))) in
    subst (Found (92 ∷ 117 ∷ a ∷ b ∷ c ∷ d ∷ rest) x) six all

unicode_front : (xs : List ℕ) (u x n : ℕ) → Digits xs u (drop 4 xs) → (if is_high_surrogate u then pair_at (92 ∷ 117 ∷ xs) u else if is_low_surrogate u then Err 5 else Ok (u, 6)) ≡ found_at x n → Found (92 ∷ 117 ∷ xs) x n
unicode_front xs u x n (a, b, c, d, same, p, q, r, s, unit) k =
    let text : 92 ∷ 117 ∷ xs ≡ 92 ∷ 117 ∷ a ∷ b ∷ c ∷ d ∷ drop 4 xs = ap (λ ws. 92 ∷ 117 ∷ ws) same in
    let fits : u < 65536 = subst (λ m. m < 65536) unit (unit_fits a b c d p q r s) in
    let there = subst (λ ws. (if is_high_surrogate u then pair_at ws u else if is_low_surrogate u then Err 5 else Ok (u, 6)) ≡ found_at x n) text k in
    subst (λ ws. Found ws x n) (sym text) (alone_found a b c d u x n (drop 4 xs) (spelled a b c d u p q r s unit) fits (is_high_surrogate u) (is_low_surrogate u) refl refl there)

unicode_found : (xs : List ℕ) (x n : ℕ) → unicode_at (92 ∷ 117 ∷ xs) ≡ found_at x n → Found (92 ∷ 117 ∷ xs) x n
unfolding unicode_at
unicode_found xs x n k =
    let f = and_then_found (unit_at (92 ∷ 117 ∷ xs) 2) (λ u. if is_high_surrogate u then pair_at (92 ∷ 117 ∷ xs) u else if is_low_surrogate u then Err 5 else Ok (u, 6)) (x, n) k in
    unicode_front xs f.0 x n (unit_found_2 xs f.0 f.1) f.2

character_found : (e : ℕ) (xs : List ℕ) (o : Option ℕ) (x n : ℕ) → escaped_character e ≡ o → found_or 1 2 o ≡ found_at x n → Found (92 ∷ e ∷ xs) x n
character_found e xs None x n h k = cc
character_found e xs (Some c) x n h k =
    let same = same_char c 2 x n k in
    let two = same_length c 2 x n k in
    let all : Found (92 ∷ e ∷ xs) x 2 = (omega arith, character (h ∙ ap Some same)) in
    subst (Found (92 ∷ e ∷ xs) x) two all

second_if : (e : ℕ) (xs : List ℕ) (b : Bool) (x n : ℕ) → (e == 117) ≡ b → (if b then unicode_at (92 ∷ e ∷ xs) else found_or 1 2 (escaped_character e)) ≡ found_at x n → Found (92 ∷ e ∷ xs) x n
second_if e xs true x n h k =
    let same = same_number e 117 h in
    subst (λ (w : ℕ). Found (92 ∷ w ∷ xs) x n) (sym same) (unicode_found xs x n (subst (λ (w : ℕ). unicode_at (92 ∷ w ∷ xs) ≡ found_at x n) same k))
second_if e xs false x n h k = character_found e xs (escaped_character e) x n refl k

pub zero_no_character : escaped_character 0 ≡ None
unfolding escaped_character
zero_no_character = refl

pub escape_front : (cs : List ℕ) (x n : ℕ) → escape_at (92 ∷ cs) ≡ found_at x n → Found (92 ∷ cs) x n
unfolding escape_at
escape_front [] x n k = let none : found_or 1 2 (escaped_character 0) ≡ Err 1 = ap (found_or 1 2) zero_no_character in cc
escape_front (e ∷ xs) x n k = second_if e xs (e == 117) x n refl k

pub escape_short : (text : List ℕ) → length text ≤ 1 → escape_at text ≡ Err 1
unfolding escape_at
escape_short [] h = ap (found_or 1 2) zero_no_character
escape_short (c ∷ []) h = ap (found_or 1 2) zero_no_character
escape_short (c ∷ d ∷ cs) h = absurd (omega arith)

-- ---- and each escape is found
pair_read : (a b c d i j k l u v : ℕ) (rest : List ℕ) → is_hex i ≡ true → is_hex j ≡ true → is_hex k ≡ true → is_hex l ≡ true → code_unit i j k l ≡ v → is_low_surrogate v ≡ true
    → pair_at (92 ∷ 117 ∷ a ∷ b ∷ c ∷ d ∷ 92 ∷ 117 ∷ i ∷ j ∷ k ∷ l ∷ rest) u ≡ Ok (surrogate_pair_char u v, 12)
unfolding pair_at
pair_read a b c d i j k l u v rest p q r s e h =
    let next = second u in
    ap (λ o. and_then o next) (unit_read_8 a b c d i j k l rest p q r s) ∙ ap next e ∙ ap (λ (w : Bool). if w then Ok (surrogate_pair_char u v, 12) else Err 11) h

unicode_read : (a b c d u : ℕ) (rest : List ℕ) → is_hex a ≡ true → is_hex b ≡ true → is_hex c ≡ true → is_hex d ≡ true → code_unit a b c d ≡ u
    → unicode_at (92 ∷ 117 ∷ a ∷ b ∷ c ∷ d ∷ rest) ≡ (if is_high_surrogate u then pair_at (92 ∷ 117 ∷ a ∷ b ∷ c ∷ d ∷ rest) u else if is_low_surrogate u then Err 5 else Ok (u, 6))
unfolding unicode_at
unicode_read a b c d u rest p q r s e =
    let next : ℕ → Result (ℕ × ℕ) ℕ = λ w. if is_high_surrogate w then pair_at (92 ∷ 117 ∷ a ∷ b ∷ c ∷ d ∷ rest) w else if is_low_surrogate w then Err 5 else Ok (w, 6) in
    ap (λ o. and_then o next) (unit_read_2 a b c d rest p q r s) ∙ ap next e

alone_read : (high low : Bool) (x : Result (ℕ × ℕ) ℕ) (u : ℕ) → high ≡ false → low ≡ false → (if high then x else if low then Err 5 else Ok (u, 6)) ≡ Ok (u, 6)
alone_read high low x u p q = rw (p, q) refl

high_read : (high low : Bool) (x y : Result (ℕ × ℕ) ℕ) → high ≡ true → (if high then x else y) ≡ x
high_read high low x y p = rw p refl

u_read : (xs : List ℕ) → escape_at (92 ∷ 117 ∷ xs) ≡ unicode_at (92 ∷ 117 ∷ xs)
unfolding escape_at
u_read xs = refl

character_read : (e c : ℕ) (rest : List ℕ) → escaped_character e ≡ Some c → escape_at (92 ∷ e ∷ rest) ≡ Ok (c, 2)
unfolding escape_at
character_read e c rest h = ap (λ (b : Bool). if b then unicode_at (92 ∷ e ∷ rest) else found_or 1 2 (escaped_character e)) (not_u e c h) ∙ ap (found_or 1 2) h

lone_read : (s : List ℕ) (u : ℕ) (rest : List ℕ) → IsEscapedUnicode s u → IsScalar u → escape_at (92 ∷ 117 ∷ (s ++ rest)) ≡ Ok (u, 2 + length s)
lone_read s u rest (a, b, c, d, same, hex, unit) k =
    let f = all_four (is_hex a) (is_hex b) (is_hex c) (is_hex d) (subst (λ t. list_all is_hex t ≡ true) same hex) in
    let text = 92 ∷ 117 ∷ a ∷ b ∷ c ∷ d ∷ rest in
    subst (λ t. escape_at (92 ∷ 117 ∷ (t ++ rest)) ≡ Ok (u, 2 + length t)) (sym same)
    (u_read (a ∷ b ∷ c ∷ d ∷ rest) ∙ unicode_read a b c d u rest f.0 f.1 f.2 f.3 unit ∙ alone_read (is_high_surrogate u) (is_low_surrogate u) (pair_at text u) u (scalar_not_high u k) (scalar_not_low u k))

two_read : (s t : List ℕ) (u v : ℕ) (rest : List ℕ) → IsEscapedUnicode s u → IsEscapedUnicode t v → is_high_surrogate u ≡ true → is_low_surrogate v ≡ true → escape_at (92 ∷ 117 ∷ (s ++ (92 ∷ 117 ∷ (t ++ rest)))) ≡ Ok (surrogate_pair_char u v, 12)
two_read s t u v rest (a, b, c, d, same, hex, unit) (i, j, k, l, same2, hex2, unit2) high low =
    let f = all_four (is_hex a) (is_hex b) (is_hex c) (is_hex d) (subst (λ t. list_all is_hex t ≡ true) same hex) in
    let g = all_four (is_hex i) (is_hex j) (is_hex k) (is_hex l) (subst (λ t. list_all is_hex t ≡ true) same2 hex2) in
    let text = 92 ∷ 117 ∷ a ∷ b ∷ c ∷ d ∷ 92 ∷ 117 ∷ i ∷ j ∷ k ∷ l ∷ rest in
    subst (λ w. escape_at (92 ∷ 117 ∷ (w ++ (92 ∷ 117 ∷ (t ++ rest)))) ≡ Ok (surrogate_pair_char u v, 12)) (sym same)
    (subst (λ w. escape_at (92 ∷ 117 ∷ a ∷ b ∷ c ∷ d ∷ 92 ∷ 117 ∷ (w ++ rest)) ≡ Ok (surrogate_pair_char u v, 12)) (sym same2)
    (u_read (a ∷ b ∷ c ∷ d ∷ 92 ∷ 117 ∷ i ∷ j ∷ k ∷ l ∷ rest) ∙ unicode_read a b c d u (92 ∷ 117 ∷ i ∷ j ∷ k ∷ l ∷ rest) f.0 f.1 f.2 f.3 unit
    ∙ high_read (is_high_surrogate u) (is_low_surrogate u) (pair_at text u) (if is_low_surrogate u then Err 5 else Ok (u, 6)) high
    ∙ pair_read a b c d i j k l u v rest g.0 g.1 g.2 g.3 unit2 low))

unit_length : (s : List ℕ) (u : ℕ) → IsEscapedUnicode s u → length s ≡ 4
unit_length s u (a, b, c, d, same, hex, unit) = ap length same

pub escape_read : {s : List ℕ} {c : ℕ} → IsEscape s c → (rest : List ℕ) → escape_at (s ++ rest) ≡ Ok (c, length s)
escape_read (character {e} {c} h) rest = character_read e c rest h
escape_read (unicode {s} {u} h k) rest = let n : 2 + length s ≡ suc (suc (length s)) = omega arith in lone_read s u rest h k ∙ ap (λ (m : ℕ). Ok (u, m)) n
escape_read (pair {s} {t} {u} {v} h k high low) rest =
    let long : 12 ≡ length (92 ∷ 117 ∷ (s ++ (92 ∷ 117 ∷ t))) = omega (arith, length-append s (92 ∷ 117 ∷ t), unit_length s u h, unit_length t v k) in
    ap (λ w. escape_at (92 ∷ 117 ∷ w)) (append_assoc s (92 ∷ 117 ∷ t) rest) ∙ two_read s t u v rest h k high low ∙ ap (λ (m : ℕ). Ok (surrogate_pair_char u v, m)) long

-- ---- an escape ends with an ASCII byte
abbrev pub EndsAscii : List ℕ → Type 0
EndsAscii s = (0 < length s) × (get_or s (length s - 1) 0 < 128)

last_digit : (s : List ℕ) (u : ℕ) → IsEscapedUnicode s u → (length s ≡ 4) × (get_or s 3 0 < 128)
last_digit s u (a, b, c, d, same, hex, unit) =
    let f = all_four (is_hex a) (is_hex b) (is_hex c) (is_hex d) (subst (λ t. list_all is_hex t ≡ true) same hex) in
    (ap length same, subst (λ t. get_or t 3 0 < 128) (sym same) (hex_ascii d f.3))

last_of_pair : (s t : List ℕ) (u : ℕ) → IsEscapedUnicode s u → (length t ≡ 4) × (get_or t 3 0 < 128) → EndsAscii (92 ∷ 117 ∷ (s ++ (92 ∷ 117 ∷ t)))
last_of_pair s t u (a, b, c, d, same, hex, unit) l =
    let n : suc (suc (suc (suc (suc (suc (suc (suc (length t)))))))) - 1 ≡ 11 = omega (arith, l.0) in
    subst (λ w. EndsAscii (92 ∷ 117 ∷ (w ++ (92 ∷ 117 ∷ t)))) (sym same) (omega arith, rw n l.1)

pub ends_ascii : {s : List ℕ} {c : ℕ} → IsEscape s c → EndsAscii s
ends_ascii (character {e} {c} h) = (omega arith, escaped_ascii e c h)
ends_ascii (unicode {s} {u} h k) =
    let l = last_digit s u h in
    let n : suc (suc (length s)) - 1 ≡ 5 = omega (arith, l.0) in
    (omega arith, rw n l.1)
ends_ascii (pair {s} {t} {u} {v} h k high low) = last_of_pair s t u h (last_digit t v k)
