-- Counts of numbers, and of the bits of words.
use Rattle.std.proofs.Common.{◌≡◌, ℕ, zero, suc, ◌+◌, ◌*◌, ◌-◌, ◌/◌, ◌%◌, ◌^◌, ◌<◌, ◌≤◌, min, max, Bool, true, false, cond, not, ◌&&◌, ◌||◌, ◌⊎◌, eqb, nat_eq, nat_lt, List, length, get_or, take, set, refl, sym, ◌∙◌, ap, inl, inr, arith, eq-eqb, ne_eqb, get_or-set_same, get_or-set_other, w64}
use Rattle.std.proofs.lemmas.Bool.{cases_eq, cases_lt, cases_order, cond_both, lt-ltb, le-ltb}
use Rattle.std.proofs.lemmas.List.{get_or-take, length-take}
use Rattle.std.proofs.lemmas.Nat.{and_le_l, shr_split, ones_cat, mod-pow-add, mod_below, pow_pos, one_shl}
use Rattle.std.proofs.lemmas.Nat.Bits.{bit_at_and, bit_at_or, bit_at_not, bit_at-lt, bit_at_cat_low, bit_at_above, bit_at-zero}
use lib.Count.{ones, ones_in}
use Rattle.std.specs.Prelude.{bit_and, bit_or, count_ones}
use Rattle.std.specs.Int.{bit_at}
use Rattle.bit_matrix.specs.Count.{count_below}
use Rattle.bit_matrix.specs.Set.{bit_of, is_bit}
use Rattle.bit_matrix.proofs.Bits.{bit_of_past}

-- ---- tests

or_none : (b : Bool) → (b || false) ≡ b
or_none true = refl
or_none false = refl

and_none : (b : Bool) → (b && false) ≡ false
and_none true = refl
and_none false = refl

and_all : (b : Bool) → (b && true) ≡ b
and_all true = refl
and_all false = refl

or_or : (a b c : Bool) → ((a || b) || c) ≡ (a || (b || c))
or_or true b c = refl
or_or false b c = refl

-- what an `or` adds
or_new : (a b : Bool) → ((a || b) && not a) ≡ (b && not a)
or_new true true = refl
or_new true false = refl
or_new false true = refl
or_new false false = refl

-- ---- counts

abbrev one : Bool → ℕ
one b = cond b 1 0

pub count_le : (p : ℕ → Bool) (n : ℕ) → count_below p n ≤ n
count_le p zero = omega arith
count_le p (suc n) =
    cond_both (p n) 1 0 (λ (x : ℕ). count_below p n + x ≤ suc n) (λ _. omega (arith, count_le p n)) (λ _. omega (arith, count_le p n))

pub count_none : (p : ℕ → Bool) (n : ℕ) → ((k : ℕ) → k < n → p k ≡ false) → count_below p n ≡ 0
count_none p zero none = refl
count_none p (suc n) none =
    let last : one (p n) ≡ 0 = ap one (none n (omega arith)) in
    omega (arith, last, count_none p n (λ k h. none k (omega arith)))

pub count_same : (a : ℕ → Bool) (n : ℕ) → 0 ≡ count_below (λ k. a k && not (a k)) n
count_same a n = sym (count_none (λ k. a k && not (a k)) n (λ k _. nothing (a k)))
  where
    nothing : (b : Bool) → (b && not b) ≡ false
    nothing true = refl
    nothing false = refl

-- numbers from a on that are not of the kind add nothing
pub count_end : (p : ℕ → Bool) (a b : ℕ) → a ≤ b → ((k : ℕ) → a ≤ k → p k ≡ false) → count_below p b ≡ count_below p a
count_end p a zero within none = let e : zero ≡ a = omega arith in ap (count_below p) e
count_end p a (suc b) within none =
    elim (cases_lt b a) [
      | inl here ↦ let e : suc b ≡ a = omega arith in ap (count_below p) e
      | inr past ↦
          let last : one (p b) ≡ 0 = ap one (none b past) in
          omega (arith, last, count_end p a b past none)
    ]

pub count_like : (p q : ℕ → Bool) (n : ℕ) → ((k : ℕ) → p k ≡ q k) → count_below p n ≡ count_below q n
count_like p q zero same = refl
count_like p q (suc n) same =
    let last : one (p n) ≡ one (q n) = ap one (same n) in
    omega (arith, last, count_like p q n same)

new_twice : (a x y : Bool) → one (((a || x) || y) && not a) ≡ one ((a || x) && not a) + one (((a || x) || y) && not (a || x))
new_twice true x y = refl
new_twice false true y = refl
new_twice false false true = refl
new_twice false false false = refl

-- b is a with numbers added, and c is b with numbers added: what is new in c was new in b, or is new since then
pub count_twice : (a b c x y : ℕ → Bool) (n : ℕ) → ((k : ℕ) → b k ≡ (a k || x k)) → ((k : ℕ) → c k ≡ (b k || y k))
    → count_below (λ k. c k && not (a k)) n ≡ count_below (λ k. b k && not (a k)) n + count_below (λ k. c k && not (b k)) n
count_twice a b c x y zero first second = refl
count_twice a b c x y (suc n) first second =
    let last : one (c n && not (a n)) ≡ one (b n && not (a n)) + one (c n && not (b n)) =
    rw (second n, first n) (new_twice (a n) (x n) (y n)) in
    omega (arith, last, count_twice a b c x y n first second)

-- ---- bits of a word

bit_ones : (b : ℕ) → b < 2 → count_ones b ≡ one (eqb b 1)
unfolding ones ones_in
bit_ones zero low = refl
bit_ones (suc zero) low = refl
bit_ones (suc (suc b)) low = absurd (omega arith)

ones_more : (w d : ℕ) → count_ones (w % 2 ^ suc d) ≡ count_ones (w % 2 ^ d) + one (is_bit w d)
ones_more w d =
    let e : suc d ≡ 1 + d = omega arith in
    ap (λ (k : ℕ). count_ones (w % 2 ^ k)) e
    ∙ (ap count_ones (mod-pow-add w 1 d)
    ∙ omega (arith, ones_cat d (bit_at w d) (w % 2 ^ d) (mod_below w (2 ^ d) (pow_pos d)), bit_ones (bit_at w d) (bit_at-lt w d)))

abbrev pub in_word : ℕ → ℕ → ℕ → Bool
in_word index w n = nat_eq (n / 64) index && is_bit w (n % 64)

module _ (p : ℕ → Bool) (index w : ℕ) (is : (n : ℕ) → p n ≡ in_word index w n) where
  inside : (d : ℕ) → d < 64 → p (64 * index + d) ≡ is_bit w d
  inside d low =
      let row : (64 * index + d) / 64 ≡ index = omega arith in
      let place : (64 * index + d) % 64 ≡ d = omega arith in
      is (64 * index + d) ∙ (ap (λ b. b && is_bit w ((64 * index + d) % 64)) (eq-eqb _ index row) ∙ ap (is_bit w) place)

  outside : (n : ℕ) → (n / 64 ≡ index → ⊥) → p n ≡ false
  outside n other = is n ∙ ap (λ b. b && is_bit w (n % 64)) (ne_eqb _ index other)

  count_low : (d : ℕ) → d ≤ 64 → count_below p (64 * index + d) ≡ count_ones (w % 2 ^ d)
  count_low zero within =
      let e : 64 * index + 0 ≡ 64 * index = omega arith in
      let low : w % 1 ≡ 0 = omega arith in
      ap (count_below p) e ∙ (count_none p (64 * index) (λ k h. outside k (λ s. absurd (omega arith))) ∙ sym (ap count_ones low ∙ bit_ones 0 (omega arith)))
  count_low (suc d) within =
      let e : 64 * index + suc d ≡ suc (64 * index + d) = omega arith in
      let last : one (p (64 * index + d)) ≡ one (is_bit w d) = ap one (inside d (omega arith)) in
      ap (count_below p) e ∙ omega (arith, last, count_low d (omega arith), ones_more w d)

  -- the numbers of a word are as many as its bits
  pub count_word : (end : ℕ) → w < 2 ^ 64 → 64 * index + 64 ≤ end → count_ones w ≡ count_below p end
  count_word end fits within =
      let e : w % 2 ^ 64 ≡ w = omega arith in
      sym (count_end p (64 * index + 64) end within (λ k h. outside k (λ s. absurd (omega arith))) ∙ (count_low 64 (omega arith) ∙ ap count_ones e))

-- ---- a word that was written

is_or : (a b k : ℕ) → is_bit (bit_or a b) k ≡ (is_bit a k || is_bit b k)
is_or a b k = ap (λ (x : ℕ). eqb x 1) (bit_at_or a b k) ∙ flags (bit_at a k) (bit_at b k) (bit_at-lt a k) (bit_at-lt b k)
  where
    flags : (x y : ℕ) → x < 2 → y < 2 → eqb (max x y) 1 ≡ (eqb x 1 || eqb y 1)
    flags zero zero l h = refl
    flags zero (suc zero) l h = refl
    flags (suc zero) zero l h = refl
    flags (suc zero) (suc zero) l h = refl
    flags (suc (suc x)) y l h = absurd (omega arith)
    flags x (suc (suc y)) l h = absurd (omega arith)

is_new : (a b k : ℕ) → b < 2 ^ 64 → k < 64 → is_bit (bit_and a (2 ^ 64 - 1 - b)) k ≡ (is_bit a k && not (is_bit b k))
is_new a b k fits low =
    ap (λ (x : ℕ). eqb x 1) (bit_at_and a (2 ^ 64 - 1 - b) k ∙ ap (min (bit_at a k)) (bit_at_not w64 b k fits low))
    ∙ flags (bit_at a k) (bit_at b k) (bit_at-lt a k) (bit_at-lt b k)
  where
    flags : (x y : ℕ) → x < 2 → y < 2 → eqb (min x (1 - y)) 1 ≡ (eqb x 1 && not (eqb y 1))
    flags zero zero l h = refl
    flags zero (suc zero) l h = refl
    flags (suc zero) zero l h = refl
    flags (suc zero) (suc zero) l h = refl
    flags (suc (suc x)) y l h = absurd (omega arith)
    flags x (suc (suc y)) l h = absurd (omega arith)

module _ (words : List ℕ) (index old word : ℕ) (within : index < length words) (read : old ≡ get_or words index 0) where
  pub word_union : (n : ℕ) → bit_of (set words index (bit_or old word)) n ≡ (bit_of words n || in_word index word n)
  word_union n =
      elim (cases_eq (n / 64) index) [
        | inl here ↦
            let written : get_or (set words index (bit_or old word)) (n / 64) 0 ≡ bit_or old word =
            ap (λ (x : ℕ). get_or (set words index (bit_or old word)) x 0) here ∙ get_or-set_same words index (bit_or old word) 0 within in
            let was : old ≡ get_or words (n / 64) 0 = read ∙ ap (λ (x : ℕ). get_or words x 0) (sym here) in
            ap (λ (x : ℕ). is_bit x (n % 64)) written
            ∙ (is_or old word (n % 64)
            ∙ (ap (λ (x : ℕ). is_bit x (n % 64) || is_bit word (n % 64)) was
            ∙ ap (λ (b : Bool). bit_of words n || (b && is_bit word (n % 64))) (sym (eq-eqb (n / 64) index here))))
        | inr other ↦
            ap (λ (x : ℕ). is_bit x (n % 64)) (get_or-set_other words index (n / 64) (bit_or old word) 0 other)
            ∙ (sym (or_none (bit_of words n)) ∙ ap (λ (b : Bool). bit_of words n || (b && is_bit word (n % 64))) (sym (ne_eqb (n / 64) index other)))
      ]

  -- which numbers are new after the union
  word_new : old < 2 ^ 64 → (n : ℕ) → ((bit_of words n || in_word index word n) && not (bit_of words n)) ≡ in_word index (bit_and word (2 ^ 64 - 1 - old)) n
  word_new fits n =
      elim (cases_eq (n / 64) index) [
        | inl here ↦
            let was : old ≡ get_or words (n / 64) 0 = read ∙ ap (λ (x : ℕ). get_or words x 0) (sym here) in
            ap (λ (b : Bool). (bit_of words n || (b && is_bit word (n % 64))) && not (bit_of words n)) (eq-eqb (n / 64) index here)
            ∙ (or_new (bit_of words n) (is_bit word (n % 64))
            ∙ (ap (λ (x : ℕ). is_bit word (n % 64) && not (is_bit x (n % 64))) (sym was)
            ∙ (sym (is_new word old (n % 64) fits (omega arith))
            ∙ ap (λ (b : Bool). b && is_bit (bit_and word (2 ^ 64 - 1 - old)) (n % 64)) (sym (eq-eqb (n / 64) index here)))))
        | inr other ↦
            ap (λ (b : Bool). (bit_of words n || (b && is_bit word (n % 64))) && not (bit_of words n)) (ne_eqb (n / 64) index other)
            ∙ (or_new (bit_of words n) false ∙ ap (λ (b : Bool). b && is_bit (bit_and word (2 ^ 64 - 1 - old)) (n % 64)) (sym (ne_eqb (n / 64) index other)))
      ]

  pub word_added : (has : ℕ → Bool) → old < 2 ^ 64 → word < 2 ^ 64 → (end : ℕ) → 64 * index + 64 ≤ end
      → ((n : ℕ) → has n ≡ bit_of (set words index (bit_or old word)) n)
      → count_ones (bit_and word (2 ^ 64 - 1 - old)) ≡ count_below (λ n. has n && not (bit_of words n)) end
  word_added has fits small end room is =
      count_word (λ n. has n && not (bit_of words n)) index (bit_and word (2 ^ 64 - 1 - old))
      (λ n. ap (λ (b : Bool). b && not (bit_of words n)) (is n ∙ word_union n) ∙ word_new fits n)
      end (omega (arith, and_le_l word (2 ^ 64 - 1 - old))) room

-- ---- a word that is cut at a limit

pub word_cut : (words : List ℕ) (limit word : ℕ) → word ≡ get_or words (limit / 64) 0 → (n : ℕ) → n / 64 ≡ limit / 64
    → is_bit (word % (1 * 2 ^ (limit % 64) % 2 ^ 64)) (n % 64) ≡ (bit_of words n && nat_lt n limit)
word_cut words limit word read n row =
    let m : ℕ = limit % 64 in
    let k : ℕ = n % 64 in
    let was : is_bit word k ≡ bit_of words n = ap (λ (x : ℕ). is_bit x k) (read ∙ ap (λ (x : ℕ). get_or words x 0) (sym row)) in
    ap (λ (x : ℕ). is_bit (word % x) k) (one_shl m 64 (omega arith))
    ∙ elim (cases_lt n limit) [
      | inl below ↦
          sym (ap (λ (x : ℕ). eqb x 1) (bit_at_cat_low (word / 2 ^ m) m (word % 2 ^ m) k (omega arith)))
          ∙ (ap (λ (x : ℕ). is_bit x k) (shr_split word m)
          ∙ (was ∙ (sym (and_all (bit_of words n)) ∙ ap (λ (b : Bool). bit_of words n && b) (sym (lt-ltb n limit below)))))
      | inr past ↦
          ap (λ (x : ℕ). eqb x 1) (bit_at_above (word % 2 ^ m) m k (mod_below word (2 ^ m) (pow_pos m)) (omega arith))
          ∙ (sym (and_none (bit_of words n)) ∙ ap (λ (b : Bool). bit_of words n && b) (sym (le-ltb n limit past)))
    ]

pub no_word : (words : List ℕ) (limit : ℕ) → length words ≤ limit / 64 → (n : ℕ) → n / 64 ≡ limit / 64
    → is_bit 0 (n % 64) ≡ (bit_of words n && nat_lt n limit)
no_word words limit past n row =
    ap (λ (x : ℕ). eqb x 1) (bit_at-zero (n % 64)) ∙ sym (ap (λ (b : Bool). b && nat_lt n limit) (bit_of_past words n (omega arith)))

-- ---- words one after the other

-- the numbers of the first words
abbrev pub in_words : List ℕ → ℕ → ℕ → Bool
in_words words i n = nat_lt (n / 64) i && bit_of words n

pub no_words : (words : List ℕ) (a : Bool) (n : ℕ) → a ≡ (a || in_words words 0 n)
no_words words a n = sym (or_none a) ∙ ap (λ (b : Bool). a || (b && bit_of words n)) (sym (le-ltb (n / 64) 0 (omega arith)))

pub next_word : (words : List ℕ) (i word : ℕ) → word ≡ get_or words i 0 → (a b c : Bool) (n : ℕ)
    → b ≡ (a || in_words words i n) → c ≡ (b || in_word i word n) → c ≡ (a || in_words words (i + 1) n)
next_word words i word read a b c n first second =
    second ∙ (ap (λ (x : Bool). x || in_word i word n) first ∙ elim (cases_order (n / 64) i) [
      | inl here ↦
          let was : is_bit word (n % 64) ≡ bit_of words n = ap (λ (x : ℕ). is_bit x (n % 64)) (read ∙ ap (λ (x : ℕ). get_or words x 0) (sym here)) in
          ap (λ (x : Bool). (a || (x && bit_of words n)) || in_word i word n) (le-ltb (n / 64) i (omega arith))
          ∙ (ap (λ (x : Bool). (a || false) || (x && is_bit word (n % 64))) (eq-eqb (n / 64) i here)
          ∙ (ap (λ (x : Bool). (a || false) || x) was
          ∙ (ap (λ (x : Bool). x || bit_of words n) (or_none a)
          ∙ ap (λ (x : Bool). a || (x && bit_of words n)) (sym (lt-ltb (n / 64) (i + 1) (omega arith))))))
      | inr apart ↦
          ap (λ (x : Bool). (a || in_words words i n) || (x && is_bit word (n % 64))) (ne_eqb (n / 64) i (λ e. other apart e))
          ∙ (or_none (a || in_words words i n)
          ∙ ap (λ (x : Bool). a || (x && bit_of words n)) (tests apart))
    ])
  where
    other : (n / 64 < i) ⊎ (i < n / 64) → n / 64 ≡ i → ⊥
    other apart e = elim apart [ inl l ↦ omega arith | inr h ↦ omega arith ]

    tests : (n / 64 < i) ⊎ (i < n / 64) → nat_lt (n / 64) i ≡ nat_lt (n / 64) (i + 1)
    tests apart = elim apart [
      | inl l ↦ lt-ltb (n / 64) i l ∙ sym (lt-ltb (n / 64) (i + 1) (omega arith))
      | inr h ↦ le-ltb (n / 64) i (omega arith) ∙ sym (le-ltb (n / 64) (i + 1) (omega arith))
    ]

-- ---- the numbers below a limit

module _ (words : List ℕ) (whole limit cut : ℕ) (fits : whole ≡ min (length words) (limit / 64))
    (last : (n : ℕ) → n / 64 ≡ limit / 64 → is_bit cut (n % 64) ≡ (bit_of words n && nat_lt n limit)) where
  past : (n : ℕ) → whole ≤ n / 64 → bit_of (take whole words) n ≡ false
  past n far = bit_of_past (take whole words) n (omega (arith, length-take {A = ℕ}))

  early : (n : ℕ) → n / 64 < limit / 64 → bit_of (take whole words) n ≡ bit_of words n
  early n near =
      elim (cases_lt (n / 64) (length words)) [
        | inl here ↦ ap (λ (x : ℕ). is_bit x (n % 64)) (get_or-take whole words (n / 64) 0 (omega arith))
        | inr far ↦ past n (omega arith) ∙ sym (bit_of_past words n far)
      ]

  -- those of whole words, and those of the word that is cut
  pub below_limit : (n : ℕ) → (bit_of (take whole words) n || in_word (limit / 64) cut n) ≡ (bit_of words n && nat_lt n limit)
  below_limit n =
      elim (cases_eq (n / 64) (limit / 64)) [
        | inl here ↦
            ap (λ (b : Bool). b || in_word (limit / 64) cut n) (past n (omega arith))
            ∙ (ap (λ (b : Bool). b && is_bit cut (n % 64)) (eq-eqb (n / 64) (limit / 64) here) ∙ last n here)
        | inr other ↦
            ap (λ (b : Bool). bit_of (take whole words) n || (b && is_bit cut (n % 64))) (ne_eqb (n / 64) (limit / 64) other)
            ∙ elim (cases_lt n limit) [
              | inl near ↦
                  ap (λ (b : Bool). b || false) (early n (omega arith))
                  ∙ (or_none (bit_of words n) ∙ (sym (and_all (bit_of words n)) ∙ ap (λ (b : Bool). bit_of words n && b) (sym (lt-ltb n limit near))))
              | inr far ↦
                  ap (λ (b : Bool). b || false) (past n (omega arith))
                  ∙ (sym (and_none (bit_of words n)) ∙ ap (λ (b : Bool). bit_of words n && b) (sym (le-ltb n limit far)))
            ]
      ]

  pub below_whole : cut ≡ 0 → (n : ℕ) → bit_of (take whole words) n ≡ (bit_of words n && nat_lt n limit)
  below_whole zero_cut n =
      sym (ap (λ (x : ℕ). bit_of (take whole words) n || (nat_eq (n / 64) (limit / 64) && is_bit x (n % 64))) zero_cut
      ∙ (ap (λ (x : ℕ). bit_of (take whole words) n || (nat_eq (n / 64) (limit / 64) && eqb x 1)) (bit_at-zero (n % 64))
      ∙ (ap (λ (b : Bool). bit_of (take whole words) n || b) (and_none (nat_eq (n / 64) (limit / 64))) ∙ or_none (bit_of (take whole words) n))))
      ∙ below_limit n

-- what is new, counted further than the limit and from a set that is like the old one
pub added_below : (old grown after others : ℕ → Bool) (limit end added : ℕ) → limit ≤ end → ((n : ℕ) → grown n ≡ old n)
    → ((n : ℕ) → after n ≡ (old n || (others n && nat_lt n limit)))
    → added ≡ count_below (λ n. after n && not (grown n)) end → added ≡ count_below (λ n. after n && not (old n)) limit
added_below old grown after others limit end added far same union counted =
    counted
    ∙ (count_like (λ n. after n && not (grown n)) (λ n. after n && not (old n)) end (λ n. ap (λ (b : Bool). after n && not b) (same n))
    ∙ count_end (λ n. after n && not (old n)) limit end far (λ n h.
    ap (λ (b : Bool). b && not (old n)) (union n)
    ∙ (ap (λ (b : Bool). (old n || (others n && b)) && not (old n)) (le-ltb n limit h)
    ∙ (ap (λ (b : Bool). (old n || b) && not (old n)) (and_none (others n)) ∙ or_new (old n) false))))

-- one union after another, of sets that the functions define
module _ (old grown between after first second others : ℕ → Bool) (limit : ℕ) (same : (n : ℕ) → grown n ≡ old n)
    (one_union : (n : ℕ) → between n ≡ (grown n || first n)) (next_union : (n : ℕ) → after n ≡ (between n || second n))
    (both : (n : ℕ) → (first n || second n) ≡ (others n && nat_lt n limit)) where
  pub both_unions : (n : ℕ) → after n ≡ (old n || (others n && nat_lt n limit))
  both_unions n =
      next_union n
      ∙ (ap (λ (b : Bool). b || second n) (one_union n ∙ ap (λ (b : Bool). b || first n) (same n))
      ∙ (or_or (old n) (first n) (second n) ∙ ap (λ (b : Bool). old n || b) (both n)))

  pub both_added : (end added more : ℕ) → limit ≤ end → added ≡ count_below (λ n. between n && not (grown n)) end
      → more ≡ count_below (λ n. after n && not (between n)) end → added + more ≡ count_below (λ n. after n && not (old n)) limit
  both_added end added more far counted recounted =
      added_below old grown after others limit end (added + more) far same both_unions
      (omega (arith, counted, recounted, count_twice grown between after first second end one_union next_union))
