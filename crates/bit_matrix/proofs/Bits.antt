-- Bits of words.
use Rattle.std.proofs.Common.{◌≡◌, ℕ, ◌*◌, ◌-◌, ◌/◌, ◌%◌, ◌^◌, ◌<◌, ◌≤◌, Bool, true, false, not, eqb, List, ◌++◌, length, take, replicate, get_or, set, refl, sym, ◌∙◌, ap, inl, inr, arith, get_or-set_same, get_or-set_other, eq-eqb, ne_eqb, w64}
use Rattle.std.proofs.lemmas.List.{take_all, get_or_past, get_or_append_left, get_or-append_right, get_or-replicate, length-replicate}
use Rattle.std.proofs.lemmas.Bool.{cases_eq, cases_lt}
use Rattle.std.proofs.lemmas.Nat.{one_shl, pow_pos}
use Rattle.std.proofs.lemmas.Nat.Bits.{bit_at_set_same, bit_at_set_other, bit_at-zero, shr_and_one, and_pow}
use Rattle.std.specs.Prelude.{bit_and, bit_or}
use Rattle.std.specs.Int.{bit_at}
use Rattle.bit_matrix.specs.Set.{bit_of}

abbrev is_set : ℕ → ℕ → Bool
is_set k word = eqb (bit_at word k) 1

zero_at : (k i : ℕ) → get_or {A = ℕ} (replicate k 0) i 0 ≡ 0
zero_at k i =
    elim (cases_lt i k) [
      | inl below ↦ get_or-replicate {A = ℕ} k i 0 0 below
      | inr past ↦ get_or_past {X = ℕ} (replicate k 0) i 0 (omega (arith, length-replicate {A = ℕ} k 0))
    ]

word-zeros : (words : List ℕ) (k i : ℕ) → get_or (words ++ replicate k 0) i 0 ≡ get_or words i 0
word-zeros words k i =
    elim (cases_lt i (length words)) [
      | inl below ↦ get_or_append_left words (replicate k 0) 0 i below
      | inr past ↦
          get_or-append_right words (replicate k 0) (length words) i 0 refl past
          ∙ (zero_at k (i - length words) ∙ sym (get_or_past words i 0 past))
    ]

-- zero words at the end add no bit
pub bit_of-zeros : (words : List ℕ) (len k n : ℕ) → length words ≤ len → bit_of (take len words ++ replicate k 0) n ≡ bit_of words n
bit_of-zeros words len k n all =
    ap (λ (ws : List ℕ). bit_of (ws ++ replicate k 0) n) (take_all len words all)
    ∙ ap (is_set (n % 64)) (word-zeros words k (n / 64))

pub bit_of_past : (words : List ℕ) (n : ℕ) → length words ≤ n / 64 → bit_of words n ≡ false
bit_of_past words n past =
    ap (is_set (n % 64)) (get_or_past words (n / 64) 0 past) ∙ ap (λ (x : ℕ). eqb x 1) (bit_at-zero (n % 64))

-- the test `word >> k & 1 == 1`
pub bit_read : (words : List ℕ) (n word : ℕ) → word ≡ get_or words (n / 64) 0
    → eqb (bit_and (word / 2 ^ (n % 64)) 1) 1 ≡ bit_of words n
bit_read words n word read =
    ap (λ (x : ℕ). eqb x 1) (shr_and_one word (n % 64)) ∙ ap (is_set (n % 64)) read

-- the test `word & 1 << k == 0`
clear : (word k : ℕ) → k < 64 → eqb (bit_and word (1 * 2 ^ k % 2 ^ 64)) 0 ≡ not (is_set k word)
clear word k low =
    let e : bit_and word (1 * 2 ^ k % 2 ^ 64) ≡ bit_at word k * 2 ^ k = ap (bit_and word) (one_shl k 64 low) ∙ and_pow word k in
    let b : ℕ = bit_at word k in
    let small : b < 2 = omega arith in
    elim (cases_eq b 1) [
      | inl one ↦
          let some : 0 < bit_and word (1 * 2 ^ k % 2 ^ 64) = rw (e, one) (omega (arith, pow_pos k)) in
          ne_eqb _ 0 (omega arith) ∙ sym (ap not (eq-eqb b 1 one))
      | inr other ↦
          let none : b ≡ 0 = omega arith in
          eq-eqb _ 0 (rw (e, none) (omega arith)) ∙ sym (ap not (ne_eqb b 1 other))
    ]

pub bit_new : (words : List ℕ) (n word : ℕ) → word ≡ get_or words (n / 64) 0
    → eqb (bit_and word (1 * 2 ^ (n % 64) % 2 ^ 64)) 0 ≡ not (bit_of words n)
bit_new words n word read =
    clear word (n % 64) (omega arith) ∙ ap (λ (x : ℕ). not (is_set (n % 64) x)) read

-- the words after `word | 1 << k` was written
abbrev pub with_bit : List ℕ → ℕ → ℕ → List ℕ
with_bit words n word = set words (n / 64) (bit_or word (1 * 2 ^ (n % 64) % 2 ^ 64))

pub bit_there : (words : List ℕ) (n word : ℕ) → n / 64 < length words → bit_of (with_bit words n word) n ≡ true
bit_there words n word within =
    let low : n % 64 < 64 = omega arith in
    ap (is_set (n % 64)) (get_or-set_same words (n / 64) (bit_or word (1 * 2 ^ (n % 64) % 2 ^ 64)) 0 within)
    ∙ eq-eqb _ 1 (bit_at_set_same w64 word (n % 64) low)

pub bit_others : (words : List ℕ) (n word m : ℕ) → n / 64 < length words → word ≡ get_or words (n / 64) 0 → (m ≡ n → ⊥)
    → bit_of (with_bit words n word) m ≡ bit_of words m
bit_others words n word m within read apart =
    let v : ℕ = bit_or word (1 * 2 ^ (n % 64) % 2 ^ 64) in
    let low : n % 64 < 64 = omega arith in
    elim (cases_eq (m / 64) (n / 64)) as (λ _. bit_of (with_bit words n word) m ≡ bit_of words m) [
      | inl row ↦
          ap (λ (x : ℕ). is_set (m % 64) (get_or (with_bit words n word) x 0)) row
          ∙ (ap (is_set (m % 64)) (get_or-set_same words (n / 64) v 0 within)
          ∙ (ap (λ (x : ℕ). eqb x 1) (bit_at_set_other w64 word (n % 64) low (m % 64) (omega arith))
          ∙ ap (is_set (m % 64)) (read ∙ ap (λ (x : ℕ). get_or words x 0) (sym row))))
      | inr other ↦ ap (is_set (m % 64)) (get_or-set_other words (n / 64) (m / 64) v 0 other)
    ]
