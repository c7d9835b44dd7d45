-- The lines that end in a text, where one byte more is looked at.
use Rattle.std.proofs.Common.{◌≡◌, ◌∙◌, ◌+◌, ◌==◌, ◌&&◌, ◌<◌, ◌≤◌, ℕ, Bool, true, false, not, if◌then◌else◌, List, [], ◌∷◌, ◌++◌, length, get_or, take, refl, sym, ap, arith, eqb-true}
use Rattle.std.proofs.lemmas.List.{take_more, take_all}
use Rattle.lint_sources.specs.Lines.{line_ends, more_ends}

-- the last byte, and 0 of no text
abbrev pub last_byte : List ℕ → ℕ
last_byte [] = 0
last_byte (byte ∷ []) = byte
last_byte (byte ∷ next ∷ bytes) = last_byte (next ∷ bytes)

last_byte-append : (bytes : List ℕ) (byte : ℕ) → last_byte (bytes ++ byte ∷ []) ≡ byte
last_byte-append [] byte = refl
last_byte-append (first ∷ []) byte = refl
last_byte-append (first ∷ next ∷ bytes) byte = last_byte-append (next ∷ bytes) byte

-- no byte is both
both : (p q : Bool) → (p ≡ true → q ≡ true → ⊥) → (p && q) ≡ false
both true true apart = absurd (apart refl refl)
both true false apart = refl
both false q apart = refl

apart : (byte : ℕ) → ((byte == 13) && (byte == 10)) ≡ false
apart byte = both (byte == 13) (byte == 10) (λ r f. let a : byte ≡ 13 = eqb-true byte 13 r in let b : byte ≡ 10 = eqb-true byte 10 f in omega arith)

abbrev number : Bool → ℕ
number b = if b then 1 else 0

-- one byte before another: the first is a carriage return or a line feed, and so is the other
one_more_of : (first_return first_feed return feed : Bool) → (return && feed) ≡ false → number (if first_return then not feed else first_feed) + (number (if return then not false else feed) + 0) ≡ number (if first_return then not false else first_feed) + 0 + (if return then 1 else if feed then (if first_return then 0 else 1) else 0)
one_more_of first_return first_feed true true h = cc
one_more_of true first_feed true false h = refl
one_more_of false true true false h = refl
one_more_of false false true false h = refl
one_more_of true first_feed false true h = refl
one_more_of false true false true h = refl
one_more_of false false false true h = refl
one_more_of true first_feed false false h = refl
one_more_of false true false false h = refl
one_more_of false false false false h = refl

-- a carriage return ends a line, and a line feed does unless it belongs to the carriage return before it
line_ends-append : (bytes : List ℕ) (byte : ℕ) → line_ends (bytes ++ byte ∷ []) ≡ line_ends bytes + more_ends (last_byte bytes == 13) byte
line_ends-append [] byte = first_of (byte == 13) (byte == 10)
  where
    first_of : (return feed : Bool) → number (if return then not false else feed) + 0 ≡ 0 + (if return then 1 else if feed then 1 else 0)
    first_of true feed = refl
    first_of false true = refl
    first_of false false = refl
line_ends-append (first ∷ []) byte = one_more_of (first == 13) (first == 10) (byte == 13) (byte == 10) (apart byte)
line_ends-append (first ∷ next ∷ bytes) byte = let more = line_ends-append (next ∷ bytes) byte in omega (arith, more)

more_ends-le : (return feed after : Bool) → (if return then 1 else if feed then (if after then 0 else 1) else 0) ≤ 1
more_ends-le true feed after = omega arith
more_ends-le false true true = omega arith
more_ends-le false true false = omega arith
more_ends-le false false after = omega arith

-- the lines that end in the first bytes of a text are counted, and the last of these bytes is known
pub record Counts (text : List ℕ) (index ended : ℕ) (after_return : Bool) : Type 0 where
  pub counted : ended ≡ line_ends (take index text)
  pub within : ended ≤ index
  pub is_after : after_return ≡ (last_byte (take index text) == 13)

-- one byte more
pub counts_more : (text : List ℕ) (index ended : ℕ) (after : Bool) (more : ℕ) → index < length text → Counts text index ended after → more ≡ more_ends after (get_or text index 0) → Counts text (index + 1) (ended + more) (get_or text index 0 == 13)
counts_more text index ended after more inside counts one = let e = take_more text index 0 inside in let l = line_ends-append (take index text) (get_or text index 0) in let m : more ≡ more_ends (last_byte (take index text) == 13) (get_or text index 0) = one ∙ ap (λ a. more_ends a (get_or text index 0)) counts.is_after in let le = more_ends-le (get_or text index 0 == 13) (get_or text index 0 == 10) after in record {
  counted = sym (ap line_ends e ∙ l ∙ ap (λ n. line_ends (take index text) + n) (sym m) ∙ ap (λ n. n + more) (sym counts.counted));
  within = omega (arith, le, one, counts.within);
  is_after = ap (λ b. b == 13) (sym (ap last_byte e ∙ last_byte-append (take index text) (get_or text index 0)));
}

-- a line feed after the text
fed : (text : List ℕ) (ended : ℕ) (after : Bool) → ended ≡ line_ends text → after ≡ (last_byte text == 13) → ended + (if after then 0 else 1) ≡ line_ends (text ++ 10 ∷ [])
fed text ended after counted is_after = sym (line_ends-append text 10 ∙ ap (λ n. n + (if last_byte text == 13 then 0 else 1)) (sym counted) ∙ ap (λ a. ended + (if a then 0 else 1)) (sym is_after))

-- the whole text was looked at
pub counts_all : (text : List ℕ) (index ended : ℕ) (after : Bool) → length text ≤ index → Counts text index ended after → (ended ≡ line_ends text) × (ended + (if after then 0 else 1) ≡ line_ends (text ++ 10 ∷ []))
counts_all text index ended after over counts = let e = take_all index text over in let c = counts.counted ∙ ap line_ends e in (c, fed text ended after c (counts.is_after ∙ ap (λ t. last_byte t == 13) e))
