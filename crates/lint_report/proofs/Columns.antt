-- What fits into so many columns, as a text is taken apart.
use Rattle.std.proofs.Common.{◌≡◌, ◌∙◌, ◌+◌, ◌-◌, ◌<◌, ◌≤◌, ℕ, Bool, IsUtf8, List, [], ◌∷◌, ◌++◌, append_assoc, append-nil, ap, arith, codes, cond, drop, le-leb, length, length-append, ne_eqb, refl, replicate, subst, sym, take}
use Rattle.std.proofs.Math.Seq.{drop-append_seam, take-append_seam}
use Rattle.std.proofs.Math.Utf8.{encode, encodes}
use Rattle.std.proofs.lemmas.Bool.{lt-leb}
use Rattle.std.proofs.lemmas.Str.{IsCharBoundary-at_seam, IsCharBoundary-from_take, IsUtf8-drop, chars-append, chars-nil, chars_from_encodes, chars_past_char, encodes-append}
use Rattle.std.proofs.lemmas.Grind.{flat_map-append}
use Rattle.std.specs.List.{slice_range}
use Rattle.std.specs.Str.{IsCharBoundary, chars}
use Rattle.lint_report.specs.Colours.{mark}
use Rattle.lint_report.specs.Printable.{printed, printed_all, printed_character}
use Rattle.lint_report.specs.Windows.{blank_for, blanks, columns, first_within, last_within, room_for, room_of, window}
use Rattle.lint_report.proofs.InARow.{five_added}

room_of-append : (front rest : List ℕ) → room_of (front ++ rest) ≡ room_of front + room_of rest
room_of-append [] rest = omega arith
room_of-append (character ∷ front) rest = let more = room_of-append front rest in omega (arith, more)

-- ---- the end of a text

-- a text may be cut where another begins
pub front_boundary : (text front rest : List ℕ) → IsUtf8 text → IsUtf8 front → text ≡ front ++ rest → IsCharBoundary text (length front)
front_boundary text front rest utf8 before is =
    IsCharBoundary-from_take text (length front) utf8 (omega (arith, ap length is, length-append front rest)) (subst IsUtf8 (sym (ap (take (length front)) is ∙ take-append_seam front rest)) before)

-- a text that fits is its own longest end
pub last_within-whole : (room : ℕ) (kept : List ℕ) → room_of kept ≤ room → last_within room kept ≡ kept
last_within-whole room [] fits = refl
last_within-whole room (character ∷ kept) fits = ap (λ b. cond b (character ∷ kept) (last_within room kept)) (le-leb (room_of (character ∷ kept)) room fits)

-- a character that does not fit before others is left out, and so is all before it
pub last_within-past : (room : ℕ) (front : List ℕ) (character : ℕ) (kept : List ℕ) → room < room_for character + room_of kept → last_within room (front ++ character ∷ kept) ≡ last_within room kept
last_within-past room [] character kept over = ap (λ b. cond b (character ∷ kept) (last_within room kept)) (lt-leb (room_of (character ∷ kept)) room over)
last_within-past room (first ∷ front) character kept over =
    let all = room_of-append front (character ∷ kept) in
    let more : room < room_of (first ∷ (front ++ character ∷ kept)) = omega (arith, all, over) in
    ap (λ b. cond b (first ∷ (front ++ character ∷ kept)) (last_within room (front ++ character ∷ kept))) (lt-leb (room_of (first ∷ (front ++ character ∷ kept))) room more)
    ∙ last_within-past room front character kept over

-- the last character of a text
pub last_char : (text front : List ℕ) (character : ℕ) → IsUtf8 text → IsUtf8 front → text ≡ front ++ encode character → chars text ≡ chars front ++ character ∷ []
last_char text front character utf8 before is =
    let last_is : drop (length front) text ≡ encode character = ap (drop (length front)) is ∙ drop-append_seam front (encode character) in
    let last : IsUtf8 (encode character) = subst IsUtf8 last_is (IsUtf8-drop text (length front) utf8 (front_boundary text front (encode character) utf8 before is)) in
    ap chars is ∙ chars-append front (encode character) before
    ∙ ap (λ cs. chars front ++ cs) (chars_past_char (encode character) [] character last (sym (append-nil (encode character))) ∙ ap (λ cs. character ∷ cs) chars-nil)

-- the end of a text is kept, and leaves so many columns
pub record Keeps (text front : List ℕ) (room left : ℕ) : Type 0 where
  pub utf8 : IsUtf8 front
  pub kept : List ℕ
  pub spelled : text ≡ front ++ encodes kept
  pub are : chars text ≡ chars front ++ kept
  pub taken : room_of kept + left ≡ room

pub keeps_none : (text : List ℕ) (room : ℕ) → IsUtf8 text → Keeps text text room room
keeps_none text room utf8 = record { utf8 = utf8; kept = []; spelled = sym (append-nil text); are = sym (append-nil (chars text)); taken = omega arith }

-- one more character
pub keeps_more : (text front before : List ℕ) (character room left taken now : ℕ) → IsUtf8 before → front ≡ before ++ encode character → taken ≡ room_for character → taken ≤ left → now ≡ left - taken
    → Keeps text front room left → Keeps text before room now
keeps_more text front before character room left taken now rest is room_is fits now_is h = record {
  utf8 = rest;
  kept = character ∷ h.kept;
  spelled = h.spelled ∙ ap (λ l. l ++ encodes h.kept) is ∙ append_assoc before (encode character) (encodes h.kept);
  are = h.are ∙ ap (λ l. l ++ h.kept) (last_char front before character h.utf8 rest is) ∙ append_assoc (chars before) (character ∷ []) h.kept;
  taken = omega (arith, h.taken, room_is, fits, now_is);
}

-- all is kept
pub kept_all : (text front : List ℕ) (room left : ℕ) → front ≡ [] → Keeps text front room left → last_within room (chars text) ≡ chars text
kept_all text front room left none h =
    let all : chars text ≡ h.kept = h.are ∙ ap (λ l. l ++ h.kept) (ap chars none ∙ chars-nil) in
    last_within-whole room (chars text) (subst (λ cs. room_of cs ≤ room) (sym all) (omega (arith, h.taken)))

pub left_all : (text front : List ℕ) (room left : ℕ) → front ≡ [] → Keeps text front room left → room_of (chars text) + left ≡ room
left_all text front room left none h =
    let all : chars text ≡ h.kept = h.are ∙ ap (λ l. l ++ h.kept) (ap chars none ∙ chars-nil) in
    ap (λ cs. room_of cs + left) all ∙ h.taken

-- the character before what is kept does not fit
pub kept_part : (text front before : List ℕ) (character room left taken : ℕ) → IsUtf8 before → front ≡ before ++ encode character → taken ≡ room_for character → left < taken
    → (h : Keeps text front room left) → last_within room (chars text) ≡ h.kept
kept_part text front before character room left taken rest is room_is over h =
    let all : chars text ≡ chars before ++ character ∷ h.kept = h.are ∙ ap (λ l. l ++ h.kept) (last_char front before character h.utf8 rest is) ∙ append_assoc (chars before) (character ∷ []) h.kept in
    ap (last_within room) all ∙ last_within-past room (chars before) character h.kept (omega (arith, h.taken, room_is, over))
    ∙ last_within-whole room h.kept (omega (arith, h.taken))

-- ---- the beginning of a text

-- a character that fits
first_within-more : (room character : ℕ) (text : List ℕ) → room_for character ≤ room → first_within room (character ∷ text) ≡ character ∷ first_within (room - room_for character) text
first_within-more room character text fits = ap (λ b. cond b (character ∷ first_within (room - room_for character) text) []) (le-leb (room_for character) room fits)

-- one that does not
first_within-none : (room character : ℕ) (text : List ℕ) → room < room_for character → first_within room (character ∷ text) ≡ []
first_within-none room character text over = ap (λ b. cond b (character ∷ first_within (room - room_for character) text) []) (lt-leb (room_for character) room over)

-- the beginning of a text is taken, and leaves so many columns
pub record Takes (text rest : List ℕ) (room left : ℕ) : Type 0 where
  pub utf8 : IsUtf8 rest
  pub taken : List ℕ
  pub spelled : text ≡ encodes taken ++ rest
  pub are : first_within room (chars text) ≡ taken ++ first_within left (chars rest)

pub takes_none : (text : List ℕ) (room : ℕ) → IsUtf8 text → Takes text text room room
takes_none text room utf8 = record { utf8 = utf8; taken = []; spelled = refl; are = refl }

-- one more character
pub takes_more : (text rest behind : List ℕ) (character room left taken now : ℕ) → IsUtf8 behind → rest ≡ encode character ++ behind → taken ≡ room_for character → taken ≤ left → now ≡ left - taken
    → Takes text rest room left → Takes text behind room now
takes_more text rest behind character room left taken now after is room_is fits now_is h = record {
  utf8 = after;
  taken = h.taken ++ character ∷ [];
  spelled = h.spelled ∙ ap (λ l. encodes h.taken ++ l) is ∙ sym (append_assoc (encodes h.taken) (encode character) behind)
      ∙ ap (λ l. l ++ behind) (sym (encodes-append h.taken (character ∷ []) ∙ ap (λ l. encodes h.taken ++ l) (append-nil (encode character))));
  are = h.are ∙ ap (λ l. h.taken ++ l) (ap (first_within left) (chars_past_char rest behind character h.utf8 is) ∙ first_within-more left character (chars behind) (subst (λ n. n ≤ left) room_is fits)
      ∙ ap (λ n. character ∷ first_within n (chars behind)) (sym (now_is ∙ ap (λ n. left - n) room_is))) ∙ sym (append_assoc h.taken (character ∷ []) (first_within now (chars behind)));
}

-- all is taken
pub taken_all : (text rest : List ℕ) (room left : ℕ) → rest ≡ [] → Takes text rest room left → text ≡ encodes (first_within room (chars text))
taken_all text rest room left none h =
    let all : first_within room (chars text) ≡ h.taken = h.are ∙ ap (λ l. h.taken ++ first_within left l) (ap chars none ∙ chars-nil) ∙ append-nil h.taken in
    h.spelled ∙ ap (λ l. encodes h.taken ++ l) none ∙ append-nil (encodes h.taken) ∙ ap encodes (sym all)

-- the next character does not fit
pub taken_part : (text rest behind : List ℕ) (character room left taken : ℕ) → rest ≡ encode character ++ behind → taken ≡ room_for character → left < taken
    → (h : Takes text rest room left) → first_within room (chars text) ≡ h.taken
taken_part text rest behind character room left taken is room_is over h =
    h.are ∙ ap (λ l. h.taken ++ l) (ap (first_within left) (chars_past_char rest behind character h.utf8 is) ∙ first_within-none left character (chars behind) (subst (λ n. left < n) room_is over)) ∙ append-nil h.taken

-- the text may be cut there
pub taken_boundary : (text rest : List ℕ) (room left : ℕ) → Takes text rest room left → IsCharBoundary text (length text - length rest)
taken_boundary text rest room left h =
    let n : length (encodes h.taken) ≡ length text - length rest = omega (arith, ap length h.spelled, length-append (encodes h.taken) rest) in
    subst (IsCharBoundary text) n (IsCharBoundary-at_seam text (encodes h.taken) rest h.spelled h.utf8)

pub taken_front : (text rest : List ℕ) (room left : ℕ) (h : Takes text rest room left) → slice_range text 0 (length text - length rest) ≡ encodes h.taken
taken_front text rest room left h =
    let n : (length text - length rest) - 0 ≡ length (encodes h.taken) = omega (arith, ap length h.spelled, length-append (encodes h.taken) rest) in
    ap (λ k. take k text) n ∙ ap (take (length (encodes h.taken))) h.spelled ∙ take-append_seam (encodes h.taken) rest

-- ---- a window

pub window_added : (coloured : Bool) (before rest shown first : List ℕ) (room : ℕ) (old one two three four new : List ℕ)
    → shown ≡ encodes (last_within 80 before) → IsUtf8 shown → room ≡ 120 - room_of (last_within 80 before) → first ≡ encodes (first_within room rest) → IsUtf8 first
    → one ≡ old ++ printed shown → two ≡ one ++ printed first → three ≡ two ++ 10 ∷ [] → four ≡ three ++ blanks (chars shown) → new ≡ four ++ mark coloured
    → new ≡ old ++ window coloured before rest
window_added coloured before rest shown first room old one two three four new shown_is utf8 room_is first_is first_utf8 a b c d e =
    let front = last_within 80 before in
    let behind = first_within (120 - room_of front) rest in
    let characters : chars shown ≡ front = sym (chars_from_encodes front shown utf8 (sym shown_is)) in
    let more : chars first ≡ behind = sym (chars_from_encodes (first_within room rest) first first_utf8 (sym first_is)) ∙ ap (λ n. first_within n rest) room_is in
    five_added old one two three four new (printed shown) (printed first) (10 ∷ []) (blanks (chars shown)) (mark coloured) a b c d e
    ∙ ap (λ cs. old ++ (printed_all cs ++ (printed first ++ 10 ∷ (blanks cs ++ mark coloured)))) characters
    ∙ ap (λ cs. old ++ (printed_all front ++ (printed_all cs ++ 10 ∷ (blanks front ++ mark coloured)))) more
    ∙ ap (λ t. old ++ t) (sym (append_assoc (printed_all front) (printed_all behind) (10 ∷ (blanks front ++ mark coloured)))
    ∙ ap (λ t. t ++ 10 ∷ (blanks front ++ mark coloured)) (sym (flat_map-append printed_character front behind)))

-- blanks below a character of eight columns
pub eight_blanks : (character n : ℕ) → (character ≡ 9 → ⊥) → n ≡ columns character → n ≡ 8 → codes "        " ≡ blank_for character
eight_blanks character n is_other n_is eight =
    ap (λ k. replicate k 32) (sym eight ∙ n_is) ∙ sym (ap (λ b. cond b (9 ∷ []) (replicate (columns character) 32)) (ne_eqb character 9 is_other))
