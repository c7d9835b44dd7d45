-- Laws of the lines of block strings.
use Rattle.std.proofs.Common.{◌≡◌, ◌<◌, ◌≤◌, ◌+◌, ◌-◌, ℕ, zero, suc, min, List, [], ◌∷◌, ◌++◌, Bool, true, false, not, ◌&&◌, ◌||◌, ◌==◌, nat_eq, nat_le, if◌then◌else◌, Option, Some, length, take, drop, get_or, map, refl, sym, ap, subst, ◌∙◌, arith, append_assoc, unwrap_or, slice_range}
use Rattle.std.proofs.lemmas.Bool.Decides.{nat_tests}
use Rattle.std.proofs.lemmas.List.{append-nil, drop_more, take_more, drop_all, length-drop, get_or-drop, length-take-le}
use Rattle.std.proofs.lemmas.Str.{IsCharBoundary-start, IsCharBoundary-after_ascii, IsCharBoundary-before_ascii, IsCharBoundary-end}
use Rattle.std.specs.Str.{IsUtf8, IsCharBoundary}
use Rattle.std.specs.List.{list_all, prefix_len, filter, fold, reduce, onto_first, join_with_byte}
use Rattle.graphql_strings.specs.Characters.{at, begins, three_quotes, escaped_quotes, is_line_end}
use Rattle.graphql_strings.specs.BlockScanning.{lines_from, onto_line, LinesRead, LineAt, left_of, lesser}
use Rattle.graphql_strings.specs.BlockStrings.{unescaped, lines, is_white, indent, is_blank_line, is_written_line, common_indent, without_first_blanks, without_last_blanks}

-- ---- blank lines
not_more : (n k : ℕ) → (n == k) ≡ (1 + n == suc k)
not_more n k = grind (arith, nat_tests)

all_white_if : (b : Bool) (c : ℕ) (cs : List ℕ) → is_white c ≡ b → (prefix_len is_white cs == length cs) ≡ list_all is_white cs → ((if b then 1 + prefix_len is_white cs else 0) == suc (length cs)) ≡ (b && list_all is_white cs)
all_white_if true c cs h k = sym (not_more (prefix_len is_white cs) (length cs)) ∙ k
all_white_if false c cs h k = let none : (0 == suc (length cs)) ≡ false = grind (arith, nat_tests) in none

-- a line is blank where its indent is its length
pub all_white : (line : List ℕ) → (prefix_len is_white line == length line) ≡ list_all is_white line
all_white [] = refl
all_white (c ∷ cs) = all_white_if (is_white c) c cs refl (all_white cs)

-- ---- lines, with a state in place of a look at what follows
abbrev After : List ℕ → Type 0
After cs = lines_from true cs ≡ (if at cs 0 == 10 then lines (drop 1 cs) else lines cs)

is_ten : (c : ℕ) → (c == 10) ≡ true → c ≡ 10
is_ten c h = grind (arith, nat_tests)

pub line_feed : (cs : List ℕ) → (at cs 0 == 10) ≡ true → lines cs ≡ [] ∷ lines (drop 1 cs)
line_feed [] h = cc
line_feed (c ∷ cs) h = let same = is_ten c h in subst (λ (x : ℕ). lines (x ∷ cs) ≡ [] ∷ lines cs) (sym same) refl

cut_if : (feed back next : Bool) (cs : List ℕ) (c : ℕ) → (at cs 0 == 10) ≡ next → lines_from false cs ≡ lines cs → After cs
    → (if feed || back then [] ∷ lines_from back cs else onto_first c (lines_from false cs)) ≡ (if back && next then lines cs else if feed || back then [] ∷ lines cs else onto_first c (lines cs))
cut_if false false next cs c e f t = ap (onto_first c) f
cut_if true false next cs c e f t = ap (λ ls. [] ∷ ls) f
cut_if false true true cs c e f t = ap (λ ls. [] ∷ ls) (t ∙ ap (λ (b : Bool). if b then lines (drop 1 cs) else lines cs) e) ∙ sym (line_feed cs e)
cut_if true true true cs c e f t = ap (λ ls. [] ∷ ls) (t ∙ ap (λ (b : Bool). if b then lines (drop 1 cs) else lines cs) e) ∙ sym (line_feed cs e)
cut_if false true false cs c e f t = ap (λ ls. [] ∷ ls) (t ∙ ap (λ (b : Bool). if b then lines (drop 1 cs) else lines cs) e)
cut_if true true false cs c e f t = ap (λ ls. [] ∷ ls) (t ∙ ap (λ (b : Bool). if b then lines (drop 1 cs) else lines cs) e)

after_if : (feed : Bool) (x y z w : List (List ℕ)) → x ≡ y → z ≡ w → (if feed then x else z) ≡ (if feed then y else w)
after_if true x y z w h k = h
after_if false x y z w h k = k

both_lines : (s : List ℕ) → (lines_from false s ≡ lines s) × After s
both_lines [] = (refl, refl)
both_lines (c ∷ cs) =
    let more = both_lines cs in
    let plain = cut_if (c == 10) (c == 13) (at cs 0 == 10) cs c refl more.0 more.1 in
    (plain, after_if (c == 10) (lines_from false cs) (lines cs) (if is_line_end c then [] ∷ lines_from (c == 13) cs else onto_first c (lines_from false cs)) (lines (c ∷ cs)) more.0 plain)

pub lines_same : (s : List ℕ) → lines_from false s ≡ lines s
lines_same s = (both_lines s).0

onto_nothing_if : (ls : List (List ℕ)) (l : List ℕ) (more : List (List ℕ)) → ls ≡ l ∷ more → onto_line [] ls ≡ ls
onto_nothing_if ls l more h = subst (λ x. onto_line [] x ≡ x) (sym h) refl

abbrev Some_line : List (List ℕ) → Type 0
Some_line ls = (l : List ℕ) × (more : List (List ℕ)) × (ls ≡ l ∷ more)

onto_some : (c : ℕ) (ls : List (List ℕ)) → Some_line (onto_first c ls)
onto_some c [] = (c ∷ [], [], refl)
onto_some c (l ∷ ls) = (c ∷ l, ls, refl)

some_if : (a b : Bool) (c : ℕ) (x y z : List (List ℕ)) → Some_line x → Some_line (if a then x else if b then [] ∷ y else onto_first c z)
some_if true b c x y z h = h
some_if false true c x y z h = ([], y, refl)
some_if false false c x y z h = onto_some c z

some_line : (after : Bool) (s : List ℕ) → Some_line (lines_from after s)
some_line after [] = ([], [], refl)
some_line after (c ∷ cs) = some_if (after && (c == 10)) (is_line_end c) c (lines_from false cs) (lines_from (c == 13) cs) (lines_from false cs) (some_line false cs)

pub onto_nothing : (after : Bool) (s : List ℕ) → onto_line [] (lines_from after s) ≡ lines_from after s
onto_nothing after s = let some = some_line after s in onto_nothing_if (lines_from after s) some.0 some.1 some.2

onto_more : (p : List ℕ) (c : ℕ) (ls : List (List ℕ)) → Some_line ls → onto_line p (onto_first c ls) ≡ onto_line (p ++ c ∷ []) ls
onto_more p c ls (l, more, h) = subst (λ x. onto_line p (onto_first c x) ≡ onto_line (p ++ c ∷ []) x) (sym h) (ap (λ x. x ∷ more) (sym (append_assoc p (c ∷ []) l)))

-- a line feed after a carriage return; the end of a line; any other byte
pub turn_skip : (after : Bool) (c : ℕ) (cs : List ℕ) → (after && (c == 10)) ≡ true → lines_from after (c ∷ cs) ≡ lines_from false cs
turn_skip after c cs h = ap (λ (b : Bool). if b then lines_from false cs else if is_line_end c then [] ∷ lines_from (c == 13) cs else onto_first c (lines_from false cs)) h

pub turn_cut : (after : Bool) (p : List ℕ) (c : ℕ) (cs : List ℕ) → (after && (c == 10)) ≡ false → is_line_end c ≡ true → onto_line p (lines_from after (c ∷ cs)) ≡ p ∷ lines_from (c == 13) cs
turn_cut after p c cs h k =
    ap (λ (b : Bool). onto_line p (if b then lines_from false cs else if is_line_end c then [] ∷ lines_from (c == 13) cs else onto_first c (lines_from false cs))) h
    ∙ ap (λ (b : Bool). onto_line p (if b then [] ∷ lines_from (c == 13) cs else onto_first c (lines_from false cs))) k
    ∙ ap (λ x. x ∷ lines_from (c == 13) cs) (append-nil p)

pub turn_keep : (after : Bool) (p : List ℕ) (c : ℕ) (cs : List ℕ) → (after && (c == 10)) ≡ false → is_line_end c ≡ false → onto_line p (lines_from after (c ∷ cs)) ≡ onto_line (p ++ c ∷ []) (lines_from false cs)
turn_keep after p c cs h k =
    ap (λ (b : Bool). onto_line p (if b then lines_from false cs else if is_line_end c then [] ∷ lines_from (c == 13) cs else onto_first c (lines_from false cs))) h
    ∙ ap (λ (b : Bool). onto_line p (if b then [] ∷ lines_from (c == 13) cs else onto_first c (lines_from false cs))) k
    ∙ onto_more p c (lines_from false cs) (some_line false cs)

-- ---- the loop over the lines
none_between : (raw : List ℕ) (i : ℕ) → slice_range raw i i ≡ []
none_between raw i = let none : i - i ≡ 0 = omega arith in ap (λ n. take n (drop i raw)) none

one_between : (raw : List ℕ) (start index : ℕ) → start ≤ index → index < length raw → slice_range raw start (index + 1) ≡ slice_range raw start index ++ get_or raw index 0 ∷ []
one_between raw start index le lt =
    let rest = drop start raw in
    let long = length-drop start raw in
    let next : index + 1 - start ≡ index - start + 1 = omega arith in
    let place : start + (index - start) ≡ index = omega arith in
    ap (λ n. take n rest) next ∙ take_more rest (index - start) 0 (omega arith)
    ∙ ap (λ (c : ℕ). take (index - start) rest ++ c ∷ []) (get_or-drop start raw (index - start) 0 ∙ ap (λ n. get_or raw n 0) place)

low_end : (c : ℕ) → is_line_end c ≡ true → c < 128
low_end c h = grind (arith, nat_tests)

not_return : (c : ℕ) → is_line_end c ≡ false → (c == 13) ≡ false
not_return c h = grind (arith, nat_tests)

not_feed : (c : ℕ) → is_line_end c ≡ false → (c == 10) ≡ false
not_feed c h = grind (arith, nat_tests)

feed_ends : (c : ℕ) → (c == 10) ≡ true → is_line_end c ≡ true
feed_ends c h = grind (arith, nat_tests)

feed_no_return : (c : ℕ) → (c == 10) ≡ true → (c == 13) ≡ false
feed_no_return c h = grind (arith, nat_tests)

and_false : (a b : Bool) → b ≡ false → (a && b) ≡ false
and_false true b h = h
and_false false b h = refl

and_parts : (a b : Bool) → (a && b) ≡ true → (a ≡ true) × (b ≡ true)
and_parts true b h = (refl, h)
and_parts false b h = cc

pub lines_none : (raw : List ℕ) → IsUtf8 raw → LinesRead raw 0 false 0 []
lines_none raw u = record { starts = IsCharBoundary-start raw u; order = omega arith; back = λ e. cc; so_far = onto_nothing false raw }

pub lines_keep : (raw : List ℕ) (index start : ℕ) (after : Bool) (ls : List (List ℕ)) → index < length raw → LinesRead raw index after start ls → is_line_end (get_or raw index 0) ≡ false → LinesRead raw (index + 1) (get_or raw index 0 == 13) start ls
lines_keep raw index start after ls lt h k =
    let c = get_or raw index 0 in
    let rest = drop (index + 1) raw in
    let p = slice_range raw start index in
    let no = not_return c k in
    let turn = turn_keep after p c rest (and_false after (c == 10) (not_feed c k)) k in
    record {
      starts = h.starts;
      order = omega (arith, h.order);
      back = λ e. let f = no in cc;
      so_far = ap (λ (b : Bool). ls ++ onto_line (slice_range raw start (index + 1)) (lines_from b rest)) no
          ∙ ap (λ x. ls ++ onto_line x (lines_from false rest)) (one_between raw start index h.order lt)
          ∙ ap (λ x. ls ++ x) (sym turn) ∙ ap (λ x. ls ++ onto_line p (lines_from after x)) (sym (drop_more raw index 0 lt)) ∙ h.so_far;
    }

pub lines_skip : (raw : List ℕ) (index start : ℕ) (after : Bool) (ls : List (List ℕ)) → IsUtf8 raw → index < length raw → LinesRead raw index after start ls → (after && (get_or raw index 0 == 10)) ≡ true → LinesRead raw (index + 1) (get_or raw index 0 == 13) (index + 1) ls
lines_skip raw index start after ls u lt h k =
    let c = get_or raw index 0 in
    let rest = drop (index + 1) raw in
    let both = and_parts after (c == 10) k in
    let no = feed_no_return c both.1 in
    let at_index : slice_range raw start index ≡ [] = ap (λ n. slice_range raw n index) (h.back both.0) ∙ none_between raw index in
    record {
      starts = IsCharBoundary-after_ascii raw index u lt (low_end c (feed_ends c both.1));
      order = omega arith;
      back = λ e. let f = no in cc;
      so_far = ap (λ (b : Bool). ls ++ onto_line (slice_range raw (index + 1) (index + 1)) (lines_from b rest)) no
          ∙ ap (λ x. ls ++ onto_line x (lines_from false rest)) (none_between raw (index + 1))
          ∙ ap (λ x. ls ++ onto_line [] x) (sym (turn_skip after c rest k)) ∙ ap (λ x. ls ++ onto_line [] (lines_from after x)) (sym (drop_more raw index 0 lt))
          ∙ ap (λ x. ls ++ onto_line x (lines_from after (drop index raw))) (sym at_index) ∙ h.so_far;
    }

pub lines_cut : (raw : List ℕ) (index start : ℕ) (after : Bool) (ls : List (List ℕ)) → IsUtf8 raw → index < length raw → LinesRead raw index after start ls → (after && (get_or raw index 0 == 10)) ≡ false → is_line_end (get_or raw index 0) ≡ true
    → LinesRead raw (index + 1) (get_or raw index 0 == 13) (index + 1) (ls ++ slice_range raw start index ∷ [])
lines_cut raw index start after ls u lt h k e =
    let c = get_or raw index 0 in
    let rest = drop (index + 1) raw in
    let p = slice_range raw start index in
    let b = c == 13 in
    record {
      starts = IsCharBoundary-after_ascii raw index u lt (low_end c e);
      order = omega arith;
      back = λ _. refl;
      so_far = ap (λ x. (ls ++ p ∷ []) ++ onto_line x (lines_from b rest)) (none_between raw (index + 1))
          ∙ ap (λ x. (ls ++ p ∷ []) ++ x) (onto_nothing b rest) ∙ append_assoc ls (p ∷ []) (lines_from b rest)
          ∙ ap (λ x. ls ++ x) (sym (turn_cut after p c rest k e)) ∙ ap (λ x. ls ++ onto_line p (lines_from after x)) (sym (drop_more raw index 0 lt)) ∙ h.so_far;
    }

pub lines_all : (raw : List ℕ) (index start : ℕ) (after : Bool) (ls : List (List ℕ)) → LinesRead raw index after start ls → index ≡ length raw → ls ++ slice_range raw start index ∷ [] ≡ lines raw
lines_all raw index start after ls h e =
    let p = slice_range raw start index in
    let none : drop index raw ≡ [] = drop_all index raw (omega (arith, e)) in
    ap (λ x. ls ++ x ∷ []) (sym (append-nil p)) ∙ ap (λ x. ls ++ onto_line p (lines_from after x)) (sym none) ∙ h.so_far ∙ lines_same raw

-- where a line ends it may be cut
pub cut_boundary : (raw : List ℕ) (index : ℕ) → index < length raw → is_line_end (get_or raw index 0) ≡ true → IsCharBoundary raw index
cut_boundary raw index lt h = IsCharBoundary-before_ascii raw index lt (low_end (get_or raw index 0) h)

-- ---- `\"""`
pub escape_dropped : (c : ℕ) (cs : List ℕ) → begins escaped_quotes (c ∷ cs) ≡ true → unescaped (c ∷ cs) ≡ unescaped cs
escape_dropped c cs h = ap (λ (b : Bool). if b then unescaped cs else c ∷ unescaped cs) h

pub other_kept : (c : ℕ) (cs : List ℕ) → begins escaped_quotes (c ∷ cs) ≡ false → unescaped (c ∷ cs) ≡ c ∷ unescaped cs
other_kept c cs h = ap (λ (b : Bool). if b then unescaped cs else c ∷ unescaped cs) h

-- the loop over a line
pub line_none : (line : List ℕ) → IsUtf8 line → LineAt line 0 0
line_none line u = record { starts = IsCharBoundary-start line u; order = omega arith }

pub line_keep : (line : List ℕ) (index start : ℕ) → index < length line → LineAt line index start → begins escaped_quotes (drop index line) ≡ false → left_of line (index + 1) start ≡ left_of line index start
line_keep line index start lt h k =
    let c = get_or line index 0 in
    let rest = drop (index + 1) line in
    let cut = drop_more line index 0 lt in
    let other : begins escaped_quotes (c ∷ rest) ≡ false = sym (ap (begins escaped_quotes) cut) ∙ k in
    ap (λ x. x ++ unescaped rest) (one_between line start index h.order lt) ∙ append_assoc (slice_range line start index) (c ∷ []) (unescaped rest)
    ∙ ap (λ x. slice_range line start index ++ x) (sym (other_kept c rest other) ∙ sym (ap unescaped cut))

pub line_escape : (line : List ℕ) (index start : ℕ) → index < length line → begins escaped_quotes (drop index line) ≡ true → slice_range line start index ++ left_of line (index + 1) (index + 1) ≡ left_of line index start
line_escape line index start lt k =
    let c = get_or line index 0 in
    let rest = drop (index + 1) line in
    let cut = drop_more line index 0 lt in
    let same : begins escaped_quotes (c ∷ rest) ≡ true = sym (ap (begins escaped_quotes) cut) ∙ k in
    ap (λ x. slice_range line start index ++ (x ++ unescaped rest)) (none_between line (index + 1))
    ∙ ap (λ x. slice_range line start index ++ x) (sym (escape_dropped c rest same) ∙ sym (ap unescaped cut))

low_byte : (c : ℕ) → nat_eq 92 c ≡ true → c < 128
low_byte c h = grind (arith, nat_tests)

backslash_low : (c : ℕ) (cs : List ℕ) → begins escaped_quotes (c ∷ cs) ≡ true → c < 128
backslash_low c cs h = let parts = and_parts (nat_eq 92 c) (begins three_quotes cs) h in low_byte c parts.0

pub escape_low : (line : List ℕ) (index : ℕ) → index < length line → begins escaped_quotes (drop index line) ≡ true → get_or line index 0 < 128
escape_low line index lt k = backslash_low (get_or line index 0) (drop (index + 1) line) (sym (ap (begins escaped_quotes) (drop_more line index 0 lt)) ∙ k)

pub line_all : (line : List ℕ) (index start : ℕ) → index ≡ length line → left_of line index start ≡ slice_range line start index
line_all line index start e =
    let none : drop index line ≡ [] = drop_all index line (omega (arith, e)) in
    ap (λ x. slice_range line start index ++ unescaped x) none ∙ append-nil (slice_range line start index)

-- ---- the indent
min_fold : (a : ℕ) (xs : List ℕ) → fold min a xs ≤ a
min_fold a [] = omega arith
min_fold a (x ∷ xs) = let more = min_fold (min a x) xs in omega arith

-- the line has n white characters at its front, or it has no more and they are white
abbrev pub IsWhiteTo : ℕ → List ℕ → Type 0
IsWhiteTo n l = list_all is_white (take n l) ≡ true

white_take_if : (b : Bool) (n c : ℕ) (cs : List ℕ) → is_white c ≡ b → suc n ≤ (if b then 1 + prefix_len is_white cs else 0) → (n ≤ prefix_len is_white cs → IsWhiteTo n cs) → (b && list_all is_white (take n cs)) ≡ true
white_take_if true n c cs h le k = k (omega arith)
white_take_if false n c cs h le k = absurd (omega arith)

white_take : (n : ℕ) (l : List ℕ) → n ≤ prefix_len is_white l → IsWhiteTo n l
white_take zero l h = refl
white_take (suc n) [] h = refl
white_take (suc n) (c ∷ cs) h = let more = white_take_if (is_white c) n c cs refl h (white_take n cs) in more

white_blank_if : (b : Bool) (n : ℕ) (cs : List ℕ) → (b && list_all is_white cs) ≡ true → (list_all is_white cs ≡ true → IsWhiteTo n cs) → (b && list_all is_white (take n cs)) ≡ true
white_blank_if true n cs h k = k h
white_blank_if false n cs h k = cc

white_blank : (n : ℕ) (l : List ℕ) → list_all is_white l ≡ true → IsWhiteTo n l
white_blank zero l h = refl
white_blank (suc n) [] h = refl
white_blank (suc n) (c ∷ cs) h = white_blank_if (is_white c) n cs h (white_blank n cs)

abbrev pub AllWhiteTo : ℕ → List (List ℕ) → Type 0
AllWhiteTo n [] = Unit {0}
AllWhiteTo n (l ∷ ls) = IsWhiteTo n l × AllWhiteTo n ls

abbrev pub indents : List (List ℕ) → List ℕ
indents ls = map indent (filter is_written_line ls)

below_if : (b : Bool) (n a : ℕ) (l : List ℕ) (ls : List (List ℕ)) → is_blank_line l ≡ b → n ≤ fold min a (if not b then indent l ∷ indents ls else indents ls)
    → ((x : ℕ) → n ≤ fold min x (indents ls) → AllWhiteTo n ls) → IsWhiteTo n l × AllWhiteTo n ls
below_if true n a l ls h k next = (white_blank n l h, next a k)
below_if false n a l ls h k next =
    let least = min_fold (min a (indent l)) (indents ls) in
    (white_take n l (omega arith), next (min a (indent l)) k)

indents_if : (b : Bool) (l : List ℕ) (ls : List (List ℕ)) → map indent (if b then l ∷ filter is_written_line ls else filter is_written_line ls) ≡ (if b then indent l ∷ indents ls else indents ls)
indents_if true l ls = refl
indents_if false l ls = refl

pub indents_step : (l : List ℕ) (ls : List (List ℕ)) → indents (l ∷ ls) ≡ (if not (is_blank_line l) then indent l ∷ indents ls else indents ls)
indents_step l ls = indents_if (not (is_blank_line l)) l ls

below_all : (n a : ℕ) (ls : List (List ℕ)) → n ≤ fold min a (indents ls) → AllWhiteTo n ls
below_all n a [] h = tt
below_all n a (l ∷ ls) h = below_if (is_blank_line l) n a l ls refl (subst (λ x. n ≤ fold min a x) (indents_step l ls) h) (λ x. below_all n x ls)

least_if : (b : Bool) (l : List ℕ) (ls : List (List ℕ)) → is_blank_line l ≡ b → AllWhiteTo (unwrap_or (reduce min (indents ls)) 0) ls → AllWhiteTo (unwrap_or (reduce min (if not b then indent l ∷ indents ls else indents ls)) 0) (l ∷ ls)
least_if true l ls h k = (white_blank (unwrap_or (reduce min (indents ls)) 0) l h, k)
least_if false l ls h k =
    let n = fold min (indent l) (indents ls) in
    (white_take n l (min_fold (indent l) (indents ls)), below_all n (indent l) ls (omega arith))

-- the common indent is white in each line
pub common_white : (ls : List (List ℕ)) → AllWhiteTo (common_indent ls) ls
common_white [] = tt
common_white (l ∷ ls) = subst (λ x. AllWhiteTo (unwrap_or (reduce min x) 0) (l ∷ ls)) (sym (indents_step l ls)) (least_if (is_blank_line l) l ls refl (common_white ls))

white_nil : (n : ℕ) → IsWhiteTo n []
white_nil zero = refl
white_nil (suc n) = refl

pub white_at : (n : ℕ) (ls : List (List ℕ)) (i : ℕ) → AllWhiteTo n ls → IsWhiteTo n (get_or ls i [])
white_at n [] i h = white_nil n
white_at n (l ∷ ls) zero h = h.0
white_at n (l ∷ ls) (suc i) h = white_at n ls i h.1

-- one more line
fold_push : (a x : ℕ) (xs : List ℕ) → fold min a (xs ++ x ∷ []) ≡ min (fold min a xs) x
fold_push a x [] = refl
fold_push a x (y ∷ ys) = fold_push (min a y) x ys

pub reduce_push : (xs : List ℕ) (x : ℕ) → reduce min (xs ++ x ∷ []) ≡ Some (lesser (reduce min xs) x)
reduce_push [] x = refl
reduce_push (y ∷ ys) x = ap Some (fold_push y x ys)

append_if : (b d : Bool) (m n : ℕ) (xs ys : List ℕ) → ys ≡ (if d then xs ++ n ∷ [] else xs) → (if b then m ∷ ys else ys) ≡ (if d then (if b then m ∷ xs else xs) ++ n ∷ [] else (if b then m ∷ xs else xs))
append_if true true m n xs ys h = ap (λ x. m ∷ x) h
append_if true false m n xs ys h = ap (λ x. m ∷ x) h
append_if false true m n xs ys h = h
append_if false false m n xs ys h = h

indents_append : (xs : List (List ℕ)) (l : List ℕ) → indents (xs ++ l ∷ []) ≡ (if not (is_blank_line l) then indents xs ++ indent l ∷ [] else indents xs)
indents_append [] l = indents_step l []
indents_append (x ∷ xs) l = indents_step x (xs ++ l ∷ []) ∙ append_if (not (is_blank_line x)) (not (is_blank_line l)) (indent x) (indent l) (indents xs) (indents (xs ++ l ∷ [])) (indents_append xs l) ∙ ap (λ ys. if not (is_blank_line l) then ys ++ indent l ∷ [] else ys) (sym (indents_step x xs))

pub indent_blank : (xs : List (List ℕ)) (l : List ℕ) → is_blank_line l ≡ true → reduce min (indents (xs ++ l ∷ [])) ≡ reduce min (indents xs)
indent_blank xs l h = ap (reduce min) (indents_append xs l ∙ ap (λ (b : Bool). if not b then indents xs ++ indent l ∷ [] else indents xs) h)

pub indent_written : (xs : List (List ℕ)) (l : List ℕ) → is_blank_line l ≡ false → reduce min (indents (xs ++ l ∷ [])) ≡ Some (lesser (reduce min (indents xs)) (indent l))
indent_written xs l h = ap (reduce min) (indents_append xs l ∙ ap (λ (b : Bool). if not b then indents xs ++ indent l ∷ [] else indents xs) h) ∙ reduce_push (indents xs) (indent l)

pub indent_more : (xs : List (List ℕ)) (l : List ℕ) (old new : Option ℕ) (b : Bool) → is_blank_line l ≡ b → old ≡ reduce min (indents xs) → (b ≡ true → new ≡ old) → (b ≡ false → new ≡ Some (lesser old (indent l))) → new ≡ reduce min (indents (xs ++ l ∷ []))
indent_more xs l old new true h e kept less = kept refl ∙ e ∙ sym (indent_blank xs l h)
indent_more xs l old new false h e kept less = less refl ∙ ap (λ (o : Option ℕ). Some (lesser o (indent l))) e ∙ sym (indent_written xs l h)

-- ---- blank lines at both ends
first_if : (b : Bool) (l : List ℕ) (ls : List (List ℕ)) → drop (prefix_len is_blank_line ls) ls ≡ without_first_blanks ls → drop (if b then 1 + prefix_len is_blank_line ls else 0) (l ∷ ls) ≡ (if b then without_first_blanks ls else l ∷ ls)
first_if true l ls h = let n : 1 + prefix_len is_blank_line ls ≡ suc (prefix_len is_blank_line ls) = omega arith in ap (λ k. drop k (l ∷ ls)) n ∙ h
first_if false l ls h = refl

pub first_dropped : (ls : List (List ℕ)) → drop (prefix_len is_blank_line ls) ls ≡ without_first_blanks ls
first_dropped [] = refl
first_dropped (l ∷ ls) = first_if (is_blank_line l) l ls (first_dropped ls)

and_true : (b : Bool) → (b && true) ≡ b
and_true true = refl
and_true false = refl

and_assoc : (a b c : Bool) → (a && (b && c)) ≡ ((a && b) && c)
and_assoc true b c = refl
and_assoc false b c = refl

all_push : (xs : List (List ℕ)) (l : List ℕ) → list_all is_blank_line (xs ++ l ∷ []) ≡ (list_all is_blank_line xs && is_blank_line l)
all_push [] l = and_true (is_blank_line l)
all_push (x ∷ xs) l = ap (λ b. is_blank_line x && b) (all_push xs l) ∙ and_assoc (is_blank_line x) (list_all is_blank_line xs) (is_blank_line l)

blank_push_if : (a b : Bool) (x : List ℕ) (xs ys : List (List ℕ)) → ys ≡ xs → (if a && (b && true) then [] else x ∷ ys) ≡ (if a && b then [] else x ∷ xs)
blank_push_if true true x xs ys h = refl
blank_push_if true false x xs ys h = ap (λ t. x ∷ t) h
blank_push_if false b x xs ys h = ap (λ t. x ∷ t) h

pub last_blank : (xs : List (List ℕ)) (l : List ℕ) → is_blank_line l ≡ true → without_last_blanks (xs ++ l ∷ []) ≡ without_last_blanks xs
last_blank [] l h = ap (λ (b : Bool). if b && true then [] else l ∷ []) h
last_blank (x ∷ xs) l h =
    ap (λ (b : Bool). if is_blank_line x && b then [] else x ∷ without_last_blanks (xs ++ l ∷ [])) (all_push xs l ∙ ap (λ (b : Bool). list_all is_blank_line xs && b) h)
    ∙ blank_push_if (is_blank_line x) (list_all is_blank_line xs) x (without_last_blanks xs) (without_last_blanks (xs ++ l ∷ [])) (last_blank xs l h)

written_push_if : (a b : Bool) (x : List ℕ) (ys : List (List ℕ)) → (if a && (b && false) then [] else x ∷ ys) ≡ x ∷ ys
written_push_if true true x ys = refl
written_push_if true false x ys = refl
written_push_if false b x ys = refl

pub last_written : (xs : List (List ℕ)) (l : List ℕ) → is_blank_line l ≡ false → without_last_blanks (xs ++ l ∷ []) ≡ xs ++ l ∷ []
last_written [] l h = ap (λ (b : Bool). if b && true then [] else l ∷ []) h
last_written (x ∷ xs) l h =
    ap (λ (b : Bool). if is_blank_line x && b then [] else x ∷ without_last_blanks (xs ++ l ∷ [])) (all_push xs l ∙ ap (λ (b : Bool). list_all is_blank_line xs && b) h)
    ∙ written_push_if (is_blank_line x) (list_all is_blank_line xs) x (without_last_blanks (xs ++ l ∷ [])) ∙ ap (λ t. x ∷ t) (last_written xs l h)

pub last_step : (ls : List (List ℕ)) (stop : ℕ) → 0 < stop → stop ≤ length ls → is_blank_line (get_or ls (stop - 1) []) ≡ true → without_last_blanks (take stop ls) ≡ without_last_blanks ls → without_last_blanks (take (stop - 1) ls) ≡ without_last_blanks ls
last_step ls stop some le h e =
    let back : stop - 1 + 1 ≡ stop = omega arith in
    sym (last_blank (take (stop - 1) ls) (get_or ls (stop - 1) []) h)
    ∙ ap without_last_blanks (sym (take_more ls (stop - 1) [] (omega arith)) ∙ ap (λ n. take n ls) back) ∙ e

pub last_stop : (ls : List (List ℕ)) (stop : ℕ) → 0 < stop → stop ≤ length ls → is_blank_line (get_or ls (stop - 1) []) ≡ false → without_last_blanks (take stop ls) ≡ without_last_blanks ls → stop ≡ length (without_last_blanks ls)
last_stop ls stop some le h e =
    let back : stop - 1 + 1 ≡ stop = omega arith in
    let whole : take stop ls ≡ take (stop - 1) ls ++ get_or ls (stop - 1) [] ∷ [] = ap (λ n. take n ls) (sym back) ∙ take_more ls (stop - 1) [] (omega arith) in
    let kept : without_last_blanks ls ≡ take stop ls = sym e ∙ ap without_last_blanks whole ∙ last_written (take (stop - 1) ls) (get_or ls (stop - 1) []) h ∙ sym whole in
    sym (ap length kept ∙ length-take-le stop ls le)

-- ---- lines in a row
pub join_push : (xs : List (List ℕ)) (x y : List ℕ) → join_with_byte 10 ((x ∷ xs) ++ y ∷ []) ≡ join_with_byte 10 (x ∷ xs) ++ (10 ∷ y)
join_push [] x y = refl
join_push (z ∷ zs) x y = ap (λ t. x ++ (10 ∷ t)) (join_push zs z y) ∙ sym (append_assoc x (10 ∷ join_with_byte 10 (z ∷ zs)) (10 ∷ y))

-- ---- a line without its indent
white_byte : (n : ℕ) (l : List ℕ) (i : ℕ) → i < n → i < length l → IsWhiteTo n l → is_white (get_or l i 0) ≡ true
white_byte zero l i h k w = absurd (omega arith)
white_byte (suc n) [] i h k w = absurd (omega arith)
white_byte (suc n) (c ∷ cs) zero h k w = (and_parts (is_white c) (list_all is_white (take n cs)) w).0
white_byte (suc n) (c ∷ cs) (suc i) h k w = white_byte n cs i (omega arith) (omega arith) (and_parts (is_white c) (list_all is_white (take n cs)) w).1

low_white : (c : ℕ) → is_white c ≡ true → c < 128
low_white c h = grind (arith, nat_tests)

white_boundary : (line : List ℕ) (n : ℕ) → IsUtf8 line → n ≤ length line → IsWhiteTo n line → IsCharBoundary line n
white_boundary line zero u le w = IsCharBoundary-start line u
white_boundary line (suc m) u le w =
    let next : m + 1 ≡ suc m = omega arith in
    let lt : m < length line = omega arith in
    subst (IsCharBoundary line) next (IsCharBoundary-after_ascii line m u lt (low_white (get_or line m 0) (white_byte (suc m) line m (omega arith) lt w)))

none_left_if : (b : Bool) (line : List ℕ) (n : ℕ) → nat_le n (length line) ≡ b → (n ≤ length line → ⊥) → drop n line ≡ []
none_left_if true line n h k = absurd (k (grind (arith, nat_tests)))
none_left_if false line n h k = drop_all n line (grind (arith, nat_tests))

not_zero_if : (b : Bool) (index : ℕ) (x y : List ℕ) → (index == 0) ≡ b → (index ≡ 0 → ⊥) → (if b then x else y) ≡ y
not_zero_if true index x y h k = absurd (k (grind (arith, nat_tests)))
not_zero_if false index x y h k = refl

pub unindent_none : (line : List ℕ) (index n : ℕ) → (index ≡ 0 → ⊥) → IsUtf8 line → IsWhiteTo n line → (n ≤ length line → IsCharBoundary line n → IsCharBoundary line (length line) → ⊥) → [] ≡ (if index == 0 then line else drop n line)
unindent_none line index n other u w h =
    let none = none_left_if (nat_le n (length line)) line n refl (λ le. h le (white_boundary line n u le w) (IsCharBoundary-end line)) in
    sym none ∙ sym (not_zero_if (index == 0) index line (drop n line) refl other)
