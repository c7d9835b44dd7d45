-- The value of a block string, line by line as it is written.
use Rattle.std.proofs.Common.{◌≡◌, ◌⊎◌, ◌<◌, ◌≤◌, ◌+◌, inl, inr, ℕ, zero, suc, min, List, [], ◌∷◌, ◌++◌, Bool, true, false, not, ◌&&◌, ◌||◌, ◌==◌, nat_eq, if◌then◌else◌, length, take, drop, get_or, map, refl, sym, ap, subst, ◌∙◌, arith, unwrap_or}
use Rattle.std.proofs.lemmas.Bool.Decides.{nat_tests}
use Rattle.std.proofs.lemmas.List.{drop-append-le, take_more, length-take-le, length-map, map-append, drop_all, length-take, length-drop}
use Rattle.std.specs.List.{list_all, prefix_len, reduce, onto_first, join_with_byte}
use Rattle.graphql_strings.specs.Characters.{at, begins, three_quotes, escaped_quotes, is_line_end}
use Rattle.graphql_strings.specs.BlockStrings.{unescaped, lines, is_white, indent, is_blank_line, common_indent, unindented, without_first_blanks, without_last_blanks, block_string_value}
use Rattle.graphql_strings.proofs.Runs.{both, same_byte, begins_split}
use Rattle.graphql_strings.proofs.BlockLaws.{line_feed, escape_dropped, other_kept, IsWhiteTo, AllWhiteTo, indents, indents_step, common_white, white_at, first_dropped, join_push}

drop_none : (k : ℕ) → drop {A = ℕ} k [] ≡ []
drop_none zero = refl
drop_none (suc k) = refl

not_first : (i : ℕ) (x y : List ℕ) → (if suc i == 0 then x else y) ≡ y
not_first i x y = let no : (suc i == 0) ≡ false = grind (arith, nat_tests) in ap (λ (b : Bool). if b then x else y) no

-- ---- the first line of a text
first_line : List ℕ → List ℕ
first_line [] = []
first_line (c ∷ cs) = if is_line_end c then [] else c ∷ first_line cs

front_if : (feed back next : Bool) (c : ℕ) (cs f : List ℕ) (ls : List (List ℕ)) → (at cs 0 == 10) ≡ next → lines cs ≡ f ∷ ls
    → (more : List (List ℕ)) × ((if back && next then lines cs else if feed || back then [] ∷ lines cs else onto_first c (lines cs)) ≡ (if feed || back then [] else c ∷ f) ∷ more)
front_if false false next c cs f ls e h = (ls, ap (onto_first c) h)
front_if true false next c cs f ls e h = (lines cs, refl)
front_if false true true c cs f ls e h = (lines (drop 1 cs), line_feed cs e)
front_if true true true c cs f ls e h = (lines (drop 1 cs), line_feed cs e)
front_if false true false c cs f ls e h = (lines cs, refl)
front_if true true false c cs f ls e h = (lines cs, refl)

lines_front : (s : List ℕ) → (more : List (List ℕ)) × (lines s ≡ first_line s ∷ more)
unfolding first_line
lines_front [] = ([], refl)
lines_front (c ∷ cs) = let more = lines_front cs in front_if (c == 10) (c == 13) (at cs 0 == 10) c cs (first_line cs) more.0 refl more.1

no_end : ℕ → Bool
no_end c = not (is_line_end c)

other_byte : (x c : ℕ) → no_end x ≡ true → is_line_end c ≡ true → nat_eq x c ≡ false
unfolding no_end
other_byte x c h k = grind (arith, nat_tests)

begins_if : (b : Bool) (x c : ℕ) (ws cs : List ℕ) → no_end x ≡ true → is_line_end c ≡ b → begins ws (first_line cs) ≡ begins ws cs → begins (x ∷ ws) (if b then [] else c ∷ first_line cs) ≡ (nat_eq x c && begins ws cs)
begins_if true x c ws cs h k more = sym (ap (λ (b : Bool). b && begins ws cs) (other_byte x c h k))
begins_if false x c ws cs h k more = ap (λ (b : Bool). nat_eq x c && b) more

-- a word without line terminators begins a text if it begins its first line
begins_first : (w cs : List ℕ) → list_all no_end w ≡ true → begins w (first_line cs) ≡ begins w cs
unfolding first_line
begins_first [] cs h = refl
begins_first (x ∷ ws) [] h = refl
begins_first (x ∷ ws) (c ∷ cs) h = let parts = both (no_end x) (list_all no_end ws) h in begins_if (is_line_end c) x c ws cs parts.0 refl (begins_first ws cs parts.1)

quotes_inside : list_all no_end three_quotes ≡ true
unfolding no_end
quotes_inside = refl

quotes_first : (cs : List ℕ) → begins three_quotes (first_line cs) ≡ begins three_quotes cs
quotes_first cs = begins_first three_quotes cs quotes_inside

escape_first : (c : ℕ) (cs : List ℕ) → begins escaped_quotes (c ∷ first_line cs) ≡ begins escaped_quotes (c ∷ cs)
escape_first c cs = ap (λ (b : Bool). nat_eq 92 c && b) (quotes_first cs)

-- ---- a backslash before three quotes
escape_parts : (c : ℕ) (cs : List ℕ) → begins escaped_quotes (c ∷ cs) ≡ true → (c ≡ 92) × (begins three_quotes cs ≡ true) × (cs ≡ 34 ∷ 34 ∷ 34 ∷ drop 3 cs)
escape_parts c cs h =
    let parts = both (nat_eq 92 c) (begins three_quotes cs) h in
    (same_byte 92 c parts.0, parts.1, begins_split three_quotes cs parts.1)

quote_kept : (cs r : List ℕ) → cs ≡ 34 ∷ r → unescaped cs ≡ 34 ∷ unescaped r
quote_kept cs r h = ap unescaped h

-- what stands at the front, with a backslash before three quotes or without
at_if : (b : Bool) (c : ℕ) (cs : List ℕ) → begins escaped_quotes (c ∷ cs) ≡ b → (at (if b then unescaped cs else c ∷ unescaped cs) 0 == 10) ≡ (c == 10)
at_if true c cs h =
    let parts = escape_parts c cs h in
    ap (λ t. at t 0 == 10) (quote_kept cs (34 ∷ 34 ∷ drop 3 cs) parts.2) ∙ sym (ap (λ (x : ℕ). x == 10) parts.0)
at_if false c cs h = refl

at_unescaped : (cs : List ℕ) → (at (unescaped cs) 0 == 10) ≡ (at cs 0 == 10)
at_unescaped [] = refl
at_unescaped (c ∷ cs) = at_if (begins escaped_quotes (c ∷ cs)) c cs refl

-- ---- the lines of the text that is meant are those that are written
escaped_lines : (c : ℕ) (cs : List ℕ) → begins escaped_quotes (c ∷ cs) ≡ true → lines (unescaped cs) ≡ map unescaped (lines cs) → lines (unescaped cs) ≡ map unescaped (lines (c ∷ cs))
escaped_lines c cs h more =
    let parts = escape_parts c cs h in
    let front = lines_front cs in
    let f = first_line cs in
    let begins_too : begins escaped_quotes (92 ∷ f) ≡ true = quotes_first cs ∙ parts.1 in
    let whole : lines (c ∷ cs) ≡ (92 ∷ f) ∷ front.0 = ap (λ (x : ℕ). lines (x ∷ cs)) parts.0 ∙ ap (onto_first 92) front.1 in
    more ∙ ap (map unescaped) front.1 ∙ ap (λ x. x ∷ map unescaped front.0) (sym (escape_dropped 92 f begins_too)) ∙ sym (ap (map unescaped) whole)

onto_unescaped : (c : ℕ) (cs : List ℕ) → begins escaped_quotes (c ∷ cs) ≡ false → lines (unescaped cs) ≡ map unescaped (lines cs) → onto_first c (lines (unescaped cs)) ≡ map unescaped (onto_first c (lines cs))
onto_unescaped c cs h more =
    let front = lines_front cs in
    let f = first_line cs in
    ap (onto_first c) (more ∙ ap (map unescaped) front.1) ∙ ap (λ x. x ∷ map unescaped front.0) (sym (other_kept c f (escape_first c cs ∙ h))) ∙ sym (ap (λ ls. map unescaped (onto_first c ls)) front.1)

kept_if : (feed back next : Bool) (c : ℕ) (cs : List ℕ) → begins escaped_quotes (c ∷ cs) ≡ false → lines (unescaped cs) ≡ map unescaped (lines cs)
    → (if back && next then lines (unescaped cs) else if feed || back then [] ∷ lines (unescaped cs) else onto_first c (lines (unescaped cs))) ≡ map unescaped (if back && next then lines cs else if feed || back then [] ∷ lines cs else onto_first c (lines cs))
kept_if false false next c cs h more = onto_unescaped c cs h more
kept_if true false next c cs h more = ap (λ x. [] ∷ x) more
kept_if false true true c cs h more = more
kept_if true true true c cs h more = more
kept_if false true false c cs h more = ap (λ x. [] ∷ x) more
kept_if true true false c cs h more = ap (λ x. [] ∷ x) more

lines_if : (b : Bool) (c : ℕ) (cs : List ℕ) → begins escaped_quotes (c ∷ cs) ≡ b → lines (unescaped cs) ≡ map unescaped (lines cs) → lines (if b then unescaped cs else c ∷ unescaped cs) ≡ map unescaped (lines (c ∷ cs))
lines_if true c cs h more = escaped_lines c cs h more
lines_if false c cs h more =
    ap (λ (n : Bool). if (c == 13) && n then lines (unescaped cs) else if is_line_end c then [] ∷ lines (unescaped cs) else onto_first c (lines (unescaped cs))) (at_unescaped cs)
    ∙ kept_if (c == 10) (c == 13) (at cs 0 == 10) c cs h more

pub lines_unescaped : (s : List ℕ) → lines (unescaped s) ≡ map unescaped (lines s)
lines_unescaped [] = refl
lines_unescaped (c ∷ cs) = lines_if (begins escaped_quotes (c ∷ cs)) c cs refl (lines_unescaped cs)

-- ---- a line has the same white space in front
backslash_black : (c : ℕ) → c ≡ 92 → is_white c ≡ false
backslash_black c h = ap is_white h

blank_if : (b : Bool) (c : ℕ) (cs : List ℕ) → begins escaped_quotes (c ∷ cs) ≡ b → list_all is_white (unescaped cs) ≡ list_all is_white cs → list_all is_white (if b then unescaped cs else c ∷ unescaped cs) ≡ (is_white c && list_all is_white cs)
blank_if true c cs h more =
    let parts = escape_parts c cs h in
    ap (list_all is_white) (quote_kept cs (34 ∷ 34 ∷ drop 3 cs) parts.2) ∙ sym (ap (λ (b : Bool). b && list_all is_white cs) (backslash_black c parts.0))
blank_if false c cs h more = ap (λ (b : Bool). is_white c && b) more

pub blank_unescaped : (l : List ℕ) → is_blank_line (unescaped l) ≡ is_blank_line l
blank_unescaped [] = refl
blank_unescaped (c ∷ cs) = blank_if (begins escaped_quotes (c ∷ cs)) c cs refl (blank_unescaped cs)

indent_if : (b : Bool) (c : ℕ) (cs : List ℕ) → begins escaped_quotes (c ∷ cs) ≡ b → prefix_len is_white (unescaped cs) ≡ prefix_len is_white cs → prefix_len is_white (if b then unescaped cs else c ∷ unescaped cs) ≡ (if is_white c then 1 + prefix_len is_white cs else 0)
indent_if true c cs h more =
    let parts = escape_parts c cs h in
    ap (prefix_len is_white) (quote_kept cs (34 ∷ 34 ∷ drop 3 cs) parts.2) ∙ sym (ap (λ (b : Bool). if b then 1 + prefix_len is_white cs else 0) (backslash_black c parts.0))
indent_if false c cs h more = ap (λ (n : ℕ). if is_white c then 1 + n else 0) more

pub indent_unescaped : (l : List ℕ) → indent (unescaped l) ≡ indent l
indent_unescaped [] = refl
indent_unescaped (c ∷ cs) = indent_if (begins escaped_quotes (c ∷ cs)) c cs refl (indent_unescaped cs)

drop_if : (b : Bool) (n c : ℕ) (cs : List ℕ) → begins escaped_quotes (c ∷ cs) ≡ b → is_white c ≡ true → drop n (unescaped cs) ≡ unescaped (drop n cs) → drop (suc n) (if b then unescaped cs else c ∷ unescaped cs) ≡ unescaped (drop n cs)
drop_if true n c cs h k more = let parts = escape_parts c cs h in let no : is_white c ≡ false = backslash_black c parts.0 in cc
drop_if false n c cs h k more = more

pub drop_unescaped : (n : ℕ) (l : List ℕ) → IsWhiteTo n l → drop n (unescaped l) ≡ unescaped (drop n l)
drop_unescaped zero l h = refl
drop_unescaped (suc n) [] h = refl
drop_unescaped (suc n) (c ∷ cs) h = let parts = both (is_white c) (list_all is_white (take n cs)) h in drop_if (begins escaped_quotes (c ∷ cs)) n c cs refl parts.0 (drop_unescaped n cs parts.1)

-- ---- all lines
indents_unescaped : (ls : List (List ℕ)) → indents (map unescaped ls) ≡ indents ls
indents_unescaped [] = refl
indents_unescaped (l ∷ ls) =
    indents_step (unescaped l) (map unescaped ls)
    ∙ ap (λ (b : Bool). if not b then indent (unescaped l) ∷ indents (map unescaped ls) else indents (map unescaped ls)) (blank_unescaped l)
    ∙ ap (λ (n : ℕ). if not (is_blank_line l) then n ∷ indents (map unescaped ls) else indents (map unescaped ls)) (indent_unescaped l)
    ∙ ap (λ x. if not (is_blank_line l) then indent l ∷ x else x) (indents_unescaped ls)
    ∙ sym (indents_step l ls)

common_unescaped : (ls : List (List ℕ)) → common_indent (map unescaped ls) ≡ common_indent ls
common_unescaped ls = ap (λ x. unwrap_or (reduce min x) 0) (indents_unescaped ls)

dropped : (n : ℕ) (ls : List (List ℕ)) → AllWhiteTo n ls → map (drop n) (map unescaped ls) ≡ map unescaped (map (drop n) ls)
dropped n [] h = refl
dropped n (l ∷ ls) h = ap (λ x. x ∷ map (drop n) (map unescaped ls)) (drop_unescaped n l h.0) ∙ ap (λ x. unescaped (drop n l) ∷ x) (dropped n ls h.1)

unindented_unescaped : (n : ℕ) (ls : List (List ℕ)) → AllWhiteTo n (drop 1 ls) → unindented n (map unescaped ls) ≡ map unescaped (unindented n ls)
unindented_unescaped n [] h = refl
unindented_unescaped n (l ∷ ls) h = ap (λ x. unescaped l ∷ x) (dropped n ls h)

first_unescaped_if : (b : Bool) (l : List ℕ) (ls : List (List ℕ)) → without_first_blanks (map unescaped ls) ≡ map unescaped (without_first_blanks ls) → (if b then without_first_blanks (map unescaped ls) else unescaped l ∷ map unescaped ls) ≡ map unescaped (if b then without_first_blanks ls else l ∷ ls)
first_unescaped_if true l ls h = h
first_unescaped_if false l ls h = refl

first_unescaped : (ls : List (List ℕ)) → without_first_blanks (map unescaped ls) ≡ map unescaped (without_first_blanks ls)
first_unescaped [] = refl
first_unescaped (l ∷ ls) = ap (λ (b : Bool). if b then without_first_blanks (map unescaped ls) else unescaped l ∷ map unescaped ls) (blank_unescaped l) ∙ first_unescaped_if (is_blank_line l) l ls (first_unescaped ls)

all_unescaped : (ls : List (List ℕ)) → list_all is_blank_line (map unescaped ls) ≡ list_all is_blank_line ls
all_unescaped [] = refl
all_unescaped (l ∷ ls) = ap (λ (b : Bool). b && list_all is_blank_line (map unescaped ls)) (blank_unescaped l) ∙ ap (λ (b : Bool). is_blank_line l && b) (all_unescaped ls)

last_unescaped_if : (b : Bool) (l : List ℕ) (ls : List (List ℕ)) → without_last_blanks (map unescaped ls) ≡ map unescaped (without_last_blanks ls) → (if b then [] else unescaped l ∷ without_last_blanks (map unescaped ls)) ≡ map unescaped (if b then [] else l ∷ without_last_blanks ls)
last_unescaped_if true l ls h = refl
last_unescaped_if false l ls h = ap (λ x. unescaped l ∷ x) h

last_unescaped : (ls : List (List ℕ)) → without_last_blanks (map unescaped ls) ≡ map unescaped (without_last_blanks ls)
last_unescaped [] = refl
last_unescaped (l ∷ ls) = ap (λ (b : Bool). if b then [] else unescaped l ∷ without_last_blanks (map unescaped ls)) (all_unescaped (l ∷ ls)) ∙ last_unescaped_if (list_all is_blank_line (l ∷ ls)) l ls (last_unescaped ls)

-- ---- blank lines stay blank
blank_drop_if : (n c : ℕ) (cs : List ℕ) (b : Bool) → is_white c ≡ b → b ≡ true → is_blank_line (drop n cs) ≡ is_blank_line cs → is_blank_line (drop n cs) ≡ (b && is_blank_line cs)
blank_drop_if n c cs true h k more = more
blank_drop_if n c cs false h k more = cc

blank_drop : (n : ℕ) (l : List ℕ) → IsWhiteTo n l → is_blank_line (drop n l) ≡ is_blank_line l
blank_drop zero l h = refl
blank_drop (suc n) [] h = refl
blank_drop (suc n) (c ∷ cs) h = let parts = both (is_white c) (list_all is_white (take n cs)) h in blank_drop_if n c cs (is_white c) refl parts.0 (blank_drop n cs parts.1)

abbrev pub blanks : List (List ℕ) → List Bool
blanks ls = map is_blank_line ls

blanks_drop : (n : ℕ) (ls : List (List ℕ)) → AllWhiteTo n ls → blanks (map (drop n) ls) ≡ blanks ls
blanks_drop n [] h = refl
blanks_drop n (l ∷ ls) h = ap (λ (b : Bool). b ∷ blanks (map (drop n) ls)) (blank_drop n l h.0) ∙ ap (λ x. is_blank_line l ∷ x) (blanks_drop n ls h.1)

blanks_unindented : (n : ℕ) (ls : List (List ℕ)) → AllWhiteTo n (drop 1 ls) → blanks (unindented n ls) ≡ blanks ls
blanks_unindented n [] h = refl
blanks_unindented n (l ∷ ls) h = ap (λ x. is_blank_line l ∷ x) (blanks_drop n ls h)

-- what is counted of lines is counted of whether they are blank
abbrev truth : Bool → Bool
truth b = b

first_count : (ls : List (List ℕ)) → prefix_len is_blank_line ls ≡ prefix_len truth (blanks ls)
first_count [] = refl
first_count (l ∷ ls) = ap (λ (n : ℕ). if is_blank_line l then 1 + n else 0) (first_count ls)

abbrev last_length : List Bool → ℕ
last_length [] = 0
last_length (b ∷ bs) = if list_all truth (b ∷ bs) then 0 else suc (last_length bs)

all_count : (ls : List (List ℕ)) → list_all is_blank_line ls ≡ list_all truth (blanks ls)
all_count [] = refl
all_count (l ∷ ls) = ap (λ (b : Bool). is_blank_line l && b) (all_count ls)

length_if : (b : Bool) (l : List ℕ) (ls : List (List ℕ)) → length (if b then [] else l ∷ ls) ≡ (if b then 0 else suc (length ls))
length_if true l ls = refl
length_if false l ls = refl

last_count : (ls : List (List ℕ)) → length (without_last_blanks ls) ≡ last_length (blanks ls)
last_count [] = refl
last_count (l ∷ ls) =
    length_if (list_all is_blank_line (l ∷ ls)) l (without_last_blanks ls)
    ∙ ap (λ (n : ℕ). if list_all is_blank_line (l ∷ ls) then 0 else suc n) (last_count ls)
    ∙ ap (λ (b : Bool). if b then 0 else suc (last_length (blanks ls))) (all_count (l ∷ ls))

-- ---- the lines up to the last one that is written are the first of all
last_front_if : (b : Bool) (l : List ℕ) (ls : List (List ℕ)) → without_last_blanks ls ≡ take (length (without_last_blanks ls)) ls → (if b then [] else l ∷ without_last_blanks ls) ≡ take (length (if b then [] else l ∷ without_last_blanks ls)) (l ∷ ls)
last_front_if true l ls h = refl
last_front_if false l ls h = ap (λ x. l ∷ x) h

last_front : (ls : List (List ℕ)) → without_last_blanks ls ≡ take (length (without_last_blanks ls)) ls
last_front [] = refl
last_front (l ∷ ls) = last_front_if (list_all is_blank_line (l ∷ ls)) l ls (last_front ls)

all_blank_rest : (a b : Bool) → (a && b) ≡ true → b ≡ true
all_blank_rest true b h = h
all_blank_rest false b h = cc

none_written : (ls : List (List ℕ)) → list_all is_blank_line ls ≡ true → without_last_blanks ls ≡ []
none_written [] h = refl
none_written (l ∷ ls) h = ap (λ (b : Bool). if b then [] else l ∷ without_last_blanks ls) h

drop_nil : (k : ℕ) → drop {A = List ℕ} k [] ≡ []
drop_nil zero = refl
drop_nil (suc k) = refl

last_drop_if : (b : Bool) (k : ℕ) (l : List ℕ) (ls : List (List ℕ)) → (b ≡ true → without_last_blanks ls ≡ []) → drop k (without_last_blanks ls) ≡ drop (suc k) (if b then [] else l ∷ without_last_blanks ls)
last_drop_if true k l ls h = ap (drop k) (h refl) ∙ drop_nil k
last_drop_if false k l ls h = refl

last_drop : (k : ℕ) (ls : List (List ℕ)) → without_last_blanks (drop k ls) ≡ drop k (without_last_blanks ls)
last_drop zero ls = refl
last_drop (suc k) [] = refl
last_drop (suc k) (l ∷ ls) =
    last_drop k ls ∙ last_drop_if (list_all is_blank_line (l ∷ ls)) k l ls (λ h. none_written ls (all_blank_rest (is_blank_line l) (list_all is_blank_line ls) h))

-- ---- the value
abbrev pub even : List (List ℕ) → List (List ℕ)
even ls = unindented (common_indent (drop 1 ls)) ls

drop_one : (ls : List (List ℕ)) → drop 1 (map unescaped ls) ≡ map unescaped (drop 1 ls)
drop_one [] = refl
drop_one (l ∷ ls) = refl

even_unescaped : (ls : List (List ℕ)) → even (map unescaped ls) ≡ map unescaped (even ls)
even_unescaped ls =
    ap (λ (n : ℕ). unindented n (map unescaped ls)) (ap common_indent (drop_one ls) ∙ common_unescaped (drop 1 ls))
    ∙ unindented_unescaped (common_indent (drop 1 ls)) ls (common_white (drop 1 ls))

between : (ls : List (List ℕ)) (first stop : ℕ) → first ≡ prefix_len is_blank_line ls → stop ≡ length (without_last_blanks ls) → without_last_blanks (without_first_blanks (even ls)) ≡ drop first (take stop (even ls))
between ls first stop e h =
    let same = blanks_unindented (common_indent (drop 1 ls)) ls (common_white (drop 1 ls)) in
    let from : prefix_len is_blank_line (even ls) ≡ first = first_count (even ls) ∙ ap (prefix_len truth) same ∙ sym (first_count ls) ∙ sym e in
    let to : length (without_last_blanks (even ls)) ≡ stop = last_count (even ls) ∙ ap last_length same ∙ sym (last_count ls) ∙ sym h in
    ap without_last_blanks (sym (first_dropped (even ls))) ∙ last_drop (prefix_len is_blank_line (even ls)) (even ls)
    ∙ ap (λ (n : ℕ). drop n (without_last_blanks (even ls))) from ∙ ap (drop first) (last_front (even ls) ∙ ap (λ (n : ℕ). take n (even ls)) to)

pub value_between : (raw : List ℕ) (ls : List (List ℕ)) (first stop : ℕ) → ls ≡ lines raw → first ≡ prefix_len is_blank_line ls → stop ≡ length (without_last_blanks ls)
    → block_string_value raw ≡ join_with_byte 10 (map unescaped (drop first (take stop (even ls))))
unfolding block_string_value
value_between raw ls first stop is e h =
    let all : lines (unescaped raw) ≡ map unescaped ls = lines_unescaped raw ∙ ap (map unescaped) (sym is) in
    ap (λ x. join_with_byte 10 (without_last_blanks (without_first_blanks (even x)))) all
    ∙ ap (λ x. join_with_byte 10 (without_last_blanks (without_first_blanks x))) (even_unescaped ls)
    ∙ ap (λ x. join_with_byte 10 (without_last_blanks x)) (first_unescaped (even ls))
    ∙ ap (join_with_byte 10) (last_unescaped (without_first_blanks (even ls)))
    ∙ ap (λ x. join_with_byte 10 (map unescaped x)) (between ls first stop e h)

-- ---- one line after the other
abbrev pub written : List (List ℕ) → ℕ → ℕ → List ℕ
written ls first index = join_with_byte 10 (map unescaped (drop first (take index (even ls))))

even_length : (n : ℕ) (ls : List (List ℕ)) → length (unindented n ls) ≡ length ls
even_length n [] = refl
even_length n (l ∷ ls) = ap suc (length-map ls (drop n))

get_drop : (n i : ℕ) (ls : List (List ℕ)) → get_or (map (drop n) ls) i [] ≡ drop n (get_or ls i [])
get_drop n i [] = sym (drop_none n)
get_drop n zero (l ∷ ls) = refl
get_drop n (suc i) (l ∷ ls) = get_drop n i ls

even_at : (n i : ℕ) (ls : List (List ℕ)) → get_or (unindented n ls) i [] ≡ (if i == 0 then get_or ls i [] else drop n (get_or ls i []))
even_at n zero [] = refl
even_at n zero (l ∷ ls) = refl
even_at n (suc i) [] = sym (drop_none n) ∙ sym (not_first i (get_or [] (suc i) []) (drop n []))
even_at n (suc i) (l ∷ ls) = get_drop n i ls ∙ sym (not_first i (get_or ls i []) (drop n (get_or ls i [])))

row_more : (ls : List (List ℕ)) (first index : ℕ) → first ≤ index → index < length ls
    → map unescaped (drop first (take (index + 1) (even ls))) ≡ map unescaped (drop first (take index (even ls))) ++ unescaped (get_or (even ls) index []) ∷ []
row_more ls first index le lt =
    let m = even ls in
    let long : length m ≡ length ls = even_length (common_indent (drop 1 ls)) ls in
    let taken : length (take index m) ≡ index = length-take-le index m (omega arith) in
    ap (λ x. map unescaped (drop first x)) (take_more m index [] (omega arith))
    ∙ ap (map unescaped) (drop-append-le first (take index m) (get_or m index [] ∷ []) (omega arith))
    ∙ map-append unescaped (drop first (take index m)) (get_or m index [] ∷ [])

pub row_none : (ls : List (List ℕ)) (first stop : ℕ) → stop ≤ first → written ls first stop ≡ []
row_none ls first stop le =
    let none : drop first (take stop (even ls)) ≡ [] = drop_all first (take stop (even ls)) (omega (arith, length-take stop (even ls))) in
    ap (λ x. join_with_byte 10 (map unescaped x)) none

pub row_first : (ls : List (List ℕ)) (first : ℕ) → first < length ls → written ls first (first + 1) ≡ unescaped (get_or (even ls) first [])
row_first ls first lt =
    let none : drop first (take first (even ls)) ≡ [] = drop_all first (take first (even ls)) (omega (arith, length-take first (even ls))) in
    ap (join_with_byte 10) (row_more ls first first (omega arith) lt ∙ ap (λ x. map unescaped x ++ unescaped (get_or (even ls) first []) ∷ []) none)

some_row : (xs : List (List ℕ)) → 0 < length xs → (x : List ℕ) × (more : List (List ℕ)) × (xs ≡ x ∷ more)
some_row [] h = absurd (omega arith)
some_row (x ∷ xs) h = (x, xs, refl)

join_more : (xs : List (List ℕ)) (y : List ℕ) → 0 < length xs → join_with_byte 10 (xs ++ y ∷ []) ≡ join_with_byte 10 xs ++ (10 ∷ y)
join_more xs y h =
    let some = some_row xs h in
    subst (λ t. join_with_byte 10 (t ++ y ∷ []) ≡ join_with_byte 10 t ++ (10 ∷ y)) (sym some.2) (join_push some.1 some.0 y)

pub row_next : (ls : List (List ℕ)) (first index : ℕ) → first < index → index < length ls → written ls first (index + 1) ≡ written ls first index ++ (10 ∷ unescaped (get_or (even ls) index []))
row_next ls first index lt inside =
    let m = even ls in
    let long : length m ≡ length ls = even_length (common_indent (drop 1 ls)) ls in
    let taken : length (take index m) ≡ index = length-take-le index m (omega arith) in
    let some : 0 < length (map unescaped (drop first (take index m))) = omega (arith, length-map (drop first (take index m)) unescaped, length-drop first (take index m)) in
    ap (join_with_byte 10) (row_more ls first index (omega arith) inside) ∙ join_more (map unescaped (drop first (take index m))) (unescaped (get_or m index [])) some

-- the line that the code writes is the even one
pub line_at : (ls : List (List ℕ)) (index : ℕ) (line : List ℕ) → line ≡ get_or ls index [] → (if index == 0 then line else drop (common_indent (drop 1 ls)) line) ≡ get_or (even ls) index []
line_at ls index line h =
    ap (λ x. if index == 0 then x else drop (common_indent (drop 1 ls)) x) h ∙ sym (even_at (common_indent (drop 1 ls)) index ls)

rest_at : (ls : List (List ℕ)) (i : ℕ) → get_or (drop 1 ls) i [] ≡ get_or ls (suc i) []
rest_at [] i = refl
rest_at (l ∷ ls) i = refl

pub white_line : (ls : List (List ℕ)) (index : ℕ) (line : List ℕ) → line ≡ get_or ls index [] → 0 < index → IsWhiteTo (common_indent (drop 1 ls)) line
white_line ls zero line h lt = absurd (omega arith)
white_line ls (suc i) line h lt =
    let n = common_indent (drop 1 ls) in
    subst (IsWhiteTo n) (rest_at ls i ∙ sym h) (white_at n (drop 1 ls) i (common_white (drop 1 ls)))

-- ---- the loop over the lines that are written
prefix_if : (b : Bool) (n m : ℕ) → n ≡ m → (if b then 1 + n else 0) ≡ (if b then 1 + m else 0)
prefix_if true n m h = ap (λ (k : ℕ). 1 + k) h
prefix_if false n m h = refl

pub prefix_map : {X : Type 0} (f : X → List ℕ) (xs : List X) → prefix_len (λ x. is_blank_line (f x)) xs ≡ prefix_len is_blank_line (map f xs)
prefix_map f [] = refl
prefix_map f (x ∷ xs) = prefix_if (is_blank_line (f x)) (prefix_len (λ x. is_blank_line (f x)) xs) (prefix_len is_blank_line (map f xs)) (prefix_map f xs)

is_first : (index first : ℕ) → (index == first) ≡ true → index ≡ first
is_first index first h = grind (arith, nat_tests)

is_later : (index first : ℕ) → (index == first) ≡ false → first ≤ index → first < index
is_later index first h k = grind (arith, nat_tests)

step_if : (b : Bool) (ls : List (List ℕ)) (first index : ℕ) (text line : List ℕ) → (index == first) ≡ b → first ≤ index → index < length ls → text ≡ written ls first index → line ≡ get_or (even ls) index []
    → text ++ (if b then unescaped line else 10 ∷ unescaped line) ≡ written ls first (index + 1)
step_if true ls first index text line h le lt so_far is =
    let same = is_first index first h in
    let none : text ≡ [] = so_far ∙ ap (written ls first) same ∙ row_none ls first first (omega arith) in
    let inside : first < length ls = omega arith in
    ap (λ x. x ++ unescaped line) none ∙ ap unescaped (is ∙ ap (λ (n : ℕ). get_or (even ls) n []) same) ∙ sym (row_first ls first inside) ∙ sym (ap (λ (n : ℕ). written ls first (n + 1)) same)
step_if false ls first index text line h le lt so_far is =
    ap (λ x. x ++ (10 ∷ unescaped line)) so_far ∙ ap (λ x. written ls first index ++ (10 ∷ unescaped x)) is ∙ sym (row_next ls first index (is_later index first h le) lt)

pub row_step : (ls : List (List ℕ)) (first index : ℕ) (text new line : List ℕ) → first ≤ index → index < length ls → text ≡ written ls first index → line ≡ get_or (even ls) index []
    → new ≡ text ++ (if index == first then unescaped line else 10 ∷ unescaped line) → new ≡ written ls first (index + 1)
row_step ls first index text new line le lt so_far is h = h ∙ step_if (index == first) ls first index text line refl le lt so_far is

pub row_end : (ls : List (List ℕ)) (first stop index : ℕ) (text : List ℕ) → (index ≤ stop) ⊎ (index ≡ first) → stop ≤ index → text ≡ written ls first index → text ≡ written ls first stop
row_end ls first stop index text (inl le) past h = let same : index ≡ stop = omega arith in h ∙ ap (written ls first) same
row_end ls first stop index text (inr e) past h = h ∙ row_none ls first index (omega arith) ∙ sym (row_none ls first stop (omega arith))
