-- Texts of so many lines.
use Rattle.std.proofs.Common.{◌≡◌, ◌∙◌, ◌+◌, ◌*◌, ◌==◌, ◌⊎◌, ℕ, suc, Bool, List, [], ◌∷◌, ◌++◌, append_assoc, append-nil, ap, arith, chars, codes, cond, false, inl, inr, length, length-append, refl, subst, sym, true}
use Rattle.std.proofs.lemmas.Grind.{flat_map-append}
use Rattle.std.proofs.lemmas.List.Elements.{All-append, All-cons, All-head, All-nil, All-tail}
use Rattle.std.proofs.lemmas.List.Folds.{concat-append}
use Rattle.std.proofs.lemmas.List.Sums.{sum_by-cons}
use Rattle.std.specs.Fmt.{decimal}
use Rattle.std.specs.List.{All, AllZip, concat, flat_map, sum_by}
use Rattle.lint_sources.specs.declared.faults.Fault.{Fault}
use Rattle.lint_sources.specs.declared.issues.Issue.{Issue}
use Rattle.lint_sources.specs.declared.sources.Place.{Place}
use Rattle.lint_sources.specs.declared.sources.Source.{Source}
use Rattle.lint_sources.specs.Issues.{file_count}
use Rattle.lint_sources.specs.Sources.{path_in}
use Rattle.lint_report.specs.Colours.{bold, error_word, mark, plain, red}
use Rattle.lint_report.specs.Lines.{HasLines, IsColour, IsOneLine, IsPrintable, fault_lines, issue_lines, lines_at}
use Rattle.lint_report.specs.Printable.{printed, printed_all}
use Rattle.lint_report.specs.Texts.{AreFaultTexts, AreNotes, IsErrorText, IsFaultText, IsIssueText, IsNoteText, IsPlacedText, IsTextAt, IsTextReport, ShowsLine, count_text, counts_text, last_line, line, message_text, path_text, summary_text, told_column, told_line, told_place, unjudged_text}
use Rattle.lint_report.specs.Windows.{blanks, shown_before, shown_rest, window}
use Rattle.lint_report.proofs.PrintableTexts.{all_printable, blanks_printable, digits_printable, literal}

-- ---- one line

abbrev IsPiece : Bool → List ℕ → Type 0
IsPiece coloured text = IsPrintable text ⊎ IsColour coloured text

piece : (coloured : Bool) (text : List ℕ) → IsPrintable text ⊎ IsColour coloured text → IsOneLine coloured text
piece coloured text is = record { pieces = text ∷ []; each = All-cons (IsPiece coloured) text [] is (All-nil (IsPiece coloured)); text_is = sym (append-nil text) }

none : (coloured : Bool) → IsOneLine coloured []
none coloured = record { pieces = []; each = All-nil (IsPiece coloured); text_is = refl }

with_next : (coloured : Bool) (a b : List ℕ) → IsOneLine coloured a → IsOneLine coloured b → IsOneLine coloured (a ++ b)
with_next coloured a b x y = record {
  pieces = x.pieces ++ y.pieces;
  each = All-append (IsPiece coloured) x.pieces y.pieces x.each y.each;
  text_is = ap (λ t. t ++ b) x.text_is ∙ ap (λ t. concat x.pieces ++ t) y.text_is ∙ sym (concat-append x.pieces y.pieces);
}

words : (coloured : Bool) (text : List ℕ) → IsPrintable text → IsOneLine coloured text
words coloured text is = piece coloured text (inl is)

number : (coloured : Bool) (n : ℕ) → IsOneLine coloured (decimal n)
number coloured n = words coloured (decimal n) (digits_printable 10 n (omega arith) (omega arith))

shown : (coloured : Bool) (text : List ℕ) → IsOneLine coloured (printed text)
shown coloured text = words coloured (printed text) (all_printable (chars text))

bold_line : (coloured : Bool) → IsOneLine coloured (bold coloured)
bold_line true = piece true (bold true) (inr (refl, inl refl))
bold_line false = none false

plain_line : (coloured : Bool) → IsOneLine coloured (plain coloured)
plain_line true = piece true (plain true) (inr (refl, inr (inr refl)))
plain_line false = none false

red_line : IsOneLine true (red true)
red_line = piece true (red true) (inr (refl, inr (inl refl)))

word_line : (coloured : Bool) → IsOneLine coloured (error_word coloured)
word_line true =
    with_next true (red true) (codes "error:" ++ (plain true ++ codes " ")) red_line
    (with_next true (codes "error:") (plain true ++ codes " ") (words true (codes "error:") (literal (codes "error:") refl))
    (with_next true (plain true) (codes " ") (plain_line true) (words true (codes " ") (literal (codes " ") refl))))
word_line false = words false (codes "error: ") (literal (codes "error: ") refl)

path_line : (coloured : Bool) (path : List ℕ) → IsOneLine coloured (path_text coloured path)
path_line coloured path =
    with_next coloured (bold coloured ++ printed path) (plain coloured) (with_next coloured (bold coloured) (printed path) (bold_line coloured) (shown coloured path)) (plain_line coloured)

place_line : (coloured : Bool) (sources : List Source) (place : Place) → IsOneLine coloured (told_place coloured sources place)
place_line coloured sources place =
    let colon = words coloured (codes ":") (literal (codes ":") refl) in
    let ended = words coloured (codes ": ") (literal (codes ": ") refl) in
    let before = with_next coloured (path_text coloured (path_in sources place.file)) (codes ":") (path_line coloured (path_in sources place.file)) colon in
    let with_line = with_next coloured _ (decimal (told_line place)) before (number coloured (told_line place)) in
    let with_column = with_next coloured _ (decimal (told_column sources place)) (with_next coloured _ (codes ":") with_line colon) (number coloured (told_column sources place)) in
    with_next coloured _ (codes ": ") with_column ended

-- ---- counts

either_line : (coloured b : Bool) (x y : List ℕ) → IsOneLine coloured x → IsOneLine coloured y → IsOneLine coloured (cond b x y)
either_line coloured true x y p q = p
either_line coloured false x y p q = q

count_line : (coloured : Bool) (n : ℕ) (one : List ℕ) → IsPrintable one → IsOneLine coloured (count_text n one)
count_line coloured n one is =
    let more = words coloured (codes "s") (literal (codes "s") refl) in
    let same = words coloured one is in
    either_line coloured (n == 0) _ _ (with_next coloured _ (codes "s") (with_next coloured (codes "no ") one (words coloured (codes "no ") (literal (codes "no ") refl)) same) more)
    (either_line coloured (n == 1) _ _ (with_next coloured (codes "1 ") one (words coloured (codes "1 ") (literal (codes "1 ") refl)) same)
    (with_next coloured _ (codes "s") (with_next coloured _ one (with_next coloured (decimal n) (codes " ") (number coloured n) (words coloured (codes " ") (literal (codes " ") refl))) same) more))

counts_line : (coloured : Bool) (errors files judged : ℕ) → IsOneLine coloured (counts_text errors files judged)
counts_line coloured errors files judged =
    let some = count_line coloured errors (codes "error") (literal (codes "error") refl) in
    let begun = with_next coloured _ (codes " in ") some (words coloured (codes " in ") (literal (codes " in ") refl)) in
    let part = either_line coloured (files == 0) [] (decimal files ++ codes " of ") (none coloured) (with_next coloured (decimal files) (codes " of ") (number coloured files) (words coloured (codes " of ") (literal (codes " of ") refl))) in
    with_next coloured _ (count_text judged (codes "file")) (with_next coloured _ _ begun part) (count_line coloured judged (codes "file") (literal (codes "file") refl))

unjudged_line : (coloured : Bool) (unjudged : ℕ) → IsOneLine coloured (unjudged_text unjudged)
unjudged_line coloured unjudged =
    with_next coloured _ (codes " not checked") (count_line coloured unjudged (codes "file") (literal (codes "file") refl)) (words coloured (codes " not checked") (literal (codes " not checked") refl))

summary_line : (coloured : Bool) (errors files judged unjudged : ℕ) → IsOneLine coloured (summary_text errors files judged unjudged)
summary_line coloured errors files judged unjudged =
    let counts = counts_line coloured errors files judged in
    let left = unjudged_line coloured unjudged in
    either_line coloured (unjudged == 0) _ _ counts (either_line coloured (judged == 0) _ _ left
    (with_next coloured _ (unjudged_text unjudged) (with_next coloured (counts_text errors files judged) (codes ", ") counts (words coloured (codes ", ") (literal (codes ", ") refl))) left))

-- ---- lines

one_line : (coloured : Bool) (text : List ℕ) → IsOneLine coloured text → HasLines coloured 1 (line text)
one_line coloured text is = record { lines = text ∷ []; each = All-cons (IsOneLine coloured) text [] is (All-nil (IsOneLine coloured)); count_is = refl; text_is = sym (append-nil (line text)) }

no_line : (coloured : Bool) → HasLines coloured 0 []
no_line coloured = record { lines = []; each = All-nil (IsOneLine coloured); count_is = refl; text_is = refl }

-- more lines behind some
then_lines : (coloured : Bool) (m n : ℕ) (a b : List ℕ) → HasLines coloured m a → HasLines coloured n b → HasLines coloured (m + n) (a ++ b)
then_lines coloured m n a b x y = record {
  lines = x.lines ++ y.lines;
  each = All-append (IsOneLine coloured) x.lines y.lines x.each y.each;
  count_is = let all = length-append x.lines y.lines in omega (arith, all, x.count_is, y.count_is);
  text_is = ap (λ t. t ++ b) x.text_is ∙ ap (λ t. flat_map line x.lines ++ t) y.text_is ∙ sym (flat_map-append line x.lines y.lines);
}

-- something before the first line
before_lines : (coloured : Bool) (n : ℕ) (a b : List ℕ) → IsOneLine coloured a → HasLines coloured (suc n) b → HasLines coloured (suc n) (a ++ b)
before_lines coloured n a b is h = by h.lines h.each h.count_is h.text_is
  where
    by : (lines : List (List ℕ)) → All (IsOneLine coloured) lines → length lines ≡ suc n → b ≡ flat_map line lines → HasLines coloured (suc n) (a ++ b)
    by [] each count text_is = absurd (omega (arith, count))
    by (first ∷ lines) each count text_is = record {
      lines = (a ++ first) ∷ lines;
      each = All-cons (IsOneLine coloured) (a ++ first) lines (with_next coloured a first is (All-head (IsOneLine coloured) first lines each)) (All-tail (IsOneLine coloured) first lines each);
      count_is = count;
      text_is = ap (λ t. a ++ t) text_is ∙ sym (append_assoc a (line first) (flat_map line lines)) ∙ ap (λ t. t ++ flat_map line lines) (sym (append_assoc a first (10 ∷ [])));
    }

message_lines : (coloured : Bool) (message : List ℕ) → HasLines coloured 1 (message_text coloured message)
message_lines coloured message = before_lines coloured 0 (error_word coloured) (line (printed message)) (word_line coloured) (one_line coloured (printed message) (shown coloured message))

mark_lines : (coloured : Bool) → HasLines coloured 1 (mark coloured)
mark_lines true = one_line true (red true ++ (codes "^" ++ plain true)) (with_next true (red true) (codes "^" ++ plain true) red_line (with_next true (codes "^") (plain true) (words true (codes "^") (literal (codes "^") refl)) (plain_line true)))
mark_lines false = one_line false (codes "^") (words false (codes "^") (literal (codes "^") refl))

window_lines : (coloured : Bool) (before rest : List ℕ) → HasLines coloured 2 (window coloured before rest)
window_lines coloured before rest =
    let marked = before_lines coloured 0 (blanks (shown_before before)) (mark coloured) (words coloured _ (blanks_printable (shown_before before))) (mark_lines coloured) in
    before_lines coloured 1 (printed_all (shown_before before ++ shown_rest before rest)) (10 ∷ (blanks (shown_before before) ++ mark coloured))
    (words coloured _ (all_printable (shown_before before ++ shown_rest before rest)))
    (then_lines coloured 1 1 (10 ∷ []) (blanks (shown_before before) ++ mark coloured) (one_line coloured [] (none coloured)) marked)

shown_lines : (coloured : Bool) (sources : List Source) (place : Place) (text : List ℕ) → ShowsLine coloured sources place text → HasLines coloured 2 text
shown_lines coloured sources place text h = subst (HasLines coloured 2) (sym h.text_is) (window_lines coloured (chars h.before) (chars h.rest))

error_lines : (coloured : Bool) (sources : List Source) (place : Place) (message text : List ℕ) → IsErrorText coloured sources place message text → HasLines coloured 3 text
error_lines coloured sources place message text h = subst (HasLines coloured 3) (sym h.text_is)
    (then_lines coloured 1 2 (told_place coloured sources place ++ message_text coloured message) h.below
    (before_lines coloured 0 (told_place coloured sources place) (message_text coloured message) (place_line coloured sources place) (message_lines coloured message)) (shown_lines coloured sources place h.below h.shows))

note_lines : (coloured : Bool) (sources : List Source) (place : Place) (text : List ℕ) → IsNoteText coloured sources place text → HasLines coloured 3 text
note_lines coloured sources place text h = subst (HasLines coloured 3) (sym h.text_is)
    (then_lines coloured 1 2 (told_place coloured sources place ++ line (codes "note: also here")) h.below
    (before_lines coloured 0 (told_place coloured sources place) (line (codes "note: also here")) (place_line coloured sources place) (one_line coloured (codes "note: also here") (words coloured (codes "note: also here") (literal (codes "note: also here") refl))))
    (shown_lines coloured sources place h.below h.shows))

-- texts one after the other
texts_lines : {X : Type 0} (P : X → List ℕ → Type 0) (f : X → ℕ) (coloured : Bool) → ((x : X) (text : List ℕ) → P x text → HasLines coloured (f x) text)
    → (items : List X) (texts : List (List ℕ)) → AllZip P items texts → HasLines coloured (sum_by f items) (concat texts)
texts_lines P f coloured each [] [] all = no_line coloured
texts_lines P f coloured each [] (text ∷ texts) all = absurd all
texts_lines P f coloured each (x ∷ items) [] all = absurd all
texts_lines P f coloured each (x ∷ items) (text ∷ texts) all =
    subst (λ n. HasLines coloured n (text ++ concat texts)) (sym (sum_by-cons f x items)) (then_lines coloured (f x) (sum_by f items) text (concat texts) (each x text all.0) (texts_lines P f coloured each items texts all.1))

threes : (places : List Place) → sum_by (λ place. 3) places ≡ 3 * length places
threes [] = refl
threes (place ∷ places) = let more = sum_by-cons (λ (p : Place). 3) place places in let rest = threes places in omega (arith, more, rest)

text_at_lines : (coloured : Bool) (sources : List Source) (file : ℕ) (message : List ℕ) (places : List Place) (text : List ℕ) → IsTextAt coloured sources file message places text → HasLines coloured (lines_at places) text
text_at_lines coloured sources file message [] text is = subst (HasLines coloured 1) (sym is)
    (before_lines coloured 0 (path_text coloured (path_in sources file) ++ codes ": ") (message_text coloured message)
    (with_next coloured (path_text coloured (path_in sources file)) (codes ": ") (path_line coloured (path_in sources file)) (words coloured (codes ": ") (literal (codes ": ") refl))) (message_lines coloured message))
text_at_lines coloured sources file message (first ∷ others) text h =
    let error = error_lines coloured sources first message h.error h.is_error in
    let notes = texts_lines (IsNoteText coloured sources) (λ place. 3) coloured (note_lines coloured sources) others h.are_notes.texts h.are_notes.each in
    let all = then_lines coloured 3 (sum_by (λ (place : Place). 3) others) h.error (concat h.are_notes.texts) error notes in
    let count : 3 + sum_by (λ (place : Place). 3) others ≡ 3 * length (first ∷ others) = let t = threes others in omega (arith, t) in
    subst (HasLines coloured (lines_at (first ∷ others))) (sym (h.text_is ∙ ap (λ t. h.error ++ t) h.are_notes.text_is)) (subst (λ n. HasLines coloured n (h.error ++ concat h.are_notes.texts)) count all)

issue_has_lines : (coloured : Bool) (sources : List Source) (issue : Issue) (text : List ℕ) → IsIssueText coloured sources issue text → HasLines coloured (issue_lines issue) text
issue_has_lines coloured sources issue text is = text_at_lines coloured sources issue.file _ issue.places.items text is

pub report_has_lines : (coloured : Bool) (sources : List Source) (issues : List Issue) (judged unjudged : ℕ) (text : List ℕ) → IsTextReport coloured sources issues judged unjudged text → HasLines coloured (sum_by issue_lines issues + 1) text
report_has_lines coloured sources issues judged unjudged text h = subst (HasLines coloured (sum_by issue_lines issues + 1)) (sym h.text_is)
    (then_lines coloured (sum_by issue_lines issues) 1 (concat h.texts) _ (texts_lines (IsIssueText coloured sources) issue_lines coloured (issue_has_lines coloured sources) issues h.texts h.each)
    (one_line coloured _ (summary_line coloured (length issues) (file_count issues) judged unjudged)))

pub faults_have_lines : (coloured : Bool) (faults : List Fault) (text : List ℕ) → AreFaultTexts coloured faults text → HasLines coloured (sum_by fault_lines faults) text
faults_have_lines coloured faults text h = subst (HasLines coloured (sum_by fault_lines faults)) (sym h.text_is)
    (texts_lines (IsFaultText coloured) fault_lines coloured (λ fault. issue_has_lines coloured fault.sources.items fault.issue) faults h.texts h.each)
