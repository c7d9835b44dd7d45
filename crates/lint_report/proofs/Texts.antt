-- Texts that are added to a text.
use Rattle.std.proofs.Common.{◌≡◌, ◌∙◌, ◌+◌, ◌<◌, ◌≤◌, ℕ, Bool, List, [], ◌∷◌, ◌++◌, append_assoc, append-nil, ap, codes, get_or, length, refl, subst, sym, take}
use Rattle.std.proofs.lemmas.List.{take_all, take_more}
use Rattle.std.proofs.lemmas.List.Folds.{concat-append}
use Rattle.std.specs.List.{AllZip, concat}
use Rattle.lint_sources.specs.declared.issues.Issue.{Issue}
use Rattle.lint_sources.specs.declared.sources.Place.{Place}
use Rattle.lint_sources.specs.declared.sources.Source.{Source}
use Rattle.lint_sources.specs.Issues.{file_count}
use Rattle.lint_report.specs.Texts.{Adds, AreNotes, AreTexts, IsErrorText, IsIssueText, IsNoteText, IsTextAt, IsTextReport, ShowsLine, last_line, line, message_text, told_place}

-- one item more
each_more : {X Y : Type 0} (P : X → Y → Type 0) (xs : List X) (ys : List Y) (x : X) (y : Y) → AllZip P xs ys → P x y → AllZip P (xs ++ x ∷ []) (ys ++ y ∷ [])
each_more P [] [] x y each holds = (holds, tt)
each_more P [] (v ∷ ys) x y each holds = absurd each
each_more P (u ∷ xs) [] x y each holds = absurd each
each_more P (u ∷ xs) (v ∷ ys) x y each holds = (each.0, each_more P xs ys x y each.1 holds)

concat_more : (texts : List (List ℕ)) (text : List ℕ) → concat (texts ++ text ∷ []) ≡ concat texts ++ text
concat_more texts text = concat-append texts (text ∷ []) ∙ ap (λ t. concat texts ++ t) (append-nil text)

-- the text of the next item was written
pub texts_more : {X : Type 0} (P : X → List ℕ → Type 0) (items : List X) (i : ℕ) (item d : X) (start old new : List ℕ) → i < length items → item ≡ get_or items i d → Adds (AreTexts P (take i items)) start old → Adds (P item) old new → Adds (AreTexts P (take (i + 1) items)) start new
texts_more P items i item d start old new within is so_far more = record {
  added = so_far.added ++ more.added;
  new_is = more.new_is ∙ ap (λ t. t ++ more.added) so_far.new_is ∙ append_assoc start so_far.added more.added;
  holds = record {
    texts = so_far.holds.texts ++ more.added ∷ [];
    each = subst (λ l. AllZip P l (so_far.holds.texts ++ more.added ∷ [])) (ap (λ x. take i items ++ x ∷ []) is ∙ sym (take_more items i d within)) (each_more P (take i items) so_far.holds.texts item more.added so_far.holds.each more.holds);
    text_is = ap (λ t. t ++ more.added) so_far.holds.text_is ∙ sym (concat_more so_far.holds.texts more.added);
  };
}

-- the texts of all items were written
pub all_texts : {X : Type 0} (P : X → List ℕ → Type 0) (items : List X) (n : ℕ) (text : List ℕ) → length items ≤ n → Adds (AreTexts P (take n items)) [] text → AreTexts P items text
all_texts P items n text all so_far = record {
  texts = so_far.holds.texts;
  each = subst (λ l. AllZip P l so_far.holds.texts) (take_all n items all) so_far.holds.each;
  text_is = so_far.new_is ∙ so_far.holds.text_is;
}

-- three texts in a row
pub three_added : (old one two new a b c : List ℕ) → one ≡ old ++ a → two ≡ one ++ b → new ≡ two ++ c → new ≡ old ++ (a ++ b ++ c)
three_added old one two new a b c first second third = third ∙ ap (λ t. t ++ c) (second ∙ ap (λ t. t ++ b) first ∙ append_assoc old a b) ∙ append_assoc old (a ++ b) c

-- an error is its place, its message and the line of the place
pub error_added : (coloured : Bool) (sources : List Source) (place : Place) (message : List ℕ) (old one two new : List ℕ) → one ≡ old ++ told_place coloured sources place → two ≡ one ++ message_text coloured message → Adds (ShowsLine coloured sources place) two new → Adds (IsErrorText coloured sources place message) old new
error_added coloured sources place message old one two new placed told shown = record {
  added = told_place coloured sources place ++ message_text coloured message ++ shown.added;
  new_is = three_added old one two new (told_place coloured sources place) (message_text coloured message) shown.added placed told shown.new_is;
  holds = record { below = shown.added; shows = shown.holds; text_is = refl };
}

-- a note is its place, its words and the line of the place
pub note_added : (coloured : Bool) (sources : List Source) (place : Place) (old one two new : List ℕ) → one ≡ old ++ told_place coloured sources place → two ≡ one ++ line (codes "note: also here") → Adds (ShowsLine coloured sources place) two new → Adds (IsNoteText coloured sources place) old new
note_added coloured sources place old one two new placed told shown = record {
  added = told_place coloured sources place ++ line (codes "note: also here") ++ shown.added;
  new_is = three_added old one two new (told_place coloured sources place) (line (codes "note: also here")) shown.added placed told shown.new_is;
  holds = record { below = shown.added; shows = shown.holds; text_is = refl };
}

-- an error with places
pub placed_added : (coloured : Bool) (sources : List Source) (file : ℕ) (message : List ℕ) (first : Place) (others places : List Place) (old one new : List ℕ) → places ≡ first ∷ others → Adds (IsErrorText coloured sources first message) old one → Adds (AreNotes coloured sources others) one new → Adds (IsTextAt coloured sources file message places) old new
placed_added coloured sources file message first others places old one new is error notes = subst (λ l. Adds (IsTextAt coloured sources file message l) old new) (sym is) (record {
  added = error.added ++ notes.added;
  new_is = notes.new_is ∙ ap (λ t. t ++ notes.added) error.new_is ∙ append_assoc old error.added notes.added;
  holds = record { error = error.added; notes = notes.added; is_error = error.holds; are_notes = notes.holds; text_is = refl };
})

-- the errors and the line of counts
pub report_told : (coloured : Bool) (sources : List Source) (issues : List Issue) (n errors files judged unjudged : ℕ) (told new : List ℕ)
    → length issues ≤ n → Adds (AreTexts (IsIssueText coloured sources) (take n issues)) [] told → errors ≡ length issues → files ≡ file_count issues
    → new ≡ told ++ last_line errors files judged unjudged → IsTextReport coloured sources issues judged unjudged new
report_told coloured sources issues n errors files judged unjudged told new all so_far errors_are files_are ended = record {
  texts = so_far.holds.texts;
  each = subst (λ l. AllZip (IsIssueText coloured sources) l so_far.holds.texts) (take_all n issues all) so_far.holds.each;
  text_is = ended ∙ ap (λ t. t ++ last_line errors files judged unjudged) (so_far.new_is ∙ so_far.holds.text_is)
      ∙ ap (λ e. concat so_far.holds.texts ++ last_line e files judged unjudged) errors_are
      ∙ ap (λ f. concat so_far.holds.texts ++ last_line (length issues) f judged unjudged) files_are;
}
