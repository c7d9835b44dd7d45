-- The last start at an index or before it, where one start more is looked at.
use Rattle.std.proofs.Common.{◌≡◌, ◌∙◌, ℕ, ◌+◌, ◌≤◌, ◌<◌, true, false, List, [], ◌∷◌, ◌++◌, Option, Some, length, get_or, take, Bool, refl, sym, ap, arith, le-leb, leb-true}
use Rattle.std.specs.Prelude.{nat_le}
use Rattle.std.specs.List.{last_or}
use Rattle.std.proofs.lemmas.List.{append-nil, take_more}
use Rattle.std.proofs.lemmas.List.Elements.{filter-append}
use Rattle.lint_sources.specs.declared.sources.Start.{Start}
use Rattle.lint_sources.specs.Places.{start_at}

last_or-append : (o : Option Start) (starts : List Start) (start : Start) → last_or o (starts ++ start ∷ []) ≡ Some start
last_or-append o [] start = refl
last_or-append o (first ∷ starts) start = last_or-append (Some first) starts start

not_true : (b : Bool) → (b ≡ true → ⊥) → b ≡ false
not_true true h = absurd (h refl)
not_true false h = refl

-- one at the index or before it is the last
start_at-found : (starts : List Start) (start : Start) (index : ℕ) → start.index ≤ index → start_at (starts ++ start ∷ []) index ≡ start
start_at-found starts start index before = let e : nat_le start.index index ≡ true = le-leb start.index index before in rw (filter-append, e, last_or-append)

-- one after the index is passed
start_at-passed : (starts : List Start) (start : Start) (index : ℕ) → index < start.index → start_at (starts ++ start ∷ []) index ≡ start_at starts index
start_at-passed starts start index after = let e : nat_le start.index index ≡ false = not_true _ (λ t. let l : start.index ≤ index = leb-true start.index index t in omega arith) in rw (filter-append, e, append-nil)

-- the same, as a loop over the starts comes to the next one
pub take_found : (starts : List Start) (k : ℕ) (d : Start) (index : ℕ) (found : Start) → k < length starts → (get_or starts k d).index ≤ index → found ≡ get_or starts k d → found ≡ start_at (take (k + 1) starts) index
take_found starts k d index found inside before e = e ∙ sym (ap (λ l. start_at l index) (take_more starts k d inside) ∙ start_at-found (take k starts) (get_or starts k d) index before)

pub take_passed : (starts : List Start) (k : ℕ) (d : Start) (index : ℕ) (found now : Start) → k < length starts → index < (get_or starts k d).index → now ≡ found → found ≡ start_at (take k starts) index → now ≡ start_at (take (k + 1) starts) index
take_passed starts k d index found now inside after same e = same ∙ e ∙ sym (ap (λ l. start_at l index) (take_more starts k d inside) ∙ start_at-passed (take k starts) (get_or starts k d) index after)
