-- Each text once, as one text more is looked at.
use Rattle.std.proofs.Common.{◌≡◌, ◌∙◌, ◌++◌, ◌||◌, ◌+◌, ◌<◌, ℕ, Bool, Bor, List, [], ◌∷◌, append-nil, ap, cond, false, get_or, length, not, refl, sym, take, true}
use Rattle.std.proofs.lemmas.List.{map-append, take_more}
use Rattle.std.proofs.lemmas.List.Elements.{filter-append}
use Rattle.std.proofs.lemmas.Slice.Eq.{bytes_eq-Decides}
use Rattle.std.specs.List.{filter, list_any}
use Rattle.std.specs.Str.{bytes_eq}
use Rattle.clap.specs.Walk.{Text, texts}
use Rattle.lint_args.specs.Asks.{added_once, distinct}

same : (one other : Text) → bytes_eq one other ≡ true → one ≡ other
same one other e = (bytes_eq-Decides one other).0 e

module _ (first : Text) where
  abbrev is_other : Text → Bool
  is_other other = not (bytes_eq other first)

  kept_by : (text other : Text) (others : List Text) (b : Bool) → bytes_eq other first ≡ b → bytes_eq text first ≡ false
      → list_any (bytes_eq text) (filter is_other others) ≡ list_any (bytes_eq text) others
      → list_any (bytes_eq text) (filter is_other (other ∷ others)) ≡ list_any (bytes_eq text) (other ∷ others)
  kept_by text other others true e apart more =
      ap (λ b. list_any (bytes_eq text) (cond (not b) (other ∷ filter is_other others) (filter is_other others))) e ∙ more
      ∙ sym (ap (λ b. b || list_any (bytes_eq text) others) (ap (bytes_eq text) (same other first e) ∙ apart))
  kept_by text other others false e apart more =
      ap (λ b. list_any (bytes_eq text) (cond (not b) (other ∷ filter is_other others) (filter is_other others))) e
      ∙ ap (λ b. bytes_eq text other || b) more

  -- another text is among others as before
  kept : (text : Text) (others : List Text) → bytes_eq text first ≡ false → list_any (bytes_eq text) (filter is_other others) ≡ list_any (bytes_eq text) others
  kept text [] apart = refl
  kept text (other ∷ others) apart = kept_by text other others (bytes_eq other first) refl apart (kept text others apart)

  -- the text is the first, or another that is known or not
  added_by : (text : Text) (known : List Text) (is_first is_known : Bool) → bytes_eq text first ≡ is_first → list_any (bytes_eq text) known ≡ is_known
      → first ∷ filter is_other (added_once known text) ≡ added_once (first ∷ filter is_other known) text
  added_by text known true true f k =
      ap (λ b. first ∷ filter is_other (cond b known (known ++ text ∷ []))) k
      ∙ sym (ap (λ b. cond (b || list_any (bytes_eq text) (filter is_other known)) (first ∷ filter is_other known) (first ∷ filter is_other known ++ text ∷ [])) f)
  added_by text known true false f k =
      ap (λ b. first ∷ filter is_other (cond b known (known ++ text ∷ []))) k
      ∙ ap (λ l. first ∷ l) (filter-append is_other known (text ∷ []) ∙ ap (λ b. filter is_other known ++ cond (not b) (text ∷ []) []) f ∙ append-nil (filter is_other known))
      ∙ sym (ap (λ b. cond (b || list_any (bytes_eq text) (filter is_other known)) (first ∷ filter is_other known) (first ∷ filter is_other known ++ text ∷ [])) f)
  added_by text known false true f k =
      ap (λ b. first ∷ filter is_other (cond b known (known ++ text ∷ []))) k
      ∙ sym (ap (λ b. cond (b || list_any (bytes_eq text) (filter is_other known)) (first ∷ filter is_other known) (first ∷ filter is_other known ++ text ∷ [])) f
      ∙ ap (λ b. cond b (first ∷ filter is_other known) (first ∷ filter is_other known ++ text ∷ [])) (kept text known f ∙ k))
  added_by text known false false f k =
      ap (λ b. first ∷ filter is_other (cond b known (known ++ text ∷ []))) k
      ∙ ap (λ l. first ∷ l) (filter-append is_other known (text ∷ []) ∙ ap (λ b. filter is_other known ++ cond (not b) (text ∷ []) []) f)
      ∙ sym (ap (λ b. cond (b || list_any (bytes_eq text) (filter is_other known)) (first ∷ filter is_other known) (first ∷ filter is_other known ++ text ∷ [])) f
      ∙ ap (λ b. cond b (first ∷ filter is_other known) (first ∷ filter is_other known ++ text ∷ [])) (kept text known f ∙ k))

-- one text more
pub distinct-append : (known : List Text) (text : Text) → distinct (known ++ text ∷ []) ≡ added_once (distinct known) text
distinct-append [] text = refl
distinct-append (first ∷ known) text =
    ap (λ l. first ∷ filter (is_other first) l) (distinct-append known text)
    ∙ added_by first text (distinct known) (bytes_eq text first) (list_any (bytes_eq text) (distinct known)) refl refl

-- the same, of paths behind references
pub distinct_more : (paths : List (Bor Text)) (k : ℕ) (d : Bor Text) (files new : List (Bor Text)) → k < length paths → texts files ≡ distinct (texts (take k paths)) → texts new ≡ added_once (texts files) (get_or paths k d).now → texts new ≡ distinct (texts (take (k + 1) paths))
distinct_more paths k d files new here before added =
    let path = get_or paths k d in
    added ∙ ap (λ known. added_once known path.now) before
    ∙ sym (ap (λ l. distinct (texts l)) (take_more paths k d here) ∙ ap distinct (map-append (λ s. s.now) (take k paths) (path ∷ [])) ∙ distinct-append (texts (take k paths)) path.now)

any_texts : (path : Text) (files : List (Bor Text)) → list_any (λ file. bytes_eq path file.now) files ≡ list_any (bytes_eq path) (texts files)
any_texts path [] = refl
any_texts path (file ∷ files) = ap (λ b. bytes_eq path file.now || b) (any_texts path files)

is_known : (path : Text) (files slice : List (Bor Text)) (b value : Bool) → slice ≡ files → b ≡ list_any (λ file. bytes_eq path file.now) slice → b ≡ value → list_any (bytes_eq path) (texts files) ≡ value
is_known path files slice b value alike any is = sym (any_texts path files) ∙ sym (ap (list_any (λ file. bytes_eq path file.now)) alike) ∙ sym any ∙ is

-- a path that is there, and one that is not
pub added_known : (path : Text) (files slice : List (Bor Text)) (b : Bool) → slice ≡ files → b ≡ list_any (λ file. bytes_eq path file.now) slice → b ≡ true → texts files ≡ added_once (texts files) path
added_known path files slice b alike any is = sym (ap (λ known. cond known (texts files) (texts files ++ path ∷ [])) (is_known path files slice b true alike any is))

pub added_new : (path : Bor Text) (files slice new : List (Bor Text)) (b : Bool) → slice ≡ files → b ≡ list_any (λ file. bytes_eq path.now file.now) slice → b ≡ false → new ≡ files ++ path ∷ [] → texts new ≡ added_once (texts files) path.now
added_new path files slice new b alike any is pushed =
    ap texts pushed ∙ map-append (λ s. s.now) files (path ∷ [])
    ∙ sym (ap (λ known. cond known (texts files) (texts files ++ path.now ∷ [])) (is_known path.now files slice b false alike any is))
