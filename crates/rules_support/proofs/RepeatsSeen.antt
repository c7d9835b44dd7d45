-- The repeats of a list, entry by entry.
use Rattle.std.proofs.Common.{◌≡◌, ℕ, ◌+◌, ◌<◌, ◌≤◌, get_or, List, [], ◌∷◌, ◌++◌, map, take, length, ap, sym, ◌∙◌, append_assoc, arith}
use mathlib.Core.Path.{fun_ext}
use Rattle.std.proofs.lemmas.List.{append-nil, take_more, take_all, map-append}
use Rattle.language_types.specs.declared.position.SourcePosition.{SourcePosition}
use Rattle.walk.specs.ContextState.{ContextState, with_errors}
use Rattle.walk.specs.ErrorValue.{ErrorValue}
use Rattle.walk.proofs.Kept.{with_more}
use Rattle.rules_support.specs.Names.{Named, Places}
use Rattle.rules_support.specs.Noting.{noted}
use Rattle.rules_support.specs.NotingLaws.{first_place-more}
use Rattle.rules_support.proofs.Reported.{reports_none}
use Rattle.rules_support.specs.Repeats.{first_place, repeat_at, repeats_after, repeats}

-- one more at the end
repeats-last : (message : List ℕ → List ℕ) (earlier names : List Named) (n : Named) → repeats_after message earlier (names ++ n ∷ []) ≡ repeats_after message earlier names ++ repeat_at message (first_place (earlier ++ names) n.0) n
repeats-last message earlier [] n =
    append-nil (repeat_at message (first_place earlier n.0) n) ∙ ap (λ z. repeat_at message (first_place z n.0) n) (sym (append-nil earlier))
repeats-last message earlier (m ∷ names) n =
    let here : List ErrorValue = repeat_at message (first_place earlier m.0) m in
    ap (λ z. here ++ z) (repeats-last message (earlier ++ m ∷ []) names n ∙ ap (λ z. repeats_after message (earlier ++ m ∷ []) names ++ repeat_at message (first_place z n.0) n) (append_assoc earlier (m ∷ []) names))
    ∙ sym (append_assoc here (repeats_after message (earlier ++ m ∷ []) names) (repeat_at message (first_place (earlier ++ (m ∷ names)) n.0) n))

-- after one more entry: the places, and what was reported
pub record Seen {S C : Type 0} (message : List ℕ → List ℕ) (names : List Named) (places : Places) (old new : ContextState S C) : Type 0 where
  pub noted : places ≡ first_place names
  pub reported : new ≡ with_errors old (repeats message names)

pub seen_none : {S C : Type 0} (message : List ℕ → List ℕ) (places : Places) (w : ContextState S C) → places ≡ first_place [] → Seen message [] places w w
seen_none message places w e = record { noted = e; reported = reports_none w }

pub seen_more : {S C T : Type 0} (message : List ℕ → List ℕ) (f : T → Named) (xs : List T) (i : ℕ) (x : T) (name : List ℕ) (place : SourcePosition) (p q : Places) (w w₁ w₂ : ContextState S C)
    → i < length xs → x ≡ get_or xs i x → Seen message (map f (take i xs)) p w w₁
    → name ≡ (f x).0 → place ≡ (f x).1
    → q ≡ noted p (name, place) → w₂ ≡ with_errors w₁ (repeat_at message (p name) (name, place))
    → Seen message (map f (take (i + 1) xs)) q w w₂
seen_more message f xs i x name place p q w w₁ w₂ h e s is_name is_place is_noted is_reported =
    let names : List Named = map f (take i xs) in
    let n : Named = (name, place) in
    let same : n ≡ f x = ap (λ z. (z, place)) is_name ∙ ap (λ z. ((f x).0, z)) is_place in
    let more : names ++ n ∷ [] ≡ map f (take (i + 1) xs) =
    ap (λ z. names ++ z ∷ []) same ∙ sym (ap (map f) (take_more xs i x h) ∙ map-append f (take i xs) (get_or xs i x ∷ []) ∙ ap (λ z. names ++ f z ∷ []) (sym e)) in
    record {
      noted = is_noted ∙ ap (λ z. noted z n) s.noted ∙ fun_ext (first_place-more names n) ∙ ap first_place more;
      reported =
          is_reported
          ∙ ap (λ z. with_errors z (repeat_at message (p name) n)) s.reported
          ∙ ap (λ z. with_errors (with_errors w (repeats message names)) (repeat_at message (z name) n)) s.noted
          ∙ with_more w (repeats message names) (repeat_at message (first_place names name) n)
          ∙ ap (λ zs. with_errors w zs) (sym (repeats-last message [] names n))
          ∙ ap (λ zs. with_errors w (repeats message zs)) more;
    }

pub seen_all : {S C T : Type 0} (message : List ℕ → List ℕ) (f : T → Named) (xs : List T) (i : ℕ) (p : Places) (w w₁ : ContextState S C) → length xs ≤ i → Seen message (map f (take i xs)) p w w₁ → w₁ ≡ with_errors w (repeats message (map f xs))
seen_all message f xs i p w w₁ h s = s.reported ∙ ap (λ zs. with_errors w (repeats message (map f zs))) (take_all i xs h)

-- with fewer than two names nothing repeats
pub none_repeat : {S C T : Type 0} (message : List ℕ → List ℕ) (f : T → Named) (xs : List T) (w : ContextState S C) → length xs < 2 → w ≡ with_errors w (repeats message (map f xs))
none_repeat message f [] w few = reports_none w
none_repeat message f (x ∷ []) w few = reports_none w
none_repeat message f (x ∷ y ∷ xs) w few = absurd (omega arith)
