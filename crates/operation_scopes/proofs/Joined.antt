-- How joined lists grow, and what is said of options.
use Rattle.std.proofs.Common.{◌≡◌, ℕ, ◌+◌, ◌<◌, List, ◌++◌, length, take, get_or, sym, ap, ◌∙◌, append_assoc, Option, None, Some}
use Rattle.std.specs.Option.{IfSome, IfNone}
use Rattle.std.specs.List.{flat_map}
use Rattle.fragment_graph.proofs.Joining.{flat_map-next}

pub more_flat : {X Y : Type 0} (f : X → List Y) (xs : List X) (i : ℕ) (x : X) (old now new : List Y) → x ≡ get_or xs i x → i < length xs
    → now ≡ old ++ flat_map f (take i xs) → new ≡ now ++ f x → new ≡ old ++ flat_map f (take (i + 1) xs)
more_flat f xs i x old now new is l h e =
    e ∙ ap (λ z. z ++ f x) h ∙ append_assoc old (flat_map f (take i xs)) (f x) ∙ ap (λ z. old ++ z) (sym (flat_map-next f xs i x is l))

pub some_weaker : {T : Type 0} (o : Option T) (P Q : T → Type 0) → ((x : T) → P x → Q x) → IfSome o P → IfSome o Q
some_weaker None P Q f h = tt
some_weaker (Some x) P Q f h = f x h

pub none_weaker : {T : Type 0} (o : Option T) (P Q : Type 0) → (P → Q) → IfNone o P → IfNone o Q
none_weaker None P Q f h = f h
none_weaker (Some x) P Q f h = tt
