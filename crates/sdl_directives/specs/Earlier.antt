-- What is found at each item of a list, given those before it.
use Rattle.std.specs.Prelude.{List, [], ◌∷◌, ◌++◌}

-- where some stand before the first
abbrev pub each_after : {A B : Type 0} → (List A → A → List B) → List A → List A → List B
each_after f before [] = []
each_after f before (x ∷ xs) = f before x ++ each_after f (before ++ x ∷ []) xs

-- each item is right, given those before it, where some stand before the first
abbrev pub EachAfter : {A : Type 0} → (List A → A → Type 0) → List A → List A → Type 0
EachAfter P before [] = Unit {0}
EachAfter P before (x ∷ xs) = P before x × EachAfter P (before ++ x ∷ []) xs
