-- Where nodes stand in an outline, and what holds of all of them.
use Rattle.std.proofs.Common.{◌≡◌, zero, suc, List, [], ◌∷◌, ◌++◌, Option, Some, None, ◌⊎◌, inl, inr, refl, sym, subst, arith}
use Rattle.std.specs.List.{Contains}
use Rattle.std.proofs.lemmas.List.Elements.{Contains-append_left, Contains-append_right, Contains-append_cases}
use Rattle.std.specs.declared.vec.Vec.{Vec}
use Rattle.std.specs.declared.alloc.Global.{Global}
use Rattle.language_values.proofs.Members.{In}
use Rattle.events.specs.Node.{Node}
use Rattle.events.specs.Typing.{Typing}
use Rattle.events.specs.Occurrence.{Occurrence, occurrences_of}
use Rattle.events.specs.Outline.{Outline, empty, entry, beside, each, node_with, if_there, each_if_there}

pub contains_in : {X : Type 0} (xs : List X) (x : X) → Contains xs x → In x xs
contains_in [] x (k, l, at) = absurd (omega (arith, l))
contains_in (y ∷ ys) x (zero, l, at) = inl at
contains_in (y ∷ ys) x (suc k, l, at) = inr (contains_in ys x (k, omega (arith, l), at))

pub in_contains : {X : Type 0} (xs : List X) (x : X) → In x xs → Contains xs x
in_contains [] x i = elim i [ ]
in_contains (y ∷ ys) x (inl e) = (0, omega arith, e)
in_contains (y ∷ ys) x (inr i) = Contains-append_right (y ∷ []) ys x (in_contains ys x i)

module _ {S C : Type 0} where
  -- the node stands in the outline, at these types
  abbrev pub StandsIn : Outline S C → Occurrence S C → Type 0
  StandsIn empty o = ⊥
  StandsIn (entry node types inside after) o = (record { node = node; types = types } ≡ o) ⊎ (StandsIn inside o ⊎ StandsIn after o)

  pub stands_contains : (a : Outline S C) (o : Occurrence S C) → StandsIn a o → Contains (occurrences_of a) o
  stands_contains empty o h = elim h [ ]
  stands_contains (entry node types inside after) o (inl e) = (0, omega arith, e)
  stands_contains (entry node types inside after) o (inr (inl h)) =
      Contains-append_right (record { node = node; types = types } ∷ []) (occurrences_of inside ++ occurrences_of after) o
      (Contains-append_left (occurrences_of inside) (occurrences_of after) o (stands_contains inside o h))
  stands_contains (entry node types inside after) o (inr (inr h)) =
      Contains-append_right (record { node = node; types = types } ∷ []) (occurrences_of inside ++ occurrences_of after) o
      (Contains-append_right (occurrences_of inside) (occurrences_of after) o (stands_contains after o h))

  pub contains_stands : (a : Outline S C) (o : Occurrence S C) → Contains (occurrences_of a) o → StandsIn a o
  contains_stands empty o (k, l, at) = absurd (omega (arith, l))
  contains_stands (entry node types inside after) o (zero, l, at) = inl at
  contains_stands (entry node types inside after) o (suc k, l, at) =
      elim (Contains-append_cases (occurrences_of inside) (occurrences_of after) o (k, omega (arith, l), at)) [
        | inl h ↦ inr (inl (contains_stands inside o h))
        | inr h ↦ inr (inr (contains_stands after o h))
      ]

  -- Outlines beside each other.
  pub stands_left : (a b : Outline S C) (o : Occurrence S C) → StandsIn a o → StandsIn (beside a b) o
  stands_left empty b o h = elim h [ ]
  stands_left (entry node types inside after) b o (inl e) = inl e
  stands_left (entry node types inside after) b o (inr (inl h)) = inr (inl h)
  stands_left (entry node types inside after) b o (inr (inr h)) = inr (inr (stands_left after b o h))

  pub stands_right : (a b : Outline S C) (o : Occurrence S C) → StandsIn b o → StandsIn (beside a b) o
  stands_right empty b o h = h
  stands_right (entry node types inside after) b o h = inr (inr (stands_right after b o h))

  pub stands_each : {X : Type 0} (f : X → Outline S C) (xs : List X) (x : X) (o : Occurrence S C) → In x xs → StandsIn (f x) o → StandsIn (each f xs) o
  stands_each f [] x o i h = elim i [ ]
  stands_each f (y ∷ ys) x o (inl e) h = stands_left (f y) (each f ys) o (subst (λ z. StandsIn (f z) o) (sym e) h)
  stands_each f (y ∷ ys) x o (inr i) h = stands_right (f y) (each f ys) o (stands_each f ys x o i h)

  -- What holds of each node of an outline.
  module _ (P : Occurrence S C → Type 0) where
    abbrev pub Holds : Outline S C → Type 0
    Holds a = (o : Occurrence S C) → StandsIn a o → P o

    pub holds_empty : Holds empty
    holds_empty o h = elim h [ ]

    pub holds_node : (n : Node S) (t : Typing S C) (a : Outline S C) → P (record { node = n; types = t }) → Holds a → Holds (node_with n t a)
    holds_node n t a p h o (inl e) = subst P e p
    holds_node n t a p h o (inr (inl k)) = h o k
    holds_node n t a p h o (inr (inr k)) = elim k [ ]

    pub holds_beside : (a b : Outline S C) → Holds a → Holds b → Holds (beside a b)
    holds_beside empty b h k o s = k o s
    holds_beside (entry node types inside after) b h k o (inl e) = h o (inl e)
    holds_beside (entry node types inside after) b h k o (inr (inl s)) = h o (inr (inl s))
    holds_beside (entry node types inside after) b h k o (inr (inr s)) = holds_beside after b (λ o s. h o (inr (inr s))) k o s

    pub holds_each : {X : Type 0} (f : X → Outline S C) (xs : List X) → ((x : X) → In x xs → Holds (f x)) → Holds (each f xs)
    holds_each f [] h = holds_empty
    holds_each f (x ∷ xs) h = holds_beside (f x) (each f xs) (h x (inl refl)) (holds_each f xs (λ y i. h y (inr i)))

    pub holds_if_there : {X : Type 0} (f : X → Outline S C) → ((x : X) → Holds (f x)) → (o : Option X) → Holds (if_there f o)
    holds_if_there f h None = holds_empty
    holds_if_there f h (Some x) = h x

    pub holds_each_if_there : {X : Type 0} (f : X → Outline S C) → ((x : X) → Holds (f x)) → (o : Option (Vec X Global)) → Holds (each_if_there f o)
    holds_each_if_there f h None = holds_empty
    holds_each_if_there f h (Some xs) = holds_each f xs.items (λ x i. h x)
