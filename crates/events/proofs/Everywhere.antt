-- What holds at each node of an outline.
use Rattle.std.proofs.Common.{List, [], ◌∷◌, Option, Some, None}
use Rattle.std.specs.declared.vec.Vec.{Vec}
use Rattle.std.specs.declared.alloc.Global.{Global}
use Rattle.language_values.specs.Each.{Each}
use Rattle.events.specs.Node.{Node}
use Rattle.events.specs.Outline.{Outline, empty, entry, beside, each, if_there, each_if_there}

module _ {S C : Type 0} (P : Node S → Outline S C → Type 0) where
  -- P of each node and of what stands in it
  abbrev pub Everywhere : Outline S C → Type 0
  Everywhere empty = Unit {0}
  Everywhere (entry node types inside after) = P node inside × Everywhere inside × Everywhere after

  pub everywhere_beside : (a b : Outline S C) → Everywhere a → Everywhere b → Everywhere (beside a b)
  everywhere_beside empty b h k = k
  everywhere_beside (entry node types inside after) b (p, h, h') k = (p, h, everywhere_beside after b h' k)

  pub everywhere_each : {X : Type 0} (Q : X → Type 0) (f : X → Outline S C) → ((x : X) → Q x → Everywhere (f x)) → (xs : List X) → Each Q xs → Everywhere (each f xs)
  everywhere_each Q f h [] k = tt
  everywhere_each Q f h (x ∷ xs) (q, k) = everywhere_beside (f x) (each f xs) (h x q) (everywhere_each Q f h xs k)

  pub everywhere_all : {X : Type 0} (f : X → Outline S C) → ((x : X) → Everywhere (f x)) → (xs : List X) → Everywhere (each f xs)
  everywhere_all f h [] = tt
  everywhere_all f h (x ∷ xs) = everywhere_beside (f x) (each f xs) (h x) (everywhere_all f h xs)

  pub everywhere_if_there : {X : Type 0} (f : X → Outline S C) → ((x : X) → Everywhere (f x)) → (o : Option X) → Everywhere (if_there f o)
  everywhere_if_there f h None = tt
  everywhere_if_there f h (Some x) = h x

  pub everywhere_each_if_there : {X : Type 0} (f : X → Outline S C) → ((x : X) → Everywhere (f x)) → (o : Option (Vec X Global)) → Everywhere (each_if_there f o)
  everywhere_each_if_there f h None = tt
  everywhere_each_if_there f h (Some xs) = everywhere_all f h xs.items
