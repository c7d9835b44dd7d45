-- Lists that grow by a part for each of some others.
use Rattle.std.proofs.Common.{◌≡◌, ℕ, ◌+◌, ◌<◌, List, [], ◌∷◌, ◌++◌, length, get_or, take, map, refl, subst, sym, ap, ◌∙◌, append-nil, append_assoc, Option, Some, None, option_map, slice_get, Vec, Bool}
use Rattle.std.specs.List.{Contains, flat_map}
use Rattle.std.specs.Option.{option_map_or, unwrap_or}
use Rattle.std.specs.declared.alloc.Global.{Global}
use Rattle.std.proofs.lemmas.List.{map-append}
use Rattle.std.proofs.lemmas.Option.{slice_get-map, slice_get_read, slice_get_within, get_or_from_slice_get}
use Rattle.language.specs.declared.tree.Definition.{Definition}
use Rattle.fragment_graph.proofs.Joining.{next_take}
use Rattle.fragment_graph.proofs.Lists.{contains_at}
use Rattle.fragment_graph.proofs.NamePaths.{get_map}
use Rattle.operation_scopes.specs.Searches.{inside}
use Rattle.variable_usages.specs.declared.uses.VariableUse.{VariableUse}
use Rattle.variable_usages.specs.InReachUses.{InTurn, AllUses, kept_uses}
use Rattle.language_types.specs.declared.position.SourcePosition.{SourcePosition}
use Rattle.std.proofs.lemmas.Grind.{flat_map-append}
use Rattle.variable_usages.specs.Undefined.{TellsUndefined, Undefined, told_undefined}
use Rattle.variable_usages.specs.Uses.{Use, Uses, definition_uses, use_of}

pub in_turn_more : {X Y : Type 0} (gives : X → List Y → Type 0) (xs : List X) (ys : List Y) (x : X) (part : List Y) → InTurn gives xs ys → gives x part → InTurn gives (xs ++ x ∷ []) (ys ++ part)
in_turn_more gives [] ys x part e g = (part, [], g, refl, ap (λ z. z ++ part) e ∙ sym (append-nil part))
in_turn_more gives (z ∷ xs) ys x part (p, r, g, t, e) h = (p, r ++ part, g, in_turn_more gives xs r x part t h, ap (λ w. w ++ part) e ∙ append_assoc p r part)

-- and that of the item at a place, where those before it have theirs
pub in_turn_at : {X Y : Type 0} (gives : X → List Y → Type 0) (xs : List X) (i : ℕ) (x : X) (ys part : List Y) → slice_get xs i ≡ Some x
    → InTurn gives (take i xs) ys → gives x part → InTurn gives (take (i + 1) xs) (ys ++ part)
in_turn_at gives xs i x ys part at before given =
    subst (λ zs. InTurn gives zs (ys ++ part)) (sym (next_take xs i x (sym (get_or_from_slice_get xs i x x at)) (slice_get_within xs i x at)))
    (in_turn_more gives (take i xs) ys x part before given)

module _ {X Y : Type 0} (f : X → Y) (xs : List X) (i : ℕ) (x : X) (is : x ≡ get_or xs i x) (l : i < length xs) where
  pub mapped_at : slice_get (map f xs) i ≡ Some (f x)
  mapped_at = get_map f xs i x (slice_get_read xs (length xs) i x refl l is)

  pub mapped_contains : Contains (map f xs) (f x)
  mapped_contains = contains_at (map f xs) i (f x) mapped_at

  pub mapped_next : take (i + 1) (map f xs) ≡ take i (map f xs) ++ f x ∷ []
  mapped_next =
      next_take (map f xs) i (f x) (sym (get_or_from_slice_get (map f xs) i (f x) (f x) mapped_at)) (slice_get_within (map f xs) i (f x) mapped_at)

  pub map_next : map f (take (i + 1) xs) ≡ map f (take i xs) ++ f x ∷ []
  map_next = ap (map f) (next_take xs i x is l) ∙ map-append f (take i xs) (x ∷ [])

or_none : {A B : Type 0} (f : A → List B) (o : Option A) → option_map_or f o [] ≡ unwrap_or (option_map f o) []
or_none f None = refl
or_none f (Some x) = refl

-- what is kept at a place is what is used there
pub kept_there : {S : Type 0} (document : List (Definition S)) (all : List (Vec VariableUse Global)) → AllUses document all → (k : ℕ) → kept_uses all k ≡ inside definition_uses document k
kept_there document all e k =
    let f : Vec VariableUse Global → Uses = λ v. map use_of v.items in
    or_none f (slice_get all k)
    ∙ ap (λ o. unwrap_or o []) (sym (slice_get-map f all k) ∙ ap (λ zs. slice_get zs k) e ∙ slice_get-map definition_uses document k)
    ∙ sym (or_none definition_uses (slice_get document k))

-- one use more in a loop
pub more_told : (defined : List ℕ → Bool) (operation : Option (List ℕ)) (start : SourcePosition) (us : List VariableUse) (u : VariableUse) (old now new : List Undefined)
    → now ≡ old ++ flat_map (told_undefined defined operation start) (map use_of us) → TellsUndefined defined operation start u now new
    → new ≡ old ++ flat_map (told_undefined defined operation start) (map use_of (us ++ u ∷ []))
more_told defined operation start us u old now new h t =
    let f : Use → List Undefined = told_undefined defined operation start in
    t.told ∙ ap (λ z. z ++ f (use_of u)) h ∙ append_assoc old (flat_map f (map use_of us)) (f (use_of u))
    ∙ ap (λ z. old ++ z)
    (ap (λ z. flat_map f (map use_of us) ++ z) (sym (append-nil (f (use_of u)))) ∙ sym (flat_map-append f (map use_of us) (use_of u ∷ [])) ∙ ap (flat_map f) (sym (map-append use_of us (u ∷ []))))
