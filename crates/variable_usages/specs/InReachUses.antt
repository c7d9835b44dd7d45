-- The uses that an operation reaches.
use Rattle.std.specs.Prelude.{◌≡◌, ℕ, List, [], ◌∷◌, ◌++◌, Option, Vec, map, slice_get}
use Rattle.std.specs.List.{flat_map}
use Rattle.std.specs.Option.{option_map_or}
use Rattle.std.specs.declared.alloc.Global.{Global}
use Rattle.language.specs.declared.tree.Definition.{Definition}
use Rattle.operation_scopes.specs.Scopes.{InReach}
use Rattle.operation_scopes.specs.Searches.{inside}
use Rattle.variable_usages.specs.declared.uses.VariableUse.{VariableUse}
use Rattle.variable_usages.specs.Uses.{Uses, definition_uses, use_of}

-- The lists come apart into one for each of these, in turn.
abbrev pub InTurn : {X Y : Type 0} → (X → List Y → Type 0) → List X → List Y → Type 0
InTurn gives [] ys = ys ≡ []
InTurn {X} {Y} gives (x ∷ xs) ys = (part : List Y) × (rest : List Y) × gives x part × InTurn gives xs rest × (ys ≡ part ++ rest)

-- What is given for one of these was added.
abbrev pub AddsPart : {Y : Type 0} → (List Y → Type 0) → List Y → List Y → Type 0
AddsPart {Y} gives old new = (part : List Y) × gives part × (new ≡ old ++ part)

module _ {S : Type 0} where
  -- The uses in all definitions whose scopes the operations of the name reach.
  abbrev pub UsedIn : List (Definition S) → Option (List ℕ) → Uses → Type 0
  UsedIn document name uses = (places : List ℕ) × InReach document name places × (uses ≡ flat_map (inside definition_uses document) places)

  -- The uses of each definition.
  abbrev pub AllUses : List (Definition S) → List (Vec VariableUse Global) → Type 0
  AllUses document all = map (λ v. map use_of v.items) all ≡ map definition_uses document

-- Those that are kept at a place.
abbrev pub kept_uses : List (Vec VariableUse Global) → ℕ → Uses
kept_uses all place = option_map_or (λ v. map use_of v.items) (slice_get all place) []
