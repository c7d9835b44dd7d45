-- What is known while fields are collected.
use Rattle.std.specs.Prelude.{Bool}
use Rattle.std.specs.Prelude.{◌≡◌, ◌++◌, ℕ, List, [], ◌∷◌, Option, Some, None, map}
use Rattle.language_types.specs.Names.{is_among}
use Rattle.language.specs.declared.tree.Definition.{Definition}
use Rattle.language.specs.declared.tree.Definition.TheVariants as definition
use Rattle.language.specs.declared.tree.Field.{Field}
use Rattle.language.specs.declared.tree.Fragment.{Fragment}
use Rattle.language.specs.declared.tree.Selection.{Selection}
use Rattle.bit_matrix.specs.declared.set.BitSet.{BitSet}
use Rattle.bit_matrix.specs.Set.{has}
use Rattle.fragment_graph.specs.declared.numbers.Numbers.{Numbers}
use Rattle.fragment_graph.specs.Numbers.{number_of, NumbersOf}
use Rattle.merge_graph.specs.Definitions.{last_place, AreLast}
use Rattle.language_types.specs.Position.{Placed}
use Rattle.rules_specified.specs.Collected.{Collects, Part, field, inside, nothing, part}
use Rattle.rules_specified.specs.declared.collected.Found.{Found}
use Rattle.rules_specified.specs.declared.collected.Found.TheVariants as found
use Rattle.rules_specified.specs.declared.collected.Root.{Root}
use Rattle.rules_specified.specs.declared.collected.RootField.{RootField}

-- the names are those of the set's numbers
abbrev pub Marks : Numbers → BitSet → List (List ℕ) → Type 0
Marks numbers bits names = (name : List ℕ) (k : ℕ) → number_of numbers name ≡ Some k → has bits k ≡ is_among names name

-- the fragment of a definition, if it is one's
abbrev pub fragment_in : {S : Type 0} → Option (Definition S) → Option (Placed (Fragment S))
fragment_in (Some (definition.Fragment f)) = Some f
fragment_in (Some (definition.Operation o)) = None
fragment_in None = None

module _ {S C : Type 0} where
  -- the fragments of the document have numbers, and the last of each has its place
  pub record IsRoot (root : Root S C) : Type 0 where
    pub numbers : NumbersOf root.document.now root.numbers
    pub last : AreLast root.document.now (last_place root.numbers root.last.items)

module _ {S : Type 0} where
  -- the fields by their values
  abbrev pub placed : List (RootField S) → List (Placed (Field S))
  placed fields = map (λ r. r.field.now) fields

  -- what was found is this part; fragments of the last names are opened from then on
  abbrev pub IsPart : List (List ℕ) → List (List ℕ) → Part S → Found S → Type 0
  IsPart names after p found.Nothing = (p ≡ nothing) × (after ≡ names)
  IsPart names after p (found.Field f) = (p ≡ field f.now) × (after ≡ names)
  IsPart names after p (found.Inside set) = p ≡ inside set.now after

  module _ {C : Type 0} (truth : S → Option Bool) (root : Root S C) where
    abbrev pub part_at : List (List ℕ) → Selection S → Part S
    part_at names s = part truth root.schema.now root.document.now root.name.now names s

    abbrev pub CollectsAt : List (List ℕ) → List (Selection S) → List (Placed (Field S)) → List (List ℕ) → Type 0
    CollectsAt = Collects truth root.schema.now root.document.now root.name.now

    -- from one set after the other
    abbrev pub CollectsAll : List (List ℕ) → List (List (Selection S)) → List (Placed (Field S)) → List (List ℕ) → Type 0
    CollectsAll names [] fs after = (fs ≡ []) × (after ≡ names)
    CollectsAll names (set ∷ sets) fs after = (first : List (Placed (Field S))) × (rest : List (Placed (Field S))) × (mid : List (List ℕ))
        × CollectsAt names set first mid × CollectsAll mid sets rest after × (fs ≡ first ++ rest)

    -- Some fields are added, and the sets that wait and the fragments that are opened are new: what is collected from
    -- here on comes after these fields in what is collected from the old ones.
    pub record Leads (bits : BitSet) (old new : List (List (Selection S))) (added : List (Placed (Field S)))
        (names : List (List ℕ)) : Type 0 where
      pub opened : List (List ℕ)
      pub marks : Marks root.numbers bits opened
      pub leads : (fs : List (Placed (Field S))) (after : List (List ℕ)) → CollectsAll opened new fs after
          → CollectsAll names old (added ++ fs) after
