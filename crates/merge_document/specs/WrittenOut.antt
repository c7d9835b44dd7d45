-- Selection sets written out: the own fields of a set, and for each spread the written-out set of the fragment's last
-- definition (section 5.3.2). A spread of an unknown fragment gives nothing.
use Rattle.std.specs.Prelude.{◌≡◌, ℕ, List, Option, Some, slice_get}
use Rattle.std.specs.List.{Contains}
use Rattle.language.specs.declared.tree.Selection.{Selection}
use Rattle.language.specs.declared.tree.Definition.{Definition}
use Rattle.meta.specs.declared.kinds.MetaTypeOf.{MetaTypeOf}
use Rattle.schema.specs.Catalog.{Catalog}
use Rattle.merge_field_pairs.specs.Entries.{PlainEntry}
use Rattle.merge_field_pairs.specs.OwnFields.{own_fields, own_spreads}
use Rattle.merge_graph.specs.Definitions.{type_round, selections_of, IsLast}

module _ {S C : Type 0} (schema : Catalog S C) (document : List (Definition S)) where
  -- The fragment's last definition.
  pub record IsFragment (name : List ℕ) (d : Definition S) : Type 0 where
    pub place : ℕ
    pub last : IsLast document name place
    pub same : last.is ≡ d

  -- The field stands in the set under the type, written out.
  pub data Stands : Option (MetaTypeOf S C) → List (Selection S) → PlainEntry S C → Type 0 where
    own : {p : Option (MetaTypeOf S C)} {set : List (Selection S)} {a : PlainEntry S C}
        → Contains (own_fields schema p set) a → Stands p set a
    spread : {p : Option (MetaTypeOf S C)} {set : List (Selection S)} {a : PlainEntry S C} {name : List ℕ} {d : Definition S}
        → Contains (own_spreads set) name → IsFragment name d → Stands (type_round schema d) (selections_of d) a → Stands p set a

  -- The field stands in the written-out fragment of the name.
  abbrev pub StandsIn : List ℕ → PlainEntry S C → Type 0
  StandsIn name a = (d : Definition S) × IsFragment name d × Stands (type_round schema d) (selections_of d) a

  -- Two places of the written-out set have these fields, in this order or the other.
  pub data Apart : Option (MetaTypeOf S C) → List (Selection S) → PlainEntry S C → PlainEntry S C → Type 0 where
    own_own : {p : Option (MetaTypeOf S C)} {set : List (Selection S)} {a b : PlainEntry S C} {k l : ℕ}
        → slice_get (own_fields schema p set) k ≡ Some a → slice_get (own_fields schema p set) l ≡ Some b → (k ≡ l → ⊥) → Apart p set a b
    own_spread : {p : Option (MetaTypeOf S C)} {set : List (Selection S)} {a b : PlainEntry S C} {name : List ℕ}
        → Contains (own_fields schema p set) a → Contains (own_spreads set) name → StandsIn name b → Apart p set a b
    spread_own : {p : Option (MetaTypeOf S C)} {set : List (Selection S)} {a b : PlainEntry S C} {name : List ℕ}
        → Contains (own_spreads set) name → StandsIn name a → Contains (own_fields schema p set) b → Apart p set a b
    two_spreads : {p : Option (MetaTypeOf S C)} {set : List (Selection S)} {a b : PlainEntry S C} {name other : List ℕ} {k l : ℕ}
        → slice_get (own_spreads set) k ≡ Some name → slice_get (own_spreads set) l ≡ Some other → (k ≡ l → ⊥)
        → StandsIn name a → StandsIn other b → Apart p set a b
    one_spread : {p : Option (MetaTypeOf S C)} {set : List (Selection S)} {a b : PlainEntry S C} {name : List ℕ} {d : Definition S}
        → Contains (own_spreads set) name → IsFragment name d → Apart (type_round schema d) (selections_of d) a b → Apart p set a b
