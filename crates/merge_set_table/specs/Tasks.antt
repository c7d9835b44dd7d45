-- What each task adds, and what a list of tasks adds one after the other.
use Rattle.std.specs.Prelude.{◌≡◌, ℕ, List, [], ◌∷◌, Option, Some, None, option_copied}
use Rattle.language.specs.declared.tree.Selection.{Selection}
use Rattle.meta.specs.declared.kinds.MetaTypeOf.{MetaTypeOf}
use Rattle.schema.specs.Catalog.{Catalog}
use Rattle.merge_field_pairs.specs.Entries.{plain}
use Rattle.merge_set_table.specs.declared.table.NumberedSet.{NumberedSet}
use Rattle.merge_set_table.specs.declared.table.Table.{Table}
use Rattle.merge_set_table.specs.declared.tasks.Role.{Role}
use Rattle.merge_set_table.specs.declared.tasks.Role.TheVariants.{Searched, Compared}
use Rattle.merge_set_table.specs.declared.tasks.BegunField.{BegunField}
use Rattle.merge_set_table.specs.declared.tasks.BegunInline.{BegunInline}
use Rattle.merge_set_table.specs.declared.tasks.Task.{Task}
use Rattle.merge_set_table.specs.declared.tasks.Task.TheVariants as task
use Rattle.merge_set_table.specs.Adding.{Adds, AddsFor, EndsPart, PushesField, OpensSet, StoresSet, ClosesSet}

module _ {S C : Type 0} where
  -- Only a set that is searched has a place in the order.
  abbrev pub IsPlaced : Role → Option ℕ → Table S C → Table S C → Type 0
  IsPlaced Searched (Some place) t t' = OpensSet place t t'
  IsPlaced Searched None t t' = ⊥
  IsPlaced Compared (Some place) t t' = ⊥
  IsPlaced Compared None t t' = t' ≡ t

  -- The set was stored, and its number put at its place, if it has one.
  abbrev pub StoresAt : Option ℕ → NumberedSet → ℕ → Table S C → Table S C → Type 0
  StoresAt (Some place) part n t t' = ClosesSet place part n t t'
  StoresAt None part n t t' = StoresSet part n t t'

  -- The set below the field was stored, and the field added to the set that it stands in.
  pub record EndsField (begun : BegunField S C) (part part' : NumberedSet) (t t' : Table S C) : Type 0 where
    pub number : ℕ
    pub middle : Table S C
    pub stores : StoresAt begun.place part number t middle
    pub pushes : PushesField (plain begun.entry) (Some number) begun.outer part' middle t'

  -- The set of the inline fragment was stored, and the set round it is filled.
  pub record EndsInline (begun : BegunInline) (part part' : NumberedSet) (t t' : Table S C) : Type 0 where
    pub number : ℕ
    pub stores : ClosesSet begun.place part number t t'
    pub outer : part' ≡ begun.outer

module _ {S C : Type 0} (schema : Catalog S C) (numbers : List ℕ → Option ℕ) where
  -- The selections were added, with the sets in them as their role asks.
  abbrev pub AddsAs : Role → Option (MetaTypeOf S C) → List (Selection S) → NumberedSet → NumberedSet → Table S C → Table S C → Type 0
  AddsAs Searched p xs part part' t t' = Adds schema numbers p xs part part' t t'
  AddsAs Compared p xs part part' t t' = AddsFor schema numbers p xs part part' t t'

  abbrev pub Meets : Task S C → NumberedSet → NumberedSet → Table S C → Table S C → Type 0
  Meets (task.Members m) part part' t t' = AddsAs m.role (option_copied m.parent) m.set.now part part' t t'
  Meets (task.Field begun) part part' t t' = EndsField begun part part' t t'
  Meets (task.Inline begun) part part' t t' = EndsInline begun part part' t t'
  Meets (task.Part place) part part' t t' = EndsPart place part part' × (t ≡ t')

  -- The tasks were done one after the other.
  abbrev pub MeetsAll : List (Task S C) → NumberedSet → NumberedSet → Table S C → Table S C → Type 0
  MeetsAll [] part part' t t' = (part ≡ part') × (t ≡ t')
  MeetsAll (x ∷ xs) part part' t t' =
      (between : NumberedSet) × (middle : Table S C) × Meets x part between t middle
      × MeetsAll xs between part' middle t'

  -- Who does the new tasks from here has done what was to be done, and then the others.
  abbrev pub Becomes : List (Task S C) → NumberedSet → Table S C → List (Task S C) → (NumberedSet → Table S C → Type 0) → Type 0
  Becomes tasks part t others Does =
      (part' : NumberedSet) (t' : Table S C) → MeetsAll tasks part part' t t'
      → (between : NumberedSet) × (middle : Table S C) × Does between middle × MeetsAll others between part' middle t'
