-- What each step adds to a table.
use Rattle.std.specs.Prelude.{◌≡◌, ◌⊎◌, ◌<◌, ◌≤◌, ◌+◌, ◌*◌, ℕ, List, [], ◌∷◌, ◌++◌, map, Option, Some, length}
use Rattle.std.specs.Prelude.{slice_get, slice_set, true, option_to_list}
use Rattle.std.specs.List.{All, Contains}
use Rattle.language.specs.declared.tree.Selection.{Selection}
use Rattle.language.specs.SelectionsInside.{all_inside}
use Rattle.meta.specs.declared.kinds.MetaTypeOf.{MetaTypeOf}
use Rattle.schema.specs.Catalog.{Catalog}
use Rattle.merge_field_pairs.specs.Entries.{PlainEntry, plain}
use Rattle.merge_sets.specs.declared.node.Entry.{Entry as OwnField}
use Rattle.merge_sets.specs.declared.node.InnerSet.{InnerSet}
use Rattle.merge_set_table.specs.declared.table.NumberedSet.{NumberedSet}
use Rattle.merge_set_table.specs.declared.table.Table.{Table}
use Rattle.merge_set_table.specs.Names.{AreApart}
use Rattle.merge_set_table.specs.Once.{IsEachOnce, is_among}
use Rattle.merge_set_table.specs.Table.{numbered, Extends, IsOwnField, IsWithin, Falling, height}
use Rattle.merge_set_table.specs.Represents.{Represents, IsSetOf}
use Rattle.merge_set_table.specs.Inside.{IsInside, IsFieldInside, AreConditionsKnown, IsDeeper}
use Rattle.merge_set_table.specs.Parts.{IsPartOf}
use Rattle.merge_set_table.specs.Sizes.{part_size, table_size}
use Rattle.merge_set_table.specs.Nesting.{parts_measure, inner_measure, Nests, NestsSet}

-- Every fragment that has a number is there, and its set has a number below the bound.
abbrev pub AreWithin : (List ℕ → Option ℕ) → List ℕ → ℕ → Type 0
AreWithin numbers fragments bound = (name : List ℕ) (g : ℕ) → numbers name ≡ Some g → IsWithin fragments bound g

pub record IsEmptySet (part : NumberedSet) : Type 0 where
  pub own : part.own.items ≡ []
  pub spreads : part.spreads.items ≡ []
  pub inner : part.inner.items ≡ []

-- The number was added, if there is one.
pub record AddsSpread (number : Option ℕ) (old new : NumberedSet) : Type 0 where
  pub own : new.own.items ≡ old.own.items
  pub spreads : new.spreads.items ≡ old.spreads.items ++ option_to_list number
  pub inner : new.inner.items ≡ old.inner.items

-- Its own fields and its spreads stayed the same, and it has so many inner sets more.
pub record HasSame (more : ℕ) (old new : NumberedSet) : Type 0 where
  pub own : new.own.items ≡ old.own.items
  pub spreads : new.spreads.items ≡ old.spreads.items
  pub inner : length new.inner.items ≡ length old.inner.items + more

-- The set of an inline fragment was begun as a part, at the place.
pub record BeginsPart (place : ℕ) (old new : NumberedSet) : Type 0 where
  pub same : HasSame 1 old new
  pub at : place ≡ length old.inner.items
  pub part : InnerSet
  pub first : part.first_field ≡ length old.own.items
  pub inner : new.inner.items ≡ old.inner.items ++ part ∷ []

-- The part at the place was ended: it has all own fields since it was begun.
pub record EndsPart (place : ℕ) (old new : NumberedSet) : Type 0 where
  pub same : HasSame 0 old new
  pub part : InnerSet
  pub first : (begun : InnerSet) → slice_get old.inner.items place ≡ Some begun → part.first_field ≡ begun.first_field
  pub end : part.fields_end ≡ length old.own.items
  pub inner : new.inner.items ≡ slice_set old.inner.items place part

module _ {S C : Type 0} where
  pub record IsEmptyTable (t : Table S C) : Type 0 where
    pub fields : t.fields.items ≡ []
    pub sets : t.sets.items ≡ []
    pub order : t.order.items ≡ []
    pub responses : AreApart t.responses

  -- The field got a number, and was added to its set.
  pub record PushesField (o : PlainEntry S C) (below : Option ℕ) (part part' : NumberedSet) (t t' : Table S C) : Type 0 where
    pub own_field : OwnField
    pub fields : map plain t'.fields.items ≡ map plain t.fields.items ++ o ∷ []
    pub is : IsOwnField (numbered t') o own_field
    pub below_is : own_field.below ≡ below
    pub own : part'.own.items ≡ part.own.items ++ own_field ∷ []
    pub spreads : part'.spreads.items ≡ part.spreads.items
    pub parts : part'.inner.items ≡ part.inner.items
    pub extends : Extends (numbered t) (numbered t')
    pub sets : t'.sets.items ≡ t.sets.items
    pub inner : t'.inner.items ≡ t.inner.items
    pub order : t'.order.items ≡ t.order.items
    pub apart : AreApart t.responses → AreApart t'.responses
    pub size : table_size t' + part_size part' ≡ table_size t + part_size part + 2

  -- Its fields, names, sets and order stayed the same. It keeps these inner sets of the set of the number, and at most
  -- so many inner sets and spreads more.
  pub record IsSameTable (number : ℕ) (parts : List InnerSet) (more : ℕ) (t t' : Table S C) : Type 0 where
    pub fields : t'.fields.items ≡ t.fields.items
    pub responses : t'.responses ≡ t.responses
    pub sets : t'.sets.items ≡ t.sets.items
    pub order : t'.order.items ≡ t.order.items
    pub few : length t'.inner.items + length t'.written.items ≤ length t.inner.items + length t.written.items + more
    pub inner : (g : ℕ → ℕ → ℕ → ℕ) → inner_measure g t'.inner.items ≡ inner_measure g t.inner.items + parts_measure (g number) parts

  -- A place in the order was kept.
  pub record OpensSet (place : ℕ) (t t' : Table S C) : Type 0 where
    pub at : place ≡ length t.order.items
    pub same : numbered t' ≡ numbered t
    pub order : t'.order.items ≡ t.order.items ++ 0 ∷ []
    pub inner : t'.inner.items ≡ t.inner.items
    pub size : table_size t' ≡ table_size t + 1

  -- The set was stored, each fragment once.
  pub record StoresSet (part : NumberedSet) (n : ℕ) (t t' : Table S C) : Type 0 where
    pub row : NumberedSet
    pub own : row.own.items ≡ part.own.items
    pub once : IsEachOnce part.spreads.items row.spreads.items
    pub number : n ≡ length t.sets.items
    pub fields : t'.fields.items ≡ t.fields.items
    pub responses : t'.responses ≡ t.responses
    pub sets : t'.sets.items ≡ t.sets.items ++ row ∷ []
    pub order : t'.order.items ≡ t.order.items
    pub inner : (g : ℕ → ℕ → ℕ → ℕ) → inner_measure g t'.inner.items ≡ inner_measure g t.inner.items + parts_measure (g n) part.inner.items
    pub size : table_size t' ≤ table_size t + part_size part + 1

  -- The set was stored, and its number put at its place.
  pub record ClosesSet (place : ℕ) (part : NumberedSet) (n : ℕ) (t t' : Table S C) : Type 0 where
    pub middle : Table S C
    pub stores : StoresSet part n t middle
    pub same : numbered t' ≡ numbered middle
    pub order : t'.order.items ≡ slice_set t.order.items place n
    pub inner : t'.inner.items ≡ middle.inner.items
    pub size : table_size t' ≤ table_size t + part_size part + 1

  -- What holds whatever was added.
  pub record Keeps (numbers : List ℕ → Option ℕ) (t t' : Table S C) : Type 0 where
    pub extends : Extends (numbered t) (numbered t')
    pub apart : AreApart t.responses → AreApart t'.responses
    pub falls : (fragments : List ℕ) → AreWithin numbers fragments (length t.sets.items)
        → Falling t.sets.items fragments → Falling t'.sets.items fragments

  -- The fields that were added stand in sets inside.
  abbrev pub FieldsFrom : Catalog S C → Option (MetaTypeOf S C) → List (Selection S) → Table S C → Table S C → Type 0
  FieldsFrom schema p set t t' =
      (k : ℕ) (a : PlainEntry S C) → length t.fields.items ≤ k → slice_get (map plain t'.fields.items) k ≡ Some a
      → IsFieldInside schema p set a

  -- What was added is from the set under the type: each set of the order is one inside it, and so is each set where
  -- conditions are known; each field stands in one.
  pub record ComesFrom (schema : Catalog S C) (numbers : List ℕ → Option ℕ) (p : Option (MetaTypeOf S C))
      (set : List (Selection S)) (more : List ℕ) (t t' : Table S C) : Type 0 where
    pub sets : (k : ℕ) → is_among more k ≡ true
        → (q : Option (MetaTypeOf S C)) × (inner : List (Selection S)) × IsInside schema p set q inner
        × IsSetOf schema numbers (numbered t') k q inner
    pub fields : FieldsFrom schema p set t t'
    pub whole : AreConditionsKnown schema p set → (k : ℕ) → length t.sets.items ≤ k → k < length t'.sets.items → is_among more k ≡ true

  -- Own fields and spreads of the selections were added to a set.
  pub record AddsParts (schema : Catalog S C) (numbers : List ℕ → Option ℕ) (p : Option (MetaTypeOf S C))
      (xs : List (Selection S)) (part part' : NumberedSet) (t t' : Table S C) : Type 0 where
    pub own_more : List OwnField
    pub to_more : List ℕ
    pub own : part'.own.items ≡ part.own.items ++ own_more
    pub spreads : part'.spreads.items ≡ part.spreads.items ++ to_more
    pub represents : Represents schema numbers (numbered t') p xs own_more to_more
    pub below : All (λ a. height a ≤ length t'.sets.items) own_more
    pub within : (fragments : List ℕ) (bound : ℕ) → AreWithin numbers fragments bound → All (IsWithin fragments bound) to_more
    pub keeps : Keeps numbers t t'

  -- The set was stored.
  pub record HasSet (schema : Catalog S C) (numbers : List ℕ → Option ℕ) (p : Option (MetaTypeOf S C))
      (set : List (Selection S)) (n : ℕ) (t t' : Table S C) : Type 0 where
    pub is : IsSetOf schema numbers (numbered t') n p set
    pub own : All (λ a. height a ≤ length t'.sets.items) is.row.own.items
    pub within : (fragments : List ℕ) (bound : ℕ) → AreWithin numbers fragments bound → All (IsWithin fragments bound) is.row.spreads.items
    pub keeps : Keeps numbers t t'

  -- Fields that stand in a set under whatever type were added to a set, and no set to the order.
  pub record AddsFor (schema : Catalog S C) (numbers : List ℕ → Option ℕ) (p : Option (MetaTypeOf S C))
      (xs : List (Selection S)) (part part' : NumberedSet) (t t' : Table S C) : Type 0 where
    pub parts : AddsParts schema numbers p xs part part' t t'
    pub order : t'.order.items ≡ t.order.items
    pub from : (p0 q : Option (MetaTypeOf S C)) (set0 whole : List (Selection S)) → IsInside schema p0 set0 q whole
        → ((x : Selection S) → Contains xs x → Contains whole x) → FieldsFrom schema p0 set0 t t'

  -- The set was stored, and got no place in the order.
  pub record AddsSetFor (schema : Catalog S C) (numbers : List ℕ → Option ℕ) (p : Option (MetaTypeOf S C))
      (set : List (Selection S)) (n : ℕ) (t t' : Table S C) : Type 0 where
    pub has : HasSet schema numbers p set n t t'
    pub order : t'.order.items ≡ t.order.items
    pub from : (q : Option (MetaTypeOf S C)) → FieldsFrom schema q set t t'

  -- The set is one that was added to the order, or a part of it.
  pub record IsHeld (schema : Catalog S C) (numbers : List ℕ → Option ℕ) (t : Table S C) (more : List ℕ)
      (Stands : Option (MetaTypeOf S C) → List (Selection S) → Type 0) (q : Option (MetaTypeOf S C))
      (inner : List (Selection S)) : Type 0 where
    pub number : ℕ
    pub among : is_among more number ≡ true
    pub type : Option (MetaTypeOf S C)
    pub set : List (Selection S)
    pub is : IsSetOf schema numbers (numbered t) number type set
    pub stands : Stands type set
    pub part : IsPartOf schema q inner type set

  -- Own fields and spreads of the selections were added to a set, and the sets in them to the order, but for those that
  -- are parts of the set itself.
  pub record Adds (schema : Catalog S C) (numbers : List ℕ → Option ℕ) (p : Option (MetaTypeOf S C))
      (xs : List (Selection S)) (part part' : NumberedSet) (t t' : Table S C) : Type 0 where
    pub parts : AddsParts schema numbers p xs part part' t t'
    pub more : List ℕ
    pub order : t'.order.items ≡ t.order.items ++ more
    pub found : (q : Option (MetaTypeOf S C)) (inner : List (Selection S)) → IsDeeper schema p xs q inner
        → IsHeld schema numbers t' more (IsDeeper schema p xs) q inner ⊎ IsPartOf schema q inner p xs
    pub from : (p0 : Option (MetaTypeOf S C)) (set0 whole : List (Selection S)) → IsInside schema p0 set0 p whole
        → ((x : Selection S) → Contains xs x → Contains whole x) → ComesFrom schema numbers p0 set0 more t t'
    -- where conditions are known the table takes so much for each selection
    pub size : (p0 : Option (MetaTypeOf S C)) (set0 whole : List (Selection S)) → IsInside schema p0 set0 p whole
        → ((x : Selection S) → Contains xs x → Contains whole x) → AreConditionsKnown schema p0 set0
        → table_size t' + part_size part' ≤ table_size t + part_size part + 4 * all_inside xs
    pub nests : (p0 : Option (MetaTypeOf S C)) (set0 whole : List (Selection S)) → IsInside schema p0 set0 p whole
        → ((x : Selection S) → Contains xs x → Contains whole x) → AreConditionsKnown schema p0 set0
        → Nests schema xs more part part' t t'

  -- The set was added, and all sets in it, each with its place in the order or as a part of one.
  pub record AddsSet (schema : Catalog S C) (numbers : List ℕ → Option ℕ) (p : Option (MetaTypeOf S C))
      (set : List (Selection S)) (n : ℕ) (t t' : Table S C) : Type 0 where
    pub has : HasSet schema numbers p set n t t'
    pub more : List ℕ
    pub order : t'.order.items ≡ t.order.items ++ more
    pub listed : is_among more n ≡ true
    pub found : (q : Option (MetaTypeOf S C)) (inner : List (Selection S)) → IsInside schema p set q inner
        → IsHeld schema numbers t' more (IsInside schema p set) q inner
    pub from : ComesFrom schema numbers p set more t t'
    pub size : AreConditionsKnown schema p set → table_size t' ≤ table_size t + 4 * all_inside set + 2
    pub nests : AreConditionsKnown schema p set → NestsSet schema set more t t'
