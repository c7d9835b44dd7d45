-- What a `Type` and a `BorrowedType` denote: a name and its modifiers, innermost first (section 2.11).
use Rattle.std.specs.Prelude.{◌≡◌, ℕ, ◌-◌, List, [], ◌∷◌, ◌++◌, length, take, slice_get, Option, Some, None, Bool, true}
use Rattle.std.specs.Prelude.{false, codes, fold, string_bytes, if◌then◌else◌}
use Rattle.std.specs.List.{list_any}
use Rattle.language_types.specs.declared.types.TypeModifier.{TypeModifier}
use Rattle.language_types.specs.declared.types.TypeModifier.TheVariants as m
use Rattle.language_types.specs.declared.types.«Type» as t
use Rattle.language_types.specs.declared.types.BorrowedType as b

-- a name, and the modifiers round it, innermost first
pub record TypeShape : Type 0 where
  pub name : List ℕ
  pub modifiers : List TypeModifier

-- what a `Type` stands for
abbrev pub shape : t.«Type» → TypeShape
shape x = record { name = string_bytes x.name; modifiers = x.modifiers.items }

abbrev pub borrowed_shape : b.BorrowedType → TypeShape
borrowed_shape x = record { name = x.name.now; modifiers = x.modifiers.now }

-- the type of this name, nullable
abbrev pub nullable_named : List ℕ → TypeShape
nullable_named name = record { name = name; modifiers = [] }

-- the type of this name, non-null
abbrev pub non_null_named : List ℕ → TypeShape
non_null_named name = record { name = name; modifiers = m.NonNull ∷ [] }

-- a list, and no non-null
abbrev pub is_list_modifier : TypeModifier → Bool
is_list_modifier m.NonNull = false
is_list_modifier (m.List n) = true

-- the outermost modifier
abbrev pub outermost : List TypeModifier → Option TypeModifier
outermost ms = slice_get ms (length ms - 1)

-- its outermost modifier is a non-null
abbrev pub IsNonNull : TypeShape → Type 0
IsNonNull t = outermost t.modifiers ≡ Some m.NonNull

-- the type with one more modifier round it
abbrev pub wrapped_by : TypeModifier → TypeShape → TypeShape
wrapped_by m t = record { name = t.name; modifiers = t.modifiers ++ m ∷ [] }

-- the type of lists of this type
abbrev pub list_of : Option ℕ → TypeShape → TypeShape
list_of size t = wrapped_by (m.List size) t

-- the type without its outermost modifier
abbrev pub inner_of : TypeShape → TypeShape
inner_of t = record { name = t.name; modifiers = take (length t.modifiers - 1) t.modifiers }

-- one value for a type whose outermost modifier is a non-null, one for a list, one for a plain name
abbrev pub by_outermost : {A : Type 0} → A → A → A → Option TypeModifier → A
by_outermost non_null list plain (Some m.NonNull) = non_null
by_outermost non_null list plain (Some (m.List size)) = list
by_outermost non_null list plain None = plain

-- its outermost modifier is a non-null
abbrev pub is_never_null : TypeShape → Bool
is_never_null t = by_outermost true false false (outermost t.modifiers)

-- the type made non-null, where it is not
abbrev pub non_null_of : TypeShape → TypeShape
non_null_of t = by_outermost t (wrapped_by m.NonNull t) (wrapped_by m.NonNull t) (outermost t.modifiers)

-- the type without its outer non-null, where it has one
abbrev pub nullable_of : TypeShape → TypeShape
nullable_of t = by_outermost (inner_of t) t t (outermost t.modifiers)

-- the type without its outer non-null is a list of this one
abbrev pub IsItemType : TypeShape → TypeShape → Type 0
IsItemType u t = (size : Option ℕ) × (nullable_of t ≡ list_of size u)

-- some u if and only if `IsItemType u t`; `borrow_list_inner` has that as a clause
abbrev pub list_inner_of : TypeShape → Option TypeShape
list_inner_of t = let list = nullable_of t in by_outermost None (Some (inner_of list)) None (outermost list.modifiers)

-- the name, unless the type contains a list
abbrev pub name_of : TypeShape → Option (List ℕ)
name_of t = if list_any is_list_modifier t.modifiers then None else Some t.name

-- the bytes of a type with one more modifier
abbrev pub with_modifier : List ℕ → TypeModifier → List ℕ
with_modifier bs m.NonNull = bs ++ codes "!"
with_modifier bs (m.List size) = codes "[" ++ bs ++ codes "]"

-- what a modifier puts before a type, and what it puts after it
abbrev pub opening : TypeModifier → List ℕ
opening m.NonNull = []
opening (m.List size) = codes "["

abbrev pub closing : TypeModifier → List ℕ
closing m.NonNull = codes "!"
closing (m.List size) = codes "]"

-- The bytes of a type: the name, wrapped, from the innermost modifier on, as T! for a non-null and as [T] for a list.
abbrev pub printed : TypeShape → List ℕ
printed t = fold with_modifier t.name t.modifiers
