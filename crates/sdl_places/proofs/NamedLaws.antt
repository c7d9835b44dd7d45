-- A place is found if and only if a definition or extension has the name there.
use denote.Ref.{Bor}
use Rattle.std.proofs.Common.{◌≡◌, ◌≢◌, Bool, true, false, ℕ, List, Option, Some, None, refl, sym, inl, inr}
use Rattle.std.specs.Prelude.{if◌then◌else◌, IfSome}
use Rattle.std.specs.List.{Any}
use Rattle.std.specs.Option.{option_or}
use Rattle.std.specs.Str.{bytes_eq}
use Rattle.std.proofs.lemmas.Slice.Eq.{bytes_eq-Decides}
use Rattle.graphql_reader.specs.declared.type_system.FieldDefinition.{FieldDefinition}
use Rattle.graphql_reader.specs.declared.type_system.InputValueDefinition.{InputValueDefinition}
use Rattle.graphql_reader.specs.declared.type_system.TypeBody.{TypeBody}
use Rattle.graphql_reader.specs.declared.type_system.TypeBody.TheVariants as b
use Rattle.graphql_reader.specs.declared.type_system.TypeSystemDefinition.{TypeSystemDefinition}
use Rattle.graphql_reader.specs.declared.type_system.TypeSystemDefinition.TheVariants as d
use Rattle.language_types.specs.declared.position.SourcePosition.{SourcePosition}
use Rattle.type_system_report.specs.declared.fault.CoordinateOf.TheVariants as c
use Rattle.type_system_report.specs.Fault.{CoordinateValue}
use Rattle.sdl_places.specs.Named.{HasArgumentAt, HasFieldArgumentAt, HasFieldAt, HasNameAt, HasValueAt, IsNameAt}
use Rattle.sdl_places.specs.Places.{Written, argument_place, definition_place, enum_value_place, field_place, first_in, name_place, named_field_place, named_value_place, own_argument_place, parameter_place, place_in, place_within}
use Rattle.sdl_places.proofs.First.{Finds, finds_first, or_none, or_some, some_first}

if_some : {A : Type 0} (t : Bool) (o : Option A) (y : A) → (if t then o else None) ≡ Some y → (t ≡ true) × (o ≡ Some y)
if_some true o y e = (refl, e)
if_some false o y e = (cc, cc)

if_none : {A : Type 0} (t : Bool) (o : Option A) → t ≡ true → (if t then o else None) ≡ None → o ≡ None
if_none true o h e = e
if_none false o h e = cc

-- what is found behind a name
name_some : {A : Type 0} (m n : List ℕ) (o : Option A) (y : A) → (if bytes_eq m n then o else None) ≡ Some y → (m ≡ n) × (o ≡ Some y)
name_some m n o y e = let h = if_some (bytes_eq m n) o y e in ((bytes_eq-Decides m n).0 h.0, h.1)

name_none : {A : Type 0} (m n : List ℕ) (o : Option A) → m ≡ n → (if bytes_eq m n then o else None) ≡ None → o ≡ None
name_none m n o same e = if_none (bytes_eq m n) o ((bytes_eq-Decides m n).1 same) e

some_is : {A : Type 0} (x y : A) → Some x ≡ Some y → x ≡ y
some_is x y e = cc

some_not : {A : Type 0} (x : A) → Some x ≡ None → ⊥
some_not x e = cc

module _ (n : List ℕ) where
  finds_name : Finds (name_place n) (λ w p. IsNameAt n p w)
  finds_name = record {
    some = λ w p e. let h = name_some w.item.now n (Some w.span.start) p e in record { name = h.0; position = some_is w.span.start p h.1 };
    has = λ w p h e. some_not w.span.start (name_none w.item.now n (Some w.span.start) h.name e);
  }

  finds_parameter : Finds (first_in (parameter_place n)) (λ xs p. Any (λ a. IsNameAt n p a.name) xs)
  finds_parameter =
      finds_first (parameter_place n) (λ a p. IsNameAt n p a.name) (record { some = λ a p e. finds_name.some a.name p e; has = λ a p h e. finds_name.has a.name p h e })

  finds_own_field : Finds (first_in (named_field_place n)) (λ xs p. Any (λ a. IsNameAt n p a.name) xs)
  finds_own_field =
      finds_first (named_field_place n) (λ a p. IsNameAt n p a.name) (record { some = λ a p e. finds_name.some a.name p e; has = λ a p h e. finds_name.has a.name p h e })

  finds_own_value : Finds (first_in (named_value_place n)) (λ xs p. Any (λ a. IsNameAt n p a.name) xs)
  finds_own_value =
      finds_first (named_value_place n) (λ a p. IsNameAt n p a.name) (record { some = λ a p e. finds_name.some a.name p e; has = λ a p h e. finds_name.has a.name p h e })

  finds_argument : (field : List ℕ) → Finds (first_in (own_argument_place field n)) (λ xs p. Any (HasArgumentAt field n p) xs)
  finds_argument field =
      finds_first (own_argument_place field n) (λ f p. HasArgumentAt field n p f) (record {
        some = λ f p e.
            let h = name_some f.name.item.now field (first_in (parameter_place n) f.arguments.items) p e in
            record { field_is = h.0; argument = finds_parameter.some f.arguments.items p h.1 };
        has = λ f p h e.
            finds_parameter.has f.arguments.items p h.argument (name_none f.name.item.now field (first_in (parameter_place n) f.arguments.items) h.field_is e);
      })

  field_some : (body : TypeBody) (p : SourcePosition) → field_place n body ≡ Some p → HasFieldAt n p body
  field_some (b.Object fs) p e = finds_own_field.some fs.items p e
  field_some (b.Interface fs) p e = finds_own_field.some fs.items p e
  field_some (b.InputObject fs) p e = finds_parameter.some fs.items p e
  field_some b.Scalar p e = cc
  field_some (b.Union xs) p e = cc
  field_some (b.Enum xs) p e = cc

  field_has : (body : TypeBody) (p : SourcePosition) → HasFieldAt n p body → field_place n body ≢ None
  field_has (b.Object fs) p h e = finds_own_field.has fs.items p h e
  field_has (b.Interface fs) p h e = finds_own_field.has fs.items p h e
  field_has (b.InputObject fs) p h e = finds_parameter.has fs.items p h e
  field_has b.Scalar p h e = h
  field_has (b.Union xs) p h e = h
  field_has (b.Enum xs) p h e = h

  argument_some : (field : List ℕ) (body : TypeBody) (p : SourcePosition) → argument_place field n body ≡ Some p → HasFieldArgumentAt field n p body
  argument_some field (b.Object fs) p e = (finds_argument field).some fs.items p e
  argument_some field (b.Interface fs) p e = (finds_argument field).some fs.items p e
  argument_some field (b.InputObject fs) p e = cc
  argument_some field b.Scalar p e = cc
  argument_some field (b.Union xs) p e = cc
  argument_some field (b.Enum xs) p e = cc

  argument_has : (field : List ℕ) (body : TypeBody) (p : SourcePosition) → HasFieldArgumentAt field n p body → argument_place field n body ≢ None
  argument_has field (b.Object fs) p h e = (finds_argument field).has fs.items p h e
  argument_has field (b.Interface fs) p h e = (finds_argument field).has fs.items p h e
  argument_has field (b.InputObject fs) p h e = h
  argument_has field b.Scalar p h e = h
  argument_has field (b.Union xs) p h e = h
  argument_has field (b.Enum xs) p h e = h

  value_some : (body : TypeBody) (p : SourcePosition) → enum_value_place n body ≡ Some p → HasValueAt n p body
  value_some (b.Enum vs) p e = finds_own_value.some vs.items p e
  value_some (b.Object fs) p e = cc
  value_some (b.Interface fs) p e = cc
  value_some (b.InputObject fs) p e = cc
  value_some b.Scalar p e = cc
  value_some (b.Union xs) p e = cc

  value_has : (body : TypeBody) (p : SourcePosition) → HasValueAt n p body → enum_value_place n body ≢ None
  value_has (b.Enum vs) p h e = finds_own_value.has vs.items p h e
  value_has (b.Object fs) p h e = h
  value_has (b.Interface fs) p h e = h
  value_has (b.InputObject fs) p h e = h
  value_has b.Scalar p h e = h
  value_has (b.Union xs) p h e = h

within_some : (at : CoordinateValue) (x : TypeSystemDefinition) (p : SourcePosition) → place_within at x ≡ Some p → HasNameAt at p x
within_some (c.Type n) (d.Type x) p e = (finds_name n).some x.item.name p e
within_some (c.Type n) (d.Schema x) p e = cc
within_some (c.Type n) (d.Directive x) p e = cc
within_some (c.Field of n) (d.Type x) p e =
    let h = name_some x.item.name.item.now of (field_place n x.item.body) p e in (h.0, field_some n x.item.body p h.1)
within_some (c.Field of n) (d.Schema x) p e = cc
within_some (c.Field of n) (d.Directive x) p e = cc
within_some (c.Argument of field n) (d.Type x) p e =
    let h = name_some x.item.name.item.now of (argument_place field n x.item.body) p e in (h.0, argument_some n field x.item.body p h.1)
within_some (c.Argument of field n) (d.Schema x) p e = cc
within_some (c.Argument of field n) (d.Directive x) p e = cc
within_some (c.EnumValue of n) (d.Type x) p e =
    let h = name_some x.item.name.item.now of (enum_value_place n x.item.body) p e in (h.0, value_some n x.item.body p h.1)
within_some (c.EnumValue of n) (d.Schema x) p e = cc
within_some (c.EnumValue of n) (d.Directive x) p e = cc
within_some (c.Directive n) (d.Directive x) p e = (finds_name n).some x.item.name p e
within_some (c.Directive n) (d.Schema x) p e = cc
within_some (c.Directive n) (d.Type x) p e = cc
within_some (c.DirectiveArgument of n) (d.Directive x) p e =
    let h = name_some x.item.name.item.now of (first_in (parameter_place n) x.item.arguments.items) p e in (h.0, (finds_parameter n).some x.item.arguments.items p h.1)
within_some (c.DirectiveArgument of n) (d.Schema x) p e = cc
within_some (c.DirectiveArgument of n) (d.Type x) p e = cc

within_has : (at : CoordinateValue) (x : TypeSystemDefinition) (p : SourcePosition) → HasNameAt at p x → place_within at x ≢ None
within_has (c.Type n) (d.Type x) p h e = (finds_name n).has x.item.name p h e
within_has (c.Type n) (d.Schema x) p h e = h
within_has (c.Type n) (d.Directive x) p h e = h
within_has (c.Field of n) (d.Type x) p h e =
    field_has n x.item.body p h.1 (name_none x.item.name.item.now of (field_place n x.item.body) h.0 e)
within_has (c.Field of n) (d.Schema x) p h e = h
within_has (c.Field of n) (d.Directive x) p h e = h
within_has (c.Argument of field n) (d.Type x) p h e =
    argument_has n field x.item.body p h.1 (name_none x.item.name.item.now of (argument_place field n x.item.body) h.0 e)
within_has (c.Argument of field n) (d.Schema x) p h e = h
within_has (c.Argument of field n) (d.Directive x) p h e = h
within_has (c.EnumValue of n) (d.Type x) p h e =
    value_has n x.item.body p h.1 (name_none x.item.name.item.now of (enum_value_place n x.item.body) h.0 e)
within_has (c.EnumValue of n) (d.Schema x) p h e = h
within_has (c.EnumValue of n) (d.Directive x) p h e = h
within_has (c.Directive n) (d.Directive x) p h e = (finds_name n).has x.item.name p h e
within_has (c.Directive n) (d.Schema x) p h e = h
within_has (c.Directive n) (d.Type x) p h e = h
within_has (c.DirectiveArgument of n) (d.Directive x) p h e =
    (finds_parameter n).has x.item.arguments.items p h.1 (name_none x.item.name.item.now of (first_in (parameter_place n) x.item.arguments.items) h.0 e)
within_has (c.DirectiveArgument of n) (d.Schema x) p h e = h
within_has (c.DirectiveArgument of n) (d.Type x) p h e = h

finds_within : (at : CoordinateValue) → Finds (first_in (place_within at)) (λ xs p. Any (HasNameAt at p) xs)
finds_within at = finds_first (place_within at) (λ x p. HasNameAt at p x) (record { some = within_some at; has = within_has at })

unless_some : {A : Type 0} (t : Bool) (o : Option A) (y : A) → (if t then None else o) ≡ Some y → o ≡ Some y
unless_some true o y e = cc
unless_some false o y e = e

defined_some : (n : List ℕ) (x : TypeSystemDefinition) (p : SourcePosition) → definition_place n x ≡ Some p → HasNameAt (c.Type n) p x
defined_some n (d.Type x) p e = (finds_name n).some x.item.name p (unless_some x.item.is_extension (name_place n x.item.name) p e)
defined_some n (d.Schema x) p e = cc
defined_some n (d.Directive x) p e = cc

-- a definition of a type may not be an extension, so of this only half is so
some_defined : (n : List ℕ) (document : List TypeSystemDefinition) (p : SourcePosition) → first_in (definition_place n) document ≡ Some p → Any (HasNameAt (c.Type n) p) document
some_defined n document p e = some_first (definition_place n) (λ x q. HasNameAt (c.Type n) q x) (defined_some n) document p e

-- a place is that of the name
pub place_named : (document : List TypeSystemDefinition) (at : CoordinateValue) (p : SourcePosition) → place_in document at ≡ Some p → Any (HasNameAt at p) document
place_named document (c.Type n) p e =
    elim (or_some (first_in (definition_place n) document) (first_in (place_within (c.Type n)) document) p e) [
      | inl s ↦ some_defined n document p s
      | inr r ↦ (finds_within (c.Type n)).some document p r
    ]
place_named document (c.Field of n) p e = (finds_within (c.Field of n)).some document p e
place_named document (c.Argument of field n) p e = (finds_within (c.Argument of field n)).some document p e
place_named document (c.EnumValue of n) p e = (finds_within (c.EnumValue of n)).some document p e
place_named document (c.Directive n) p e = (finds_within (c.Directive n)).some document p e
place_named document (c.DirectiveArgument of n) p e = (finds_within (c.DirectiveArgument of n)).some document p e

-- without a place no definition or extension has the name
pub place_none : (document : List TypeSystemDefinition) (at : CoordinateValue) → place_in document at ≡ None → (p : SourcePosition) → Any (HasNameAt at p) document → ⊥
place_none document (c.Type n) e p h =
    (finds_within (c.Type n)).has document p h (or_none (first_in (definition_place n) document) (first_in (place_within (c.Type n)) document) e).1
place_none document (c.Field of n) e p h = (finds_within (c.Field of n)).has document p h e
place_none document (c.Argument of field n) e p h = (finds_within (c.Argument of field n)).has document p h e
place_none document (c.EnumValue of n) e p h = (finds_within (c.EnumValue of n)).has document p h e
place_none document (c.Directive n) e p h = (finds_within (c.Directive n)).has document p h e
place_none document (c.DirectiveArgument of n) e p h = (finds_within (c.DirectiveArgument of n)).has document p h e

-- the same of what a call answers
pub answer_named : (document : List TypeSystemDefinition) (at : CoordinateValue) (answer : Option SourcePosition) → answer ≡ place_in document at → IfSome answer (λ p. Any (HasNameAt at p) document)
answer_named document at None e = tt
answer_named document at (Some p) e = place_named document at p (sym e)
