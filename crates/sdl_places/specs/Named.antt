-- That a definition has the name of a coordinate at a position (section 3).
use Rattle.std.specs.Prelude.{◌≡◌, ℕ, List}
use Rattle.std.specs.List.{Any}
use Rattle.graphql_reader.specs.declared.type_system.FieldDefinition.{FieldDefinition}
use Rattle.graphql_reader.specs.declared.type_system.TypeBody.{TypeBody}
use Rattle.graphql_reader.specs.declared.type_system.TypeBody.TheVariants as b
use Rattle.graphql_reader.specs.declared.type_system.TypeSystemDefinition.{TypeSystemDefinition}
use Rattle.graphql_reader.specs.declared.type_system.TypeSystemDefinition.TheVariants as d
use Rattle.language_types.specs.declared.position.SourcePosition.{SourcePosition}
use Rattle.type_system_report.specs.declared.fault.CoordinateOf.TheVariants as c
use Rattle.type_system_report.specs.Fault.{CoordinateValue}
use Rattle.sdl_places.specs.Places.{Written}

-- a name of the text is this one, and begins at this position
pub record IsNameAt (n : List ℕ) (p : SourcePosition) (w : Written) : Type 0 where
  pub name : w.item.now ≡ n
  pub position : w.span.start ≡ p

-- a field has this name, and one of its arguments that one, at this position
pub record HasArgumentAt (field n : List ℕ) (p : SourcePosition) (f : FieldDefinition) : Type 0 where
  pub field_is : f.name.item.now ≡ field
  pub argument : Any (λ a. IsNameAt n p a.name) f.arguments.items

-- one of the members of a type is a field, an argument of a field, or a value, of this name at this position
abbrev pub HasFieldAt : List ℕ → SourcePosition → TypeBody → Type 0
HasFieldAt n p (b.Object fs) = Any (λ f. IsNameAt n p f.name) fs.items
HasFieldAt n p (b.Interface fs) = Any (λ f. IsNameAt n p f.name) fs.items
HasFieldAt n p (b.InputObject fs) = Any (λ f. IsNameAt n p f.name) fs.items
HasFieldAt n p _ = ⊥

abbrev pub HasFieldArgumentAt : List ℕ → List ℕ → SourcePosition → TypeBody → Type 0
HasFieldArgumentAt field n p (b.Object fs) = Any (HasArgumentAt field n p) fs.items
HasFieldArgumentAt field n p (b.Interface fs) = Any (HasArgumentAt field n p) fs.items
HasFieldArgumentAt field n p _ = ⊥

abbrev pub HasValueAt : List ℕ → SourcePosition → TypeBody → Type 0
HasValueAt n p (b.Enum vs) = Any (λ v. IsNameAt n p v.name) vs.items
HasValueAt n p _ = ⊥

-- a definition or extension has the name of the coordinate at this position
abbrev pub HasNameAt : CoordinateValue → SourcePosition → TypeSystemDefinition → Type 0
HasNameAt (c.Type n) p (d.Type x) = IsNameAt n p x.item.name
HasNameAt (c.Field of n) p (d.Type x) = (x.item.name.item.now ≡ of) × HasFieldAt n p x.item.body
HasNameAt (c.Argument of field n) p (d.Type x) = (x.item.name.item.now ≡ of) × HasFieldArgumentAt field n p x.item.body
HasNameAt (c.EnumValue of n) p (d.Type x) = (x.item.name.item.now ≡ of) × HasValueAt n p x.item.body
HasNameAt (c.Directive n) p (d.Directive x) = IsNameAt n p x.item.name
HasNameAt (c.DirectiveArgument of n) p (d.Directive x) = (x.item.name.item.now ≡ of) × Any (λ a. IsNameAt n p a.name) x.item.arguments.items
HasNameAt _ p _ = ⊥
