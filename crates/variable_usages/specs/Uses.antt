-- The variables that definitions use (section 5.8.3).
use Rattle.std.specs.Prelude.{◌≡◌, ℕ, List, [], ◌++◌, Option, Vec, map}
use Rattle.std.specs.List.{flat_map}
use Rattle.std.specs.Option.{option_map_or}
use Rattle.std.specs.declared.alloc.Global.{Global}
use denote.Ref.{Bor}
use Rattle.language_values.specs.Values.{variables_of}
use Rattle.language_types.specs.declared.position.SourcePosition.{SourcePosition}
use Rattle.language_types.specs.declared.position.Span.{Span}
use Rattle.language_types.specs.declared.position.Spanning.{Spanning}
use Rattle.language.specs.declared.tree.Arguments.{Arguments}
use Rattle.language.specs.declared.tree.Definition.{Definition}
use Rattle.language.specs.declared.tree.Definition.TheVariants as definition
use Rattle.language.specs.declared.tree.Directive.{Directive}
use Rattle.language.specs.declared.tree.Selection.{Selection, fold-Selection}
use Rattle.language.specs.declared.tree.Selection.TheOpen as open_tree
use Rattle.language.specs.declared.tree.VariableDefinition.{VariableDefinition}
use Rattle.language.specs.declared.tree.VariableDefinitions.{VariableDefinitions}
use Rattle.language_values.specs.declared.value.InputValue.{InputValue}
use Rattle.variable_usages.specs.declared.uses.VariableUse.{VariableUse}

-- The name of a variable, and the start of the argument value that contains it.
pub record Use : Type 0 where
  pub name : List ℕ
  pub place : SourcePosition

-- Uses in their order, with repeats.
abbrev pub Uses : Type 0
Uses = List Use

abbrev pub use_of : VariableUse → Use
use_of u = record { name = u.name.now; place = u.place }

-- A use of a variable at a place.
abbrev pub at_place : SourcePosition → List ℕ → Use
at_place place name = record { name = name; place = place }

-- These uses were added at the end.
abbrev pub AddsUses : List VariableUse → List VariableUse → Uses → Type 0
AddsUses old new uses = map use_of new ≡ map use_of old ++ uses

module _ {S : Type 0} where
  -- The variables inside the value of an argument.
  abbrev pub argument_uses : Spanning (Bor (List ℕ)) Span × Spanning (InputValue S) Span → Uses
  argument_uses a = map (at_place a.1.span.start) (variables_of a.1.item)

  -- Those of a list of arguments, if there is one.
  abbrev pub arguments_uses : Option (Spanning (Arguments S) Span) → Uses
  arguments_uses arguments = option_map_or (λ a. flat_map argument_uses a.item.items.items) arguments []

  -- Those in the arguments of a directive.
  abbrev pub directive_uses : Spanning (Directive S) Span → Uses
  directive_uses d = arguments_uses d.item.arguments

  -- Those of a list of directives, if there is one.
  abbrev pub directives_uses : Option (Vec (Spanning (Directive S) Span) Global) → Uses
  directives_uses directives = option_map_or (λ ds. flat_map directive_uses ds.items) directives []

  -- One level of each kind of node, with the uses of each node inside in its place.
  abbrev pub selection_step : open_tree.Selection-F S Uses Uses Uses → Uses
  selection_step (open_tree.Field f) = f.item
  selection_step (open_tree.FragmentSpread s) = directives_uses s.item.directives
  selection_step (open_tree.InlineFragment i) = i.item

  -- In a field: arguments, directives, selection set.
  abbrev pub field_step : open_tree.Field-F S Uses Uses Uses → Uses
  field_step f = (arguments_uses f.arguments ++ directives_uses f.directives)
      ++ option_map_or (λ v. flat_map (λ us. us) v.items) f.selection_set []

  -- In an inline fragment: directives, selection set.
  abbrev pub inline_step : open_tree.InlineFragment-F S Uses Uses Uses → Uses
  inline_step i = directives_uses i.directives ++ flat_map (λ us. us) i.selection_set.items

  -- The uses in a selection, at any depth.
  abbrev pub selection_uses : Selection S → Uses
  selection_uses = fold-Selection S Uses Uses Uses selection_step field_step inline_step

  -- Those of each selection of a set.
  abbrev pub used_in_all : List (Selection S) → Uses
  used_in_all set = flat_map selection_uses set

  -- Those in the directives at a variable's definition; its default holds none.
  abbrev pub variable_definition_uses : Spanning (Bor (List ℕ)) Span × VariableDefinition S → Uses
  variable_definition_uses v = directives_uses v.1.directives

  -- Those of a list of variables, if there is one.
  abbrev pub variable_definitions_uses : Option (Spanning (VariableDefinitions S) Span) → Uses
  variable_definitions_uses definitions = option_map_or (λ d. flat_map variable_definition_uses d.item.items.items) definitions []

  -- Those in a definition, in the order of the document, with repeats.
  abbrev pub definition_uses : Definition S → Uses
  definition_uses (definition.Operation o) =
      (variable_definitions_uses o.item.variable_definitions ++ directives_uses o.item.directives)
      ++ used_in_all o.item.selection_set.items
  definition_uses (definition.Fragment f) = directives_uses f.item.directives ++ used_in_all f.item.selection_set.items
