-- The fields that are collected from a selection set at a root, with no values of variables (section 6.3.2).
use Rattle.std.specs.Prelude.{◌≡◌, ℕ, List, [], ◌∷◌, ◌++◌, Bool, true, false, not, ◌&&◌, ◌||◌, Option, Some, None}
use Rattle.std.specs.Prelude.{if◌then◌else◌, option_and_then, codes}
use Rattle.std.specs.List.{list_any}
use Rattle.std.specs.Option.{option_map_or, option_or}
use Rattle.std.specs.Str.{bytes_eq}
use Rattle.std.specs.declared.vec.Vec.{Vec}
use Rattle.std.specs.declared.alloc.Global.{Global}
use Rattle.language_types.specs.Names.{is_among}
use Rattle.language.specs.Pairs.{first_of_name}
use Rattle.language.specs.declared.tree.Definition.{Definition}
use Rattle.language.specs.declared.tree.Definition.TheVariants as definition
use Rattle.language.specs.declared.tree.Directive.{Directive}
use Rattle.language.specs.declared.tree.Field.{Field}
use Rattle.language.specs.declared.tree.Fragment.{Fragment}
use Rattle.language.specs.declared.tree.InlineFragment.{InlineFragment}
use Rattle.language.specs.declared.tree.Selection.{Selection, out-Selection}
use Rattle.language.specs.declared.tree.Selection.TheOpen as opened
use Rattle.language_values.specs.declared.value.InputValue.{InputValue, out-InputValue}
use Rattle.language_values.specs.declared.value.InputValue.TheOpen as opened_value
use Rattle.schema.specs.Catalog.{Catalog}
use Rattle.schema.specs.Subtype.{is_name_below}
use Rattle.language_types.specs.Position.{Placed}

-- the directives of a node, where it has any
abbrev pub Directives : Type 0 → Type 0
Directives S = Option (Vec (Placed (Directive S)) Global)

-- What a selection gives: nothing, a field, or the set of a fragment, with the names of the fragments that are opened
-- from then on.
pub data Part (S : Type 0) : Type 0 where
  nothing : Part S
  field : Placed (Field S) → Part S
  inside : List (Selection S) → List (List ℕ) → Part S

module _ {S : Type 0} where
  abbrev pub fragment_if_named : List ℕ → Definition S → Option (Placed (Fragment S))
  fragment_if_named name (definition.Operation o) = None
  fragment_if_named name (definition.Fragment f) = if bytes_eq f.item.name.item.now name then Some f else None

  -- the last fragment of the name
  abbrev pub last_fragment : List (Definition S) → List ℕ → Option (Placed (Fragment S))
  last_fragment [] name = None
  last_fragment (d ∷ ds) name = option_or (last_fragment ds name) (fragment_if_named name d)

  abbrev pub is_variable_layer : {A : Type 0} → opened_value.InputValue-F S A → Bool
  is_variable_layer (opened_value.Variable v) = true
  is_variable_layer _ = false

  abbrev pub is_variable : InputValue S → Bool
  is_variable v = is_variable_layer (out-InputValue S v)

  -- the first argument `if` of a directive
  abbrev pub given_if : Directive S → Option (Placed (InputValue S))
  given_if d = option_and_then (λ arguments. first_of_name (codes "if") arguments.item.items.items) d.arguments

  module _ {C : Type 0} (schema : Catalog S C) (document : List (Definition S)) (root : List ℕ) where
    -- the root's type is this one, implements it or belongs to it
    abbrev pub applies : List ℕ → Bool
    applies condition = is_name_below schema.types root condition

    -- the set of an inline fragment, if its type condition is none or applies
    abbrev pub of_inline : List (List ℕ) → InlineFragment S → Part S
    of_inline names i = if option_map_or (λ c. applies c.item.now) i.type_condition true
        then inside i.selection_set.items names else nothing

    abbrev pub of_fragment : List (List ℕ) → List ℕ → Option (Placed (Fragment S)) → Part S
    of_fragment names name None = nothing
    of_fragment names name (Some f) = if applies f.item.type_condition.item.now
        then inside f.item.selection_set.items (name ∷ names) else nothing

    -- the set of a fragment that is known, if it was not opened before and its type condition applies
    abbrev pub of_spread : List (List ℕ) → List ℕ → Part S
    of_spread names name = if is_among names name then nothing else of_fragment names name (last_fragment document name)

  module _ (truth : S → Option Bool) where
    abbrev truth_layer : {A : Type 0} → opened_value.InputValue-F S A → Option Bool
    truth_layer (opened_value.Scalar s) = truth s
    truth_layer _ = None

    -- the value of a Boolean
    abbrev pub truth_of : InputValue S → Option Bool
    truth_of v = truth_layer (out-InputValue S v)

    -- an argument is there, and it is `true`
    abbrev pub is_true : Option (Placed (InputValue S)) → Bool
    is_true given = option_map_or (λ v. option_map_or (λ b. b) (truth_of v.item) false) given false

    -- an argument is there, and it is `false`
    abbrev pub is_false : Option (Placed (InputValue S)) → Bool
    is_false given = option_map_or (λ v. option_map_or (λ b. not b) (truth_of v.item) false) given false

    -- `@include` whose `if` is `false` or a variable
    abbrev pub is_not_included : Option (Placed (InputValue S)) → Bool
    is_not_included given = option_map_or (λ v. is_variable v.item) given false || is_false given

    -- a directive `@skip(if: true)`, or such an `@include`
    abbrev pub leaves_out : Directive S → Bool
    leaves_out d = if bytes_eq d.name.item.now (codes "skip") then is_true (given_if d)
        else if bytes_eq d.name.item.now (codes "include") then is_not_included (given_if d) else false

    -- one of the directives leaves out what they stand at
    abbrev pub are_leaving_out : Directives S → Bool
    are_leaving_out directives = option_map_or (λ ds. list_any (λ d. leaves_out d.item) ds.items) directives false

    module _ {C : Type 0} (schema : Catalog S C) (document : List (Definition S)) (root : List ℕ) where
      -- by the kind of a selection, unless its directives leave it out
      abbrev pub of_layer : List (List ℕ) → opened.Selection-F S (Selection S) (Field S) (InlineFragment S) → Part S
      of_layer names (opened.Field f) = if are_leaving_out f.item.directives then nothing else field f
      of_layer names (opened.FragmentSpread s) = if are_leaving_out s.item.directives then nothing
          else of_spread schema document root names s.item.name.item.now
      of_layer names (opened.InlineFragment i) = if are_leaving_out i.item.directives then nothing
          else of_inline schema document root names i.item

      -- what a selection gives, where fragments of these names were opened before
      abbrev pub part : List (List ℕ) → Selection S → Part S
      part names s = of_layer names (out-Selection S s)

      -- These fields are collected from a set in this order, where fragments of the first names were opened before, and
      -- of the last names after.
      pub data Collects : List (List ℕ) → List (Selection S) → List (Placed (Field S)) → List (List ℕ) → Type 0 where
        at_end : {names : List (List ℕ)} → Collects names [] [] names
        at_nothing : {names after : List (List ℕ)} {s : Selection S} {set : List (Selection S)} {fs : List (Placed (Field S))}
            → part names s ≡ nothing → Collects names set fs after → Collects names (s ∷ set) fs after
        at_field : {names after : List (List ℕ)} {s : Selection S} {set : List (Selection S)} {fs : List (Placed (Field S))}
            → (f : Placed (Field S)) → part names s ≡ field f → Collects names set fs after → Collects names (s ∷ set) (f ∷ fs) after
        at_set : {names after : List (List ℕ)} {s : Selection S} {set : List (Selection S)} {fs : List (Placed (Field S))}
            → (inner : List (Selection S)) (opened mid : List (List ℕ)) (first rest : List (Placed (Field S)))
            → part names s ≡ inside inner opened → Collects opened inner first mid → Collects mid set rest after → fs ≡ first ++ rest
            → Collects names (s ∷ set) fs after
