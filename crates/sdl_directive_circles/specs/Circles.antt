-- Directives that refer to themselves (section 3.13).
use Rattle.std.specs.Prelude.{◌≡◌, ◌<◌, ℕ, List, [], ◌∷◌, ◌++◌, Option, Some, None, codes, length, map}
use Rattle.std.specs.List.{All, flat_map}
use Rattle.std.specs.Option.{option_to_list}
use Rattle.graphql_reader.specs.declared.type_system.DirectiveDefinition.{DirectiveDefinition}
use Rattle.graphql_reader.specs.declared.type_system.TypeSystemDefinition.{TypeSystemDefinition}
use Rattle.language_types.specs.declared.position.SourcePosition.{SourcePosition}
use Rattle.language_types.specs.References.{list_copied}
use Rattle.sdl_directives.specs.Known.{directive_of}
use Rattle.sdl_directive_circles.specs.declared.circles.DirectiveCircle.{DirectiveCircle}
use Rattle.sdl_directive_circles.specs.declared.names.NameOf.TheVariants as n
use Rattle.sdl_directive_circles.specs.Uses.{Name, RefersTo, directive_name}

-- what is told of a directive: where its name is, the name, and the directives on the way
pub record CircleValue : Type 0 where
  pub position : SourcePosition
  pub name : List ℕ
  pub way : List (List ℕ)

abbrev pub circle_value : DirectiveCircle → CircleValue
circle_value c = record { position = c.position; name = c.name.now; way = list_copied c.way.items }

abbrev pub circle_values : List DirectiveCircle → List CircleValue
circle_values = map circle_value

-- a name on the way, if it is that of a directive
abbrev pub told_name : Name → List (List ℕ)
told_name (n.Directive x) = x ∷ []
told_name (n.Type x) = []

module _ (document : List TypeSystemDefinition) where
  -- from the one name each refers to the next, up to the other
  abbrev pub IsWay : Name → List Name → Name → Type 0
  IsWay a [] b = a ≡ b
  IsWay a (x ∷ xs) b = RefersTo document a x × IsWay x xs b

  -- names, at least one, on a way from a name back to it, which is the last of them
  pub record IsWayBack (a : Name) (xs : List Name) : Type 0 where
    pub way : IsWay a xs a
    pub some : 0 < length xs

  -- there is a way from the directive back to it
  abbrev pub RefersToItself : DirectiveDefinition → Type 0
  RefersToItself d = (xs : List Name) × IsWayBack (directive_name d) xs

  -- what is told of a directive that refers to itself: its directives are those of a way
  pub record IsCircleOf (d : DirectiveDefinition) (c : CircleValue) : Type 0 where
    pub position : c.position ≡ d.name.span.start
    pub name : c.name ≡ d.name.item.now
    pub names : List Name
    pub back : IsWayBack (directive_name d) names
    pub way : c.way ≡ flat_map told_name names

  -- nothing is told of another
  abbrev pub IsToldOf : DirectiveDefinition → Option CircleValue → Type 0
  IsToldOf d None = RefersToItself d → ⊥
  IsToldOf d (Some c) = IsCircleOf d c

  -- what is told of these directives, in their order
  abbrev pub AreCirclesOf : List DirectiveDefinition → List CircleValue → Type 0
  AreCirclesOf [] cs = cs ≡ []
  AreCirclesOf (d ∷ ds) cs =
      (told : Option CircleValue) × (rest : List CircleValue) × IsToldOf d told × AreCirclesOf ds rest × (cs ≡ option_to_list told ++ rest)

  -- of all that the document defines
  abbrev pub AreCircles : List CircleValue → Type 0
  AreCircles cs = AreCirclesOf (flat_map directive_of document) cs

  -- none refers to itself
  abbrev pub HasNoDirectiveCircle : Type 0
  HasNoDirectiveCircle = All (λ d. RefersToItself d → ⊥) (flat_map directive_of document)

  -- what is told of these directives comes after what was told before
  abbrev pub AddsCircles : List DirectiveDefinition → List CircleValue → List CircleValue → Type 0
  AddsCircles ds old new = (more : List CircleValue) × AreCirclesOf ds more × (new ≡ old ++ more)

-- the bytes of the steps of a way
abbrev pub steps_text : List (List ℕ) → List ℕ
steps_text xs = flat_map (λ x. codes " -> @" ++ x) xs

-- the bytes of a circle
abbrev pub circle_text : DirectiveCircle → List ℕ
circle_text c =
    (codes "Directive @" ++ (c.name.now ++ (codes " refers to itself: @" ++ c.name.now))) ++ steps_text (list_copied c.way.items)
