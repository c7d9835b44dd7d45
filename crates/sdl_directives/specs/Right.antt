-- Directives of a type system document as the specification asks (sections 3.13, 5.7.1 to 5.7.3, 5.4.1 and 5.4.2).
use Rattle.std.specs.Prelude.{◌≡◌, List, [], Some, false, true}
use Rattle.std.specs.List.{All, flat_map}
use Rattle.graphql_reader.specs.declared.type_system.DirectiveDefinition.{DirectiveDefinition}
use Rattle.graphql_reader.specs.declared.type_system.DirectivePlace.{DirectivePlace}
use Rattle.graphql_reader.specs.declared.type_system.TypeSystemDefinition.{TypeSystemDefinition}
use Rattle.sdl_directives.specs.Arguments.{Given, arguments_of, has_argument, is_missing, is_parameter}
use Rattle.sdl_directives.specs.Earlier.{EachAfter}
use Rattle.sdl_directives.specs.Judged.{applied_name, is_repeated}
use Rattle.sdl_directives.specs.Known.{directive_named, known_directives}
use Rattle.sdl_directives.specs.Locations.{is_listed}
use Rattle.sdl_directives.specs.Sites.{Applied, SiteValue, definition_sites}

-- an argument behind others: the directive has it, and none of them has its name
pub record IsRightArgument (defined : DirectiveDefinition) (before : List Given) (a : Given) : Type 0 where
  pub known : is_parameter a.0.item.now defined.arguments.items ≡ true
  pub once : has_argument a.0.item.now before ≡ false

-- a directive behind others, by its definition
pub record SuitsDefinition (defined : DirectiveDefinition) (location : DirectivePlace) (before : List Applied) (x : Applied) : Type 0 where
  pub placed : is_listed location defined.locations.items ≡ true
  pub once : is_repeated defined before (applied_name x) ≡ false
  pub arguments : EachAfter (IsRightArgument defined) [] (arguments_of x.item)
  pub required : All (λ a. is_missing a (arguments_of x.item) ≡ false) defined.arguments.items

-- it has a definition, and suits it
pub record IsRightDirective (known : List DirectiveDefinition) (location : DirectivePlace) (before : List Applied)
    (x : Applied) : Type 0 where
  pub defined : DirectiveDefinition
  pub is_defined : directive_named known (applied_name x) ≡ Some defined
  pub suits : SuitsDefinition defined location before x

-- those that stand together
abbrev pub IsRightSite : List DirectiveDefinition → SiteValue → Type 0
IsRightSite known s = EachAfter (IsRightDirective known s.location) [] s.directives

-- all of a document, by the directives that it defines and those that another one does
abbrev pub HasRightDirectives : List TypeSystemDefinition → List TypeSystemDefinition → Type 0
HasRightDirectives document standard = All (IsRightSite (known_directives document standard)) (flat_map definition_sites document)
