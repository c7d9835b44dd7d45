-- What is wrong with the directives of a type system document (sections 5.7.1 to 5.7.3, 5.4.1 and 5.4.2).
use Rattle.std.specs.Prelude.{ℕ, List, [], ◌∷◌, ◌++◌, Bool, ◌&&◌, Option, Some, None, not}
use Rattle.std.specs.List.{flat_map, list_any}
use Rattle.std.specs.Str.{bytes_eq}
use Rattle.graphql_reader.specs.declared.type_system.DirectiveDefinition.{DirectiveDefinition}
use Rattle.graphql_reader.specs.declared.type_system.DirectivePlace.{DirectivePlace}
use Rattle.graphql_reader.specs.declared.type_system.TypeSystemDefinition.{TypeSystemDefinition}
use Rattle.sdl_directives.specs.declared.fault.DirectiveFaultOf.TheVariants as k
use Rattle.sdl_directives.specs.Arguments.{argument_faults, missing_arguments}
use Rattle.sdl_directives.specs.Earlier.{each_after}
use Rattle.sdl_directives.specs.Fault.{FaultValue, fault_if}
use Rattle.sdl_directives.specs.Known.{directive_named, known_directives}
use Rattle.sdl_directives.specs.Locations.{is_listed}
use Rattle.sdl_directives.specs.Sites.{Applied, SiteValue, definition_sites}

-- the name of a directive
abbrev pub applied_name : Applied → List ℕ
applied_name x = x.item.name.item.now

-- one of these directives has the name
abbrev pub has_name : List ℕ → List Applied → Bool
has_name n xs = list_any (λ x. bytes_eq (applied_name x) n) xs

-- a directive at a location that is none of its own
abbrev pub misplaced : DirectiveDefinition → DirectivePlace → Applied → List FaultValue
misplaced defined location x =
    fault_if (not (is_listed location defined.locations.items)) x.span.start (k.Misplaced (applied_name x) location)

-- one that is not repeatable, behind another of its name
abbrev pub is_repeated : DirectiveDefinition → List Applied → List ℕ → Bool
is_repeated defined before n = not defined.is_repeatable && has_name n before

abbrev pub repeated : DirectiveDefinition → List Applied → Applied → List FaultValue
repeated defined before x = fault_if (is_repeated defined before (applied_name x)) x.span.start (k.Repeated (applied_name x))

-- one that is defined, behind others
abbrev pub judged_known : DirectiveDefinition → DirectivePlace → List Applied → Applied → List FaultValue
judged_known defined location before x =
    misplaced defined location x ++ repeated defined before x ++ argument_faults defined x.item ++ missing_arguments defined x

abbrev pub judged_by : Option DirectiveDefinition → DirectivePlace → List Applied → Applied → List FaultValue
judged_by None location before x = record { position = x.span.start; fault = k.Unknown (applied_name x) } ∷ []
judged_by (Some defined) location before x = judged_known defined location before x

module _ (known : List DirectiveDefinition) where
  -- a directive behind others
  abbrev pub judged : DirectivePlace → List Applied → Applied → List FaultValue
  judged location before x = judged_by (directive_named known (applied_name x)) location before x

  -- directives that stand together
  abbrev pub site_faults : SiteValue → List FaultValue
  site_faults s = each_after (judged s.location) [] s.directives

-- those of a document, by the directives that it defines and those that another one does
abbrev pub document_faults : List TypeSystemDefinition → List TypeSystemDefinition → List FaultValue
document_faults document standard = flat_map (site_faults (known_directives document standard)) (flat_map definition_sites document)
