-- The directives that a document may use (section 3.13).
use Rattle.std.specs.Prelude.{ℕ, List, [], ◌∷◌, ◌++◌, Option, find, map}
use Rattle.std.specs.List.{flat_map}
use Rattle.std.specs.Str.{bytes_eq}
use Rattle.graphql_reader.specs.declared.type_system.DirectiveDefinition.{DirectiveDefinition}
use Rattle.graphql_reader.specs.declared.type_system.TypeSystemDefinition.{TypeSystemDefinition}
use Rattle.graphql_reader.specs.declared.type_system.TypeSystemDefinition.TheVariants as d
use Rattle.sdl_directives.specs.declared.known.Known.{Known}

-- their definitions
abbrev pub definitions_of : List Known → List DirectiveDefinition
definitions_of = map (λ k. k.definition.now)

-- the directive of a definition, if it is one
abbrev pub directive_of : TypeSystemDefinition → List DirectiveDefinition
directive_of (d.Directive x) = x.item ∷ []
directive_of _ = []

-- those that a document defines, and then those of another one
abbrev pub known_directives : List TypeSystemDefinition → List TypeSystemDefinition → List DirectiveDefinition
known_directives document standard = flat_map directive_of document ++ flat_map directive_of standard

-- the first of a name
abbrev pub directive_named : List DirectiveDefinition → List ℕ → Option DirectiveDefinition
directive_named known n = find (λ x. bytes_eq x.name.item.now n) known
