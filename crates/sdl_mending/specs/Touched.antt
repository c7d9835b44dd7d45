-- What the reasons touch for which a text makes no schema (section 3).
use Rattle.std.specs.Prelude.{◌≡◌, ◌++◌, ◌||◌, ◌&&◌, ℕ, List, [], ◌∷◌, Bool, codes, leb, ltb, map, string_bytes}
use Rattle.std.specs.Prelude.{if◌then◌else◌}
use Rattle.std.specs.List.{flat_map, list_any}
use Rattle.std.specs.Option.{is_some}
use Rattle.graphql_reader.specs.declared.type_system.RootOperationType.{RootOperationType}
use Rattle.graphql_reader.specs.declared.type_system.TypeSystemDefinition.{TypeSystemDefinition}
use Rattle.graphql_reader.specs.declared.type_system.TypeSystemDefinition.TheVariants as d
use Rattle.language_types.specs.declared.position.Span.{Span}
use Rattle.language_types.specs.Names.{is_among}
use Rattle.language_types.specs.Position.{index_of}
use Rattle.name_tables.specs.declared.map.NameMap.{NameMap}
use Rattle.name_tables.specs.Maps as maps
use Rattle.schema_validation.specs.declared.error.SchemaError.TheVariants as e
use Rattle.sdl_index.specs.declared.error.PlacedFault.{PlacedFault}
use Rattle.sdl_index.specs.declared.error.SchemaFault.{SchemaFault}
use Rattle.sdl_index.specs.declared.error.SchemaFault.TheVariants as f
use Rattle.sdl_mending.specs.declared.touched.Touched.{Touched}

-- where a reason stands: not where it is that there is no query root
abbrev pub standing_at : ℕ → SchemaFault → List ℕ
standing_at i f.NoQueryRoot = []
standing_at i _ = i ∷ []

abbrev pub standing : PlacedFault → List ℕ
standing r = standing_at (index_of r.position) r.fault

abbrev pub places : List PlacedFault → List ℕ
places reasons = flat_map standing reasons

-- one of these places is in a part of the text
abbrev pub has_reason : List ℕ → Span → Bool
has_reason is span = list_any (λ i. leb (index_of span.start) i && ltb i (index_of span.end)) is

abbrev pub span_of : TypeSystemDefinition → Span
span_of (d.Schema x) = x.span
span_of (d.Type x) = x.span
span_of (d.Directive x) = x.span

abbrev pub root_names : List RootOperationType → List (List ℕ)
root_names = map (λ r. r.name.item.now)

-- the types that a definition or extension is of: of the schema its roots
abbrev pub types_of : TypeSystemDefinition → List (List ℕ)
types_of (d.Schema x) = root_names x.item.roots.items
types_of (d.Type x) = x.item.name.item.now ∷ []
types_of (d.Directive x) = []

-- those of one in which a reason stands
abbrev pub touched_in : List ℕ → TypeSystemDefinition → List (List ℕ)
touched_in is x = if has_reason is (span_of x) then types_of x else []

-- the type that is of the wrong kind, or the one of introspection that stands in for a query root
abbrev pub named_in : SchemaFault → List (List ℕ)
named_in f.NoQueryRoot = codes "__Schema" ∷ []
named_in (f.Refused e.QueryNotObject) = codes "__Schema" ∷ []
named_in (f.Refused (e.NotInputType n)) = string_bytes n ∷ []
named_in (f.Refused (e.UnionMemberNotObject n)) = string_bytes n ∷ []
named_in _ = []

abbrev pub named_by : PlacedFault → List (List ℕ)
named_by r = named_in r.fault

-- The touched types: those in whose definitions or extensions a reason stands, and those that a reason names so.
abbrev pub touched_types : List TypeSystemDefinition → List PlacedFault → List (List ℕ)
touched_types document reasons = flat_map (touched_in (places reasons)) document ++ flat_map named_by reasons

-- the map has this name
abbrev pub has_name : {T : Type 0} → NameMap T → List ℕ → Bool
has_name m n = is_some (maps.index_of m n)

abbrev pub has_type : Touched → List ℕ → Bool
has_type t n = has_name t.types n

-- the map has these names more
abbrev pub Grows : {T : Type 0} → List (List ℕ) → NameMap T → NameMap T → Type 0
Grows more old new = (n : List ℕ) → has_name new n ≡ (has_name old n || is_among more n)
