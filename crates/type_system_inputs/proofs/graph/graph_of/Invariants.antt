use Rattle.std.proofs.Common.{◌≡◌, map, take}
use Rattle.language_types.specs.References.{list_copied}
use Rattle.meta.specs.Kinds.{input_fields_of}
use Rattle.type_system_inputs.specs.Graph.{edges_from}
use Rattle.type_system_inputs.proofs.graph.graph_of.Given as goal

-- the types that were seen have their nodes
abbrev pub invariant-loop-meta : goal.invariant-loop-meta
invariant-loop-meta g l = map (λ n. n.edges.items) l.graph.items ≡ map (λ t. edges_from l.places 0 (input_fields_of t)) (list_copied (take l.meta-index l.types))
