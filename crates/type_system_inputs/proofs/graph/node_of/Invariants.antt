use Rattle.std.proofs.Common.{◌≡◌, ◌++◌, drop}
use Rattle.type_system_inputs.specs.Graph.{edges_from}
use Rattle.type_system_inputs.proofs.graph.node_of.Given as goal

-- the edges so far, and those of the fields that are left
abbrev pub invariant-loop-field : goal.invariant-loop-field
invariant-loop-field g l = l.edges.items ++ edges_from l.places l.field (drop l.field l.fields) ≡ edges_from l.places 0 l.fields
