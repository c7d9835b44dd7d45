use Rattle.std.proofs.Common.{◌≡◌, map, take, string_bytes}
use Rattle.language_types.specs.Types.{shape}
use Rattle.meta.proofs.texts.innermost_names.Given as goal

abbrev pub invariant-loop-t : goal.invariant-loop-t
invariant-loop-t l = map string_bytes l.names.items ≡ map (λ t. (shape t).name) (take l.t-index l.types)
