use Rattle.std.proofs.Common.{◌≡◌, map, take}
use Rattle.schema.specs.Wrapped.{plain_meta, wrapped_of}
use Rattle.schema.proofs.model.schemas.ordered.plain_types.Given as goal

abbrev pub invariant-loop-meta : goal.invariant-loop-meta
invariant-loop-meta g l = map wrapped_of l.list.items ≡ map (λ r. plain_meta r.now) (take l.meta-index l.metas)
