use Rattle.std.proofs.Common.{◌≡◌, ◌++◌, map, take}
use Rattle.std.specs.List.{flat_map}
use Rattle.type_system_defaults.specs.Given.{given_values, type_defaults}
use Rattle.type_system_defaults.proofs.given.add_types.Given as goal

-- those of the items that were seen were appended
abbrev pub invariant-loop-meta : goal.invariant-loop-meta
invariant-loop-meta g l = given_values l.given ≡ given_values l.fn.given ++ flat_map type_defaults (map (λ r. r.now) (take l.meta-index l.types))
