-- The roots that a `RootNames` asks for.
use Rattle.std.specs.Prelude.{option_map}
use Rattle.schema_validation.specs.declared.roots.RootNames.{RootNames}
use Rattle.schema_validation.specs.Accepted.{Roots}

abbrev pub roots_asked : RootNames → Roots
roots_asked r = record {
  query = r.query.now;
  mutation = option_map (λ s. s.now) r.mutation;
  subscription = option_map (λ s. s.now) r.subscription;
}
