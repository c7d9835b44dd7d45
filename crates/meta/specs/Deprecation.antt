-- What a `DeprecationStatus` says.
use Rattle.std.specs.Prelude.{ℕ, List, Bool, true, false, Option, None, option_map, string_bytes}
use Rattle.meta.specs.declared.deprecation.DeprecationStatus.{DeprecationStatus}
use Rattle.meta.specs.declared.deprecation.DeprecationStatus.TheVariants.{Current, Deprecated}

abbrev pub is_deprecated_status : DeprecationStatus → Bool
is_deprecated_status Current = false
is_deprecated_status (Deprecated reason) = true

abbrev pub reason_of : DeprecationStatus → Option (List ℕ)
reason_of Current = None
reason_of (Deprecated reason) = option_map string_bytes reason
