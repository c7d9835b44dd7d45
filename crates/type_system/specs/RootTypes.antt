-- Roots that are one type (section 3.3.1).
use Rattle.std.specs.Prelude.{ℕ, List, [], ◌++◌, Option, Some}
use Rattle.std.specs.Str.{bytes_eq}
use Rattle.language.specs.declared.tree.OperationType.{OperationType}
use Rattle.language.specs.declared.tree.OperationType.TheVariants as o
use Rattle.schema_validation.specs.Accepted.{Roots}
use Rattle.schema.specs.Catalog.{Catalog}
use Rattle.type_system_report.specs.declared.fault.CoordinateOf.TheVariants as c
use Rattle.type_system_report.specs.declared.fault.FaultKindOf.TheVariants as k
use Rattle.type_system_report.specs.Fault.{FaultValue, fault_if}

-- the name of the root of operations of this kind, if there is one
abbrev pub root_name : Roots → OperationType → Option (List ℕ)
root_name r o.Query = Some r.query
root_name r o.Mutation = r.mutation
root_name r o.Subscription = r.subscription

-- the type, if it is the root of both kinds
abbrev pub shared_name : OperationType → OperationType → Option (List ℕ) → Option (List ℕ) → List FaultValue
shared_name a b (Some m) (Some n) = fault_if (bytes_eq n m) (c.Type m) (k.SharedRoot a b)
shared_name a b _ _ = []

module _ {S C : Type 0} (schema : Catalog S C) where
  abbrev pub shared_root : OperationType → OperationType → List FaultValue
  shared_root a b = shared_name a b (root_name schema.roots a) (root_name schema.roots b)

  -- each two roots that are one type
  abbrev pub shared_roots : List FaultValue
  shared_roots = shared_root o.Query o.Mutation ++ shared_root o.Query o.Subscription ++ shared_root o.Mutation o.Subscription
