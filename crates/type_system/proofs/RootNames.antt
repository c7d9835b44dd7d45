-- The names of types that are found by name.
use Rattle.std.proofs.Common.{◌≡◌, ℕ, List, true, false, Option, Some, None, option_copied, Bor, ap, refl, ◌↔◌}
use Rattle.std.specs.Prelude.{option_and_then}
use Rattle.std.specs.Option.{option_map_or, IsSome}
use Rattle.std.specs.Str.{bytes_eq}
use Rattle.std.proofs.lemmas.Slice.Eq.{bytes_eq-Decides}
use Rattle.meta.specs.declared.kinds.MetaTypeOf.{MetaTypeOf}
use Rattle.meta.specs.Kinds.{name_of_meta}
use Rattle.schema.specs.Catalog.{Catalog, type_in, root_in}
use Rattle.schema_validation.specs.Accepted.{is_named}
use Rattle.schema_validation.proofs.Finds.{found-passes}

called : (o : Option (List ℕ)) (n : List ℕ) → option_map_or (λ k. bytes_eq k n) o false ≡ true → o ≡ Some n
called None n h = cc
called (Some q) n h = ap (λ k. Some k) ((bytes_eq-Decides q n).0 h)

module _ {S C : Type 0} (c : Catalog S C) where
  -- the type that is found by a name has this name
  pub found-named : (n : List ℕ) (t : MetaTypeOf S C) → Some t ≡ type_in n c → name_of_meta t ≡ Some n
  found-named n t h = called (name_of_meta t) n (found-passes (is_named n) c.types t h)

  -- the name of the root that is asked for
  pub root-named : (o : Option (List ℕ)) (r : Option (Bor (MetaTypeOf S C))) → option_copied r ≡ root_in o c → (IsSome r ↔ IsSome o) → option_and_then name_of_meta (option_copied r) ≡ o
  root-named None r h k = ap (option_and_then name_of_meta) h
  root-named (Some n) (Some t) h k = found-named n t.now h
  root-named (Some n) None h k = let some : false ≡ true = k.1 refl in cc
