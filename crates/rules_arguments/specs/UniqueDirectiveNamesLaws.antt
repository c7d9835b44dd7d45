-- When the rule finds nothing at a node. In specs/, since ghost members of an impl cite nothing else.
use Rattle.std.proofs.Common.{◌≡◌, ◌↔◌, ℕ, List, [], ◌∷◌, ◌++◌, map, refl, ap, subst}
use Rattle.std.specs.Prelude.{Bool, true, false, Option, Some, None, if◌then◌else◌}
use Rattle.std.specs.declared.alloc.Global.{Global}
use Rattle.std.specs.declared.vec.Vec.{Vec}
use Rattle.language_values.specs.ValuesEqual.{are_distinct}
use Rattle.language.specs.declared.tree.Directive.{Directive}
use Rattle.schema.specs.Catalog.{Catalog}
use Rattle.walk.specs.ContextState.{DocumentScope}
use Rattle.events.specs.Node.{Placed}
use Rattle.events.specs.Occurrence.{Occurrence}
use Rattle.rules_support.specs.Names.{Named}
use Rattle.rules_support.specs.Repeats.{repeats}
use Rattle.rules_support.specs.RepeatsLaws.{none_repeats}
use Rattle.rules_arguments.specs.UniqueDirectiveNames.{is_once, once_among, once_names, repeated_directive_message}
use Rattle.rules_arguments.specs.UniqueDirectiveNames.{repeated_in, repeated_directives, directives_at}
use Rattle.rules_arguments.specs.UniqueDirectiveNames.{AreDistinctDirectives}

-- one more directive, by whether it may stand once
one_more : {S : Type 0} (once : Bool) (d : Placed (Directive S)) (names : List Named) (ds : List (Placed (Directive S)))
    → map (λ n. n.0) names ≡ map (λ x. x.item.name.item.now) ds
    → map (λ n. n.0) ((if once then (d.item.name.item.now, d.span.start) ∷ [] else []) ++ names)
    ≡ map (λ x. x.item.name.item.now) (if once then d ∷ ds else ds)
one_more true d names ds e = ap (λ z. d.item.name.item.now ∷ z) e
one_more false d names ds e = e

module _ {S C : Type 0} (schema : Catalog S C) where
  same_names : (ds : List (Placed (Directive S))) → map (λ n. n.0) (once_among schema ds) ≡ once_names schema ds
  same_names [] = refl
  same_names (d ∷ ds) = one_more (is_once schema d) d (once_among schema ds) _ (same_names ds)

  none_in : (written : Option (Vec (Placed (Directive S)) Global)) → (repeated_in schema written ≡ [])
      ↔ AreDistinctDirectives schema written
  none_in None = (λ e. tt, λ u. refl)
  none_in (Some ds) =
      subst (λ names. (repeats repeated_directive_message (once_among schema ds.items) ≡ [])
      ↔ (are_distinct names ≡ true)) (same_names ds.items)
      (none_repeats repeated_directive_message (once_among schema ds.items))

-- nothing is found at an occurrence if and only if the directives there that may stand once are distinct
pub none_repeated : {S C : Type 0} (scope : DocumentScope S C) (o : Occurrence S C)
    → (repeated_directives scope o ≡ []) ↔ AreDistinctDirectives scope.schema (directives_at o.node)
none_repeated scope o = none_in scope.schema (directives_at o.node)
