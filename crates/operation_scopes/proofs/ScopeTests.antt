-- Whether a definition is one of a scope.
use Rattle.std.proofs.Common.{◌≡◌, ℕ, List, Option, Some, None, true, refl, ap, subst}
use Rattle.std.proofs.lemmas.Slice.Eq.{bytes_eq-Decides}
use Rattle.language_types.specs.declared.position.Span.{Span}
use Rattle.language_types.specs.declared.position.Spanning.{Spanning}
use Rattle.language.specs.declared.tree.Definition.TheVariants as definition
use Rattle.language.specs.declared.tree.Operation.{Operation}
use Rattle.fragment_reach.specs.Reach.{ScopeName, operation, fragment, same_name}
use Rattle.operation_scopes.specs.Scopes.{operation_name, same_scope, scope_of}

pub name_self : (o : Option (List ℕ)) → same_name o o ≡ true
name_self None = refl
name_self (Some a) = (bytes_eq-Decides a a).1 refl

pub name_same : (o p : Option (List ℕ)) → same_name o p ≡ true → o ≡ p
name_same None None h = refl
name_same None (Some b) h = cc
name_same (Some a) None h = cc
name_same (Some a) (Some b) h = ap Some ((bytes_eq-Decides a b).0 h)

pub scope_self : (s : ScopeName) → same_scope s s ≡ true
scope_self (operation o) = name_self o
scope_self (fragment f) = (bytes_eq-Decides f f).1 refl

pub scope_same : (s t : ScopeName) → same_scope s t ≡ true → s ≡ t
scope_same (operation a) (operation b) h = ap operation (name_same a b h)
scope_same (operation a) (fragment b) h = cc
scope_same (fragment a) (operation b) h = cc
scope_same (fragment a) (fragment b) h = ap fragment ((bytes_eq-Decides a b).0 h)

module _ {S : Type 0} where
  -- an operation's scope is that of its name
  pub is_operation : (o : Spanning (Operation S) Span) (name : Option (List ℕ)) → operation_name o ≡ name → same_scope (scope_of (definition.Operation o)) (operation name) ≡ true
  is_operation o name e = subst (λ z. same_name (operation_name o) z ≡ true) e (name_self (operation_name o))
