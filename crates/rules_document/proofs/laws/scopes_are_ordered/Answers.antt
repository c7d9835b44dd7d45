use Rattle.std.proofs.Common.{◌≡◌, ◌↔◌, List, ℕ, Some, None, refl, ap, subst}
use Rattle.std.specs.Cmp.Lexicographic.{slice_cmp}
use Rattle.std.specs.declared.cmp.Ordering.TheVariants.{Less, Equal, Greater}
use Rattle.std.specs.Ordering.{nat_cmp, is_lt, is_gt}
use Rattle.std.proofs.lemmas.Bool.{true≢false}
use Rattle.std.proofs.lemmas.Cmp.{nat_list_cmp_total, tied_itself}
use Rattle.std.proofs.lemmas.Map.Lookups.{exact_bytes}
use Rattle.fragment_reach.specs.Reach.{operation, fragment}
use Rattle.operation_scopes.specs.contracts.scope.ScopeOrd.TheImpl.{ghosts}
use Rattle.operation_scopes.specs.contracts.scope.ScopeOrd.TheImpl.Laws.{total-law}
use Rattle.operation_scopes.specs.declared.scope.Scope.{Scope}
use Rattle.operation_scopes.specs.declared.scope.Scope.TheVariants as scope
use Rattle.operation_scopes.specs.Scopes.{scope_name}
use Rattle.rules_document.proofs.laws.scopes_are_ordered.Goals as goal

bytes_tied : (x y : List ℕ) → x ≡ y → slice_cmp nat_cmp x y ≡ Equal
bytes_tied x y e = subst (λ z. slice_cmp nat_cmp x z ≡ Equal) e (tied_itself nat_list_cmp_total x)

less : Less ≡ Equal → ⊥
less e = true≢false (ap is_lt e)

greater : Greater ≡ Equal → ⊥
greater e = true≢false (ap is_gt e)

some_name : (x y : List ℕ) → operation (Some x) ≡ operation (Some y) → x ≡ y
some_name x y e = cc

fragment_name : (x y : List ℕ) → fragment x ≡ fragment y → x ≡ y
fragment_name x y e = cc

same : (a b : Scope) → (ghosts.cmp a b ≡ Equal) ↔ (scope_name a ≡ scope_name b)
same (scope.Operation None) (scope.Operation None) = (λ e. refl, λ e. refl)
same (scope.Operation None) (scope.Operation (Some y)) = (λ e. absurd (less e), λ e. cc)
same (scope.Operation (Some x)) (scope.Operation None) = (λ e. absurd (greater e), λ e. cc)
same (scope.Operation (Some x)) (scope.Operation (Some y)) = (λ e. ap (λ z. operation (Some z)) (exact_bytes x.now y.now e), λ e. bytes_tied x.now y.now (some_name x.now y.now e))
same (scope.Operation x) (scope.Fragment y) = (λ e. absurd (less e), λ e. cc)
same (scope.Fragment x) (scope.Operation y) = (λ e. absurd (greater e), λ e. cc)
same (scope.Fragment x) (scope.Fragment y) = (λ e. ap fragment (exact_bytes x.now y.now e), λ e. bytes_tied x.now y.now (fragment_name x.now y.now e))

pub returns : goal.returns
returns c = record { total = total-law; same = same }
