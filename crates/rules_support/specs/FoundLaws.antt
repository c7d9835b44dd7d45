-- When nothing is found. In specs/, since ghost members of an impl cite nothing else.
use Rattle.std.proofs.Common.{◌≡◌, ◌↔◌, List, [], ◌∷◌, refl}
use Rattle.std.specs.Prelude.{Bool, true, false, if◌then◌else◌}
use Rattle.std.specs.List.{Contains, flat_map}
use Rattle.walk.specs.RuleLaws.{none_all, none_each}

module _ {R : Type 0} where
  -- what is found unless a test passes is nothing if and only if the test passes
  pub none_unless : (test : Bool) (r : R) → ((if test then [] else r ∷ []) ≡ []) ↔ (test ≡ true)
  none_unless true r = (λ e. refl, λ e. refl)
  none_unless false r = (λ e. absurd cc, λ e. absurd cc)

  -- what is found where a test passes is nothing if and only if the test fails
  pub none_where : (test : Bool) (r : R) → ((if test then r ∷ [] else []) ≡ []) ↔ (test ≡ false)
  none_where true r = (λ e. absurd cc, λ e. absurd cc)
  none_where false r = (λ e. refl, λ e. refl)

  -- what is found in a list is nothing if and only if each of its members is as it should be
  pub none_among : {O : Type 0} (finds : O → List R) (IsRight : O → Type 0) → ((o : O) → (finds o ≡ []) ↔ IsRight o)
      → (os : List O) → (flat_map finds os ≡ []) ↔ ((o : O) → Contains os o → IsRight o)
  none_among finds IsRight at os = (
    λ e. λ o there. (at o).0 (none_each finds os e o there),
    λ right. none_all finds os (λ o there. (at o).1 (right o there)),
  )
