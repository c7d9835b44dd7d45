-- Equal modifiers are one.
use Rattle.std.proofs.Common.{◌≡◌, ℕ, List, Bool, Option, Some, None, nat_eq, refl, ap, ◌∙◌}
use Rattle.std.specs.Bool.{Decides}
use Rattle.std.specs.Cmp.Lexicographic.{pointwise}
use Rattle.std.specs.Option.{option_eq}
use Rattle.language_types.specs.Types.{TypeShape}
use Rattle.std.proofs.lemmas.Bool.Decides.{Decides-eqb, Decides-like}
use Rattle.std.proofs.lemmas.Slice.Eq.{slice_eq-Decides}
use Rattle.language_types.specs.declared.types.TypeModifier.{TypeModifier}
use Rattle.language_types.specs.declared.types.TypeModifier.TheVariants as m
use Rattle.language_types.specs.contracts.types.TypeModifierPartialEq.TheImpl.{eq-value}

sizes : (j k : Option ℕ) → Decides (option_eq nat_eq j k) (j ≡ k)
sizes None None = (λ h. refl, λ h. refl)
sizes None (Some k) = (λ h. cc, λ h. cc)
sizes (Some j) None = (λ h. cc, λ h. cc)
sizes (Some j) (Some k) = Decides-like (nat_eq j k) (λ h. ap (λ (n : ℕ). Some n) h) (λ h. cc) (Decides-eqb j k)

modifier : (x y : TypeModifier) → Decides (eq-value.it x y) (x ≡ y)
modifier m.NonNull m.NonNull = (λ h. refl, λ h. refl)
modifier m.NonNull (m.List k) = (λ h. cc, λ h. cc)
modifier (m.List j) m.NonNull = (λ h. cc, λ h. cc)
modifier (m.List j) (m.List k) = Decides-like (option_eq nat_eq j k) (λ h. ap (λ (n : Option ℕ). m.List n) h) (λ h. cc) (sizes j k)

pub modifiers : (xs ys : List TypeModifier) (r : Bool) → r ≡ pointwise eq-value.it xs ys → Decides r (xs ≡ ys)
modifiers xs ys r h = slice_eq-Decides modifier xs ys r h

pub one_shape : (t u : TypeShape) → t.name ≡ u.name → t.modifiers ≡ u.modifiers → t ≡ u
one_shape t u n ms = ap (λ (x : List ℕ). record { name = x; modifiers = t.modifiers }) n ∙ ap (λ (x : List TypeModifier). record { name = u.name; modifiers = x }) ms
