-- There is no fault if and only if each value conforms.
use Rattle.std.proofs.Common.{◌≡◌, ◌↔◌, ℕ, List, [], ◌∷◌, ◌++◌, Option, Some, None, ap, refl, sym, ◌∙◌, subst}
use Rattle.std.specs.List.{All}
use Rattle.std.proofs.lemmas.List.Elements.{All-cons, All-head, All-nil, All-tail}
use Rattle.language_values.specs.declared.value.InputValue.{InputValue}
use Rattle.literals.specs.Judged.{WrittenFault}
use Rattle.literals.specs.Laws.{OneAnswer}
use Rattle.literals.proofs.WrittenLaws.{one_written}
use Rattle.meta.specs.Answers.{Answers}
use Rattle.schema.specs.Catalog.{Catalog}
use Rattle.sdl_directive_values.specs.Conforming.{IsConforming}
use Rattle.sdl_directive_values.specs.Faults.{AreFaults, ValueFaultAt, fault_at}
use Rattle.sdl_directive_values.specs.Given.{GivenAt}
use Rattle.sdl_scalars.specs.declared.check.SourceCheck.{SourceCheck}
use Rattle.sdl_scalars.specs.declared.scalar.SourceScalar.{SourceScalar}

left_none : {X : Type 0} (xs ys : List X) → xs ++ ys ≡ [] → xs ≡ []
left_none [] ys e = refl
left_none (x ∷ xs) ys e = cc

right_none : {X : Type 0} (xs ys : List X) → xs ++ ys ≡ [] → ys ≡ []
right_none [] ys e = e
right_none (x ∷ xs) ys e = cc

no_fault : (d : GivenAt) (fault : Option (List ℕ)) → fault_at d fault ≡ [] → fault ≡ None
no_fault d None e = refl
no_fault d (Some reason) e = absurd cc

module _ (schema : Catalog SourceScalar SourceCheck) (may : Answers (InputValue SourceScalar) SourceCheck) (shown : InputValue SourceScalar → List ℕ) where
  none_conform : (ds : List GivenAt) (fs : List ValueFaultAt) → AreFaults schema may shown ds fs → fs ≡ [] → All (IsConforming schema may shown) ds
  none_conform [] fs is none = All-nil (IsConforming schema may shown)
  none_conform (d ∷ ds) fs (first, rest, (fault, judged, at), there, is) none =
      let empty = sym is ∙ none in
      All-cons (IsConforming schema may shown) d ds
      (subst (WrittenFault schema may shown d.value d.expected) (no_fault d fault (sym at ∙ left_none first rest empty)) judged)
      (none_conform ds rest there (right_none first rest empty))

  conform_none : OneAnswer may → (ds : List GivenAt) (fs : List ValueFaultAt) → AreFaults schema may shown ds fs → All (IsConforming schema may shown) ds → fs ≡ []
  conform_none one [] fs is h = is
  conform_none one (d ∷ ds) fs (first, rest, (fault, judged, at), there, is) h =
      let right = IsConforming schema may shown in
      let none = one_written schema may shown one d.value d.expected fault None judged (All-head right d ds h) in
      is ∙ ap (λ z. z ++ rest) (at ∙ ap (fault_at d) none) ∙ conform_none one ds rest there (All-tail right d ds h)

  pub iff_conforming : OneAnswer may → (ds : List GivenAt) (fs : List ValueFaultAt) → AreFaults schema may shown ds fs → (fs ≡ []) ↔ All (IsConforming schema may shown) ds
  iff_conforming one ds fs is = (none_conform ds fs is, conform_none one ds fs is)
