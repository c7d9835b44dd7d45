-- There is no fault if and only if each default value conforms.
use Rattle.std.proofs.Common.{◌≡◌, ◌↔◌, ℕ, List, [], ◌∷◌, ◌++◌, Option, Some, None, ap, refl, sym, ◌∙◌, subst}
use Rattle.std.specs.List.{All, flat_map}
use Rattle.std.specs.List.Sorted.{IsPermutation}
use Rattle.std.proofs.lemmas.List.Elements.{All-append, All-cons, All-head, All-nil, All-tail}
use Rattle.std.proofs.lemmas.List.Sorted.{All-permutation, IsPermutation-sym}
use Rattle.language_values.specs.declared.value.InputValue.{InputValue}
use Rattle.meta.specs.Answers.{Answers}
use Rattle.schema.specs.Catalog.{Catalog}
use Rattle.schema_validation.specs.declared.directives.DirectiveType.{DirectiveType}
use Rattle.literals.specs.Judged.{WrittenFault}
use Rattle.literals.specs.Laws.{OneAnswer}
use Rattle.literals.proofs.WrittenLaws.{one_written}
use Rattle.type_system_report.specs.Fault.{CoordinateValue}
use Rattle.type_system_defaults.specs.Conforming.{HasConformingDefaults, IsConforming}
use Rattle.type_system_defaults.specs.Faults.{AreFaults, DefaultFaultValue, fault_at}
use Rattle.type_system_defaults.specs.Given.{Given, all_defaults, directive_defaults, type_defaults}

left_none : {X : Type 0} (xs ys : List X) → xs ++ ys ≡ [] → xs ≡ []
left_none [] ys e = refl
left_none (x ∷ xs) ys e = cc

right_none : {X : Type 0} (xs ys : List X) → xs ++ ys ≡ [] → ys ≡ []
right_none [] ys e = e
right_none (x ∷ xs) ys e = cc

no_fault : (at : CoordinateValue) (fault : Option (List ℕ)) → fault_at at fault ≡ [] → fault ≡ None
no_fault at None e = refl
no_fault at (Some reason) e = absurd cc

module _ {A : Type 0} (P : A → Type 0) where
  both_parts : (xs ys : List A) → All P (xs ++ ys) → All P xs × All P ys
  both_parts [] ys h = (All-nil P, h)
  both_parts (x ∷ xs) ys h =
      let (front, back) = both_parts xs ys (All-tail P x (xs ++ ys) h) in
      (All-cons P x xs (All-head P x (xs ++ ys) h) front, back)

  each_part : {T : Type 0} (f : T → List A) (ts : List T) → All P (flat_map f ts) → All (λ t. All P (f t)) ts
  each_part f [] h = All-nil (λ t. All P (f t))
  each_part f (t ∷ ts) h =
      let (front, back) = both_parts (f t) (flat_map f ts) h in
      All-cons (λ t. All P (f t)) t ts front (each_part f ts back)

  of_parts : {T : Type 0} (f : T → List A) (ts : List T) → All (λ t. All P (f t)) ts → All P (flat_map f ts)
  of_parts f [] h = All-nil P
  of_parts f (t ∷ ts) h =
      All-append P (f t) (flat_map f ts) (All-head (λ t. All P (f t)) t ts h) (of_parts f ts (All-tail (λ t. All P (f t)) t ts h))

module _ {S C : Type 0} (schema : Catalog S C) (may : Answers (InputValue S) C) (shown : InputValue S → List ℕ) where
  none_conform : (ds : List (Given S)) (fs : List DefaultFaultValue) → AreFaults schema may shown ds fs → fs ≡ [] → All (IsConforming schema may shown) ds
  none_conform [] fs is none = All-nil (IsConforming schema may shown)
  none_conform (d ∷ ds) fs (first, rest, (fault, judged, at), there, is) none =
      let empty = sym is ∙ none in
      All-cons (IsConforming schema may shown) d ds
      (subst (WrittenFault schema may shown d.value d.expected) (no_fault d.coordinate fault (sym at ∙ left_none first rest empty)) judged)
      (none_conform ds rest there (right_none first rest empty))

  conform_none : OneAnswer may → (ds : List (Given S)) (fs : List DefaultFaultValue) → AreFaults schema may shown ds fs → All (IsConforming schema may shown) ds → fs ≡ []
  conform_none one [] fs is h = is
  conform_none one (d ∷ ds) fs (first, rest, (fault, judged, at), there, is) h =
      let right = IsConforming schema may shown in
      let none = one_written schema may shown one d.value d.expected fault None judged (All-head right d ds h) in
      is ∙ ap (λ z. z ++ rest) (at ∙ ap (fault_at d.coordinate) none) ∙ conform_none one ds rest there (All-tail right d ds h)

  -- of all default values, whatever the order of the directives
  pub none_iff_conforming : OneAnswer may → (directives : List (DirectiveType S)) (fs : List DefaultFaultValue) → IsPermutation schema.directives directives
      → AreFaults schema may shown (all_defaults schema directives) fs → (fs ≡ []) ↔ HasConformingDefaults schema may shown
  none_iff_conforming one directives fs moved is =
      let right = IsConforming schema may shown in
      let each : DirectiveType S → Type 0 = λ d. All right (directive_defaults d) in
      let in_types = flat_map type_defaults schema.types in
      let in_directives = flat_map directive_defaults directives in (
        λ none. let (front, back) = both_parts right in_types in_directives (none_conform (all_defaults schema directives) fs is none) in record {
          types = each_part right type_defaults schema.types front;
          directives = All-permutation each directives schema.directives (IsPermutation-sym schema.directives directives moved) (each_part right directive_defaults directives back);
        },
        λ h. conform_none one (all_defaults schema directives) fs is
            (All-append right in_types in_directives (of_parts right type_defaults schema.types h.types)
            (of_parts right directive_defaults directives (All-permutation each schema.directives directives moved h.directives))),
      )
