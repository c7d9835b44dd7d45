-- The faults of default values, of one more each time.
use Rattle.std.proofs.Common.{◌≡◌, ℕ, ◌+◌, ◌<◌, get_or, List, [], ◌∷◌, ◌++◌, take, map, length, ap, refl, sym, ◌∙◌, subst, append_assoc}
use Rattle.std.proofs.lemmas.List.{append-nil, map-append, take_more}
use Rattle.language_values.specs.declared.value.InputValue.{InputValue}
use Rattle.meta.specs.Answers.{Answers}
use Rattle.schema.specs.Catalog.{Catalog}
use Rattle.type_system_defaults.specs.Faults.{AddsFaults, AreFaults, DefaultFaultValue}
use Rattle.type_system_defaults.specs.Given.{Given}

module _ {S C : Type 0} (schema : Catalog S C) (may : Answers (InputValue S) C) (shown : InputValue S → List ℕ) where
  faults_more : (ds : List (Given S)) (d : Given S) (before after : List DefaultFaultValue) → AreFaults schema may shown ds before → AddsFaults schema may shown d before after → AreFaults schema may shown (ds ++ d ∷ []) after
  faults_more [] d before after is (fs, own, e) =
      (fs, [], own, refl, e ∙ ap (λ z. z ++ fs) is ∙ sym (append-nil fs))
  faults_more (x ∷ ds) d before after (first, rest, at, there, is) (fs, own, e) =
      (first, rest ++ fs, at, faults_more ds d rest (rest ++ fs) there (fs, own, refl), e ∙ ap (λ z. z ++ fs) is ∙ append_assoc first rest fs)

  -- those of the values that were seen, and then that of the next
  pub faults_next : {T : Type 0} (value : T → Given S) (xs : List T) (i : ℕ) (x d : T) (before after : List DefaultFaultValue) → i < length xs → x ≡ get_or xs i d
      → AreFaults schema may shown (map value (take i xs)) before → AddsFaults schema may shown (value x) before after → AreFaults schema may shown (map value (take (i + 1) xs)) after
  faults_next value xs i x d before after h e seen more =
      subst (λ zs. AreFaults schema may shown zs after)
      (sym (ap (map value) (take_more xs i d h) ∙ map-append value (take i xs) (get_or xs i d ∷ [])))
      (faults_more (map value (take i xs)) (value (get_or xs i d)) before after seen (subst (λ z. AddsFaults schema may shown (value z) before after) e more))
