-- What is told of a document, from what was found.
use Rattle.std.proofs.Common.{◌≡◌, ◌↔◌, ◌∙◌, ℕ, ◌==◌, arith, Bool, true, false, List, [], ◌∷◌, length, suc, refl, sym, subst, ap, IfOk}
use Rattle.std.proofs.lemmas.Bool.Decides.{nat_tests}
use Rattle.std.specs.List.{Contains}
use Rattle.std.specs.Prelude.{Result, Ok, Err}
use Rattle.answers.specs.Answers.{AreErrorsOf, Document, HasKnownTypes, IsTold, IsValidDocument, SourceCatalog, SourceRules, TellsErrors, verdict_in}
use Rattle.answers.specs.declared.choices.Choices.{Choices}
use Rattle.answers.specs.declared.reports.Answer.{Answer}
use Rattle.answers.specs.declared.reports.Verdict.TheVariants.{Valid}
use Rattle.events.specs.Typing.{untyped}
use Rattle.language.specs.declared.tree.Definition.{Definition}
use Rattle.language.specs.declared.tree.Definition.TheVariants as definition
use Rattle.rules_first_stage.specs.CleanStage.{IsCleanWhere}
use Rattle.sdl_scalars.specs.declared.scalar.SourceScalar.{SourceScalar}
use Rattle.walk.specs.ErrorValue.{ErrorValue}

-- what follows from both
pub both_ok : {T E : Type 0} (r : Result T E) (P Q R : T → Type 0) → ((x : T) → P x → Q x → R x) → IfOk r P → IfOk r Q → IfOk r R
both_ok (Ok x) P Q R f p q = f x p q
both_ok (Err y) P Q R f p q = tt

-- whether a list has items
pub has_items : {X : Type 0} (xs : List X) (b : Bool) → b ≡ (length xs == 0) → b ≡ false → xs ≡ [] → ⊥
has_items xs b is some e = let bad : true ≡ false = ap (λ ys. length ys == 0) (sym e) ∙ sym is ∙ some in cc

zero_if : (n : ℕ) → (n == 0) ≡ true → n ≡ 0
zero_if n e = grind (arith, nat_tests)

pub no_items : {X : Type 0} (xs : List X) (b : Bool) → b ≡ (length xs == 0) → b ≡ true → xs ≡ []
no_items [] b is none = refl
no_items (x ∷ xs) b is none = let bad : suc (length xs) ≡ 0 = zero_if (length (x ∷ xs)) (sym is ∙ none) in absurd (omega (arith, bad))

-- the verdict is that there is no error
verdict_none : (errors : List ErrorValue) → (verdict_in errors ≡ Valid) ↔ (errors ≡ [])
verdict_none [] = (λ e. refl, λ e. refl)
verdict_none (error ∷ errors) = (λ e. cc, λ e. cc)

module _ (rules : SourceRules) (choices : Choices) (schema : SourceCatalog) (document : Document) where
  -- the errors of a document, where the list is seen otherwise
  pub errors_seen : (errors items : List ErrorValue) → errors ≡ items → AreErrorsOf rules choices schema document items → AreErrorsOf rules choices schema document errors
  errors_seen errors items e are = subst (AreErrorsOf rules choices schema document) (sym e) are

  -- they are told
  pub tells_errors : (text : List ℕ) (errors : List ErrorValue) (answer : Answer) → AreErrorsOf rules choices schema document errors → IsTold text errors answer → TellsErrors rules choices schema text document answer
  tells_errors text errors answer are told =
      let none = verdict_none errors in
      record {
        errors = errors;
        are_errors = are;
        told = told;
        valid = (λ v. are.valid.0 (none.0 (sym told.verdict_is ∙ v)), λ h. told.verdict_is ∙ none.1 (are.valid.1 h));
      }

-- the types of the variables of a valid document are known input types
pub known_types : (rules : SourceRules) (choices : Choices) (schema : SourceCatalog) (document : Document) (def : Definition SourceScalar) → IsValidDocument rules choices schema document
    → IsCleanWhere (rules schema.dialect).first_stage.find_nothing → Contains document def → HasKnownTypes schema def
known_types rules choices schema document (definition.Operation operation) valid clean stands = (clean schema untyped document valid.0.stage_one).variable_types operation stands
known_types rules choices schema document (definition.Fragment fragment) valid clean stands = tt
