-- What calls answer and leave, from what was done.
use Rattle.std.proofs.Common.{◌≡◌, ◌∙◌, ◌<◌, ℕ, arith, true, false, List, refl, sym, subst, ap, IfOk}
use Rattle.std.proofs.lemmas.Bool.{true≢false}
use Rattle.std.specs.Prelude.{Option, Some, None, IfSome, Result, Ok, Err, is_some, option_map}
use Rattle.answers.specs.Answers.{Answers, AnswersValues, OfBytes, SourceRules}
use Rattle.answers.specs.declared.choices.Choices.{Choices}
use Rattle.answers.specs.declared.reports.Answer.{Answer}
use Rattle.language_types.specs.declared.error.OutOfMemory.{OutOfMemory}
use Rattle.schema.specs.declared.model.dialect.Dialect.{Dialect}
use Rattle.schema_handle.specs.Calls.{SourceCatalog, report_of, schema_in, schema_of}
use Rattle.schema_handle.specs.declared.calls.Shared.{Shared}
use Rattle.schema_handle.specs.declared.calls.Shared.TheVariants as shared
use Rattle.schema_handle.specs.declared.slot.Held.{Held}
use Rattle.vorxindak.specs.Calls.{Keeps, Opens, OpensOnce, Tells, TellsBy, TellsHeld, TellsOnce, of_answer, of_no_memory, shared_in}
use Rattle.vorxindak.specs.Statuses.{already_open, closed}

-- an answer was kept
pub kept_tells : (P : Answer → Type 0) (answered : Result Answer OutOfMemory) (status : ℕ) (report : List ℕ) → IfOk answered P → Keeps answered status report → Tells P status report
kept_tells P (Ok answer) status report h k = of_answer answer h k.0 k.1
kept_tells P (Err error) status report h k = of_no_memory k.0 k.1

module _ (P : SourceCatalog → Answer → Type 0) (status : ℕ) where
  -- what is held has a schema, or none
  pub told_by : (old new : Held) (schema : SourceCatalog) → schema_of old ≡ Some schema → schema_of new ≡ schema_of old → Tells (P schema) status (report_of new) → TellsHeld P status old new
  told_by old new schema e same told = subst (λ s. TellsBy P status s old new) (sym e) (same ∙ e, told)

  pub told_none : (held : Held) → status ≡ closed → schema_of held ≡ None → TellsHeld P status held held
  told_none held is e = subst (λ s. TellsBy P status s held held) (sym e) (is, refl)

  held_once : (schema : Option SourceCatalog) (before after : Held) → TellsBy P status schema before after → TellsOnce P status schema (Some before) (Some after)
  held_once None before after h = (h.0, ap (λ held. Some held) h.1)
  held_once (Some schema) before after h = h

  -- of a handle with something, and of one with nothing
  pub told_once : (before after : Held) (old new : Option Held) → Some before ≡ old → new ≡ Some after → TellsHeld P status before after → TellsOnce P status (schema_in old) old new
  told_once before after old new e d h =
      subst (λ o. TellsOnce P status (schema_in o) o new) e (subst (TellsOnce P status (schema_of before) (Some before)) (sym d) (held_once (schema_of before) before after h))

  pub nothing_once : (old new : Option Held) → old ≡ None → new ≡ None → status ≡ closed → TellsOnce P status (schema_in old) old new
  nothing_once old new e d is = subst (λ o. TellsOnce P status (schema_in o) o new) (sym e) (is, d)

-- by the choices that were made of the flags
module _ (rules : SourceRules) (query : List ℕ) (made asked : Choices) (is : made ≡ asked) (status : ℕ) (before after : Held) (old new : Option Held) (there : Some before ≡ old) (put : new ≡ Some after) where
  pub answer_once : TellsHeld (λ schema. OfBytes (Answers rules made schema query) query) status before after → TellsOnce (λ schema. OfBytes (Answers rules asked schema query) query) status (schema_in old) old new
  answer_once h =
      told_once _ status before after old new there put (subst (λ choices. TellsHeld (λ schema. OfBytes (Answers rules choices schema query) query) status before after) is h)

  pub values_once : (values : List ℕ) → TellsHeld (λ schema. OfBytes (OfBytes (AnswersValues rules made schema query values) values) query) status before after → TellsOnce (λ schema. OfBytes (OfBytes (AnswersValues rules asked schema query values) values) query) status (schema_in old) old new
  values_once values h =
      told_once _ status before after old new there put (subst (λ choices. TellsHeld (λ schema. OfBytes (OfBytes (AnswersValues rules choices schema query values) values) query) status before after) is h)

module _ (bytes : List ℕ) (dialect : Dialect) where
  -- a handle with a schema stays
  pub opens_kept : (schema : Option SourceCatalog) (old new : Option Held) → is_some schema ≡ true → new ≡ old → OpensOnce bytes dialect already_open schema old new
  opens_kept None old new e same = absurd (true≢false (sym e))
  opens_kept (Some schema) old new e same = (refl, same)

  -- one without a schema is opened
  pub opens_new : (status : ℕ) (schema : Option SourceCatalog) (old new : Option Held) → is_some schema ≡ false → Opens bytes dialect status new → OpensOnce bytes dialect status schema old new
  opens_new status None old new e h = h
  opens_new status (Some schema) old new e h = absurd (true≢false e)

-- what is answered where a schema was shared
pub is_done : (answer : Shared) → shared_in answer ≡ 0 → answer ≡ shared.Done
is_done shared.Done e = refl
is_done shared.NoSchema e = absurd (omega (arith, e))
is_done shared.HasSchema e = absurd (omega (arith, e))
is_done shared.OutOfMemory e = absurd (omega (arith, e))

pub not_done : (answer : Shared) → 0 < shared_in answer → answer ≡ shared.Done → ⊥
not_done answer h e = omega (arith, subst (λ a. 0 < shared_in a) e h)

module _ {X : Type 0} (asked found : Option X) (is : found ≡ asked) where
  -- what flags ask for is known, or not
  pub if_known : (P : X → Type 0) (x : X) → found ≡ Some x → P x → IfSome asked P
  if_known P x e h = subst (λ o. IfSome o P) (sym e ∙ is) h

  pub if_unknown : (P : X → Type 0) → found ≡ None → IfSome asked P
  if_unknown P e = subst (λ o. IfSome o P) (sym e ∙ is) tt

  pub not_unknown : (x : X) → found ≡ Some x → asked ≡ None → ⊥
  not_unknown x e none = let bad : Some x ≡ None = sym e ∙ is ∙ none in cc

module _ {X Y : Type 0} (f : X → Y) (taken : Option X) (old : Option Y) (is : option_map f taken ≡ old) where
  -- what was taken out of a handle was in it
  pub was_there : (x : X) → taken ≡ Some x → Some (f x) ≡ old
  was_there x e = sym (ap (option_map f) e) ∙ is

  pub was_none : taken ≡ None → old ≡ None
  was_none e = sym is ∙ ap (option_map f) e
