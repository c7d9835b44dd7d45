-- The answer once one more comparison waits.
use Rattle.std.proofs.Common.{◌≡◌, ◌∙◌, ap, List, [], ◌∷◌, ◌++◌, Bool}
use Rattle.std.specs.Prelude.{reverse, fold}
use Rattle.std.proofs.lemmas.List.{reverse-append}
use Rattle.language_values.specs.EqualSteps.{taken_on, answer_after}
use Rattle.language_values.specs.declared.value.Pending.{Pending}

pub answer_after-push : {S : Type 0} (E : S → S → Bool) (old new : List (Pending S)) (p : Pending S) (b : Bool) → new ≡ old ++ p ∷ []
    → answer_after E new b ≡ answer_after E old (taken_on E b p)
answer_after-push E old new p b e = ap (λ ws. fold (taken_on E) b (reverse ws)) e ∙ ap (fold (taken_on E) b) (reverse-append old (p ∷ []))
