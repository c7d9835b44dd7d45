-- What the rule reports, and when that is nothing. In specs/, since ghost members of an impl cite nothing else.
use Rattle.std.proofs.Common.{◌≡◌, List, [], ◌∷◌, inl, inr, sym, ◌∙◌, subst}
use Rattle.walk.specs.ContextState.{scope_of}
use Rattle.walk.specs.Rule.{AllowsFrom, SilentIff, always}
use Rattle.rules_positions.specs.JudgedUsesLaws.{GivesUnless, uses_silent}
use Rattle.rules_positions.specs.Recording.{recording_step}
use Rattle.rules_positions.specs.RecordingLaws.{recording_keeps}
use Rattle.rules_positions.specs.UsesRecorded.{uses_recorded}
use Rattle.rules_specified_positions.specs.PlacedUses.{next_uses, placed_uses, uses_at}
use Rattle.rules_specified_uses.specs.ValueUses.{UseValue}
use Rattle.rules_specified_positions.specs.Usages.{IsAllowed, Judged}
use Rattle.rules_specified_positions.specs.VariablesInAllowedPosition.{AllAllowed, DocumentGives, given_by_uses}
use Rattle.rules_specified_positions.specs.VariablesInAllowedPosition.{misplaced_variables, recorded_uses}

some_none : {X : Type 0} (x : X) (xs : List X) → [] ≡ x ∷ xs → ⊥
some_none x xs e = cc

-- a use gives nothing if and only if the variable may stand there
gives_unless_allowed : {S C : Type 0} → GivesUnless {S = S} {C = C} (λ types d (u : UseValue). IsAllowed types d u.at) Judged
gives_unless_allowed types d u es (inl a) = (λ e. a.0, λ allowed. a.1)
gives_unless_allowed types d u es (inr b) = (λ e. absurd (some_none _ _ (sym e ∙ b.1)), λ allowed. absurd (b.0 allowed))

-- nothing is reported if and only if each variable may stand where it is used
pub positions_silent : {S C V : Type 0} → SilentIff {S = S} {C = C} {V = V} (always misplaced_variables) AllAllowed
positions_silent end scope t document es p =
    uses_silent (λ (u : UseValue). u.variable) Judged (λ types d u. IsAllowed types d u.at) scope.schema.types document
    (placed_uses scope.schema t) gives_unless_allowed es p

-- each run from a fresh value reports what is given of the document
pub positions_keep : {S C : Type 0} → AllowsFrom
    (recording_step recorded_uses (next_uses {S = S} {C = C}) given_by_uses) (λ a. recorded_uses a ≡ [])
    (always misplaced_variables)
positions_keep start fresh schema t doc end es r =
    subst (λ uses. DocumentGives schema.types doc uses es) (uses_recorded uses_at (scope_of schema doc) t doc)
    (recording_keeps recorded_uses next_uses given_by_uses [] start fresh schema t doc end es r)
