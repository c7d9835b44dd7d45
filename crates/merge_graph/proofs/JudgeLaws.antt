-- The judgement of tidy fields is lawful.
use Rattle.std.proofs.Common.{◌≡◌, List, Bool, true, false, Option, Some, None, refl, ap}
use Rattle.std.specs.Option.{is_some}
use Rattle.std.specs.Cmp.{IsEquivalence}
use Rattle.schema.specs.Catalog.{Catalog}
use Rattle.merge_field_pairs.specs.declared.direct.DirectReason.{DirectReason}
use Rattle.merge_field_pairs.specs.Entries.{PlainEntry}
use Rattle.merge_field_pairs.specs.Numbered.{direct_at, AreTidy}
use Rattle.merge_field_pairs.proofs.DirectLaws.{least}
use Rattle.merge_field_pairs.proofs.NumberedLaws.{exclusive_at_flip, exclusive_at_true, direct_at_up, direct_at_flip, direct_at_self}
use Rattle.merge_sets.specs.Judgement.{Lawful}
use Rattle.merge_graph.specs.Judging.{judgement_by}

clash : {X : Type 0} (o : Option X) → o ≡ None → is_some o ≡ true → ⊥
clash None e h = cc
clash (Some x) e h = cc

kept : {X : Type 0} (o p : Option X) → (o ≡ None → p ≡ None) → is_some p ≡ true → is_some o ≡ true
kept None p up h = absurd (clash p (up refl) h)
kept (Some x) p up h = refl

module _ {S C : Type 0} (E : S → S → Bool) (schema : Catalog S C) (fields : List (PlainEntry S C)) where
  pub lawful : IsEquivalence E → AreTidy fields → Lawful (judgement_by E schema fields)
  lawful laws tidy = record {
    exclusive_kept = λ a b h. exclusive_at_true fields a b;
    exclusive_flip = λ e a b. exclusive_at_flip fields e a b;
    conflict_kept = λ a b h. kept (direct_at E schema fields false a b) (direct_at E schema fields true a b) (direct_at_up E schema fields false true a b least) h;
    conflict_flip = λ e a b. ap (λ (o : Option DirectReason). is_some o) (direct_at_flip E schema laws fields e a b tidy);
    conflict_self = λ e a. ap (λ (o : Option DirectReason). is_some o) (direct_at_self E schema laws fields e a tidy);
  }
