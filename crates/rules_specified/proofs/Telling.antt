-- What is told of one definition, and of the next.
use Rattle.std.proofs.Common.{◌≡◌, ◌<◌, ◌+◌, ℕ, List, [], ◌∷◌, ◌++◌, Option, Some, None, Bool, true, false, length, drop, get_or, sym, ap, ◌∙◌, refl, subst, drop_of_length-le, ◌≤◌}
use Rattle.std.specs.Prelude.{◌||◌}
use Rattle.std.specs.List.{list_any}
use Rattle.std.proofs.lemmas.List.{append-nil, append_assoc, drop_more}
use Rattle.language_types.specs.Position.{Placed}
use Rattle.language.specs.declared.tree.Definition.{Definition}
use Rattle.language.specs.declared.tree.Definition.TheVariants as definition
use Rattle.language.specs.declared.tree.Field.{Field}
use Rattle.language.specs.declared.tree.Operation.{Operation}
use Rattle.language.specs.declared.tree.OperationType.{OperationType}
use Rattle.language.specs.declared.tree.OperationType.TheVariants as kind
use Rattle.schema.specs.Catalog.{Catalog}
use Rattle.walk.specs.ContextState.{ContextState, with_errors}
use Rattle.walk.specs.ErrorValue.{ErrorValue}
use Rattle.walk.proofs.Kept.{with_more, with_none}
use Rattle.rules_specified.specs.Collected.{Collects}
use Rattle.rules_specified.specs.SingleRootField.{Tells, TellsEach, TellsRoot, is_of_subscription, is_subscription, root_errors, root_name}

neither : (a b : Bool) → (a || b) ≡ false → (a ≡ false) × (b ≡ false)
neither true b e = cc
neither false b e = (refl, e)

-- nothing is reported
pub reports_none : {S C : Type 0} (w : ContextState S C) → w ≡ with_errors w []
reports_none w = with_none w

pub reports_more : {S C : Type 0} (es fs : List ErrorValue) (w mid last : ContextState S C) → mid ≡ with_errors w es → last ≡ with_errors mid fs → last ≡ with_errors w (es ++ fs)
reports_more es fs w mid last a b = b ∙ ap (λ z. with_errors z fs) a ∙ with_more w es fs

module _ {S C : Type 0} (truth : S → Option Bool) (schema : Catalog S C) (document : List (Definition S)) where
  -- of a subscription
  pub tells_subscription : (name : List ℕ) (d : Definition S) (o : Placed (Operation S)) (fs : List (Placed (Field S))) (after : List (List ℕ))
      → d ≡ definition.Operation o → o.item.operation_type ≡ kind.Subscription → root_name schema ≡ Some name
      → Collects truth schema document name [] o.item.selection_set.items fs after → Tells truth schema document d (root_errors o fs)
  tells_subscription name d o fs after is of named c =
      subst (λ z. Tells truth schema document z (root_errors o fs)) (sym is)
      (subst (λ k. TellsRoot truth schema document (root_name schema) k o (root_errors o fs)) (sym of)
      (subst (λ r. TellsRoot truth schema document r kind.Subscription o (root_errors o fs)) (sym named) (fs, (after, c), refl)))

  -- what is told of the rest comes after what was told
  abbrev pub Goes : List (Definition S) → List (Definition S) → List ErrorValue → Type 0
  Goes ds rest es = (more : List ErrorValue) → TellsEach truth schema document rest more → TellsEach truth schema document ds (es ++ more)

  pub goes_on : (ds : List (Definition S)) (i : ℕ) (d : Definition S) (es fs : List ErrorValue) → i < length ds → get_or ds i d ≡ d
      → Tells truth schema document d fs → Goes ds (drop i ds) es → Goes ds (drop (i + 1) ds) (es ++ fs)
  goes_on ds i d es fs lt at tells goes more told =
      let next : drop i ds ≡ d ∷ drop (i + 1) ds = drop_more ds i d lt ∙ ap (λ z. z ∷ drop (i + 1) ds) at in
      subst (TellsEach truth schema document ds) (sym (append_assoc es fs more))
      (goes (fs ++ more) (subst (λ z. TellsEach truth schema document z (fs ++ more)) (sym next) (fs, more, tells, told, refl)))

  pub goes_to_end : (ds : List (Definition S)) (i : ℕ) (es : List ErrorValue) → length ds ≤ i → Goes ds (drop i ds) es → TellsEach truth schema document ds es
  goes_to_end ds i es le goes = subst (TellsEach truth schema document ds) (append-nil es)
      (goes [] (subst (λ z. TellsEach truth schema document z []) (sym (drop_of_length-le ds le)) refl))

  -- nothing is told of a definition without a root, or of what is no subscription
  tells_rootless : (d : Definition S) → root_name schema ≡ None → Tells truth schema document d []
  tells_rootless (definition.Operation o) e = subst (λ r. TellsRoot truth schema document r o.item.operation_type o []) (sym e) refl
  tells_rootless (definition.Fragment f) e = refl

  pub tells_none : (ds : List (Definition S)) → root_name schema ≡ None → TellsEach truth schema document ds []
  tells_none [] e = refl
  tells_none (d ∷ ds) e = ([], [], tells_rootless d e, tells_none ds e, refl)

  tells_other : (r : Option (List ℕ)) (k : OperationType) (o : Placed (Operation S)) → is_of_subscription k ≡ false → TellsRoot truth schema document r k o []
  tells_other (Some root) kind.Subscription o e = cc
  tells_other (Some root) kind.Query o e = refl
  tells_other (Some root) kind.Mutation o e = refl
  tells_other None k o e = refl

  tells_unsubscribed : (d : Definition S) → is_subscription d ≡ false → Tells truth schema document d []
  tells_unsubscribed (definition.Operation o) e = tells_other (root_name schema) o.item.operation_type o e
  tells_unsubscribed (definition.Fragment f) e = refl

  pub tells_no_subscription : (ds : List (Definition S)) → list_any is_subscription ds ≡ false → TellsEach truth schema document ds []
  tells_no_subscription [] e = refl
  tells_no_subscription (d ∷ ds) e =
      let (first, rest) = neither (is_subscription d) (list_any is_subscription ds) e in
      ([], [], tells_unsubscribed d first, tells_no_subscription ds rest, refl)
