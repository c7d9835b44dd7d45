-- Two stages as one.
use Rattle.std.proofs.Common.{◌≡◌, ◌∙◌, ◌↔◌, ◌++◌, ◌<◌, ◌≤◌, ◌*◌, ◌-◌, ℕ, List, [], ◌∷◌, Bool, true, false, ap, map, refl, sym, subst, IsPermutation, inl, inr, zero, suc, arith}
use Rattle.std.proofs.lemmas.Bool.{true≢false}
use Rattle.std.proofs.lemmas.List.{append-nil, nil_from_length}
use Rattle.std.proofs.lemmas.List.Sorted.{IsPermutation-sym, IsPermutation-trans, length_permutation}
use Rattle.language.specs.declared.tree.Definition.{Definition}
use Rattle.schema.specs.Catalog.{Catalog}
use Rattle.fragment_graph.specs.DocumentCycles.{HasNoCycle}
use Rattle.events.specs.Typing.{Typing}
use Rattle.merge_field_pairs.specs.Entries.{PlainEntry}
use Rattle.merge_graph.specs.Definitions.{fragment_count}
use Rattle.merge_graph.specs.SetsIn.{HasKnownConditions}
use Rattle.merge_conflicts.specs.Reports.{Reports, none, direct, nested}
use Rattle.merge_conflicts.specs.Texts.{errors_of}
use Rattle.merge_document.specs.Merging.{DocumentMerges}
use Rattle.merge_document.specs.Conflicts.{IsTidyDocument}
use Rattle.rules_merge.specs.declared.overlapping_fields_can_be_merged.OverlappingFieldsCanBeMerged.{OverlappingFieldsCanBeMerged}
use Rattle.rules_merge.specs.OverlappingFieldsCanBeMerged.{ErrorsWithin, MergeErrors, StoppedErrors, error_value, stop_error}
use Rattle.walk.specs.ContextState.{ContextState, DocumentScope, fitting, has_some, scope_of, typing, with_errors}
use Rattle.walk.specs.ErrorValue.{ErrorValue, shares}
use Rattle.walk.specs.Rule.{AppendsAllowed}
use Rattle.walk.proofs.Kept.{empty_has_room, kept_none, with_none}
use Rattle.rules_first_stage.specs.Stage.{stage_reports}
use Rattle.rules_first_stage.specs.CleanStage.{CleanDocument, IsCleanWhere}
use Rattle.events.specs.Node.{field, inline_fragment}
use Rattle.merge_walk_laws.proofs.Agreeing.{inlines_occur, fields_are_tidy, tidy_arguments}
use Rattle.rules_first_stage.proofs.Distinct.{left_none}
use Rattle.validation.specs.Stages.{AppendsReported, IsValid, IsValidIn, Reported, Rules, of_stage_one, of_stage_two, of_stopped_search}

pub permuted_none : {X : Type 0} (xs : List X) → IsPermutation [] xs → xs ≡ []
permuted_none xs p = nil_from_length xs (length_permutation [] xs p)

-- what has some is not empty
pub not_none : {X : Type 0} (xs : List X) → has_some xs ≡ true → xs ≡ [] → ⊥
not_none xs some empty = true≢false (sym some ∙ ap has_some empty)

pub is_none : {X : Type 0} (xs : List X) → has_some xs ≡ false → xs ≡ []
is_none [] e = refl
is_none (x ∷ xs) e = absurd (true≢false e)

-- a list with one more is not empty
pub not_none_more : {X : Type 0} (xs : List X) (x : X) → xs ++ x ∷ [] ≡ [] → ⊥
not_none_more [] x e = not_none _ refl e
not_none_more (y ∷ xs) x e = not_none _ refl e

-- a clean document repeats no argument, nor a key in one
pub tidy_where_clean : {S C : Type 0} (schema : Catalog S C) (t : Typing S C) (document : List (Definition S)) → CleanDocument schema t document → IsTidyDocument schema document
tidy_where_clean schema t document c =
    fields_are_tidy schema t document (λ f is. (tidy_arguments f.item.arguments).1 (c.arguments (field f) is, c.values (field f) is))

-- and the conditions of its inline fragments are known
pub known_where_clean : {S C : Type 0} (schema : Catalog S C) (t : Typing S C) (document : List (Definition S)) → CleanDocument schema t document → HasKnownConditions schema document
known_where_clean schema t document c d there q inner inside i stands name is =
    c.conditions (inline_fragment i) (inlines_occur schema t document q inner (d, there, inside) i stands) name is

module _ {S C : Type 0} (E : S → S → Bool) (schema : Catalog S C) where
  -- conflicts have errors
  no_conflict : (reports : Reports (PlainEntry S C)) → map error_value (errors_of E schema reports) ≡ [] → reports ≡ none
  no_conflict none e = refl
  no_conflict (direct a b f rest) e = absurd (not_none _ refl e)
  no_conflict (nested a b below rest) e = absurd (not_none _ refl e)

  -- where nothing repeats, conditions are known and no fragment leads back to itself there are no errors if and only if the document merges
  pub merges_iff : (document : List (Definition S)) (end : OverlappingFieldsCanBeMerged) (es : List ErrorValue) → HasNoCycle document → IsTidyDocument schema document → HasKnownConditions schema document
      → MergeErrors E schema document end es → (es ≡ []) ↔ DocumentMerges E schema document
  merges_iff document end es acyclic tidy known m =
      let exact = (m.all acyclic tidy known).exact in
      let errors : Reports (PlainEntry S C) → List ErrorValue = λ rs. map error_value (errors_of E schema rs) in (
        λ e. exact.0 (no_conflict m.reports (permuted_none _ (IsPermutation-sym _ _ (subst (IsPermutation (errors m.reports)) e m.told)))),
        λ merges. permuted_none es (subst (λ rs. IsPermutation (errors rs) es) (exact.1 merges) m.told),
      )

module _ {S C : Type 0} (rules : Rules S C) where
  -- the first stage reported, or there were errors before
  pub after_one : (old new : ContextState S C) (document : List (Definition S)) → AppendsAllowed (stage_reports rules.first_stage) document old new
      → has_some new.errors ≡ true → AppendsReported rules old new document 0
  after_one old new document (es, (allowed, settled), e) some =
      let none_kept : old.errors ++ es ≡ [] → old.errors ++ fitting old.limit (shares old.errors) es ≡ [] = λ nothing.
      let none_before : old.errors ≡ [] = left_none old.errors es nothing in
      let none_now : es ≡ [] = ap (λ zs. zs ++ es) (sym none_before) ∙ nothing in
      sym (ap (λ w. w.errors) (with_none old) ∙ ap (λ zs. (with_errors old zs).errors) (sym none_now)) ∙ none_before
      in
      (es, of_stage_one allowed settled (λ nothing. not_none new.errors some (ap (λ w. w.errors) e ∙ none_kept nothing)), e)

  module _ {limit : ℕ} {schema : Catalog S C} {document : List (Definition S)} (clean : IsCleanWhere rules.first_stage.find_nothing) (t : Typing S C) (before : List ErrorValue)
      (none_before : before ≡ []) (found : rules.first_stage.find_nothing (scope_of schema document) t document) (es : List ErrorValue) (end : OverlappingFieldsCanBeMerged) where
    -- what the second stage tells is reported
    two_reported : ErrorsWithin rules.same limit schema document end es → Reported rules limit before (scope_of schema document) t document es end.compared
    two_reported (inl told) =
        let c = clean schema t document found in
        of_stage_two none_before found told (told.all c.no_cycle (tidy_where_clean schema t document c) (known_where_clean schema t document c))
    two_reported (inr (limited, stopped)) = of_stopped_search none_before found limited stopped

  module _ (old mid new : ContextState S C) (document : List (Definition S)) where
    abbrev Two : ℕ → Type 0
    Two pairs = (es : List ErrorValue) × (end : OverlappingFieldsCanBeMerged) × ErrorsWithin rules.same mid.limit mid.schema document end es × (end.compared ≡ pairs) × (new ≡ with_errors mid es)

    -- neither reported anything before the second stage
    pub after_two : IsCleanWhere rules.first_stage.find_nothing → AppendsAllowed (stage_reports rules.first_stage) document old mid → has_some mid.errors ≡ false → (pairs : ℕ) → Two pairs
        → AppendsReported rules old new document pairs
    after_two clean (fs, (allowed, settled), e) quiet pairs (es, end, told, counted, e') =
        let none_kept : old.errors ++ fitting old.limit (shares old.errors) fs ≡ [] = sym (ap (λ w. w.errors) e) ∙ is_none mid.errors quiet in
        let none_before : old.errors ≡ [] = left_none old.errors (fitting old.limit (shares old.errors) fs) none_kept in
        let none_fits : fitting old.limit (shares old.errors) fs ≡ [] = ap (λ zs. zs ++ fitting old.limit (shares old.errors) fs) (sym none_before) ∙ none_kept in
        let none_now : fs ≡ [] = kept_none old fs (empty_has_room old none_before) none_fits in
        let same : mid ≡ old = e ∙ ap (with_errors old) none_now ∙ sym (with_none old) in
        let found = settled.0 none_now in
        let reported = two_reported clean (typing old) old.errors none_before found es end
        (subst (λ z. ErrorsWithin rules.same z.limit z.schema document end es) same told) in (
          es,
          subst (λ n. Reported rules old.limit old.errors (scope_of old.schema document) (typing old) document es n) counted reported,
          e' ∙ ap (λ w. with_errors w es) same,
        )

  -- nothing is reported if and only if the document is valid
  module _ (clean : IsCleanWhere rules.first_stage.find_nothing) (schema : Catalog S C) (t : Typing S C) (document : List (Definition S)) where
    pub none_iff : (before es : List ErrorValue) (pairs : ℕ) → before ≡ [] → {limit : ℕ} → Reported rules limit before (scope_of schema document) t document es pairs → (es ≡ []) ↔ IsValid rules (scope_of schema document) t document
    none_iff before es pairs empty (of_stage_one allowed silent some) =
        let nothing : es ≡ [] → ⊥ = λ e. some (ap (λ zs. before ++ zs) e ∙ append-nil before ∙ empty) in
        (λ e. absurd (nothing e), λ v. absurd (nothing (silent.1 v.stage_one)))
    none_iff before es pairs empty (of_stage_two {end = end} none_before found told all) =
        let c = clean schema t document found in
        let judged = merges_iff rules.same schema document end es c.no_cycle (tidy_where_clean schema t document c) (known_where_clean schema t document c) told in
        (λ e. record { stage_one = found; merges = judged.0 e }, λ v. judged.1 v.merges)
    none_iff before es pairs empty (of_stopped_search none_before found limited stopped) =
        let tidy = tidy_where_clean schema t document (clean schema t document found) in
        (λ e. absurd (not_none_more _ stop_error (stopped.told ∙ e)), λ v. absurd (stopped.refuses tidy v.merges))

-- conflicts in another order
pub merge_permuted : {S C : Type 0} (E : S → S → Bool) (schema : Catalog S C) (document : List (Definition S)) (end : OverlappingFieldsCanBeMerged) (fs gs es : List ErrorValue)
    → MergeErrors E schema document end fs → gs ≡ [] → IsPermutation (fs ++ gs) es → MergeErrors E schema document end es
merge_permuted E schema document end fs gs es m none_else p =
    let all : fs ++ gs ≡ fs = ap (λ z. fs ++ z) none_else ∙ append-nil fs in
    record {
      reports = m.reports;
      told = IsPermutation-trans _ _ _ m.told (subst (λ z. IsPermutation z es) all p);
      real = m.real;
      cyclic = m.cyclic;
      told_of_sets = m.told_of_sets;
      all = m.all;
      few = m.few;
      enough = m.enough;
      opened = m.opened;
      linear = m.linear;
      looked = m.looked;
      compares = m.compares;
    }

-- no more pairs than two for each two definitions of fragments
pub few_pairs : {S C : Type 0} (rules : Rules S C) {limit : ℕ} (before : List ErrorValue) (scope : DocumentScope S C) (t : Typing S C) (document : List (Definition S)) (es : List ErrorValue) (pairs : ℕ)
    → Reported rules limit before scope t document es pairs → pairs ≤ fragment_count document * (fragment_count document - 1)
few_pairs rules before scope t document es pairs (of_stage_one allowed silent some) = omega arith
few_pairs rules before scope t document es pairs (of_stage_two none_before clean told all) = told.few
few_pairs rules before scope t document es pairs (of_stopped_search none_before clean limited stopped) = stopped.few

module _ {S C : Type 0} (rules : Rules S C) (old new : ContextState S C) (document : List (Definition S)) where
  -- a context that held no error holds none if and only if the document is valid
  pub valid_iff : (pairs : ℕ) → AppendsReported rules old new document pairs → IsCleanWhere rules.first_stage.find_nothing → old.errors ≡ [] → (new.errors ≡ []) ↔ IsValidIn rules old document
  valid_iff pairs (es, reported, e) clean empty =
      let judged = none_iff rules clean old.schema (typing old) document old.errors es pairs empty reported in
      let kept = fitting old.limit (shares old.errors) es in
      let now : new.errors ≡ kept = ap (λ w. w.errors) e ∙ ap (λ zs. zs ++ kept) empty in (
        λ nothing. judged.0 (kept_none old es (empty_has_room old empty) (sym now ∙ nothing)),
        λ v. ap (λ w. w.errors) (e ∙ ap (with_errors old) (judged.1 v) ∙ sym (with_none old)) ∙ empty,
      )

-- where a search may stop, not all errors are kept
pub some_kept : (limit enough : ℕ) → (limit ≡ 0 → enough ≡ 0) → 0 < enough → 0 < limit
some_kept zero enough all some = absurd (omega (arith, all refl, some))
some_kept (suc limit) enough all some = omega arith

-- a search that stopped has found as many conflicts as fewer that are asked for
pub fewer_asked : {S C : Type 0} {E : S → S → Bool} {asked enough : ℕ} {schema : Catalog S C} {document : List (Definition S)} {end : OverlappingFieldsCanBeMerged} {es : List ErrorValue}
    → asked ≤ enough → StoppedErrors E enough schema document end es → StoppedErrors E asked schema document end es
fewer_asked less s = record {
  reports = s.reports;
  enough = omega (arith, less, s.enough);
  told = s.told;
  real = s.real;
  refuses = s.refuses;
  few = s.few;
  opened = s.opened;
  linear = s.linear;
  looked = s.looked;
  compares = s.compares;
}
