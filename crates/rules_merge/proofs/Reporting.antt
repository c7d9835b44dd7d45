-- The conflicts that are left to report.
use Rattle.std.proofs.Common.{◌≡◌, List, [], ◌∷◌, Bool, ap, map, subst, sym, ◌∙◌}
use Rattle.schema.specs.Catalog.{Catalog}
use Rattle.merge_field_pairs.specs.Entries.{PlainEntry}
use Rattle.merge_conflicts.specs.declared.parts.Part.{Part}
use Rattle.merge_conflicts.specs.Telling.{AreToldOf, IsToldOf, more, none}
use Rattle.merge_conflicts.specs.Texts.{Told, error_of}
use Rattle.walk.specs.ContextState.{ContextState, with_errors}
use Rattle.walk.proofs.Kept.{with_more, with_none}
use Rattle.rules_merge.specs.OverlappingFieldsCanBeMerged.{error_value}

module _ {S C : Type 0} (E : S → S → Bool) (schema : Catalog S C) (fields : List (PlainEntry S C)) (end : ContextState S C) where
  -- with the errors of these parts, a context comes to this end
  abbrev pub Ends : List Part → ContextState S C → Type 0
  Ends parts w = (left : List Told) × AreToldOf E schema fields parts left × (with_errors w (map error_value (map error_of left)) ≡ end)

  -- with one part fewer
  pub ends_next : {p : Part} {ps : List Part} (w w' : ContextState S C) → w.schema ≡ schema → Ends (p ∷ ps) w
      → ((t : Told) → IsToldOf E w.schema fields p t → w' ≡ with_errors w (error_value (error_of t) ∷ [])) → Ends ps w'
  ends_next {p = p} w w' same (_, more {t = t} {ts = ts} told rest, e) next =
      let errors = map error_value (map error_of ts) in
      let reported = next t (subst (λ s. IsToldOf E s fields p t) (sym same) told) in
      (ts, rest, ap (λ z. with_errors z errors) reported ∙ with_more w (error_value (error_of t) ∷ []) errors ∙ e)

  -- with none
  pub ends_now : {ps : List Part} (w : ContextState S C) → ps ≡ [] → Ends ps w → w ≡ end
  ends_now w is (_, none, e) = with_none w ∙ e
  ends_now w is (_, more told rest, e) = cc
