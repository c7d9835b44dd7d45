-- The error of what is told, and the errors of what is left.
use Rattle.std.proofs.Common.{◌≡◌, ℕ, List, [], ◌∷◌, ◌++◌, map, Bool, sym, ap, ◌∙◌, append_assoc, codes, string_bytes}
use Rattle.std.proofs.lemmas.List.{append-nil, map-append}
use Rattle.language_types.specs.declared.position.SourcePosition.{SourcePosition}
use Rattle.schema.specs.Catalog.{Catalog}
use Rattle.merge_field_pairs.specs.Entries.{PlainEntry}
use Rattle.merge_field_pairs.specs.Texts.{message_text}
use Rattle.merge_conflicts.specs.declared.account.Account.{Account}
use Rattle.merge_conflicts.specs.declared.conflict.Conflict.{Conflict}
use Rattle.merge_conflicts.specs.declared.parts.Part.{Part}
use Rattle.merge_conflicts.specs.Texts.{Told, ConflictValue, error_of}
use Rattle.merge_conflicts.specs.Telling.{Adds, IsToldOf, AreToldOf, none, more, plain_conflict}
use Rattle.merge_conflicts.proofs.Tellings.{adds_then, around}

abbrev with_places : List ℕ → List SourcePosition → ConflictValue
with_places m ps = record { message = m; places = ps }

same_error : {m n : List ℕ} {ps qs : List SourcePosition} → m ≡ n → ps ≡ qs → with_places m ps ≡ with_places n qs
same_error {n = n} {ps = ps} e f = ap (λ x. with_places x ps) e ∙ ap (with_places n) f

module _ (t : Told) (name : List ℕ) (a b c d : Account) (same : name ≡ t.response) (no_text : string_bytes a.text ≡ []) (no_lefts : a.lefts.items ≡ []) (no_rights : a.rights.items ≡ [])
    (before : Adds (codes "Fields \"" ++ (name ++ codes "\" conflict because ")) [] [] a b) (why : Adds t.reason t.lefts t.rights b c)
    (after : Adds (codes ". Use different aliases on the fields to fetch both if this was intentional") [] [] c d) where
  message_made : string_bytes d.text ≡ message_text t.response t.reason
  message_made =
      let end = codes ". Use different aliases on the fields to fetch both if this was intentional" in
      (adds_then before (adds_then why after)).text_added
      ∙ ap (λ x. x ++ ((codes "Fields \"" ++ (name ++ codes "\" conflict because ")) ++ (t.reason ++ end))) no_text
      ∙ around (codes "Fields \"") (codes "\" conflict because ") (t.reason ++ end) same

  lefts_made : d.lefts.items ≡ t.lefts
  lefts_made = (adds_then before (adds_then why after)).lefts_added ∙ ap (λ x. x ++ (t.lefts ++ [])) no_lefts ∙ append-nil t.lefts

  rights_made : d.rights.items ≡ t.rights
  rights_made = (adds_then before (adds_then why after)).rights_added ∙ ap (λ x. x ++ (t.rights ++ [])) no_rights ∙ append-nil t.rights

  pub error_made : (places : List SourcePosition) → places ≡ d.lefts.items ++ d.rights.items → with_places (string_bytes d.text) places ≡ error_of t
  error_made places is = same_error message_made (is ∙ ap (λ x. x ++ d.rights.items) lefts_made ∙ ap (λ x. t.lefts ++ x) rights_made)
