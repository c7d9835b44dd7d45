use Rattle.std.proofs.Common.{Some, refl, sym, subst}
use Rattle.std.specs.Prelude.{map}
use Rattle.graphql_reader.specs.Documents.{IsDocument, definition_seen}
use Rattle.lint_app.proofs.documents.Judge.judge_joined.Goals as goal

-- the text is a document
pub returns-in_ok-add_issues-in-Ok : goal.returns-in_ok-add_issues-in-Ok
returns-in_ok-add_issues-in-Ok c =
    let adds = c.in_ok-add_issues-in-Ok.ensures in
    let limit = c.args.self.now.max_depth in
    let read = subst (λ xs. IsDocument limit c.text.result.now (map definition_seen xs)) (sym c.as_slice.ensures.value) c.in-Ok.ensures.document in
    let of_text = subst (λ text. IsDocument limit text (map definition_seen c.as_slice.result.now)) c.text.ensures read in
    record { outcome = Some adds.more; told = (c.as_slice.result.now, (limit, of_text), adds.told); is = refl; all = adds.all }
