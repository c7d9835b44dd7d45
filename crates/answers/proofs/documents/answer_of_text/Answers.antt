use Rattle.std.proofs.Common.{IfOk, None, subst, sym}
use Rattle.std.proofs.lemmas.Result.{IfOk-weaker}
use Rattle.graphql_reader.specs.Faults.{IsDocumentFault, IsNoDocument}
use Rattle.answers.specs.declared.reports.Verdict.TheVariants.{Unreadable}
use Rattle.answers.specs.Answers.{IsRead, IsRefusedAt, of_document, of_no_document}
use Rattle.answers.proofs.documents.answer_of_text.Goals as goal

-- the text is a document
pub returns-in-Ok : goal.returns-in-Ok
returns-in-Ok c =
    IfOk-weaker c.answer_of_document.result _ _
    (λ told h. of_document c.as_slice.result.now (subst (IsRead c.args.text.now) (sym c.as_slice.ensures.value) c.in-Ok.ensures.document) h)
    c.answer_of_document.ensures

-- it is none
pub returns-in-Err-Syntax : goal.returns-in-Err-Syntax
returns-in-Err-Syntax c =
    let e = c.in-Err-Syntax.ensures in
    let none = subst (IsNoDocument None c.args.text.now) c.in-Err-Syntax.field-0-is e.none in
    let fault = subst (IsDocumentFault None c.args.text.now) c.in-Err-Syntax.field-0-is e.fault in
    IfOk-weaker c.unreadable.result _ _
    (λ told h. of_no_document (record { error = c.in-Err-Syntax.error; none = none; fault = fault; told = h }))
    (subst (λ x. IfOk c.unreadable.result (IsRefusedAt Unreadable c.args.text.now x.position)) c.in-Err-Syntax.error-is c.unreadable.ensures)
