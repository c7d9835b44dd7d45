use Rattle.std.proofs.Common.{◌≡◌, ap, length, subst}
use Rattle.std.proofs.lemmas.Result.{IfOk-weaker}
use Rattle.walk.specs.ContextState.{typing, scope_of}
use Rattle.walk_examples.specs.KeptFields.{fields_of}
use Rattle.walk_examples.proofs.kept_fields.count_lent.Goals as goal

-- the context was made for the document, and has no types
pub returns : goal.returns
returns g c =
    let document = c.args.document.now in
    let made = c.in_ok-ctx.ensures in
    IfOk-weaker c.count_fields.result _ _
    (λ count counted. subst (λ w. count ≡ length (fields_of (scope_of w.schema document) (typing w) document)) made (counted (ap (λ w. w.known) made)))
    c.count_fields.ensures
