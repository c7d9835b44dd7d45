use Rattle.std.proofs.Common.{◌≡◌, length}
use Rattle.lint_app.proofs.Endings.{always, part_kept, part_taken, where_ok, whole_taken}
use Rattle.lint_app.proofs.writing.write_text.Goals as goal

-- a part was taken
pub returns-in_err-outcome-clause-part : goal.returns-in_err-outcome-clause-part
returns-in_err-outcome-clause-part g c = part_taken _ c.args.text.now c.send-outcome.result.0 _ _ c.as_bytes.ensures.value c.send-outcome.ensures.taken

-- all of it was
pub returns-clause-whole : goal.returns-clause-whole
returns-clause-whole g c =
    let all = where_ok c.send-outcome.result.1 _ (c.send-outcome.result.0 ≡ length c.as_bytes.result.now) c.in_ok-outcome.was c.send-outcome.ensures.all in
    always c.flush.result (whole_taken _ c.args.text.now c.send-outcome.result.0 _ _ _ c.as_bytes.ensures.value all c.send-outcome.ensures.taken c.flush.ensures.bytes)

pub returns-clause-part : goal.returns-clause-part
returns-clause-part g c = part_kept c.args.text.now _ _ _ (part_taken _ c.args.text.now c.send-outcome.result.0 _ _ c.as_bytes.ensures.value c.send-outcome.ensures.taken) c.flush.ensures.bytes
