use Rattle.std.proofs.Common.{◌≡◌, ◌++◌, IfOk, subst}
use mathlib.Core.Path.{fun_ext}
use Rattle.std.proofs.lemmas.List.{append-nil}
use Rattle.walk.specs.ContextState.{with_errors}
use Rattle.rules_support.specs.FirstPlaces.{places_of}
use Rattle.rules_support.specs.Repeats.{repeat_at}
use Rattle.rules_support.proofs.repeats.note_name.Goals as goal

-- nothing stands behind the name
pub returns-clause-ok : goal.returns-clause-ok
returns-clause-ok g c =
    subst (λ message. IfOk c.report_repeat.result (λ _. c.report_repeat.new.ctx ≡ with_errors c.args.ctx.now (repeat_at message (places_of c.args.names.now c.args.name.now) (c.args.name.now, c.args.place))))
    (fun_ext (λ n. append-nil (c.args.before.now ++ n))) c.report_repeat.ensures.ok
