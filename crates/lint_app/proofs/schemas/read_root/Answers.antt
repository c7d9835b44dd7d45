use Rattle.std.proofs.Common.{ap, subst, sym, ◌∙◌}
use Rattle.lint_app.specs.Tasks.{IsRootOf, IsSchemaOf}
use Rattle.lint_app.specs.Told.{Root}
use Rattle.lint_app.proofs.Roots.{closed_root, open_root}
use Rattle.lint_app.proofs.schemas.read_root.Goals.{then-task, else-task}
use Rattle.lint_app.proofs.schemas.read_root.Goals as goal

pub returns : goal.returns
returns g c =
    let task = c.args.task.now in
    let schema = c.in_ok-schema.schema in
    let root = c.with_max_errors-root.result in
    let made = c.with_max_errors-root.ensures ∙ ap (λ (r : Root). record r { max_errors = task.max_errors }) c.new.ensures in
    let is = subst (λ d. IsSchemaOf d schema) c.dialect_of.ensures c.in_ok-schema.ensures in
    let of = ap (λ r. r.schema) made in
    let limit = ap (λ r. r.max_errors) made in
    elim c.if-task.branch [
      | then-task w ↦ subst (IsRootOf task) (sym w.result-is) (closed_root task schema root is w.disable_introspection.result of limit w.if-task.true w.disable_introspection.ensures)
      | else-task w ↦ subst (IsRootOf task) (sym w.result-is) (open_root task schema root is of limit (ap (λ r. r.introspection_disabled) made) w.if-task.false)
    ]
