use Rattle.std.proofs.Common.{◌≡◌, ◌∙◌, ap, ap₂, false, true}
use Rattle.std.proofs.lemmas.Result.{IfOk-weaker}
use Rattle.clap.specs.Built.{AddsArg}
use Rattle.clap.specs.Simple.{App, app_of, app_of_fields, on_top, with_rule}
use Rattle.clap.specs.Walk.{Rule, rule_of}
use Rattle.clap.specs.declared.builder.arg.Arg.{Arg}
use Rattle.clap.specs.declared.builder.command.Command.{Command}
use Rattle.lint_args.proofs.command_line.command_line.Goals as goal

-- one more argument
more : (app : App) (rule : Rule) (command : Command) (arg : Arg) (next : Command) → app_of command ≡ app → rule_of arg ≡ rule → arg.global ≡ false
    → AddsArg command arg next → app_of next ≡ with_rule app rule
more app rule command arg next is rule_is local adds = adds.shape local ∙ ap₂ with_rule is rule_is

-- all arguments in turn
pub returns : goal.returns
returns c =
    let none = ap app_of_fields c.after_help.ensures ∙ ap app_of_fields c.about.ensures ∙ ap app_of_fields c.version.ensures ∙ ap (on_top (λ shape. record shape { has_version = true })) c.new.ensures.app in
    let format = c.format_argument.ensures.rule in
    let schema = more _ _ _ _ c.in_ok-arg.field-0 none c.schema_argument.ensures.rule c.schema_argument.ensures.local c.in_ok-arg.ensures in
    let formed = more _ _ _ _ c.in_ok-arg-2.field-0 schema format.2 c.format_argument.ensures.local c.in_ok-arg-2.ensures in
    let closed = more _ _ _ _ c.in_ok-arg-3.field-0 formed c.closed_argument.ensures.rule c.closed_argument.ensures.local c.in_ok-arg-3.ensures in
    let varied = more _ _ _ _ c.in_ok-arg-4.field-0 closed c.variables_argument.ensures.rule c.variables_argument.ensures.local c.in_ok-arg-4.ensures in
    let joined = more _ _ _ _ c.in_ok-arg-5.field-0 varied c.together_argument.ensures.rule c.together_argument.ensures.local c.in_ok-arg-5.ensures in
    let limited = more _ _ _ _ c.in_ok-arg-6.field-0 joined c.depth_argument.ensures.rule c.depth_argument.ensures.local c.in_ok-arg-6.ensures in
    let counted = more _ _ _ _ c.in_ok-arg-7.field-0 limited c.errors_argument.ensures.rule c.errors_argument.ensures.local c.in_ok-arg-7.ensures in
    let dialect = c.dialect_argument.ensures.rule in
    let spoken = more _ _ _ _ c.in_ok-arg-8.field-0 counted dialect.2 c.dialect_argument.ensures.local c.in_ok-arg-8.ensures in
    IfOk-weaker c.arg-9.result _ _
    (λ command adds. (
      record { forms = format.0; dialects = dialect.0 },
      record { forms = format.1; dialects = dialect.1 },
      more _ _ _ _ command spoken c.query_argument.ensures.rule c.query_argument.ensures.local adds,
    ))
    c.arg-9.ensures
