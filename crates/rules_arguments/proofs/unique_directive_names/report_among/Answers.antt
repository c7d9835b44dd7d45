use Rattle.std.proofs.Common.{◌<◌, ◌≡◌, ◌∙◌, List, ap, length, sym, arith}
use Rattle.std.proofs.lemmas.Result.{on_ok_weaker}
use Rattle.walk.specs.ContextState.{ContextState, with_errors}
use Rattle.rules_support.specs.Names.{Named}
use Rattle.rules_support.specs.Repeats.{repeats}
use Rattle.rules_support.proofs.Reported.{reports_none}
use Rattle.rules_arguments.specs.UniqueDirectiveNames.{once_among, repeated_directive_message}
use Rattle.rules_arguments.proofs.OnceAmong.{few_repeat}
use Rattle.rules_arguments.proofs.unique_directive_names.report_among.Goals as goal

pub returns-then-len-lt2-clause-ok : goal.returns-then-len-lt2-clause-ok
returns-then-len-lt2-clause-ok g c =
    let few : length c.args.directives.now.items < 2 = grind (arith, c.len.ensures, c.if-len-lt2.true) in
    reports_none c.args.ctx.now ∙ ap (with_errors c.args.ctx.now) (sym (few_repeat c.args.ctx.now.schema repeated_directive_message c.args.directives.now.items few))

pub returns-clause-ok : goal.returns-clause-ok
returns-clause-ok g c =
    let told : List Named → ContextState _ _ = λ names. with_errors c.args.ctx.now (repeats repeated_directive_message names) in
    let here = ap (λ w. told (once_among w.schema c.args.directives.now.items)) c.ctx.view_is in
    on_ok_weaker c.report_repeats.result (λ e. e ∙ ap told c.in_ok-once.ensures ∙ here) c.report_repeats.ensures.ok
