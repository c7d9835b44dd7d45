use Rattle.std.proofs.Common.{◌<◌, ◌≤◌, ◌∙◌, None, arith, get_or, length, option_map, refl, subst}
use Rattle.std.proofs.lemmas.List.{length-map, take_all}
use Rattle.std.proofs.lemmas.Option.{slice_get-get_or}
use Rattle.walk.specs.Entering.{EachGives}
use Rattle.walk.specs.Rule.{Appended}
use Rattle.operation_scopes.specs.Index.{operation_names}
use Rattle.rules_positions.specs.JudgedUses.{OperationsGive, values_in}
use Rattle.rules_positions.proofs.Giving.{appended_at}
use Rattle.rules_positions.proofs.judged_uses.report_names.Goals as goal

pub loop-number-preserved : goal.loop-number-preserved
loop-number-preserved g c =
    let written = c.args.index.now.names in
    let names = operation_names c.args.index.now in
    let i = c.loop-number.number in
    let low : i < length names =
    let t = c.loop-number-test.true in let e = c.len-number-end.ensures in let same = written.ok.0 in omega (arith, t, e, same, length-map written.items (option_map (λ n. n.now)))
    in
    let own = c.operation_places-own.ensures ∙ c.requires.index.operations (get_or names i None) i (slice_get-get_or names i None low) in (
      c.in_ok-report_operations.ensures.ready,
      appended_at (λ types name fs. OperationsGive g.J.Judge.variable_of g.J.Judge.judged types c.args.document.now (values_in g.J.Judge.value c.args.uses.now) name fs) c.args.ctx.now names i (get_or names i None) None
          c.loop-number.ctx c.report_operations.new.ctx refl low c.loop-number.invariant.1 (c.in_ok-report_operations.ensures.ok (get_or names i None) own),
    )

pub returns-clause-ok : goal.returns-clause-ok
returns-clause-ok g c =
    let written = c.args.index.now.names in
    let names = operation_names c.args.index.now in
    let all : length names ≤ c.loop-number.number =
    let t = c.loop-number-test.false in let e = c.len-number-end.ensures in let same = written.ok.0 in omega (arith, t, e, same, length-map written.items (option_map (λ n. n.now)))
    in
    subst (λ ns. Appended (EachGives (OperationsGive g.J.Judge.variable_of g.J.Judge.judged c.args.ctx.now.schema.types c.args.document.now (values_in g.J.Judge.value c.args.uses.now)) ns) c.args.ctx.now c.loop-number.ctx) (take_all c.loop-number.number names all) c.loop-number.invariant.1
