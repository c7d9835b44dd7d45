use Rattle.std.proofs.Common.{arith, ◌≡◌, [], None, sym, subst, string_bytes, option_map, reverse}
use Rattle.std.proofs.lemmas.Grind.{common_steps}
use Rattle.std.proofs.lemmas.Result.{IfOk-weaker}
use Rattle.language_values.specs.ValuesPrinted.{printed_value}
use Rattle.literals.specs.Begun.{AfterAll}
use Rattle.literals.proofs.BegunLaws.{after_none, told_after}
use Rattle.literals.proofs.judged.fault_of_left.Goals as goal

pub returns-then-is_empty : goal.returns-then-is_empty
returns-then-is_empty g c =
    let may = g.S.CheckedScalar.may_answer in
    let shown = printed_value g.S.ScalarValue.text g.S.ScalarValue.str_of in
    let schema = c.args.schema.now in
    let nil : c.loop.left.items ≡ [] = grind (arith, common_steps) in
    c.loop.invariant.0 None (after_none schema may shown c.loop.left.items nil)

pub returns-in-Some : goal.returns-in-Some
returns-in-Some g c =
    let may = g.S.CheckedScalar.may_answer in
    let shown = printed_value g.S.ScalarValue.text g.S.ScalarValue.str_of in
    let schema = c.args.schema.now in
    let new = c.go_on_last.new.begun.items in
    IfOk-weaker c.within.result _ _
    (λ a e. c.loop.invariant.0 (option_map string_bytes a)
    (c.in_ok-fault.ensures.leads (option_map string_bytes a)
    (subst (λ o. AfterAll schema may shown (reverse new) (option_map string_bytes o) (option_map string_bytes a)) (sym c.in-Some.is)
    (told_after schema may shown new c.as_slice.result.now (string_bytes c.in-Some.fault) c.as_str.result.now (option_map string_bytes a) e c.as_slice.ensures.value c.as_str.ensures.value))))
    c.within.ensures

pub loop-preserved : goal.loop-preserved
loop-preserved g c =
    let may = g.S.CheckedScalar.may_answer in
    let shown = printed_value g.S.ScalarValue.text g.S.ScalarValue.str_of in
    let schema = c.args.schema.now in
    let new = c.go_on_last.new.begun.items in (
      λ fault after. c.loop.invariant.0 fault (c.in_ok-fault.ensures.leads fault (subst (λ o. AfterAll schema may shown (reverse new) (option_map string_bytes o) fault) (sym c.in-None.is) after)),
      c.in_ok-fault.ensures.known,
    )
