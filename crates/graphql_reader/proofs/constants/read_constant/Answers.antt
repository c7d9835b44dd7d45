use Rattle.std.proofs.Common.{subst}
use Rattle.std.proofs.lemmas.Result.{err_from_is_err_and}
use Rattle.graphql_lexer.specs.Ahead.{left}
use Rattle.graphql_lexer.specs.Lexemes.{AreLexemes}
use Rattle.value_reader.specs.Seen.{value_seen}
use Rattle.graphql_reader.proofs.ConstantLaws.{Only, not_so, constant_read, constant_begins, constant_none, constant_fault, more_none, more_fault}
use Rattle.graphql_reader.proofs.constants.read_constant.Goals as goal

pub returns-then-is_at_end-clause-value : goal.returns-then-is_at_end-clause-value
returns-then-is_at_end-clause-value c =
    let ts = left c.new-tokens.result in
    let are : AreLexemes c.args.text.now ts = subst (λ s. AreLexemes s ts) c.as_bytes.ensures.value c.new-tokens.ensures.lexemes in
    constant_read c.args.text.now ts c.read_value.new.tokens (value_seen c.in_ok-value.value) are c.in_ok-value.ensures.value (c.is_at_end.ensures.0 c.if-is_at_end.true)

pub returns-then-is_at_end-clause-only : goal.returns-then-is_at_end-clause-only
returns-then-is_at_end-clause-only c w is =
    let ts = left c.new-tokens.result in
    let only : Only c.args.text.now ts = subst (λ s. Only s ts) c.as_bytes.ensures.value c.new-tokens.ensures.only in
    let b = constant_begins c.args.text.now ts w only is in
    (c.in_ok-value.ensures.only w _ b.2).0

pub returns-clause-none : goal.returns-clause-none
returns-clause-none c =
    let ts = left c.new-tokens.result in
    let only : Only c.args.text.now ts = subst (λ s. Only s ts) c.as_bytes.ensures.value c.new-tokens.ensures.only in
    more_none c.args.text.now ts c.read_value.new.tokens c.fault.result only (λ w rest b. (c.in_ok-value.ensures.only w rest b).1) (not_so c.is_at_end.result _ c.is_at_end.ensures c.if-is_at_end.false)

pub returns-clause-fault : goal.returns-clause-fault
returns-clause-fault c =
    let ts = left c.new-tokens.result in
    let are : AreLexemes c.args.text.now ts = subst (λ s. AreLexemes s ts) c.as_bytes.ensures.value c.new-tokens.ensures.lexemes in
    more_fault c.args.text.now ts c.read_value.new.tokens (value_seen c.in_ok-value.value) c.fault.result are c.in_ok-value.ensures.value (not_so c.is_at_end.result _ c.is_at_end.ensures c.if-is_at_end.false) c.fault.ensures

pub returns-in_err-value-clause-none : goal.returns-in_err-value-clause-none
returns-in_err-value-clause-none c =
    let ts = left c.new-tokens.result in
    let only : Only c.args.text.now ts = subst (λ s. Only s ts) c.as_bytes.ensures.value c.new-tokens.ensures.only in
    let p = err_from_is_err_and c.from_residual.result c.from_residual.ensures.1 in
    rw (p.1, p.2) (constant_none c.args.text.now ts _ only c.in_err-value.ensures.none)

pub returns-in_err-value-clause-fault : goal.returns-in_err-value-clause-fault
returns-in_err-value-clause-fault c =
    let ts = left c.new-tokens.result in
    let are : AreLexemes c.args.text.now ts = subst (λ s. AreLexemes s ts) c.as_bytes.ensures.value c.new-tokens.ensures.lexemes in
    let p = err_from_is_err_and c.from_residual.result c.from_residual.ensures.1 in
    rw (p.1, p.2) (constant_fault c.args.text.now ts (left c.read_value.new.tokens) _ are c.in_err-value.ensures.fault)
