use Rattle.std.proofs.Common.{◌≡◌, true, false, rules as std_rules, subst}
use Rattle.std.proofs.lemmas.Result.{err_from_is_err_and}
use Rattle.language_types.specs.declared.position.SourcePosition.{SourcePosition}
use Rattle.graphql_lexer.specs.Ahead.{ahead_of, left}
use Rattle.value_reader.specs.Seen.{allows, rules_of, value_seen, IsVariable}
use Rattle.value_reader.proofs.ReadLoop.{read_once}
use Rattle.value_reader.proofs.Short.{dollar_none, dollar_fault, dollar_placed, dollar_goes_on, dollar_no_fault, named_goes_on, named_begins, nameless_none, nameless_fault, nameless_placed}
use Rattle.value_reader.proofs.reader.read_variable.Goals as goal

pub returns-then-eq-clause-none : goal.returns-then-eq-clause-none
returns-then-eq-clause-none c =
    let no : allows c.args.variables ≡ false = search std_rules in
    dollar_none (rules_of c.args.variables c.args.max_depth) c.args.tokens.now c.fault.result c.requires no (c.fault.ensures (dollar_no_fault (ahead_of c.args.tokens.now) c.requires))

pub returns-then-eq-clause-fault : goal.returns-then-eq-clause-fault
returns-then-eq-clause-fault c =
    let no : allows c.args.variables ≡ false = search std_rules in
    dollar_fault (rules_of c.args.variables c.args.max_depth) c.args.tokens.now c.fault.result c.requires no (c.fault.ensures (dollar_no_fault (ahead_of c.args.tokens.now) c.requires))

pub returns-then-eq-clause-placed : goal.returns-then-eq-clause-placed
returns-then-eq-clause-placed c =
    let no : allows c.args.variables ≡ false = search std_rules in
    dollar_placed (rules_of c.args.variables c.args.max_depth) c.args.tokens.now c.fault.result c.requires no (c.fault.ensures (dollar_no_fault (ahead_of c.args.tokens.now) c.requires))

pub returns-in_err-value-clause-none : goal.returns-in_err-value-clause-none
returns-in_err-value-clause-none c =
    let allowed : allows c.args.variables ≡ true = search std_rules in
    let next = c.advance.ensures.left (dollar_goes_on (ahead_of c.args.tokens.now) c.requires) in
    let p = err_from_is_err_and c.from_residual.result c.from_residual.ensures.1 in
    rw (p.1, p.2) (nameless_none (rules_of c.args.variables c.args.max_depth) c.args.tokens.now c.advance.new.self _ c.requires allowed next c.in_err-value.ensures.refused)

pub returns-in_err-value-clause-fault : goal.returns-in_err-value-clause-fault
returns-in_err-value-clause-fault c =
    let allowed : allows c.args.variables ≡ true = search std_rules in
    let next = c.advance.ensures.left (dollar_goes_on (ahead_of c.args.tokens.now) c.requires) in
    let p = err_from_is_err_and c.from_residual.result c.from_residual.ensures.1 in
    rw (p.1, p.2) (nameless_fault (rules_of c.args.variables c.args.max_depth) c.args.tokens.now c.advance.new.self _ c.requires allowed next c.in_err-value.ensures.refused)

pub returns-in_err-value-clause-placed : goal.returns-in_err-value-clause-placed
returns-in_err-value-clause-placed c =
    let p = err_from_is_err_and c.from_residual.result c.from_residual.ensures.1 in
    rw (p.1, p.2) (nameless_placed (rules_of c.args.variables c.args.max_depth) c.advance.new.self _ c.in_err-value.ensures.refused)

pub returns-clause-value : goal.returns-clause-value
returns-clause-value c =
    let old = c.args.tokens.now in
    let mid = c.advance.new.self in
    let v = value_seen c.in_ok-value.value in
    let allowed : allows c.args.variables ≡ true = search std_rules in
    let next = c.advance.ensures.left (dollar_goes_on (ahead_of old) c.requires) in
    let P : SourcePosition → Type 0 = λ s. IsVariable s (ahead_of mid) v in
    let named = subst P c.start-start.ensures c.in_ok-value.ensures.value in
    let last = c.advance-2.ensures.left (named_goes_on c.start-start.result (ahead_of mid) v c.in_ok-value.ensures.value) in
    named_begins (rules_of c.args.variables c.args.max_depth) old mid c.advance-2.new.self v c.requires allowed next named last

pub returns-clause-only : goal.returns-clause-only
returns-clause-only c w rest b =
    let old = c.args.tokens.now in
    let mid = c.advance.new.self in
    let v = value_seen c.in_ok-value.value in
    let rules = rules_of c.args.variables c.args.max_depth in
    let allowed : allows c.args.variables ≡ true = search std_rules in
    let next = c.advance.ensures.left (dollar_goes_on (ahead_of old) c.requires) in
    let P : SourcePosition → Type 0 = λ s. IsVariable s (ahead_of mid) v in
    let named = subst P c.start-start.ensures c.in_ok-value.ensures.value in
    let last = c.advance-2.ensures.left (named_goes_on c.start-start.result (ahead_of mid) v c.in_ok-value.ensures.value) in
    read_once rules (left old) c.advance-2.new.self v w rest (named_begins rules old mid c.advance-2.new.self v c.requires allowed next named last) b
