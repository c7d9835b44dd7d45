use Rattle.std.proofs.Common.{◌+◌, drop_of_length-le, subst, sym}
use Rattle.answers.proofs.Told.{known_types}
use Rattle.answers.specs.Answers.{FaultsAt}
use Rattle.answers.specs.contracts.rules.SourceScalarAnswerRules.TheImpl.{rules-value}
use Rattle.variable_values.proofs.InTurns.{Done, done_all, done_more}
use Rattle.answers.proofs.values.faults_in.Goals as goal

pub faults_at-requires : goal.faults_at-requires
faults_at-requires c =
    known_types rules-value.it c.args.choices c.args.schema.now c.args.document.now c.definition-item.result c.requires (c.clean_by_each_dialect.ensures c.args.schema.now.dialect)
    (c.loop-definition.definition-index, c.loop-definition-test.true, sym c.definition-item.is)

pub loop-definition-init : goal.loop-definition-init
loop-definition-init c =
    subst (Done (λ index. FaultsAt c.args.schema.now c.args.values.now) c.args.document.now 0) (sym c.new-faults.ensures.items) (λ rest left. left)

-- one more definition
pub loop-definition-preserved : goal.loop-definition-preserved
loop-definition-preserved c =
    subst (Done (λ index. FaultsAt c.args.schema.now c.args.values.now) c.args.document.now (c.loop-definition.definition-index + 1)) (sym c.in_ok-append.ensures.items)
    (done_more (λ index. FaultsAt c.args.schema.now c.args.values.now) c.args.document.now c.loop-definition.definition-index c.definition-item.result c.loop-definition.faults.items c.in_ok-found.found.items
    c.loop-definition-test.true c.definition-item.is c.loop-definition.invariant c.in_ok-found.ensures)

pub returns : goal.returns
returns c =
    done_all (λ index. FaultsAt c.args.schema.now c.args.values.now) c.args.document.now c.loop-definition.definition-index c.loop-definition.faults.items
    (drop_of_length-le c.args.document.now c.loop-definition-test.false) c.loop-definition.invariant
