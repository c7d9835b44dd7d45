use Rattle.std.proofs.Common.{sym, drop_of_length-le}
use Rattle.lint_app.specs.contracts.rules.SourceScalarLintRules.TheImpl.{rules-value}
use Rattle.lint_app.proofs.KnownTypes.{known_types}
use Rattle.lint_app.proofs.Telling.{faults_all, faults_more, faults_none}
use Rattle.lint_app.proofs.documents.Judge.add_faults_of_values.Goals as goal

pub add_faults_at-requires : goal.add_faults_at-requires
add_faults_at-requires c =
    known_types rules-value.it c.args.self.now.root.now c.args.document.now c.definition-item.result c.requires c.clean_by_each_dialect.ensures (c.loop-definition.definition-index, c.loop-definition-test.true, sym c.definition-item.is)

pub loop-definition-init : goal.loop-definition-init
loop-definition-init c = faults_none c.args.self.now.root.now c.args.values.now c.args.joined.now c.args.file c.args.document.now c.args.issues.now.items

pub loop-definition-preserved : goal.loop-definition-preserved
loop-definition-preserved c =
    faults_more c.args.self.now.root.now c.args.values.now c.args.joined.now c.args.file c.args.document.now c.loop-definition.definition-index c.definition-item.result c.args.issues.now.items c.loop-definition.issues.items c.add_faults_at.new.issues.items c.loop-definition-test.true c.definition-item.is c.loop-definition.invariant c.in_ok-add_faults_at.ensures

pub returns : goal.returns
returns c =
    faults_all c.args.self.now.root.now c.args.values.now c.args.joined.now c.args.file c.args.document.now c.loop-definition.definition-index c.args.issues.now.items c.loop-definition.issues.items (drop_of_length-le c.args.document.now c.loop-definition-test.false) c.loop-definition.invariant
