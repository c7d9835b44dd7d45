use Rattle.std.proofs.Common.{arith, drop_of_length-le}
use Rattle.std.specs.Option.{option_copied}
use Rattle.lint_app.specs.Told.{TellsFile}
use Rattle.lint_app.proofs.Telling.{each_more, each_none, one_at_most}
use Rattle.lint_app.specs.contracts.rules.SourceScalarLintRules.TheImpl.{rules-value}
use Rattle.variable_values.proofs.InTurns.{done_all}
use Rattle.lint_app.proofs.documents.Judge.each.Goals as goal

pub loop-file-init : goal.loop-file-init
loop-file-init c = record {
  told = each_none rules-value.it c.args.self.now.root.now (option_copied c.args.self.now.values) c.args.self.now.sources.now c.new-issues.result.items c.new-issues.ensures.items;
  few = omega arith;
}

-- one more file
pub loop-file-preserved : goal.loop-file-preserved
loop-file-preserved c = record {
  told = each_more rules-value.it c.args.self.now.root.now (option_copied c.args.self.now.values) c.args.self.now.sources.now c.loop-file.file c.index-sources-file.result c.in_ok-is_document.is_document c.loop-file.issues.items c.judge_file.new.issues.items c.loop-file.judged c.from-judged.result
      c.loop-file-test.true c.index-sources-file.is c.in_ok-is_document.ensures c.from-judged.ensures c.loop-file.invariant.told;
  few = omega (arith, one_at_most c.in_ok-is_document.is_document c.from-judged.result c.from-judged.ensures, c.loop-file.invariant.few);
}

-- all files
pub returns : goal.returns
returns c =
    let told = c.loop-file.invariant.told in
    let files = c.args.self.now.sources.now in
    record {
      outcomes = told.0;
      each = done_all (TellsFile rules-value.it c.args.self.now.root.now (option_copied c.args.self.now.values)) files c.loop-file.file told.0 (drop_of_length-le files c.loop-file-test.false) told.1;
      issues = told.2;
      judged = told.3;
    }
