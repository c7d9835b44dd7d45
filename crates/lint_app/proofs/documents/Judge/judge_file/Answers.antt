use Rattle.std.proofs.Common.{refl, subst}
use Rattle.lint_app.proofs.Telling.{some_as}
use Rattle.lint_sources.specs.Places.{JoinsFile}
use Rattle.lint_app.proofs.documents.Judge.judge_file.Goals as goal

-- the text has this file alone
pub returns : goal.returns
returns c =
    let adds = c.in_ok-is_document.ensures in
    let joins = subst (λ text. JoinsFile c.new-joined.result c.args.file text c.add.new.self) c.as_str.ensures.value c.in_ok-add.ensures in
    record {
      outcome = adds.outcome;
      told = some_as _ _ (λ issues h. (c.add.new.self, (c.new-joined.result, c.new-joined.ensures, (c.add.new.self, joins, refl)), h)) adds.outcome adds.told;
      is = adds.is;
      all = adds.all;
    }
