use Rattle.std.proofs.Common.{◌∙◌, ◌++◌, ap, cond, length, sym}
use Rattle.lint_app.specs.Told.{issues_of}
use Rattle.lint_app.proofs.Telling.{some_as}
use Rattle.lint_app.proofs.documents.Judge.together.Goals as goal

-- the files are one document
pub returns : goal.returns
returns c =
    let adds = c.in_ok-judge_joined.ensures in
    record {
      outcome = adds.outcome;
      all = some_as _ _ (λ issues h. (c.in_ok-joined.joined, c.in_ok-joined.ensures, h)) adds.outcome adds.told;
      issues = adds.all ∙ ap (λ xs. xs ++ issues_of adds.outcome) c.new-issues.ensures.items;
      judged = sym (ap (λ b. cond b (length c.args.self.now.sources.now) 0) (sym adds.is ∙ c.if-not-branch-2.false));
    }
