use Rattle.std.proofs.Common.{refl, subst, sym, drop_of_length-le}
use Rattle.lint_files.specs.Read.{JoinsFiles}
use Rattle.lint_sources.specs.Places.{JoinsFile}
use Rattle.schema_validation.proofs.Finds.{rest_at}
use Rattle.lint_files.proofs.files.joined_of.Goals as goal

-- one more file
pub loop-file-preserved : goal.loop-file-preserved
loop-file-preserved c = λ new left.
    let joins = subst (λ text. JoinsFile c.loop-file.joined c.loop-file.file text c.add.new.self) c.as_str.ensures.value c.in_ok-add.ensures in
    let rest = rest_at c.args.sources.now c.loop-file.file c.index-sources-file.result c.loop-file-test.true c.index-sources-file.is in
    c.loop-file.invariant new (subst (λ files. JoinsFiles c.loop-file.file files c.loop-file.joined new) (sym rest) (c.add.new.self, joins, left))

-- all files
pub returns : goal.returns
returns c =
    let none = drop_of_length-le c.args.sources.now c.loop-file-test.false in (
      c.new-joined.result,
      c.new-joined.ensures,
      c.loop-file.invariant c.loop-file.joined (subst (λ files. JoinsFiles c.loop-file.file files c.loop-file.joined c.loop-file.joined) (sym none) refl),
    )
