use Rattle.lint_sources.proofs.LineEnds.{counts_more, counts_all}
use Rattle.lint_sources.proofs.text_places.lines_ended.Goals as goal

pub loop-byte-preserved : goal.loop-byte-preserved
loop-byte-preserved c =
    counts_more c.args.text.now c.loop-byte.byte-index c.loop-byte.ended c.loop-byte.after_return _ c.loop-byte-test.true c.loop-byte.invariant c.more_ended-ended.ensures

pub returns-clause-ended : goal.returns-clause-ended
returns-clause-ended c = (counts_all c.args.text.now _ _ _ c.loop-byte-test.false c.loop-byte.invariant).0

pub returns-clause-fed : goal.returns-clause-fed
returns-clause-fed c = (counts_all c.args.text.now _ _ _ c.loop-byte-test.false c.loop-byte.invariant).1
