use Rattle.std.proofs.Common.{refl}
use Rattle.sdl_own_faults.specs.ListedTypes.{wrong_entry}
use Rattle.sdl_own_faults.proofs.Reported.{after_next_copied}
use Rattle.sdl_own_faults.proofs.listed_types.report_entries.Goals as goal

pub loop-index-preserved : goal.loop-index-preserved
loop-index-preserved c =
    after_next_copied (wrong_entry c.args.defined.now) c.args.names.now c.loop-index.index _ _ _ _ _ c.loop-index-test.true refl c.loop-index.invariant c.in_ok-report_wrong_entry.ensures
