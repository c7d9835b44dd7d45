use Rattle.std.proofs.Common.{refl}
use Rattle.language_values.proofs.LastValue.{IsMapOf-more}
use Rattle.language_values.proofs.value.map_of_entries.Goals as goal

pub loop-key-preserved : goal.loop-key-preserved
loop-key-preserved g c =
    IsMapOf-more c.args.entries.now c.loop-key.key-index c.loop-key-item.result c.as_str.result.now _ c.loop-key.map c.insert.new.self
    c.loop-key-test.true c.loop-key-item.is c.as_str.ensures.value refl c.loop-key.invariant c.in_ok-insert.ensures.updates
