use Rattle.std.proofs.Common.{get_or, sym}
use Rattle.std.proofs.lemmas.Option.{slice_get-get_or, get_or_from_slice_get}
use Rattle.operation_scopes.specs.Searches.{fragment_places}
use Rattle.operation_scopes.proofs.Joined.{more_flat}
use Rattle.operation_scopes.proofs.reach.add_fragments.Goals as goal

pub loop-number-preserved : goal.loop-number-preserved
loop-number-preserved c =
    let order = c.args.order.now in
    let i = c.loop-number.number-index in
    let k = get_or order i 0 in
    more_flat (fragment_places c.args.index.now) order i k c.args.places.now.items c.loop-number.places.items c.add_fragment.new.places.items
    (sym (get_or_from_slice_get order i k k (slice_get-get_or order i 0 c.loop-number-test.true))) c.loop-number-test.true c.loop-number.invariant c.in_ok-add_fragment.ensures
