use Rattle.std.proofs.Common.{[], get_or, map, sym}
use Rattle.std.proofs.lemmas.Option.{slice_get-get_or, get_or_from_slice_get}
use Rattle.variable_usages.specs.InReachUses.{kept_uses}
use Rattle.variable_usages.specs.Uses.{use_of}
use Rattle.variable_usages.proofs.UseLemmas.{more_uses}
use Rattle.variable_usages.proofs.uses.list_uses.Goals as goal

pub loop-place-preserved : goal.loop-place-preserved
loop-place-preserved c =
    let places = c.args.places.now in
    let i = c.loop-place.place-index in
    let k = get_or places i 0 in
    more_uses (kept_uses c.args.all.now) places i k [] (map use_of c.loop-place.found.items) (map use_of c.add_uses_at.new.found.items)
    (sym (get_or_from_slice_get places i k k (slice_get-get_or places i 0 c.loop-place-test.true))) c.loop-place-test.true c.loop-place.invariant c.in_ok-add_uses_at.ensures
