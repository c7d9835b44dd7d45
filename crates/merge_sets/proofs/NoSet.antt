-- Nothing stands in a set that isn't there.
use Rattle.std.proofs.Common.{◌≡◌, ℕ, ◌≤◌, [], ap, length}
use Rattle.std.specs.Option.{option_map_or}
use Rattle.std.proofs.lemmas.Option.{slice_get_past}
use Rattle.merge_sets.specs.World.{World, own_of, spreads_of}

pub no_own : (w : World) (s : ℕ) → length w.sets ≤ s → length (own_of w s) ≡ 0
no_own w s le = ap (λ o. length (option_map_or (λ n. n.own.items) o [])) (slice_get_past w.sets s le)

pub no_spreads : (w : World) (s : ℕ) → length w.sets ≤ s → length (spreads_of w s) ≡ 0
no_spreads w s le = ap (λ o. length (option_map_or (λ n. n.spreads.items) o [])) (slice_get_past w.sets s le)
