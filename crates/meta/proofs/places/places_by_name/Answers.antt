use Rattle.std.proofs.Common.{◌≡◌, rules, map}
use Rattle.std.specs.Ordering.{is_lt}
use Rattle.std.proofs.lemmas.Fn.{always_returns_same}
use Rattle.meta.specs.Places.{is_below}
use Rattle.meta.proofs.PlaceLemmas.{below_orders, stays_first}
use Rattle.meta.proofs.places.places_by_name.Goals as goal

pub returns-clause-ascending : goal.returns-clause-ascending
returns-clause-ascending g c =
    let names = map g.T.Named.name_of c.args.items.now in
    c.in_ok-sort_by.ensures.sorted (is_below names) (below_orders names) (always_returns_same _ (λ a r. is_lt r ≡ is_below names a.0.now a.1.0.now) _ (λ a r f' k. (search rules, search rules)))

pub returns-clause-first : goal.returns-clause-first
returns-clause-first g c =
    let names = map g.T.Named.name_of c.args.items.now in
    stays_first names c.in_ok-places.places.items c.sort_by.new.self.items
    (c.sort_by.ensures.stable (is_below names) (below_orders names) (always_returns_same _ (λ a r. is_lt r ≡ is_below names a.0.now a.1.0.now) _ (λ a r f' k. (search rules, search rules))))
    c.in_ok-places.ensures
