use Rattle.std.proofs.Common.{List, [], false, length, replicate, rules, subst, sym, ℕ, ◌≡◌}
use Rattle.graph_ways.specs.Leaving.{Sound}
use Rattle.graph_ways.proofs.Leaving.{sound_start}
use Rattle.graph_ways.proofs.order.new_search.Goals as goal

pub returns : goal.returns
returns c =
    let g = c.args.graph.now in
    let o = c.in_ok-order.order in
    let e = c.in_ok-order.ensures in
    let met = c.in_ok-vec.field-0.items in
    let no_met : met ≡ replicate (length g) false = search rules in
    record {
      sound = subst (λ (left : List ℕ). Sound g left [] met o.ranks.items o.firsts.items o.found_by.items o.looked.items) (sym e.nodes)
          (sound_start g met o.ranks.items o.firsts.items o.found_by.items o.looked.items no_met e.ranks e.firsts e.found e.looked);
      none = c.new.ensures.items;
    }
