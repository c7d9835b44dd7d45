use Rattle.std.proofs.Common.{◌≡◌, ◌∙◌, ℕ, ap, length, min, rules, subst}
use Rattle.std.specs.Prelude.{sum_by}
use Rattle.merge_sets.specs.World.{world}
use Rattle.merge_search.specs.Counts.{greatest, spread_count}
use Rattle.merge_search.specs.State.{CountsList}
use Rattle.merge_search.proofs.Asking.{below_kept}
use Rattle.merge_search.proofs.opening.opened.Goals as goal

pub returns : goal.returns
returns g c =
    let v = world g.J.Judge.judgement c.args.graph.now in
    let hs = c.open_from.new.opening.order.items in
    let looked : c.spreads_of_all-looked.result ≡ min (sum_by (spread_count v) hs) greatest =
    c.spreads_of_all-looked.ensures ∙ ap (λ xs. min (sum_by (spread_count v) xs) greatest) c.as_slice.ensures.value in
    let is : c.len.result ≡ length hs = search rules in
    record {
      mid = c.open_from.new.search;
      opens = below_kept v c.args.e c.args.i c.args.g hs c.args.search.now c.take_opening-opening.new.search c.open_from.new.search c.take_opening-opening.ensures.keeps
          c.take_opening-opening.ensures.counts c.in_ok-open_from.ensures;
      counts = subst (λ l. CountsList (length hs) l c.open_from.new.search c.count_list.new.search) looked
          (subst (λ (k : ℕ). CountsList k c.spreads_of_all-looked.result c.open_from.new.search c.count_list.new.search) is c.count_list.ensures);
    }
