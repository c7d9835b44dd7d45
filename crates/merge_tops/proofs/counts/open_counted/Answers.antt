use Rattle.std.proofs.Common.{◌≡◌, ◌∙◌, ℕ, ap, length, min, rules, subst}
use Rattle.std.specs.Prelude.{sum_by}
use Rattle.merge_sets.specs.World.{world}
use Rattle.merge_search.specs.Counts.{greatest, spread_count}
use Rattle.merge_tops.specs.TopCounts.{CountsOpening}
use Rattle.merge_tops.proofs.counts.open_counted.Goals as goal

pub returns-clause-counts : goal.returns-clause-counts
returns-clause-counts g c =
    let v = world g.J.Judge.judgement c.args.graph.now in
    let hs = c.open_reached.new.opening.order.items in
    let looked : c.spreads_of_all-looked.result ≡ min (sum_by (spread_count v) hs) greatest =
    c.spreads_of_all-looked.ensures ∙ ap (λ xs. min (sum_by (spread_count v) xs) greatest) c.as_slice.ensures.value in
    let is : c.len.result ≡ length hs = search rules in
    subst (λ l. CountsOpening (length hs) l c.args.counts.now c.count_opening.new.counts) looked
    (subst (λ (k : ℕ). CountsOpening k c.spreads_of_all-looked.result c.args.counts.now c.count_opening.new.counts) is c.count_opening.ensures)
