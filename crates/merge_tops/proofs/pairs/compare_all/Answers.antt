use Rattle.std.proofs.Common.{◌*◌, ◌+◌, arith, length, false}
use Rattle.std.proofs.lemmas.Result.{on_ok_weaker}
use Rattle.merge_sets.specs.World.{world}
use Rattle.merge_search.specs.declared.state.Search.{Search}
use Rattle.merge_search.specs.Reports.{AddsAll}
use Rattle.merge_search.specs.Work.{Done}
use Rattle.merge_search.proofs.Settling.{kept_twice}
use Rattle.merge_search.proofs.Steps.{did_before}
use Rattle.merge_tops.specs.TopCosts.{later_cost}
use Rattle.merge_tops.specs.Tops.{AllBefore, AtBefore}
use Rattle.merge_tops.proofs.Spends.{asks_take, takes_more, takes_then}
use Rattle.std.proofs.Common.{subst}
use Rattle.merge_tops.proofs.pairs.compare_all.Goals as goal

pub compare_known-requires : goal.compare_known-requires
compare_known-requires g c = record {
  clear = c.in_ok-clear.ensures.rows;
  pairs = record { below = c.in_ok-below.ensures.knows; indexed = c.in_ok-below.ensures.indexed; kinds = c.in_ok-kinds.ensures.stand };
  plain = c.requires;
}

pub returns : goal.returns
returns g c =
    let v = world g.J.Judge.judgement c.args.graph.now in
    let xs = c.args.fields.now in
    let n = length xs in
    let s : Search = c.args.search.now in
    let keeps = kept_twice (kept_twice c.in_ok-clear.ensures.counts.keeps c.in_ok-below.ensures.counts.keeps) c.in_ok-kinds.ensures.counts.keeps in
    let asked = takes_then v (n * n + n * n) (n * n) s _ _
    (takes_then v (n * n) (n * n) s _ _ (asks_take v (n * n) s _ c.in_ok-clear.ensures.counts) (asks_take v (n * n) _ _ c.in_ok-below.ensures.counts))
    (asks_take v (n * n) _ _ c.in_ok-kinds.ensures.counts) in
    record {
      done = on_ok_weaker c.compare_known.result (λ d. did_before v false (λ M. AllBefore (Done v M false) xs) keeps d) c.compare_known.ensures.done;
      real = on_ok_weaker c.compare_known.result (λ d. subst (λ zs. AddsAll v false (AtBefore xs) (AtBefore xs) zs c.compare_known.new.search.found.items) keeps.found d) c.compare_known.ensures.real;
      takes = on_ok_weaker c.compare_known.result
          (λ t. takes_more v _ (8 * later_cost v xs + 4 * (n * n)) s _ (omega arith) (takes_then v (n * n + n * n + n * n) (8 * later_cost v xs + n * n) s _ _ asked t)) c.compare_known.ensures.takes;
    }
