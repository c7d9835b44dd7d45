use Rattle.std.proofs.Common.{arith, false, subst}
use Rattle.std.proofs.lemmas.Result.{on_ok_weaker}
use Rattle.merge_search.specs.declared.state.Search.{Search}
use Rattle.merge_search.specs.Reports.{AddsAll}
use Rattle.merge_search.specs.Work.{Done}
use Rattle.merge_search.proofs.Steps.{did_before}
use Rattle.merge_tops.proofs.Spends.{each_spends, passed_spends}
use Rattle.std.proofs.lemmas.Option.{slice_get_within}
use Rattle.merge_sets.specs.World.{world}
use Rattle.merge_tops.specs.Tops.{AllBefore, AtBefore}
use Rattle.merge_search.proofs.Adding.{adds_none}
use Rattle.merge_search.proofs.Clearing.{clear_done, clear_tells}
use Rattle.merge_sets.proofs.InOrder.{at_of}
use Rattle.merge_search.proofs.Work.{did_none}
use Rattle.merge_tops.proofs.pairs.compare_each.Goals as goal

pub returns-then-ask_passed : goal.returns-then-ask_passed
returns-then-ask_passed g c =
    let v = world g.J.Judge.judgement c.args.graph.now in
    let xs = c.args.fields.now in
    let t : Search = c.ask_passed.new.search in
    let clear = c.if-ask_passed.ensures.clear in
    let keeps = c.if-ask_passed.ensures.counts.keeps in
    record {
      done = did_before v false _ keeps (did_none v _ t (λ M grown k l a b less p q. clear_done v false xs xs clear M a b (at_of xs k a p) (at_of xs l b q)));
      real = subst (λ zs. AddsAll v false (AtBefore xs) (AtBefore xs) zs t.found.items) keeps.found
          (clear_tells v false xs xs clear (AtBefore xs) (AtBefore xs) _ (λ r z. (at_of xs z.0 r.left z.3, at_of xs z.1 r.right z.4)));
      spends = passed_spends v xs c.args.search.now t c.if-ask_passed.ensures.counts;
    }

pub returns : goal.returns
returns g c =
    let v = world g.J.Judge.judgement c.args.graph.now in
    let xs = c.args.fields.now in
    let keeps = c.ask_passed.ensures.counts.keeps in
    record {
      done = on_ok_weaker c.compare_all.result (λ d. did_before v false (λ M. AllBefore (Done v M false) xs) keeps d) c.compare_all.ensures.done;
      real = on_ok_weaker c.compare_all.result (λ d. subst (λ zs. AddsAll v false (AtBefore xs) (AtBefore xs) zs c.compare_all.new.search.found.items) keeps.found d) c.compare_all.ensures.real;
      spends = on_ok_weaker c.compare_all.result (λ t. each_spends v xs c.args.search.now c.ask_passed.new.search _ c.ask_passed.ensures.counts t) c.compare_all.ensures.takes;
    }

pub returns-then-fields-lt2-clause-real : goal.returns-then-fields-lt2-clause-real
returns-then-fields-lt2-clause-real g c =
    let v = world g.J.Judge.judgement c.args.graph.now in
    let xs = c.args.fields.now in
    record {
      adds = adds_none v false (AtBefore xs) _;
      tells = λ room r z fails. absurd (omega (arith, z.2, slice_get_within xs z.1 r.right z.4, c.if-fields-lt2.true));
    }
