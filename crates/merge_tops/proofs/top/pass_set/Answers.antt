use Rattle.std.proofs.Common.{sym, subst, false}
use Rattle.std.specs.List.{Contains}
use Rattle.std.proofs.lemmas.Result.{on_ok_weaker}
use Rattle.merge_sets.specs.World.{world}
use Rattle.merge_search.specs.Reports.{AddsAll, AtPlaces}
use Rattle.merge_tops.specs.Tops.{AllBefore, AtTop}
use Rattle.merge_search.specs.Work.{Pair}
use Rattle.merge_tops.proofs.Passed.{are_there, spreads_merge, top_merged, top_tells}
use Rattle.merge_search.proofs.Work.{did_map}
use Rattle.merge_tops.proofs.top.pass_set.Goals as goal

pub note_merged-requires : goal.note_merged-requires
note_merged-requires g c =
    let v = world g.J.Judge.judgement c.args.graph.now in
    let is = c.spreads.ensures in
    record {
      list = are_there v c.args.s c.spreads.result.now c.args.graph.now.falling is;
      merged = λ f h p q. spreads_merge v c.args.s c.requires f h (subst (λ zs. Contains zs f) is p) (subst (λ zs. Contains zs h) is q);
    }

pub returns-clause-done : goal.returns-clause-done
returns-clause-done g c =
    let v = world g.J.Judge.judgement c.args.graph.now in
    let s = c.args.s in
    on_ok_weaker c.note_merged.result (λ d. did_map v _ _ (λ M h. top_merged v s c.requires M (subst (λ zs. AllBefore (Pair M false) zs) c.spreads.ensures h)) d) c.note_merged.ensures.done

pub returns-clause-real : goal.returns-clause-real
returns-clause-real g c =
    let v = world g.J.Judge.judgement c.args.graph.now in
    let s = c.args.s in
    let xs = c.args.search.now.found.items in
    on_ok_weaker c.note_merged.result (λ e. subst (λ zs. AddsAll v false (AtPlaces v s) (AtTop v s) xs zs) (sym e) (top_tells v s c.requires xs)) c.note_merged.ensures.real
