use Rattle.std.proofs.Common.{inl, inr, sym, ◌∙◌, false}
use Rattle.std.proofs.lemmas.Result.{on_ok_weaker}
use Rattle.merge_sets.specs.World.{world}
use Rattle.merge_search.specs.Work.{pair_in}
use Rattle.merge_sets.proofs.Harmless.{one_merges}
use Rattle.merge_search.proofs.Work.{did_none, did_passed, covers_yes, covers_no}
use Rattle.merge_search.proofs.Worth.{pair_kept}
use Rattle.merge_tops.proofs.passing.pass_over.Goals as goal

pub returns-then-is_compared-clause-done : goal.returns-then-is_compared-clause-done
returns-then-is_compared-clause-done g c =
    let v = world g.J.Judge.judgement c.args.graph.now in
    let z = covers_yes (pair_in c.args.search.now) false c.args.f c.args.g (sym c.is_compared.ensures ∙ c.if-is_compared.true) in
    did_none v _ c.args.search.now (λ M grown. inr (z.0, z.1, grown.more_pairs z.0 c.args.f c.args.g z.2))

pub returns-clause-done : goal.returns-clause-done
returns-clause-done g c =
    let v = world g.J.Judge.judgement c.args.graph.now in
    on_ok_weaker c.note_pair.result (λ n. did_passed v c.args.f c.args.g n c.if-f-g.false c.requires.first c.requires.second
    (covers_no (pair_in c.args.search.now) false c.args.f c.args.g (sym c.is_compared.ensures ∙ c.if-is_compared.false)) (inl (one_merges v c.args.f c.args.g c.requires.plain))) c.note_pair.ensures

pub returns-clause-spends : goal.returns-clause-spends
returns-clause-spends g c = on_ok_weaker c.note_pair.result (λ n. pair_kept (world g.J.Judge.judgement c.args.graph.now) _ _ c.args.f c.args.g false n) c.note_pair.ensures
