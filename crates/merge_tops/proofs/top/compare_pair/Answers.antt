use Rattle.std.proofs.Common.{inr, false, sym, subst}
use Rattle.std.proofs.lemmas.Result.{on_ok_weaker}
use Rattle.merge_sets.specs.World.{world}
use Rattle.merge_search.specs.Reports.{Adds, AtFragments}
use Rattle.merge_search.proofs.Adding.{adds_none}
use Rattle.merge_tops.proofs.top.compare_pair.Goals as goal

pub pass_over-requires : goal.pass_over-requires
pass_over-requires g c = record { first = c.requires.first; second = c.requires.second; plain = inr c.if-is_plain.ensures.plain }

pub returns-then-is_plain-clause-real : goal.returns-then-is_plain-clause-real
returns-then-is_plain-clause-real g c =
    let v = world g.J.Judge.judgement c.args.graph.now in
    on_ok_weaker c.pass_over.result (λ e. subst (λ zs. Adds v false (AtFragments v c.args.f c.args.g) c.args.search.now.found.items zs) (sym e) (adds_none v false (AtFragments v c.args.f c.args.g) c.args.search.now.found.items)) c.pass_over.ensures.real
