use Rattle.std.proofs.Common.{◌++◌, ◌∷◌, [], ap, subst, sym, ◌∙◌, false}
use Rattle.std.proofs.lemmas.List.Elements.{All-contains, Contains-push}
use Rattle.std.specs.List.{Contains}
use Rattle.merge_certificates.specs.Quiet.{AreQuiet}
use Rattle.merge_sets.specs.World.{world}
use Rattle.merge_certificates.specs.declared.unions.Union.{Union}
use Rattle.merge_sets.proofs.Laws.{on_true_weaker}
use Rattle.merge_tops.proofs.asking.is_merged.Goals as goal

pub returns-clause-merged : goal.returns-clause-merged
returns-clause-merged g c =
    let v = world g.J.Judge.judgement c.args.graph.now in
    let u : Union = record { sets = c.push.new.self; flag = false } in
    let is = c.in_ok-push.ensures.items ∙ ap (λ zs. zs ++ c.args.s ∷ []) c.new-sets.ensures.items in
    let there = subst (λ zs. Contains zs u) (sym c.in_ok-push-2.ensures.items) (Contains-push c.new-unions.result.items u) in
    on_true_weaker c.in_ok-is_quiet.is_quiet
    (λ quiet. subst (λ zs. AreQuiet v false zs) is (All-contains (λ (z : Union). AreQuiet v z.flag z.sets.items) c.push-2.new.self.items u quiet there))
    c.in_ok-is_quiet.ensures.quiet
