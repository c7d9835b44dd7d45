use Rattle.std.proofs.Common.{◌≡◌, ◌++◌, ◌∙◌, ap, subst, sym}
use Rattle.std.specs.List.{Contains}
use Rattle.std.proofs.lemmas.List.Elements.{Contains-append_left, Contains-append_right}
use Rattle.merge_sets.specs.World.{world}
use Rattle.merge_certificates.proofs.ClearLists.{lefts_below, rights_below}
use Rattle.merge_sets.proofs.Laws.{on_true_weaker}
use Rattle.merge_certificates.proofs.clear.are_clear_between.Goals as goal

pub returns-then-are_leaves-clause-clear : goal.returns-then-are_leaves-clause-clear
returns-then-are_leaves-clause-clear g c = lefts_below (world g.J.Judge.judgement c.args.graph.now) c.args.e c.args.left.now c.args.right.now c.if-are_leaves.ensures

pub returns-then-are_leaves-2-clause-clear : goal.returns-then-are_leaves-2-clause-clear
returns-then-are_leaves-2-clause-clear g c = rights_below (world g.J.Judge.judgement c.args.graph.now) c.args.e c.args.left.now c.args.right.now c.if-are_leaves-2.ensures

pub returns-clause-clear : goal.returns-clause-clear
returns-clause-clear g c =
    let v = world g.J.Judge.judgement c.args.graph.now in
    let left = c.args.left.now in
    let right = c.args.right.now in
    let is : c.as_slice.result.now ≡ left ++ right = c.as_slice.ensures.value ∙ (c.in_ok-extend_from_slice.ensures.items ∙ ap (λ zs. zs ++ right) c.in_ok-fields.ensures.items) in
    on_true_weaker c.in_ok-is_clear.is_clear
    (λ all a b p q. all a b (subst (λ zs. Contains zs a) (sym is) (Contains-append_left left right a p)) (subst (λ zs. Contains zs b) (sym is) (Contains-append_right left right b q)))
    c.in_ok-is_clear.ensures.clear
