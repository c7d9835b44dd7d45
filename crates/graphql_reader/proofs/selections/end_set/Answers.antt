use Rattle.std.proofs.Common.{◌≡◌, ◌<◌, ◌∷◌, arith, drop, length, reverse, take, ap, subst, ◌∙◌}
use Rattle.graphql_reader.specs.OpenSets.{Standing, first_of}
use Rattle.graphql_reader.proofs.OpenSetLaws.{inner_ends, outermost_ends}
use Rattle.graphql_reader.proofs.SelectionLaws.{none_of, reverse_more}
use Rattle.graphql_reader.proofs.selections.end_set.Goals as goal

pub returns-in-None-clause-tree : goal.returns-in-None-clause-tree
returns-in-None-clause-tree c limit first mid standing taken =
    let nodes = c.args.nodes.now.items in
    let firsts = c.args.firsts.now.items in
    let none : length firsts ≡ 0 = omega (arith, c.in-None.ensures.cases.0, c.args.firsts.now.ok.0) in
    outermost_ends (reverse firsts) nodes c.in_ok-set.set.items standing taken c.requires (ap reverse (none_of firsts none)) (c.in_ok-set.ensures.tail ∙ ap (λ k. drop k nodes) c.first_of.ensures)

pub returns-in-Some-clause-tree : goal.returns-in-Some-clause-tree
returns-in-Some-clause-tree c limit first mid standing taken =
    let nodes = c.args.nodes.now.items in
    let firsts = c.args.firsts.now.items in
    let rest = c.pop.new.self.items in
    let k = c.in-Some.field-0 in
    let turned : reverse firsts ≡ k ∷ reverse rest = reverse_more rest firsts k c.in-Some.ensures.items in
    let first_is : first_of (reverse firsts) ≡ k = ap first_of turned in
    inner_ends k (reverse rest) nodes c.split_off.new.self.items c.in_ok-set.set.items c.give_last.new.nodes.items (subst (λ fs. Standing limit first fs nodes mid) turned standing) taken (subst (λ n. n < length nodes) first_is c.requires) (c.in_ok-set.ensures.items ∙ ap (λ n. take n nodes) (c.first_of.ensures ∙ first_is)) (c.in_ok-set.ensures.tail ∙ ap (λ n. drop n nodes) (c.first_of.ensures ∙ first_is)) c.give_last.ensures
