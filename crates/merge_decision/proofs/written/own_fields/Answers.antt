use Rattle.std.proofs.Common.{◌≡◌, ◌++◌, take, get_or, sym, subst, ◌∙◌, ap}
use Rattle.std.specs.List.{All, Contains}
use Rattle.std.proofs.lemmas.List.{take_all}
use Rattle.std.proofs.lemmas.List.Elements.{All-more, All-weaker, Contains-append_left, Contains-append_right}
use Rattle.merge_sets.specs.declared.node.Entry.{Entry}
use Rattle.merge_sets.specs.World.{world, own_of}
use Rattle.merge_decision.proofs.written.own_fields.Goals as goal

pub loop-s-preserved : goal.loop-s-preserved
loop-s-preserved g c =
    let v = world g.J.Judge.judgement c.args.graph.now in
    let old = c.loop-s.fields.items in
    let new = c.extend_from_slice.new.self.items in
    let some = own_of v (get_or c.args.sets.now c.loop-s.s-index 0) in
    let is : new ≡ old ++ some = c.in_ok-extend_from_slice.ensures.items ∙ ap (λ zs. old ++ zs) c.own.ensures in
    All-more (λ t. (a : Entry) → Contains (own_of v t) a → Contains new a) c.args.sets.now c.loop-s.s-index 0 c.loop-s-test.true
    (All-weaker (λ t. (a : Entry) → Contains (own_of v t) a → Contains old a) (λ t. (a : Entry) → Contains (own_of v t) a → Contains new a)
    (λ t h a p. subst (λ zs. Contains zs a) (sym is) (Contains-append_left old some a (h a p))) (take c.loop-s.s-index c.args.sets.now) c.loop-s.invariant)
    (λ a p. subst (λ zs. Contains zs a) (sym is) (Contains-append_right old some a p))

pub returns : goal.returns
returns g c =
    let v = world g.J.Judge.judgement c.args.graph.now in
    subst (λ zs. All (λ s. (a : Entry) → Contains (own_of v s) a → Contains c.loop-s.fields.items a) zs) (take_all c.loop-s.s-index c.args.sets.now c.loop-s-test.false) c.loop-s.invariant
