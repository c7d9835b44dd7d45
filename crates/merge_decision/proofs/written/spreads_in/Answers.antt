use Rattle.std.proofs.Common.{◌≡◌, ◌<◌, ◌++◌, ℕ, length, take, get_or, sym, subst, ◌∙◌, ap}
use Rattle.std.specs.List.{All, Contains}
use Rattle.std.proofs.lemmas.List.{take_all}
use Rattle.std.proofs.lemmas.List.Elements.{All-append, All-more, All-weaker, Contains-append_left, Contains-append_right, Contains-get_or, All-contains_itself}
use Rattle.merge_sets.specs.World.{world, spreads_of}
use Rattle.merge_decision.specs.Held.{AreSpread}
use Rattle.merge_decision.proofs.written.spreads_in.Goals as goal

pub loop-s-preserved : goal.loop-s-preserved
loop-s-preserved g c =
    let v = world g.J.Judge.judgement c.args.graph.now in
    let sets = c.args.sets.now in
    let old = c.loop-s.fragments.items in
    let new = c.extend_from_slice.new.self.items in
    let s = get_or sets c.loop-s.s-index 0 in
    let some = spreads_of v s in
    let is : new ≡ old ++ some = c.in_ok-extend_from_slice.ensures.items ∙ ap (λ zs. old ++ zs) c.spreads.ensures in
    let kept : (f : ℕ) → Contains old f → Contains new f = λ f h. subst (λ zs. Contains zs f) (sym is) (Contains-append_left old some f h) in (
      All-more (λ t. All (λ f. Contains new f) (spreads_of v t)) sets c.loop-s.s-index 0 c.loop-s-test.true
          (All-weaker (λ t. All (λ f. Contains old f) (spreads_of v t)) (λ t. All (λ f. Contains new f) (spreads_of v t)) (λ t h. All-weaker (λ f. Contains old f) (λ f. Contains new f) kept (spreads_of v t) h) (take c.loop-s.s-index sets) c.loop-s.invariant.0)
          (All-weaker (λ f. Contains some f) (λ f. Contains new f) (λ f h. subst (λ zs. Contains zs f) (sym is) (Contains-append_right old some f h)) some (All-contains_itself some)),
      subst (λ zs. All (λ f. f < length c.args.graph.now.fragments.items) zs) (sym is)
          (All-append (λ f. f < length c.args.graph.now.fragments.items) old some c.loop-s.invariant.1 (λ k d l. ((c.args.graph.now.falling s).1 k d l).0)),
      subst (λ zs. AreSpread v sets zs) (sym is)
          (All-append (λ f. (t : ℕ) × Contains sets t × Contains (spreads_of v t) f) old some c.loop-s.invariant.2
          (λ k d l. (s, Contains-get_or sets c.loop-s.s-index 0 c.loop-s-test.true, Contains-get_or some k d l))),
    )

pub returns-clause-all : goal.returns-clause-all
returns-clause-all g c =
    let v = world g.J.Judge.judgement c.args.graph.now in
    subst (λ zs. All (λ s. All (λ f. Contains c.loop-s.fragments.items f) (spreads_of v s)) zs) (take_all c.loop-s.s-index c.args.sets.now c.loop-s-test.false) c.loop-s.invariant.0

pub returns-clause-spread : goal.returns-clause-spread
returns-clause-spread g c = c.loop-s.invariant.2

pub returns-clause-there : goal.returns-clause-there
returns-clause-there g c = c.loop-s.invariant.1
