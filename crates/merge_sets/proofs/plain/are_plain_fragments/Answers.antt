use Rattle.std.proofs.Common.{ℕ, subst}
use Rattle.std.specs.List.{All}
use Rattle.std.proofs.lemmas.List.{take_all}
use Rattle.std.proofs.lemmas.List.Elements.{All-more}
use Rattle.merge_sets.specs.World.{world, set_of}
use Rattle.merge_sets.specs.Plain.{IsPlain}
use Rattle.merge_sets.proofs.plain.are_plain_fragments.Goals as goal

pub loop-f-preserved : goal.loop-f-preserved
loop-f-preserved g c =
    let w = world g.J.Judge.judgement c.args.graph.now in
    All-more (λ (f : ℕ). IsPlain w (set_of w f)) c.args.fragments.now c.loop-f.f-index 0 c.loop-f-test.true c.loop-f.invariant c.if-not-is_plain.ensures.plain

pub returns : goal.returns
returns g c =
    let w = world g.J.Judge.judgement c.args.graph.now in
    subst (λ zs. All (λ f. IsPlain w (set_of w f)) zs) (take_all c.loop-f.f-index c.args.fragments.now c.loop-f-test.false) c.loop-f.invariant
