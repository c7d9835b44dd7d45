use Rattle.std.proofs.Common.{Bool, true, false, subst}
use Rattle.std.specs.Bool.{OnTrue}
use Rattle.std.specs.List.{All}
use Rattle.merge_sets.specs.World.{world, set_of}
use Rattle.merge_sets.specs.Plain.{IsPlain, IsPlainField}
use Rattle.merge_sets.proofs.Harmless.{plain_set}
use Rattle.merge_sets.proofs.plain.is_plain_set.Goals as goal

on_true_weaker : {P Q : Type 0} (b : Bool) → (P → Q) → OnTrue b P → OnTrue b Q
on_true_weaker true f h = f h
on_true_weaker false f h = h

pub returns-then-are_plain_fragments : goal.returns-then-are_plain_fragments
returns-then-are_plain_fragments g c =
    let w = world g.J.Judge.judgement c.args.graph.now in
    on_true_weaker c.are_plain_fields.result (λ all. plain_set w
    (subst (λ xs. All (IsPlainField w) xs) c.own.ensures all)
    (subst (λ fs. All (λ f. IsPlain w (set_of w f)) fs) c.spreads.ensures c.if-are_plain_fragments.ensures)) c.are_plain_fields.ensures
