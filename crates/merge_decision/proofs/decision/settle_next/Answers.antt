use Rattle.std.proofs.Common.{◌≡◌, ◌⊎◌, ◌<◌, false, true, refl, sym, subst, length, get_or}
use Rattle.std.specs.Bool.{OnTrue}
use Rattle.std.specs.List.{All, Contains}
use Rattle.bit_matrix.specs.Set.{has}
use Rattle.merge_certificates.specs.Quiet.{HoldAll}
use Rattle.merge_sets.specs.World.{world}
use Rattle.merge_decision.specs.Decided.{Settles}
use Rattle.merge_decision.specs.Held.{IsHeld}
use Rattle.merge_decision.specs.declared.work.Work.{Work}
use Rattle.merge_decision.proofs.Deciding.{keeps_next, notes_next, settles_after}
use Rattle.merge_decision.proofs.decision.settle_next.Goals as goal

pub returns-clause-keeps : goal.returns-clause-keeps
returns-clause-keeps g c =
    let w = world g.J.Judge.judgement c.args.graph.now in
    let old = c.args.work.now in
    let new = c.settle_set.new.work in
    let u = c.in-Some.union.now in
    let own = c.in_ok-set.set.own.items in
    let written = c.in_ok-written.written.items in
    let at = c.in-Some.ensures.lookup in
    let inside : old.done < length old.unions.items = subst (λ us. old.done < length us) c.deref.ensures.value at.3.0 in
    let here : get_or old.unions.items old.done u ≡ u = subst (λ us. get_or us old.done u ≡ u) c.deref.ensures.value (sym at.1) in
    let hold : HoldAll w u.sets.items own = subst (λ zs. HoldAll w zs own) c.as_slice-3.ensures.value c.in_ok-set.ensures in
    let held : All (IsHeld w u.sets.items) written = subst (λ zs. All (IsHeld w zs) written) c.as_slice.ensures.value c.in_ok-written.ensures.held in
    let mid : Work = record { unions = old.unions; done = old.done; held = c.note_held.new.held; places = old.places; budget = c.take_questions.new.budget } in
    let step = subst (λ b. OnTrue b (Settles w u.flag own mid new)) c.if-not-branch.false c.in_ok-settle_set.ensures.settles in
    let grown = notes_next w old mid u written refl refl c.take_questions.ensures.spent inside here held
    (λ t h. subst (λ zs. (has old.held t ≡ true) ⊎ ((u.flag ≡ false) × Contains zs t)) c.as_slice-5.ensures.value (c.in_ok-note_held.ensures t h)) in
    keeps_next w old new u own inside here hold (settles_after w old mid new u.flag own grown step)
