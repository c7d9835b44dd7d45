use Rattle.std.proofs.Common.{◌∷◌, []}
use Rattle.merge_sets.proofs.Laws.{on_true_weaker}
use Rattle.merge_sets.specs.World.{world}
use Rattle.merge_decision.proofs.Deciding.{holds_later, keeps_grown, on_both}
use Rattle.merge_decision.proofs.decision.settle_with.Goals as goal

pub returns-clause-keeps : goal.returns-clause-keeps
returns-clause-keeps g c =
    on_true_weaker c.in_ok-is_done.is_done
    (λ k. keeps_grown (world g.J.Judge.judgement c.args.graph.now) c.args.work.now c.add_set.new.work c.settle_all.new.work c.in_ok-add_set.ensures.grows k)
    c.in_ok-is_done.ensures.keeps

pub returns-clause-whole : goal.returns-clause-whole
returns-clause-whole g c =
    on_both c.in_ok-is_done.is_done (λ k all. record { sound = k.sound (c.in_ok-add_set.ensures.grows.sound c.requires.sound); all = all })
    c.in_ok-is_done.ensures.keeps c.in_ok-is_done.ensures.done

pub returns-clause-held : goal.returns-clause-held
returns-clause-held g c =
    on_true_weaker c.in_ok-is_done.is_done
    (λ k. holds_later (world g.J.Judge.judgement c.args.graph.now) c.add_set.new.work c.settle_all.new.work (c.args.s ∷ []) k (c.in_ok-add_set.ensures.holds c.requires.sound))
    c.in_ok-is_done.ensures.keeps
