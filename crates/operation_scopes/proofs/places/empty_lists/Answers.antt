use Rattle.std.proofs.Common.{◌+◌, ◌∷◌, [], ap, length, length-append, ◌∙◌}
use Rattle.operation_scopes.proofs.Growing.{none_at_all, none_more}
use Rattle.operation_scopes.proofs.places.empty_lists.Goals as goal

pub loop-number-init : goal.loop-number-init
loop-number-init c = (ap length c.in_ok-lists.ensures.items, λ k. none_at_all c.in_ok-lists.lists.items k c.in_ok-lists.ensures.items)

pub loop-number-preserved : goal.loop-number-preserved
loop-number-preserved c = (
  ap length c.in_ok-push.ensures.items ∙ length-append c.loop-number.lists.items (c.new.result ∷ []) ∙ ap (λ n. n + 1) c.loop-number.invariant.0,
  λ k. none_more c.loop-number.lists.items c.push.new.self.items c.new.result k c.in_ok-push.ensures.items c.new.ensures.items c.loop-number.invariant.1,
)
