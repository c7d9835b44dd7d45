-- Calls in a context, at types that are pushed for them.
use Rattle.std.specs.Prelude.{◌≡◌}
use Rattle.std.specs.Fn.{Once, FnOnceReturnsAtMut}
use Rattle.walk.specs.ContextState.{ContextState, popped}
use denote.Ref.{MutBor}

-- f was called once with a context in this state and answered r; the context is what f left, without the types that
-- were pushed last
pub record CalledAt {S C F R : Type 0} (g : Once F (MutBor (ContextState S C) × Unit {0})
    (R × (MutBor (ContextState S C) × Unit {0}))) (f : F) (state new : ContextState S C) (r : R) : Type 0 where
  pub left : ContextState S C
  pub answers : FnOnceReturnsAtMut g f state r left
  pub popped_after : new ≡ popped left
