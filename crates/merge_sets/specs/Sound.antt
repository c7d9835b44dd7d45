-- A search's fragments as far as they were opened.
use Rattle.std.specs.Prelude.{ℕ, ◌+◌, ◌<◌, ◌≤◌, List, length, true, ◌≡◌, ◌⊎◌}
use Rattle.std.specs.List.{All, Contains}
use Rattle.bit_matrix.specs.Set.{has}
use Rattle.merge_sets.specs.World.{World, spreads_of, set_of}
use Rattle.merge_sets.specs.Opening.{NoRepeats, ReachedFrom}
use Rattle.merge_sets.specs.declared.opening.Opening.{Opening}

-- No fragment is opened twice.
pub record Once (o : Opening) : Type 0 where
  pub seen : (h : ℕ) → has o.seen h ≡ true → Contains o.order.items h
  pub noted : (h : ℕ) → Contains o.order.items h → has o.seen h ≡ true
  pub distinct : NoRepeats o.order.items

-- The first fragments are open now; those that are new wait, and are among the second.
pub record Gains (fs gs : List ℕ) (old new : Opening) : Type 0 where
  pub once : Once old → Once new
  pub opened : Once old → All (λ h. Contains new.order.items h) fs
  pub kept : (h : ℕ) → Contains old.order.items h → Contains new.order.items h
  pub only : (h : ℕ) → Contains new.order.items h → Contains old.order.items h ⊎ (Contains gs h × Contains new.waiting.items h)
  pub waits : (h : ℕ) → Contains old.waiting.items h → Contains new.waiting.items h
  pub waiting : (h : ℕ) → Contains new.waiting.items h → Contains old.waiting.items h ⊎ Contains new.order.items h
  pub longer : length old.order.items ≤ length new.order.items
  pub left : length new.waiting.items + length old.order.items ≡ length old.waiting.items + length new.order.items

-- What is open is reached, and what an open one spreads is open, unless it waits.
pub record Sound (w : World) (gs : List ℕ) (o : Opening) : Type 0 where
  pub once : Once o
  pub first : All (λ g. Contains o.order.items g) gs
  pub reached : All (ReachedFrom w gs) o.order.items
  pub below : All (λ h. h < length w.fragments) o.order.items
  pub waiting : All (λ h. Contains o.order.items h) o.waiting.items
  pub followed : (h : ℕ) → Contains o.order.items h → Contains o.waiting.items h
      ⊎ All (λ k. Contains o.order.items k) (spreads_of w (set_of w h))
