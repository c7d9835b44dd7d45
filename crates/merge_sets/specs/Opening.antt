-- The fragments that a search opens.
use Rattle.std.specs.Prelude.{ℕ, ◌<◌, ◌≤◌, ◌≡◌, List, Some, length, slice_get}
use Rattle.std.specs.List.{All, Contains}
use Rattle.merge_sets.specs.World.{World, spreads_of, set_of}

-- The fragment is g, or spread by one that is reached.
pub data Reaches (w : World) (g : ℕ) : ℕ → Type 0 where
  start : Reaches w g g
  step : {h k : ℕ} → Reaches w g h → Contains (spreads_of w (set_of w h)) k → Reaches w g k

-- The fragment is one of some, or they reach it.
abbrev pub ReachedFrom : World → List ℕ → ℕ → Type 0
ReachedFrom w gs h = (g : ℕ) × Contains gs g × Reaches w g h

-- Nothing stands at two places.
abbrev pub NoRepeats : List ℕ → Type 0
NoRepeats xs = (k l x : ℕ) → k < l → slice_get xs k ≡ Some x → slice_get xs l ≡ Some x → ⊥

-- All fragments that some reach, these among them, and no more of them than there are.
pub record Opens (w : World) (gs hs : List ℕ) : Type 0 where
  pub first : All (λ g. Contains hs g) gs
  pub followed : (h k : ℕ) → Contains hs h → Contains (spreads_of w (set_of w h)) k → Contains hs k
  pub reached : All (ReachedFrom w gs) hs
  pub few : length hs ≤ length w.fragments
  pub there : All (λ h. h < length w.fragments) hs
  pub once : NoRepeats hs
