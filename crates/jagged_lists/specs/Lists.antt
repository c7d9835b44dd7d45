-- Lists that are kept in one.
use Rattle.std.specs.Prelude.{ℕ, ◌+◌, ◌≡◌, List, [], ◌∷◌, ◌++◌, length, slice_get}
use Rattle.std.specs.List.{flat_map}
use Rattle.std.specs.Option.{unwrap_or}
use Rattle.jagged_lists.specs.declared.lists.FlatLists.{FlatLists}

module _ {X : Type 0} where
  -- the one after the other
  abbrev pub joined : List (List X) → List X
  joined ls = flat_map (λ l. l) ls

  -- where each starts and ends, the first at n
  abbrev pub ranges_from : ℕ → List (List X) → List (ℕ × ℕ)
  ranges_from n [] = []
  ranges_from n (l ∷ ls) = (n, n + length l) ∷ ranges_from (n + length l) ls

  -- the list of a number, and an empty one past the last
  abbrev pub list_at : List (List X) → ℕ → List X
  list_at ls k = unwrap_or (slice_get ls k) []

  -- these lists have ended, and in the next one are these items
  pub record Holds (ls : List (List X)) (next : List X) (f : FlatLists X) : Type 0 where
    pub items : f.items.items ≡ joined ls ++ next
    pub ranges : f.ranges.items ≡ ranges_from 0 ls
    pub start : f.start ≡ length (joined ls)
