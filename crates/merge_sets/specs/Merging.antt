-- When fields can be merged, over a graph of numbered sets.
use Rattle.std.specs.Prelude.{ℕ, List, Some, Bool, true, false, ◌≡◌, ◌⊎◌, slice_get}
use Rattle.std.specs.List.{Contains}
use Rattle.merge_sets.specs.declared.node.Entry.{Entry}
use Rattle.merge_sets.specs.declared.finding.Finding.{Finding}
use Rattle.merge_sets.specs.declared.finding.Finding.TheVariants.{Direct}
use Rattle.merge_sets.specs.World.{World, own_of, spreads_of, set_of, conflict_of, exclusive_of, Same}

-- The field stands in the set, what it spreads written out.
pub data Stands (w : World) : ℕ → Entry → Type 0 where
  own : {s : ℕ} {a : Entry} → Contains (own_of w s) a → Stands w s a
  spread : {s f : ℕ} {a : Entry} → Contains (spreads_of w s) f → Stands w (set_of w f) a → Stands w s a

-- Two places of the written-out set.
pub data Apart (w : World) : ℕ → Entry → Entry → Type 0 where
  own_own : {s k l : ℕ} {a b : Entry} → slice_get (own_of w s) k ≡ Some a → slice_get (own_of w s) l ≡ Some b → (k ≡ l → ⊥) → Apart w s a b
  own_spread : {s f : ℕ} {a b : Entry} → Contains (own_of w s) a → Contains (spreads_of w s) f → Stands w (set_of w f) b → Apart w s a b
  spread_own : {s f : ℕ} {a b : Entry} → Contains (spreads_of w s) f → Stands w (set_of w f) a → Contains (own_of w s) b → Apart w s a b
  two_spreads : {s f g k l : ℕ} {a b : Entry} → slice_get (spreads_of w s) k ≡ Some f → slice_get (spreads_of w s) l ≡ Some g → (k ≡ l → ⊥)
      → Stands w (set_of w f) a → Stands w (set_of w g) b → Apart w s a b
  one_spread : {s f : ℕ} {a b : Entry} → Contains (spreads_of w s) f → Apart w (set_of w f) a b → Apart w s a b

-- A pair of one response name from the sets below two fields.
pub data Below (w : World) (a b : Entry) : Entry → Entry → Type 0 where
  below : {c d : Entry} {s t : ℕ} → a.below ≡ Some s → b.below ≡ Some t
      → Stands w s c → Stands w t d → Same c d → Below w a b c d

pub data Merges (w : World) : Bool → Entry → Entry → Type 0 where
  merges : {e : Bool} {a b : Entry} → conflict_of w e a b ≡ false
      → ((c d : Entry) → Below w a b c d → Merges w (exclusive_of w e a b) c d) → Merges w e a b

-- The two fragments written out: each field of the one merges with each of the other that has its response name,
-- whatever the flag.
abbrev pub MergeWritten : World → ℕ → ℕ → Type 0
MergeWritten w f g = (e : Bool) (a b : Entry) → Stands w (set_of w f) a → Stands w (set_of w g) b → Same a b → Merges w e a b

-- The same, in one of the two orders.
abbrev pub MergeEither : World → ℕ → ℕ → Type 0
MergeEither w f g = MergeWritten w f g ⊎ MergeWritten w g f

-- A way from a pair down to one that fails.
pub data Way (w : World) : Bool → Entry → Entry → Type 0 where
  here : {e : Bool} {a b : Entry} → conflict_of w e a b ≡ true → Way w e a b
  down : {e : Bool} {a b c d : Entry} → Below w a b c d → Way w (exclusive_of w e a b) c d → Way w e a b

-- A fault of the pair stands in what was found, in either order.
abbrev pub Good : List Finding → Entry → Entry → Type 0
Good found a b = ((e : Bool) × Contains found (Direct a b e)) ⊎ ((e : Bool) × Contains found (Direct b a e))

abbrev pub Passes : {w : World} → List Finding → {e : Bool} {a b : Entry} → Way w e a b → Type 0
Passes found {a = a} {b = b} (here h) = Good found a b
Passes found {a = a} {b = b} (down f v) = Good found a b ⊎ Passes found v

abbrev pub SetMerges : World → ℕ → Type 0
SetMerges w s = (a b : Entry) → Apart w s a b → Same a b → Merges w false a b
