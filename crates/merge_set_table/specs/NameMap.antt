-- A map of names to numbers.
use Rattle.std.specs.Prelude.{◌≡◌, ◌<◌, ℕ, List, Option, Some}
use Rattle.std.specs.Ordering.{nat_cmp}
use Rattle.std.specs.BTreeMap.{BTreeMap, get_by, btree_map_len}
use Rattle.std.specs.Cmp.Lexicographic.{slice_cmp}
use denote.Ref.{Bor}

abbrev pub NameMap : Type 0
NameMap = BTreeMap (Bor (List ℕ)) ℕ

abbrev pub number_at : NameMap → List ℕ → Option ℕ
number_at map name = get_by (λ k. slice_cmp nat_cmp name k.now) map

-- A name that has a number keeps it.
abbrev pub KeepsNumbers : NameMap → NameMap → Type 0
KeepsNumbers old new = (name : List ℕ) (k : ℕ) → number_at old name ≡ Some k → number_at new name ≡ Some k

-- The numbers are below the count of names, and no two names have one.
pub record AreNumbersApart (map : NameMap) : Type 0 where
  pub small : (name : List ℕ) (k : ℕ) → number_at map name ≡ Some k → k < btree_map_len map
  pub apart : (name other : List ℕ) (k : ℕ) → number_at map name ≡ Some k → number_at map other ≡ Some k → name ≡ other
