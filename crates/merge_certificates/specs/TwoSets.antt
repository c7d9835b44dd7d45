-- The fields of one response name of two sets, row by row.
use Rattle.std.specs.Prelude.{ℕ, List, Bool, Some, ◌≡◌, drop, length, slice_get}
use Rattle.merge_sets.specs.declared.node.Entry.{Entry}
use Rattle.merge_certificates.specs.declared.two_sets.Rows.{Rows}
use Rattle.merge_certificates.specs.Below.{KnowsPairs}
use Rattle.merge_sets.specs.Clear.{AreClearRows}
use Rattle.merge_sets.specs.World.{World}

-- The fields begin with some.
abbrev pub BeginWith : List Entry → List Entry → Type 0
BeginWith fields some = (k : ℕ) (a : Entry) → slice_get some k ≡ Some a → slice_get fields k ≡ Some a

-- The fields that each row is compared with: those after the rows.
abbrev pub rights_of : Rows → List Entry
rights_of rows = drop (length rows.left.items) rows.fields.items

-- What is known of the rows is true.
pub record KnowsRows (w : World) (e : Bool) (rows : Rows) : Type 0 where
  pub first : BeginWith rows.fields.items rows.left.items
  pub clear : AreClearRows w e rows.left.items (rights_of rows) rows.clear
  pub pairs : KnowsPairs w e rows.fields.items rows.below rows.numbered
