-- The comparison of two values in steps, with a list of what is to be compared after.
use Rattle.std.specs.Prelude.{List, Bool, ◌&&◌, ◌||◌, reverse, fold, string_bytes}
use Rattle.std.specs.List.{list_all}
use Rattle.std.specs.Cmp.Lexicographic.{pointwise}
use Rattle.language_values.specs.ValuesEqual.{unlocated_eq, entry_in}
use Rattle.language_values.specs.declared.value.Comparison.{Comparison}
use Rattle.language_values.specs.declared.value.Comparison.TheVariants as c
use Rattle.language_values.specs.declared.value.Pending.{Pending}
use Rattle.language_values.specs.declared.value.Pending.TheVariants as p

module _ {S : Type 0} (E : S → S → Bool) where
  -- what a comparison answers
  abbrev pub answer_of : Comparison S → Bool
  answer_of (c.Answer b) = b
  answer_of (c.Values l r) = unlocated_eq E l.now r.now
  answer_of (c.Items l r) = pointwise (λ x y. unlocated_eq E x.item y.item) l.now r.now
  answer_of (c.Entries l r) = list_all (λ x. entry_in (unlocated_eq E x.1.item) (string_bytes x.0.item) r.now) l.now
  answer_of (c.Candidates key v es) = entry_in (unlocated_eq E v.now) key.now es.now

  -- the answer of one before, taken on
  abbrev pub taken_on : Bool → Pending S → Bool
  taken_on b (p.And c) = b && answer_of c
  taken_on b (p.Or c) = b || answer_of c

  -- taken on through all that wait, the last one first
  abbrev pub answer_after : List (Pending S) → Bool → Bool
  answer_after ps b = fold taken_on b (reverse ps)
