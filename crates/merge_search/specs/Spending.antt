-- How many fields a search compares: what each part of its work may cost, and what pays for it.
use Rattle.std.specs.Prelude.{ℕ, ◌+◌, ◌*◌, ◌<◌, ◌≤◌, min, List, Bool, true, false, drop, length, slice_get, sum_by, ◌≡◌, ◌⊎◌}
use Rattle.std.specs.Option.{option_map_or}
use Rattle.merge_sets.specs.declared.node.Entry.{Entry}
use Rattle.merge_search.specs.declared.state.Search.{Search}
use Rattle.merge_search.specs.declared.task.Task.{Task}
use Rattle.merge_search.specs.declared.task.Task.TheVariants.{With, Listed, Rows, Own, Close, Opened, Mark, Spreads}
use Rattle.merge_search.specs.Counts.{greatest, most_repeats}
use Rattle.merge_search.specs.Log.{covers_of}
use Rattle.merge_search.specs.State.{Keeps}
use Rattle.merge_sets.specs.Names.{named}
use Rattle.merge_sets.specs.Graph.{firsts_at}
use Rattle.merge_certificates.specs.TwoSets.{rights_of}
use Rattle.merge_search.specs.Weight.{weight, below_weight, field_weight, fields_weight, fragment_weight}
pub use Rattle.merge_search.specs.Questions.{pair_in, search_in, sum_below, worth}
use Rattle.merge_sets.specs.World.{World, own_of}

-- What fragments that were compared pay, under a flag.
abbrev pub pairs_worth : World → Search → Bool → ℕ
pairs_worth w s e = worth (length w.fragments) (length w.fragments) (fragment_weight w) (fragment_weight w) (pair_in s e)

-- What searches below a field pay, under a flag.
abbrev pub searches_worth : World → Search → Bool → ℕ
searches_worth w s e = worth (length w.sets) (length w.fragments) (weight w) (fragment_weight w) (search_in s e)

-- The most that a search costs that is repeated.
abbrev pub repeat_cost : ℕ
repeat_cost = 625

-- What a search has paid with: each question that it noted pays for the fields that are compared for it.
abbrev pub credit : World → Search → ℕ
credit w s =
    pairs_worth w s false + pairs_worth w s true + searches_worth w s false + searches_worth w s true
    + repeat_cost * min s.repeated most_repeats

-- The fields of a response name of two sets, and all names of the first.
abbrev pub name_cost : World → ℕ → ℕ → ℕ → ℕ
name_cost w i j n = fields_weight w (named n (own_of w i)) * fields_weight w (named n (own_of w j))

abbrev pub sets_cost : World → ℕ → ℕ → List Entry → ℕ
sets_cost w i j firsts = sum_by (λ f. name_cost w i j f.response) firsts

-- Two fields that are compared one by one, and what stands below them: eight times the product of their weights, but for
-- seven, which pay for what is asked where many are passed at once.
abbrev pub pair_cost : World → Entry → Entry → ℕ
pair_cost w a b = 1 + 8 * (below_weight w a + below_weight w b + below_weight w a * below_weight w b)

-- A field, and each of some others.
abbrev pub list_cost : World → Entry → List Entry → ℕ
list_cost w a fields = sum_by (pair_cost w a) fields

-- A field, and the fields of a set that have its response name.
abbrev pub row_cost : World → ℕ → Entry → ℕ
row_cost w j a = list_cost w a (named a.response (own_of w j))

-- Some fields, each with some others, once it was asked which of these it is known to merge with.
abbrev pub rows_cost : World → List Entry → List Entry → ℕ
rows_cost w left right = sum_by (λ a. length right + list_cost w a right) left

-- What a task may cost, but for what pays.
abbrev pub task_cost : World → Task → ℕ
task_cost w (With a j e n) = list_cost w a (drop n (named a.response (own_of w j)))
task_cost w (Listed a list e n) = list_cost w a (drop n list.items)
task_cost w (Rows rows e k) = rows_cost w (drop k rows.left.items) (rights_of rows)
task_cost w (Own i j e k) = 8 * sets_cost w i j (drop k (firsts_at w.sets i))
task_cost w (Close a b start) = 0
task_cost w (Opened i g e opening k) = 8 * (weight w i * sum_by (fragment_weight w) (drop k opening.order.items))
task_cost w (Mark i start) = 0
task_cost w (Spreads s p e k) = 0

abbrev pub tasks_cost : World → List Task → ℕ
tasks_cost w tasks = sum_by (task_cost w) tasks

-- A set wasn't compared with a fragment under the flag or without one, or few fields are compared once more.
abbrev pub MayAsk : World → Search → Bool → ℕ → ℕ → Type 0
MayAsk w s e i g =
    (covers_of (search_in s) e i g ≡ false)
    ⊎ ((s.repeated < most_repeats) × (weight w i + fragment_weight w g < 50))

-- The tasks that wait cost so much more at most.
pub record CostsMore (w : World) (n : ℕ) (waited waits : List Task) : Type 0 where
  pub most : tasks_cost w waits ≤ tasks_cost w waited + n

-- So many fields were compared, and no question was asked.
pub record Compares (n : ℕ) (old new : Search) : Type 0 where
  pub judged : new.judged ≤ old.judged + n
  pub pairs : new.pairs ≡ old.pairs
  pub searched : new.searched ≡ old.searched
  pub repeated : new.repeated ≡ old.repeated

-- So many fields were compared at least.
abbrev pub CountsAtLeast : ℕ → Search → Search → Type 0
CountsAtLeast n old new = min (old.judged + n) greatest ≤ new.judged

-- So much was asked at most to pass fields, and nothing else changed.
pub record AsksUpto (n : ℕ) (old new : Search) : Type 0 where
  pub judged : new.judged ≤ old.judged + n
  pub keeps : Keeps old new

-- So many fields were compared at most, but for what pays.
pub record Takes (w : World) (n : ℕ) (old new : Search) : Type 0 where
  pub paid : new.judged + 8 * credit w old ≤ old.judged + (8 * credit w new + n)

-- Eight times so many.
pub record Spends (w : World) (n : ℕ) (old new : Search) : Type 0 where
  pub paid : new.judged + 8 * credit w old ≤ old.judged + 8 * (credit w new + n)

-- So many fields were compared at most, but for what pays, and for the tasks that wait.
pub record Pays (w : World) (n : ℕ) (waited waits : List Task) (old new : Search) : Type 0 where
  pub paid : new.judged + (8 * credit w old + tasks_cost w waits) ≤ old.judged + (8 * credit w new + tasks_cost w waited + n)

-- What two fields cost that are settled at once, or aren't.
abbrev pub settle_cost : World → Entry → Entry → Bool → ℕ
settle_cost w a b true = field_weight w a * field_weight w b
settle_cost w a b false = 1 + 4 * below_weight w b

-- Each field of the one set was compared with each of the other, of which the first has few.
pub record LooksFlatly (left right : ℕ) (old new : Search) : Type 0 where
  pub all : Compares (left * right) old new
  pub few : Compares (4 * right) old new
  pub more : min old.judged greatest ≤ new.judged

-- What the field at a place costs that is not settled, if there is one.
abbrev pub open_cost : World → List Entry → ℕ → ℕ
open_cost w fields k = option_map_or (λ b. 1 + 4 * below_weight w b) (slice_get fields k) 0

-- A field was compared with those of a list from one place up to another, and so much more was done.
pub record ComparesUpto (w : World) (a : Entry) (fields : List Entry) (from to more : ℕ) (old new : Search) : Type 0 where
  pub judged : new.judged + list_cost w a (drop to fields) ≤ old.judged + list_cost w a (drop from fields) + more
  pub pairs : new.pairs ≡ old.pairs
  pub searched : new.searched ≡ old.searched
  pub repeated : new.repeated ≡ old.repeated

-- All fragments.
abbrev pub fragments_weight : World → ℕ
fragments_weight w = sum_below (fragment_weight w) (length w.fragments)

-- All sets.
abbrev pub sets_weight : World → ℕ
sets_weight w = sum_below (weight w) (length w.sets)
