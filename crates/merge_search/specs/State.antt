-- The single steps of a search.
use Rattle.std.specs.Prelude.{ℕ, ◌+◌, ◌<◌, min, max, [], ◌∷◌, ◌++◌, Bool, true, false, not, ◌&&◌, ◌≡◌, ◌⊎◌}
use Rattle.bit_matrix.specs.Count.{count_below}
use Rattle.merge_search.specs.declared.state.Search.{Search}
use Rattle.merge_sets.specs.declared.finding.Finding.{Finding}
use Rattle.merge_search.specs.Log.{covers_of, Notes, NotesBoth}
use Rattle.merge_search.specs.Counts.{greatest, most_repeats}
use Rattle.merge_search.specs.Questions.{pair_in, search_in}

-- Nothing was found or noted; so many fields were compared, or asked about.
pub record Begins (n : ℕ) (s : Search) : Type 0 where
  pub pairs : (e : Bool) (f g : ℕ) → pair_in s e f g ≡ false
  pub searched : (e : Bool) (i g : ℕ) → search_in s e i g ≡ false
  pub found : s.found.items ≡ []
  pub compared : s.compared ≡ 0
  pub opened : s.opened ≡ 0
  pub looked : s.looked ≡ 0
  pub judged : s.judged ≡ n
  pub repeated : s.repeated ≡ 0

pub record NotesPair (f g : ℕ) (e : Bool) (old new : Search) : Type 0 where
  pub notes : NotesBoth e f g (pair_in old) (pair_in new)
  pub compared : new.compared ≡ min (old.compared + 1) greatest
  pub searched : new.searched ≡ old.searched
  pub found : new.found.items ≡ old.found.items
  pub opened : new.opened ≡ old.opened
  pub looked : new.looked ≡ old.looked
  pub lists : new.lists ≡ old.lists
  pub judged : new.judged ≡ old.judged
  pub repeated : new.repeated ≡ old.repeated

-- A fragment is noted with each of some that have smaller numbers, and how many of these pairs are new is counted.
pub record NotesBelow (f : ℕ) (among : ℕ → Bool) (old new : Search) : Type 0 where
  pub noted : (g : ℕ) → among g ≡ true → g < f → pair_in new false f g ≡ true
  pub kept : (x : Bool) (i j : ℕ) → pair_in old x i j ≡ true → pair_in new x i j ≡ true
  pub only : (x : Bool) (i j : ℕ) → pair_in new x i j ≡ true
      → (pair_in old x i j ≡ true) ⊎ ((x ≡ false) × (max i j ≡ f) × (min i j < f) × (among (min i j) ≡ true))
  pub compared : new.compared ≡ min (old.compared + count_below (λ g. pair_in new false f g && not (pair_in old false f g)) f) greatest
  pub searched : new.searched ≡ old.searched
  pub found : new.found.items ≡ old.found.items
  pub opened : new.opened ≡ old.opened
  pub looked : new.looked ≡ old.looked
  pub lists : new.lists ≡ old.lists
  pub judged : new.judged ≡ old.judged
  pub repeated : new.repeated ≡ old.repeated

pub record NotesSearch (i g : ℕ) (e : Bool) (old new : Search) : Type 0 where
  pub notes : Notes e i g (search_in old) (search_in new)
  pub pairs : new.pairs ≡ old.pairs
  pub found : new.found.items ≡ old.found.items
  pub compared : new.compared ≡ old.compared
  pub opened : new.opened ≡ old.opened
  pub looked : new.looked ≡ old.looked
  pub lists : new.lists ≡ old.lists
  pub judged : new.judged ≡ old.judged
  pub repeats : covers_of (search_in old) e i g ≡ true → old.repeated < most_repeats → new.repeated ≡ old.repeated + 1
  pub first : covers_of (search_in old) e i g ≡ false → new.repeated ≡ old.repeated

pub record Reports (y : Finding) (old new : Search) : Type 0 where
  pub found : new.found.items ≡ old.found.items ++ y ∷ []
  pub pairs : new.pairs ≡ old.pairs
  pub searched : new.searched ≡ old.searched
  pub compared : new.compared ≡ old.compared
  pub opened : new.opened ≡ old.opened
  pub looked : new.looked ≡ old.looked
  pub lists : new.lists ≡ old.lists
  pub judged : new.judged ≡ old.judged
  pub repeated : new.repeated ≡ old.repeated

-- A search was counted that opened so many fragments, and looked at so many spreads.
pub record CountsList (n l : ℕ) (old new : Search) : Type 0 where
  pub lists : new.lists ≡ min (old.lists + 1) greatest
  pub opened : new.opened ≡ min (old.opened + n) greatest
  pub looked : new.looked ≡ min (old.looked + l) greatest
  pub pairs : new.pairs ≡ old.pairs
  pub searched : new.searched ≡ old.searched
  pub found : new.found.items ≡ old.found.items
  pub compared : new.compared ≡ old.compared
  pub judged : new.judged ≡ old.judged
  pub repeated : new.repeated ≡ old.repeated

-- Nothing changed but which sets conflict, how many fields were compared, and which room is used again.
pub record Keeps (old new : Search) : Type 0 where
  pub pairs : new.pairs ≡ old.pairs
  pub searched : new.searched ≡ old.searched
  pub found : new.found.items ≡ old.found.items
  pub compared : new.compared ≡ old.compared
  pub opened : new.opened ≡ old.opened
  pub looked : new.looked ≡ old.looked
  pub lists : new.lists ≡ old.lists
  pub repeated : new.repeated ≡ old.repeated

-- How many fields were compared, and which searches may be repeated, stayed as it was.
pub record CountsStay (old new : Search) : Type 0 where
  pub judged : new.judged ≡ old.judged
  pub repeated : new.repeated ≡ old.repeated

-- So many fields were compared.
pub record CountsFields (n : ℕ) (old new : Search) : Type 0 where
  pub judged : new.judged ≡ min (old.judged + n) greatest
  pub repeated : new.repeated ≡ old.repeated
  pub keeps : Keeps old new
