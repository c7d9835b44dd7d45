-- What the elements of a list give, as a loop goes on.
use Rattle.std.proofs.Common.{◌≡◌, ℕ, ◌+◌, ◌<◌, List, [], ◌++◌, append_assoc, length, get_or, drop, refl, sym, subst}
use Rattle.std.proofs.lemmas.List.{append-nil}
use Rattle.schema_validation.proofs.Finds.{rest_at}
use Rattle.variable_values.specs.InTurn.{InTurn}

module _ {X R : Type 0} (gives : ℕ → X → List R → Type 0) where
  -- what is done, when what is left gives the rest
  abbrev pub Done : List X → ℕ → List R → Type 0
  Done xs i done = (rest : List R) → InTurn gives i (drop i xs) rest → InTurn gives 0 xs (done ++ rest)

  -- one more
  pub done_more : (xs : List X) (i : ℕ) (x : X) (done rs : List R) → i < length xs → x ≡ get_or xs i x → Done xs i done → gives i x rs → Done xs (i + 1) (done ++ rs)
  done_more xs i x done rs here is before g = λ rest left.
      subst (InTurn gives 0 xs) (sym (append_assoc done rs rest))
      (before (rs ++ rest) (subst (λ ys. InTurn gives i ys (rs ++ rest)) (sym (rest_at xs i x here is)) (rs, rest, g, left, refl)))

  -- all
  pub done_all : (xs : List X) (i : ℕ) (done : List R) → drop i xs ≡ [] → Done xs i done → InTurn gives 0 xs done
  done_all xs i done e before =
      subst (InTurn gives 0 xs) (append-nil done) (before [] (subst (λ ys. InTurn gives i ys []) (sym e) refl))
