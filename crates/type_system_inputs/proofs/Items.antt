-- What holds of an item of a list.
use Rattle.std.proofs.Common.{◌≡◌, ℕ, ◌<◌, List, length, get_or, subst, sym}
use Rattle.std.specs.List.{All}
use Rattle.std.proofs.lemmas.List.Elements.{All-get_or}

pub item_of : {X : Type 0} (P : X → Type 0) (xs : List X) (i : ℕ) (x d : X) → i < length xs → x ≡ get_or xs i d → All P xs → P x
item_of P xs i x d room is all = subst P (sym is) (All-get_or P xs i d room all)
