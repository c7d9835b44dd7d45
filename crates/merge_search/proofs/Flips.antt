-- Two fragments in either order.
use Rattle.std.proofs.Common.{ℕ, Bool, true, ◌≡◌, inl, inr, sym, subst, min, max, arith}
use Rattle.merge_search.specs.declared.state.Search.{Search}
use Rattle.merge_search.specs.Log.{in_log}
use Rattle.merge_search.specs.Work.{pair_in, Pair}

max_flip : (f g : ℕ) → max f g ≡ max g f
max_flip f g = omega arith

min_flip : (f g : ℕ) → min f g ≡ min g f
min_flip f g = omega arith

pub flip_in : (M : Search) (x : Bool) (f g : ℕ) → pair_in M x f g ≡ true → pair_in M x g f ≡ true
flip_in M x f g h = subst (λ (hi : ℕ). in_log M.pairs x hi (min g f) ≡ true) (max_flip f g) (subst (λ (lo : ℕ). in_log M.pairs x (max f g) lo ≡ true) (min_flip f g) h)

pub flip_pair : (M : Search) (e : Bool) (f g : ℕ) → Pair M e f g → Pair M e g f
flip_pair M e f g (inl eq) = inl (sym eq)
flip_pair M e f g (inr c) = inr (c.0, c.1, flip_in M c.0 f g c.2)
