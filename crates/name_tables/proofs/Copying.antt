-- A map with the same contents has the same names.
use Rattle.std.proofs.Common.{◌≡◌, ◌∙◌, ℕ, List, zero, suc, Option, None, Some, ap, refl, slice_get, cond}
use Rattle.name_tables.specs.Looking.{Entries, Others, other_index, is_named, index_by, held_by, index_in}

module _ {T : Type 0} (es fs : Entries T) (slots marks : List ℕ) (others more : Others)
    (entries : fs ≡ es) (same : marks ≡ slots) (copied : (name : List ℕ) → other_index more name ≡ other_index others name) where
  by_held : (name : List ℕ) (o : Option ℕ) → index_by es more name o ≡ index_by es others name o
  by_held name None = copied name
  by_held name (Some zero) = refl
  by_held name (Some (suc k)) = ap (cond (is_named (slice_get es k) name) (Some k)) (copied name)

  pub copy_indices : (name : List ℕ) → index_in fs marks more name ≡ index_in es slots others name
  copy_indices name = ap (λ xs. index_in xs marks more name) entries ∙ ap (λ ns. index_in es ns more name) same ∙ by_held name (held_by slots name)
