-- What loops report, item by item.
use Rattle.std.proofs.Common.{◌≡◌, ℕ, List, ◌∷◌, ◌++◌, map, string_bytes, ap, sym, ◌∙◌, append_assoc}
use Rattle.std.specs.Prelude.{String}
use Rattle.std.specs.declared.alloc.Global.{Global}
use Rattle.type_system_interfaces.specs.Entries.{each_entry}
use Rattle.type_system_report.specs.Fault.{FaultValue}

-- what is still to be found at the rest of a list of names, after the next
pub entries_next : (finds : List ℕ → List (List ℕ) → List FaultValue) (xs others : List (String Global)) (x : String Global) (n : List ℕ) (r₁ r₂ w : List FaultValue) → xs ≡ x ∷ others → n ≡ string_bytes x
    → r₁ ++ each_entry finds (map string_bytes xs) ≡ w → r₂ ≡ r₁ ++ finds n (map string_bytes others) → r₂ ++ each_entry finds (map string_bytes others) ≡ w
entries_next finds xs others x n r₁ r₂ w split of rest more =
    let names = map string_bytes others in
    let after = each_entry finds names in
    ap (λ z. z ++ after) more
    ∙ append_assoc r₁ (finds n names) after
    ∙ ap (λ z. r₁ ++ (finds z names ++ after)) of
    ∙ ap (λ zs. r₁ ++ each_entry finds (map string_bytes zs)) (sym split)
    ∙ rest
