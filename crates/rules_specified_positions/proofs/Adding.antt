-- Uses that are added part by part.
use Rattle.std.proofs.Common.{◌≡◌, ℕ, ◌+◌, ◌<◌, List, length, take, get_or, ap, sym, ◌∙◌}
use Rattle.std.specs.List.{flat_map}
use Rattle.fragment_graph.proofs.Joining.{flat_map-next}
use Rattle.rules_specified_uses.proofs.WaitingUses.{with_uses-append}
use Rattle.rules_positions.specs.RecordedUses.{with_uses}
use Rattle.rules_specified_uses.specs.ValueUses.{UseValue}

-- those of one part more
pub added_next : {X : Type 0} (f : X → List UseValue) (xs : List X) (i : ℕ) (x : X) (lists mid new : List (List UseValue)) → x ≡ get_or xs i x → i < length xs
    → mid ≡ with_uses (flat_map f (take i xs)) lists → new ≡ with_uses (f x) mid → new ≡ with_uses (flat_map f (take (i + 1) xs)) lists
added_next f xs i x lists mid new is l k h =
    h ∙ ap (with_uses (f x)) k ∙ sym (with_uses-append (flat_map f (take i xs)) (f x) lists) ∙ ap (λ us. with_uses us lists) (sym (flat_map-next f xs i x is l))
