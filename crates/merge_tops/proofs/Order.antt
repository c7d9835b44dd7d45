-- Two of a list, the first before the second: what is asked of them, and where their roots lie.
use Rattle.std.proofs.Common.{◌≡◌, ℕ, ◌+◌, ◌<◌, ◌≤◌, List, length, drop, get_or, sym, subst, ap, ◌∙◌, arith, false, Some}
use Rattle.std.specs.List.{All, Contains}
use Rattle.std.proofs.lemmas.List.Elements.{All-contains}
use Rattle.std.proofs.lemmas.Option.{get_or_from_slice_get, slice_get_within, slice_get-get_or}
use Rattle.merge_sets.specs.declared.node.Entry.{Entry}
use Rattle.merge_search.specs.declared.state.Search.{Search}
use Rattle.merge_sets.specs.Names.{named, AreListed}
use Rattle.merge_sets.specs.World.{World, own_of}
use Rattle.merge_search.specs.Work.{Done}
use Rattle.merge_search.specs.Reports.{Root, AtRest}
use Rattle.merge_tops.specs.Tops.{AllBefore, AtBefore, AtWithin, OwnWithin}
use Rattle.merge_sets.proofs.OneName.{listed_in, named_is, no_entry}
use Rattle.merge_sets.proofs.InOrder.{Places, at_of, in_rest, named_places, places_named, rest_places}

pub own_within : (w : World) (M : Search) (s : ℕ) (firsts : List Entry) → AreListed firsts (own_of w s)
    → All (λ f. AllBefore (Done w M false) (named f.response (own_of w s))) firsts → OwnWithin w M s
own_within w M s firsts listed h k l a b lt p q same =
    let (f, there, is) = listed_in firsts (own_of w s) a listed (at_of (own_of w s) k a p) in
    let z = named_places f.response (own_of w s) a b (k, l, lt, p, q) is (sym same ∙ is) in
    All-contains (λ f. AllBefore (Done w M false) (named f.response (own_of w s))) firsts f h there z.0 z.1 a b z.2 z.3 z.4

-- where the roots lie
pub row_within : (w : World) (s n : ℕ) (xs : List Entry) → xs ≡ named n (own_of w s) → (r : Root) → AtBefore xs r → AtWithin w s r
row_within w s n xs eq r h =
    let z : Places (named n (own_of w s)) r.left r.right = subst (λ ys. Places ys r.left r.right) eq h in (
      places_named n (own_of w s) r.left r.right z,
      named_is n (own_of w s) r.left (at_of (named n (own_of w s)) z.0 r.left z.3) ∙ sym (named_is n (own_of w s) r.right (at_of (named n (own_of w s)) z.1 r.right z.4)),
    )

pub tell_within : (w : World) (s : ℕ) (firsts : List Entry) → AreListed firsts (own_of w s) → (r : Root) → AtWithin w s r → (f : Entry) × Contains firsts f × AtBefore (named f.response (own_of w s)) r
tell_within w s firsts listed r h =
    let (f, there, is) = listed_in firsts (own_of w s) r.left listed (at_of (own_of w s) h.0.0 r.left h.0.3) in
    (f, there, named_places f.response (own_of w s) r.left r.right h.0 is (sym h.1 ∙ is))

pub row_rest : (xs : List Entry) (k : ℕ) → k < length xs → (r : Root) → AtRest (get_or xs k no_entry) (drop (k + 1) xs) r → AtBefore xs r
row_rest xs k lt r h =
    let z = rest_places xs k r.right h.1 in
    (k, z.0, z.1, slice_get-get_or xs k no_entry lt ∙ ap (λ y. Some y) (sym h.0), z.2)

pub tell_rest : (xs : List Entry) (k : ℕ) → length xs ≤ k → (r : Root) → AtBefore xs r → (m : ℕ) × (m < k) × AtRest (get_or xs m no_entry) (drop (m + 1) xs) r
tell_rest xs k le r h = (h.0, omega (arith, slice_get_within xs h.1 r.right h.4, h.2, le), (sym (get_or_from_slice_get xs h.0 r.left no_entry h.3), in_rest xs h.0 h.1 r.right h.2 h.4))

-- each with those after it is each two
pub rest_all : {X : Type 0} (P : X → X → Type 0) (xs : List X) (d : X) (n : ℕ) → length xs ≤ n
    → ((i : ℕ) → i < n → All (P (get_or xs i d)) (drop (i + 1) xs)) → AllBefore P xs
rest_all P xs d n le h k l a b lt p q =
    let inside : l < length xs = slice_get_within xs l b q in
    subst (λ x. P x b) (get_or_from_slice_get xs k a d p) (All-contains (P (get_or xs k d)) (drop (k + 1) xs) b (h k (omega (arith, inside, lt, le))) (in_rest xs k l b lt q))
