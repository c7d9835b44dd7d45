-- What is compared once more lies in the set round it.
use Rattle.std.proofs.Common.{◌≡◌, ℕ, ◌+◌, ◌<◌, List, [], length, take, drop, sym, subst, ap, ◌∙◌, arith, true, false, Some, length-drop}
use Rattle.std.specs.List.{All, Contains}
use Rattle.std.proofs.lemmas.List.Elements.{All-contains}
use Rattle.std.proofs.lemmas.List.{length-take, get_or-take, get_or-drop}
use Rattle.std.proofs.lemmas.Option.{slice_get-get_or, slice_get_within, get_or_from_slice_get}
use Rattle.bit_matrix.specs.Set.{has}
use Rattle.bit_matrix.specs.declared.set.BitSet.{BitSet}
use Rattle.merge_sets.specs.declared.node.Entry.{Entry}
use Rattle.merge_sets.specs.declared.finding.Finding.{Finding}
use Rattle.merge_sets.specs.Names.{named, HaveSameGroups}
use Rattle.merge_sets.specs.World.{World, own_of, spreads_of, set_of}
use Rattle.merge_sets.specs.Opening.{ReachedFrom}
use Rattle.merge_sets.specs.Merging.{Stands, own, own_own}
use Rattle.merge_search.specs.Reports.{Root, Adds, AtPlaces, AtLists}
use Rattle.merge_tops.specs.Tops.{AtBefore}
use Rattle.merge_tops.specs.Inner.{IsPart, IsStart, AtPart, AtParts}
use Rattle.merge_search.proofs.Adding.{adds_then, adds_map}
use Rattle.merge_tops.proofs.Judging.{places_written}
use Rattle.merge_sets.proofs.InOrder.{Places, at_of, places_named}
use Rattle.merge_sets.proofs.OneName.{named_own, named_is}
use Rattle.merge_search.proofs.Rows.{reached_stands}

part_places : (part fields : List Entry) → IsPart part fields → (a b : Entry) → Places part a b → Places fields a b
part_places part fields h a b p = (h.0 + p.0, h.0 + p.1, omega (arith, p.2), h.1 p.0 a p.3, h.1 p.1 b p.4)

part_contains : (part fields : List Entry) → IsPart part fields → (a : Entry) → Contains part a → Contains fields a
part_contains part fields h a c = at_of fields (h.0 + c.0) a (h.1 c.0 a (slice_get-get_or part c.0 a c.1 ∙ ap (λ y. Some y) c.2))

pub part_taken : (fields : List Entry) (n m : ℕ) → IsPart (take m (drop n fields)) fields
part_taken fields n m = (
  n,
  λ k a h.
      let inside = slice_get_within (take m (drop n fields)) k a h in
      let small : k < m = omega (arith, inside, length-take m (drop n fields)) in
      let far : n + k < length fields = omega (arith, inside, length-take m (drop n fields), length-drop n fields) in
      slice_get-get_or fields (n + k) a far
      ∙ ap (λ y. Some y) (sym (get_or-drop n fields k a) ∙ (sym (get_or-take m (drop n fields) k a small) ∙ get_or_from_slice_get (take m (drop n fields)) k a a h)),
)

pub part_none : (fields : List Entry) → IsPart [] fields
part_none fields = (0, λ k a h. cc)

pub whole_part : (xs ys : List Entry) → xs ≡ ys → (fields : List Entry) → IsPart ys fields → IsPart xs fields
whole_part xs ys same fields h = subst (λ zs. IsPart zs fields) (sym same) h

-- two fields of one name in a part are two places of the set
pub row_part : (w : World) (s n : ℕ) (part sorted xs : List Entry) → IsPart part (own_of w s) → HaveSameGroups sorted part → xs ≡ named n sorted → (r : Root) → AtBefore xs r → AtPlaces w s r
row_part w s n part sorted xs is groups eq r h =
    let z : Places (named n part) r.left r.right = subst (λ ys. Places ys r.left r.right) (eq ∙ groups n) h in
    let at = part_places part (own_of w s) is r.left r.right (places_named n part r.left r.right z) in (
      own_own at.3 at.4 (λ same. omega (arith, at.2, same)),
      named_is n part r.left (at_of (named n part) z.0 r.left z.3) ∙ sym (named_is n part r.right (at_of (named n part) z.1 r.right z.4)),
    )

-- fields of one name, in a part and in another list
pub row_groups : (n : ℕ) (part sorted fields xs ys : List Entry) → HaveSameGroups sorted part → xs ≡ named n sorted → ys ≡ named n fields → (r : Root) → AtLists xs ys r → AtPart part fields r
row_groups n part sorted fields xs ys groups left right r h =
    let a : Contains (named n part) r.left = subst (λ zs. Contains zs r.left) (left ∙ groups n) h.0 in
    let b : Contains (named n fields) r.right = subst (λ zs. Contains zs r.right) right h.1 in
    ((named_own n part r.left a, named_own n fields r.right b), named_is n part r.left a ∙ sym (named_is n fields r.right b))

-- what was opened stands in one of the first
pub row_reached : (w : World) (part : List Entry) (starts : List ℕ) (h j : ℕ) → ReachedFrom w starts h → j ≡ set_of w h → (r : Root) → AtPart part (own_of w j) r → AtParts w part starts r
row_reached w part starts h j from is r z =
    let there : Stands w (set_of w h) r.right = subst (λ (k : ℕ). Stands w k r.right) is (own z.0.1) in
    (from.0, from.1, z.0.0, reached_stands w from.0 h r.right from.2 there, z.1)

pub row_parts : (w : World) (s count : ℕ) (part : List Entry) (listed : BitSet) (starts : List ℕ) → IsPart part (own_of w s) → All (IsStart count listed) starts
    → ((g : ℕ) → has listed g ≡ true → Contains (spreads_of w s) g) → (r : Root) → AtParts w part starts r → AtPlaces w s r
row_parts w s count part listed starts is all spread r h =
    places_written w s h.0 (spread h.0 (All-contains (IsStart count listed) starts h.0 all h.1).1) r (part_contains part (own_of w s) is r.left h.2, h.3, h.4)

-- reports of some places after others
pub adds_next : (w : World) (P Q : Root → Type 0) {xs ys zs : List Finding} → ((r : Root) → Q r → P r) → Adds w false P xs ys → Adds w false Q ys zs → Adds w false P xs zs
adds_next w P Q f had new = adds_then w false P had (adds_map w false Q P f new)
