-- The link from the first of the nodes.
use Rattle.std.proofs.Common.{◌≡◌, ℕ, ◌+◌, ◌<◌, ◌≤◌, List, [], ◌∷◌, ◌++◌, length, sym, subst, ap, arith, inl, inr, ◌⊎◌, zero, suc, Some, slice_get, get_or, take, drop, ◌-◌, length-drop, ◌∙◌}
use Rattle.std.proofs.lemmas.Bool.{cases_eq}
use Rattle.std.proofs.lemmas.Option.{get_or_from_slice_get}
use Rattle.std.proofs.lemmas.List.{take_all}
use Rattle.std.proofs.lemmas.List.Elements.{All-append, All-drop, All-take}
use Rattle.fragment_graph.proofs.Lists.{get_some, none_some, same_item, same_some}
use Rattle.type_system_circles.specs.declared.graph.Link.{Link}
use Rattle.type_system_circles.specs.Graph.{BeginsFirst, IsFirst}

-- the link at an index is from the first of the nodes of the first n
abbrev pub HasFirst : List Link → ℕ → ℕ → Type 0
HasFirst links first n =
    (l : Link) × (slice_get links first ≡ Some l) × ((i : ℕ) (x : Link) → i < n → slice_get links i ≡ Some x → l.from ≤ x.from)

pub first_one : (links : List Link) → 0 < length links → HasFirst links 0 1
first_one links some =
    let at = get_some links 0 some in (
      at.0,
      at.1,
      λ i x l g.
          let z : i ≡ 0 = omega (arith, l) in
          let is : at.0 ≡ x = same_item at.0 x (slice_get links 0) at.1 (subst (λ (k : ℕ). slice_get links k ≡ Some x) z g) in
          omega (arith, ap (λ (y : Link). y.from) is),
    )

pub first_step : (links : List Link) (index first new : ℕ) (d : Link) → index < length links → HasFirst links first index
    → ((new ≡ index) × ((get_or links index d).from < (get_or links first d).from)) ⊎ ((new ≡ first) × ((get_or links first d).from ≤ (get_or links index d).from))
    → HasFirst links new (index + 1)
first_step links index first new d lt h (inl e) =
    let at = get_some links index lt in
    let here : get_or links index d ≡ at.0 = get_or_from_slice_get links index at.0 d at.1 in
    let was : get_or links first d ≡ h.0 = get_or_from_slice_get links first h.0 d h.1 in
    let less : at.0.from < h.0.from = subst (λ (z : Link). z.from < h.0.from) here (subst (λ (z : Link). (get_or links index d).from < z.from) was e.1) in (
      at.0,
      subst (λ (k : ℕ). slice_get links k ≡ Some at.0) (sym e.0) at.1,
      λ i x l g. elim (cases_eq i index) [
        | inl same ↦
            let is : at.0 ≡ x = same_item at.0 x (slice_get links index) at.1 (subst (λ (k : ℕ). slice_get links k ≡ Some x) same g) in
            omega (arith, ap (λ (y : Link). y.from) is)
        | inr ne ↦ let low : h.0.from ≤ x.from = h.2 i x (omega (arith, l, ne)) g in omega (arith, low, less)
      ],
    )
first_step links index first new d lt h (inr e) =
    let at = get_some links index lt in
    let here : get_or links index d ≡ at.0 = get_or_from_slice_get links index at.0 d at.1 in
    let was : get_or links first d ≡ h.0 = get_or_from_slice_get links first h.0 d h.1 in
    let least : h.0.from ≤ at.0.from = subst (λ (z : Link). h.0.from ≤ z.from) here (subst (λ (z : Link). z.from ≤ (get_or links index d).from) was e.1) in (
      h.0,
      subst (λ (k : ℕ). slice_get links k ≡ Some h.0) (sym e.0) h.1,
      λ i x l g. elim (cases_eq i index) [
        | inl same ↦
            let is : at.0 ≡ x = same_item at.0 x (slice_get links index) at.1 (subst (λ (k : ℕ). slice_get links k ≡ Some x) same g) in
            omega (arith, ap (λ (y : Link). y.from) is, least)
        | inr ne ↦ h.2 i x (omega (arith, l, ne)) g
      ],
    )

drop_at : (links : List Link) (f : ℕ) (l : Link) → slice_get links f ≡ Some l → (rest : List Link) × (drop f links ≡ l ∷ rest)
drop_at [] f l g = absurd (none_some l g)
drop_at (x ∷ xs) zero l g = (xs, ap (λ (y : Link). y ∷ xs) (same_some x l g))
drop_at (x ∷ xs) (suc f) l g = drop_at xs f l g

-- links that are turned so that this one comes first
pub begins : (links : List Link) (f : ℕ) (l : Link) (ms : List Link) → slice_get links f ≡ Some l → IsFirst l links → ms ≡ drop f links ++ take f links → BeginsFirst ms
begins links f l ms at first is =
    let d = drop_at links f l at in
    let whole : drop f links ++ take f links ≡ l ∷ (d.0 ++ take f links) = ap (λ (zs : List Link). zs ++ take f links) d.1 in
    let all : IsFirst l (drop f links ++ take f links) = All-append (λ (x : Link). l.from ≤ x.from) (drop f links) (take f links) (All-drop (λ (x : Link). l.from ≤ x.from) f links first) (All-take (λ (x : Link). l.from ≤ x.from) f links first) in
    subst BeginsFirst (sym (is ∙ whole)) (subst (IsFirst l) whole all)

-- the two parts of a list of links, the second first
pub turned_by : (links : List Link) (f : ℕ) (start one two : List Link) → start ≡ [] → one ≡ start ++ take (length links - f) (drop f links) → two ≡ one ++ take f links → two ≡ drop f links ++ take f links
turned_by links f start one two nil first second =
    second
    ∙ ap (λ (zs : List Link). zs ++ take f links)
    (first ∙ ap (λ (zs : List Link). zs ++ take (length links - f) (drop f links)) nil ∙ take_all (length links - f) (drop f links) (omega (arith, length-drop f links)))
