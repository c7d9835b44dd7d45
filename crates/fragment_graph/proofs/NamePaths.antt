-- Paths by names are paths by numbers.
use Rattle.std.proofs.Common.{◌≡◌, ℕ, ◌≤◌, List, [], ◌∷◌, ◌++◌, length, refl, sym, subst, ap, arith, ◌∙◌, inl, inr, ◌⊎◌, Option, Some, None, map, true, false, Bool, cond, zero, suc, slice_get, get_or}
use Rattle.std.specs.List.{All, Contains, flat_map}
use Rattle.std.specs.Option.{unwrap_or}
use Rattle.std.specs.Str.{bytes_eq}
use Rattle.std.proofs.lemmas.Slice.Eq.{bytes_eq-Decides}
use Rattle.std.proofs.lemmas.List.Elements.{All-contains, All-contains_itself}
use Rattle.language.specs.declared.tree.Definition.{Definition}
use Rattle.language.specs.declared.tree.Definition.TheVariants as definition
use Rattle.fragment_graph.specs.declared.graph.Node.{Node}
use Rattle.fragment_graph.specs.declared.graph.Spread.{Spread}
use Rattle.fragment_graph.specs.declared.search.Report.{Report}
use Rattle.fragment_graph.specs.declared.numbers.Numbers.{Numbers}
use Rattle.fragment_graph.specs.declared.cycles.DocumentCycles.{DocumentCycles}
use Rattle.fragment_graph.specs.Graph.{spreads_of, Spreads, Path, step, more, Reported, Named, IsTrueReport}
use Rattle.fragment_graph.specs.Searched.{Searched}
use Rattle.fragment_graph.specs.Spreads.{PlacedSpread, placed_spreads_of_all, spreads_of_name, spreads_named}
use Rattle.fragment_graph.specs.Numbers.{number_of, names_of, HasNumber, IsNamed, Defines, NumbersOf}
use Rattle.fragment_graph.specs.DocumentGraph.{resolved, Joined, IsGraphOf}
use Rattle.fragment_graph.specs.DocumentCycles.{NameSpreads, NamePath, name_step, name_more, IsReported, SomeReported, IsTrueOf, FindsCycles, SearchedDocument, NameAndPlace, told, name_and_place}
use Rattle.fragment_graph.proofs.Lists.{same_some, none_some, contains_at, contains_get}
use Rattle.fragment_graph.proofs.Numbering.{below, named, single}
use Rattle.fragment_graph.proofs.Judge.{inside, starts_inside, below_length}

pub split_get : {X : Type 0} (xs ys : List X) (k : ℕ) (y : X) → slice_get (xs ++ ys) k ≡ Some y
    → ((i : ℕ) × (slice_get xs i ≡ Some y)) ⊎ ((i : ℕ) × (slice_get ys i ≡ Some y))
split_get [] ys k y h = inr (k, h)
split_get (x ∷ xs) ys zero y h = inl (0, h)
split_get (x ∷ xs) ys (suc k) y h = elim (split_get xs ys k y h) [ inl a ↦ inl (suc a.0, a.1) | inr b ↦ inr b ]

pub flat_get : {X Y : Type 0} (f : X → List Y) (xs : List X) (k : ℕ) (y : Y) → slice_get (flat_map f xs) k ≡ Some y
    → (x : X) × ((i : ℕ) × (slice_get xs i ≡ Some x)) × ((j : ℕ) × (slice_get (f x) j ≡ Some y))
flat_get f [] k y h = absurd (none_some y h)
flat_get f (x ∷ xs) k y h = elim (split_get (f x) (flat_map f xs) k y h) [
  | inl a ↦ (x, (0, refl), a)
  | inr b ↦ let r = flat_get f xs b.0 y b.1 in (r.0, (suc r.1.0, r.1.1), r.2)
]

pub map_get : {X Y : Type 0} (f : X → Y) (xs : List X) (k : ℕ) (y : Y) → slice_get (map f xs) k ≡ Some y → (x : X) × (slice_get xs k ≡ Some x) × (f x ≡ y)
map_get f [] k y h = absurd (none_some y h)
map_get f (x ∷ xs) zero y h = (x, refl, same_some (f x) y h)
map_get f (x ∷ xs) (suc k) y h = map_get f xs k y h

pub get_map : {X Y : Type 0} (f : X → Y) (xs : List X) (k : ℕ) (x : X) → slice_get xs k ≡ Some x → slice_get (map f xs) k ≡ Some (f x)
get_map f [] k x h = absurd (none_some x h)
get_map f (z ∷ xs) zero x h = ap (λ y. Some (f y)) (same_some z x h)
get_map f (z ∷ xs) (suc k) x h = get_map f xs k x h

in_test : {X : Type 0} (b : Bool) (xs : List X) (k : ℕ) (x : X) → slice_get (cond b xs []) k ≡ Some x → b ≡ true
in_test true xs k x h = refl
in_test false xs k x h = absurd (none_some x h)

module _ {S : Type 0} where
  is_named : (f : List ℕ) (d : Definition S) (k : ℕ) (s : PlacedSpread) → slice_get (spreads_named f d) k ≡ Some s → IsNamed f d
  is_named f (definition.Operation o) k s h = absurd (none_some s h)
  is_named f (definition.Fragment x) k s h =
      (bytes_eq-Decides x.item.name.item.now f).0 (in_test (bytes_eq x.item.name.item.now f) (placed_spreads_of_all x.item.selection_set.items) k s h)

  defines_of : (document : List (Definition S)) (f g : List ℕ) → NameSpreads document f g → Defines document f
  defines_of document f g s =
      let k = contains_get (spreads_of_name document f) s.0 s.1 in
      let d = flat_get (spreads_named f) document k.0 s.0 k.1 in
      (d.0, contains_at document d.1.0 d.0 d.1.1, is_named f d.0 d.2.0 s.0 d.2.1)

module _ {S : Type 0} (document : List (Definition S)) (n : Numbers) (nodes : List Node) (m : NumbersOf document n) (j : Joined n document nodes) where
  pub has : (f g : List ℕ) → NameSpreads document f g → HasNumber n f
  has f g s = (m.defined f).1 (defines_of document f g s)

  starts : {f h : List ℕ} → NamePath document f h → HasNumber n f
  starts {f} (name_step {g = g} s) = has f g s
  starts {f} (name_more {g = g} s p) = has f g s

  pub edge : (f g : List ℕ) (k l : ℕ) → number_of n f ≡ Some k → number_of n g ≡ Some l → NameSpreads document f g → Spreads nodes k l
  edge f g k l fk gl s =
      let i = contains_get (spreads_of_name document f) s.0 s.1 in
      let x : Spread = resolved n s.0 in (
        x,
        subst (λ (zs : List Spread). Contains zs x) (sym (j.joined f k fk))
            (contains_at (map (resolved n) (spreads_of_name document f)) i.0 x (get_map (resolved n) (spreads_of_name document f) i.0 s.0 i.1)),
        ap (λ o. unwrap_or o (length (names_of n))) (ap (number_of n) s.2 ∙ gl),
      )

  path_of : {f h : List ℕ} (k l : ℕ) → number_of n f ≡ Some k → number_of n h ≡ Some l → NamePath document f h → Path nodes k l
  path_of {f} {h} k l fk hl (name_step s) = step (edge f h k l fk hl s)
  path_of {f} {h} k l fk hl (name_more {g = g} s p) =
      let v = starts p in more (edge f g k v.0 fk v.1 s) (path_of v.0 l v.1 hl p)

  -- a report's name is that of its number
  told_name : (f : List ℕ) (r : Report) → number_of n f ≡ Some r.node → (told n r).0 ≡ f
  told_name f r h = ap (λ (o : Option (List ℕ)). unwrap_or o []) ((m.numbered f r.node).0 h)

  reported_name : (reports : List Report) (f : List ℕ) (k : ℕ) → number_of n f ≡ Some k → Reported reports k → IsReported (map (told n) reports) f
  reported_name reports f k fk r =
      let i = contains_get reports r.0 r.1 in (
        told n r.0,
        contains_at (map (told n) reports) i.0 (told n r.0) (get_map (told n) reports i.0 r.0 i.1),
        told_name f r.0 (fk ∙ ap Some (sym r.2)),
      )

  reported_of : (reports : List Report) {f h : List ℕ} (k l : ℕ) (fk : number_of n f ≡ Some k) (hl : number_of n h ≡ Some l) (p : NamePath document f h)
      → Named reports (path_of k l fk hl p) → SomeReported (map (told n) reports) p
  unfolding path_of
  reported_of reports {f} {h} k l fk hl (name_step s) r = reported_name reports h l hl r
  reported_of reports {f} {h} k l fk hl (name_more {g = g} s p) (inl r) = let v = starts p in inl (reported_name reports g v.0 v.1 r)
  reported_of reports {f} {h} k l fk hl (name_more {g = g} s p) (inr r) = let v = starts p in inr (reported_of reports v.0 l v.1 hl p r)

  -- the spread in the document that a spread of a node is
  pub origin : (f : List ℕ) (k : ℕ) (x : Spread) → number_of n f ≡ Some k → Contains (spreads_of nodes k) x
      → (s : PlacedSpread) × Contains (spreads_of_name document f) s × (resolved n s ≡ x)
  origin f k x fk c =
      let i = contains_get (map (resolved n) (spreads_of_name document f)) x (subst (λ (zs : List Spread). Contains zs x) (j.joined f k fk) c) in
      let s = map_get (resolved n) (spreads_of_name document f) i.0 x i.1 in
      (s.0, contains_at (spreads_of_name document f) i.0 s.0 s.1, s.2)

  -- what a name was resolved to
  pub target : (o : Option ℕ) (v : ℕ) → unwrap_or o (length (names_of n)) ≡ v → (o ≡ Some v) ⊎ (length (names_of n) ≡ v)
  target None v h = inr h
  target (Some u) v h = inl (ap Some h)

  name_path : {k l : ℕ} (f h : List ℕ) → number_of n f ≡ Some k → number_of n h ≡ Some l → Path nodes k l → NamePath document f h
  name_path {k} {l} f h fk hl (step s) =
      let o = origin f k s.0 fk s.1 in
      elim (target (number_of n o.0.name) l (ap (λ (x : Spread). x.target) o.2 ∙ s.2)) [
        | inl at ↦ name_step (o.0, o.1, single n m.numbered o.0.name h l at hl)
        | inr past ↦ let low = below n m.numbered h l hl in absurd (omega (arith, low, past))
      ]
  name_path {k} {l} f h fk hl (more {v = v} s p) =
      let o = origin f k s.0 fk s.1 in
      elim (target (number_of n o.0.name) v (ap (λ (x : Spread). x.target) o.2 ∙ s.2)) [
        | inl at ↦ name_more (o.0, o.1, refl) (name_path o.0.name h at hl p)
        | inr past ↦ let sized = j.sized in absurd (starts_inside nodes p (omega (arith, sized, past)))
      ]

  true_at : (r : Report) → IsTrueReport nodes r → (f : List ℕ) → number_of n f ≡ Some r.node → IsTrueOf document (f, r.spread.place)
  true_at r t f fk =
      let o = origin f r.node r.spread fk t.0 in
      let place = ap (λ (x : Spread). x.place) o.2 in
      elim t.1 [
        | inl e ↦ elim (target (number_of n o.0.name) r.node (ap (λ (x : Spread). x.target) o.2 ∙ e)) [
          | inl at ↦ (o.0, o.1, place, inl (single n m.numbered o.0.name f r.node at fk))
          | inr past ↦ let low = below n m.numbered f r.node fk in absurd (omega (arith, low, past))
        ]
        | inr p ↦ elim (target (number_of n o.0.name) r.spread.target (ap (λ (x : Spread). x.target) o.2)) [
          | inl at ↦ (o.0, o.1, place, inr (name_path o.0.name f at fk p))
          | inr past ↦ let sized = j.sized in absurd (starts_inside nodes p (omega (arith, sized, past)))
        ]
      ]

  pub name_of : (k : ℕ) → (length nodes ≤ k → ⊥) → (f : List ℕ) × (number_of n f ≡ Some k)
  name_of k h = let sized = j.sized in named n m.numbered k (let low = below_length (length nodes) k h in omega (arith, sized, low))

  true_of : (r : Report) → IsTrueReport nodes r → IsTrueOf document (told n r)
  true_of r t =
      let f = name_of r.node (inside nodes r.node r.spread.target (r.spread, t.0, refl)) in
      let real = true_at r t f.0 f.1 in
      subst (λ (g : List ℕ). IsTrueOf document (g, r.spread.place)) (sym (told_name f.0 r f.1)) real

  all_true : (reports : List Report) → All (IsTrueReport nodes) reports → All (IsTrueOf document) (map (told n) reports)
  all_true reports h = λ k d l.
      let r : NameAndPlace = get_or (map (told n) reports) k d in
      let i = contains_get (map (told n) reports) r (All-contains_itself (map (told n) reports) k d l) in
      let x = map_get (told n) reports i.0 r i.1 in
      let at = All-contains (IsTrueReport nodes) reports x.0 h (contains_at reports i.0 x.0 x.1) in
      subst (IsTrueOf document) x.2 (true_of x.0 at)

pub searched_document : {S : Type 0} (document : List (Definition S)) (c : DocumentCycles) → IsGraphOf document c.graph → Searched c.graph.nodes.items c.outcome
    → map name_and_place c.reports.items ≡ map (told c.graph.numbers) c.outcome.reports.items → SearchedDocument document c
searched_document document c g o e =
    let n : Numbers = c.graph.numbers in
    let nodes : List Node = c.graph.nodes.items in
    let reports : List Report = c.outcome.reports.items in
    record {
      graph = g;
      outcome = o;
      found = subst (λ (rs : List NameAndPlace). FindsCycles document rs) (sym e) (record {
        real = all_true document n nodes g.numbers g.nodes reports o.real;
        enough = λ f p.
            let k = starts document n nodes g.numbers g.nodes p in
            reported_of document n nodes g.numbers g.nodes reports k.0 k.0 k.1 k.1 p (o.enough k.0 (path_of document n nodes g.numbers g.nodes k.0 k.0 k.1 k.1 p));
      });
      reports = e;
      none = (
        λ e f p. let k = starts document n nodes g.numbers g.nodes p in o.none.0 e k.0 (path_of document n nodes g.numbers g.nodes k.0 k.0 k.1 k.1 p),
        λ h. o.none.1 (λ v p. let f = name_of document n nodes g.numbers g.nodes v (starts_inside nodes p) in h f.0 (name_path document n nodes g.numbers g.nodes f.0 f.0 f.1 f.1 p)),
      );
      looked = o.looked ∙ g.nodes.counted;
    }
