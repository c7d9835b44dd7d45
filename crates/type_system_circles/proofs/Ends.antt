-- The end of the links before and after a step.
use Rattle.std.proofs.Common.{◌≡◌, ℕ, ◌+◌, ◌<◌, ◌≤◌, List, [], ◌∷◌, ◌++◌, length, refl, sym, subst, ap, arith, inl, inr, Some, slice_get, slice_set, length-append, ◌∙◌, drop, map}
use Rattle.std.specs.List.{Contains}
use Rattle.std.proofs.lemmas.Option.{slice_get_within}
use Rattle.std.proofs.lemmas.List.Elements.{Contains-append_left, Contains-push_cases}
use Rattle.fragment_graph.proofs.Lists.{contains_none, get_end, same_item}
use Rattle.type_system_circles.specs.declared.graph.Link.{Link}
use Rattle.type_system_circles.specs.declared.graph.Node.{Node}
use Rattle.type_system_circles.specs.declared.search.Circle.{Circle}
use Rattle.type_system_circles.specs.declared.search.Colour.{Colour}
use Rattle.type_system_circles.specs.declared.search.Colour.TheVariants.{New, InWork, Finished}
use Rattle.type_system_circles.specs.Graph.{IsCircle, IsSimple, IsWalk, Stands, edges_of}
use Rattle.type_system_circles.specs.Sound.{Sound, path_to}
use Rattle.type_system_circles.proofs.Walks.{length-path, path-more, walk_from, walk_front, walk_more}
use Rattle.type_system_circles.proofs.Steps.{same_work, sound_enter, sound_finish}
use Rattle.type_system_circles.proofs.Simple.{simple_end}

pub empty : (xs : List Link) (n : ℕ) → n ≡ length xs → n ≡ 0 → xs ≡ []
empty [] n e h = refl
empty (x ∷ xs) n e h = absurd (omega (arith, e, h))

module _ (graph : List Node) (root u : ℕ) (trail : List Link) (cs : List Colour) (looked : List ℕ) (circles : List Circle) (count : ℕ)
    (walk : IsWalk graph root trail u) (h : Sound graph (path_to trail u) trail cs looked circles count) where
  -- the node at the end is in work
  pub end_works : slice_get cs u ≡ Some (InWork (length (map (λ l. l.from) trail)))
  end_works = h.placed (length (map (λ l. l.from) trail)) u (get_end (map (λ l. l.from) trail) u (length (map (λ l. l.from) trail)) refl)

  pub end_inside : u < length graph
  end_inside =
      let sized : length cs ≡ length graph = h.sized in
      let room : u < length cs = slice_get_within cs u (InWork (length (map (λ l. l.from) trail))) end_works in
      omega (arith, sized, room)

  -- one link more, to a new node
  pub end_entered : (more : List Link) (l : Link) (depth len : ℕ) → l.from ≡ u → Stands graph l → slice_get cs l.edge.target ≡ Some New
      → more ≡ trail ++ l ∷ [] → depth ≡ len → len ≡ length more
      → Sound graph (path_to more l.edge.target) more (slice_set cs l.edge.target (InWork depth)) looked circles count × IsWalk graph root more l.edge.target
  end_entered more l depth len from stands new is at_len len_is =
      let t : ℕ = l.edge.target in
      let path : path_to trail u ++ t ∷ [] ≡ path_to more t =
      ap (λ (n : ℕ). path_to trail n ++ t ∷ []) (sym from) ∙ sym (path-more trail l t) ∙ ap (λ (ls : List Link). path_to ls t) (sym is) in
      let place : length (path_to trail u) ≡ depth = omega (arith, length-path trail u, at_len, len_is, ap length is, length-append trail (l ∷ [])) in (
        subst (λ (d : ℕ). Sound graph (path_to more t) more (slice_set cs t (InWork d)) looked circles count) place
            (subst (λ (p : List ℕ). Sound graph p more (slice_set cs t (InWork (length (path_to trail u)))) looked circles count) path
            (sound_enter graph (path_to trail u) trail more t cs looked circles count
            (λ x on. subst (λ (ls : List Link). Contains ls x) (sym is) (Contains-append_left trail (l ∷ []) x on)) new h)),
        subst (λ (ls : List Link). IsWalk graph root ls t) (sym is) (walk_more graph root trail l (subst (λ (n : ℕ). IsWalk graph root trail n) (sym from) walk) stands),
      )

  -- a node in work is met, and the links lead back to it
  pub end_closed : (l : Link) (depth : ℕ) (links : List Link) → l.from ≡ u → Stands graph l → slice_get cs l.edge.target ≡ Some (InWork depth)
      → links ≡ drop depth trail ++ l ∷ [] → IsCircle graph links
  end_closed l depth links from stands works is =
      let t : ℕ = l.edge.target in
      let back : IsWalk graph t (drop depth trail) u = walk_from graph depth root trail u t walk (h.stands depth t works) in
      record {
        node = t;
        walk = subst (λ (ls : List Link). IsWalk graph t ls t) (sym is) (walk_more graph t (drop depth trail) l (subst (λ (n : ℕ). IsWalk graph t (drop depth trail) n) (sym from) back) stands);
        some = omega (arith, ap length is, length-append (drop depth trail) (l ∷ []));
      }

  -- and no two of them are from one node
  pub end_simple : (l : Link) (depth : ℕ) (links : List Link) → l.from ≡ u → links ≡ drop depth trail ++ l ∷ [] → IsSimple links
  end_simple l depth links from is =
      simple_end trail u l depth links from
      (λ i j v at_i at_j. same_work i j (same_item (InWork i) (InWork j) (slice_get cs v) (h.placed i v at_i) (h.placed j v at_j)))
      is

  pub depth_within : (t depth : ℕ) → slice_get cs t ≡ Some (InWork depth) → depth ≤ length trail
  depth_within t depth works =
      let room : depth < length (path_to trail u) = slice_get_within (path_to trail u) depth t (h.stands depth t works) in
      omega (arith, room, length-path trail u)

  -- the last link was taken off, and its end finished
  pub end_back : (front : List Link) (l : Link) (rank more : ℕ) → trail ≡ front ++ l ∷ [] → rank ≡ count → more ≡ count + 1
      → ((n : ℕ) → slice_get looked u ≡ Some n → length (edges_of graph u) ≤ n)
      → Sound graph (path_to front l.from) front (slice_set cs u (Finished rank)) looked circles more × IsWalk graph root front l.from
  end_back front l rank more is same next all =
      let w : IsWalk graph root front l.from × (l.edge.target ≡ u) = walk_front graph root front l u (subst (λ (ls : List Link). IsWalk graph root ls u) is walk) in
      let k : Sound graph (path_to front l.from ++ u ∷ []) trail cs looked circles count =
      subst (λ (p : List ℕ). Sound graph p trail cs looked circles count) (ap (λ (ls : List Link). path_to ls u) is ∙ path-more front l u) h in
      let last : slice_get (path_to front l.from) (length (map (λ x. x.from) front)) ≡ Some l.from = get_end (map (λ x. x.from) front) l.from (length (map (λ x. x.from) front)) refl in (
        subst (λ (r : ℕ). Sound graph (path_to front l.from) front (slice_set cs u (Finished r)) looked circles more) (sym same)
            (sound_finish graph (path_to front l.from) trail front u cs looked circles count more next
            (λ x on. elim (Contains-push_cases front l x (subst (λ (ls : List Link). Contains ls x) is on)) [
              | inl still ↦ inl still
              | inr e ↦ inr (
                ap (λ (z : Link). z.edge.target) (sym e) ∙ w.1,
                (length (map (λ y. y.from) front), subst (λ (z : Link). slice_get (path_to front l.from) (length (map (λ y. y.from) front)) ≡ Some z.from) e last),
              )
            ])
            all k),
        w.0,
      )

  -- there was no link, and the root is finished
  pub end_none : (rest : List Link) (rank more : ℕ) → trail ≡ [] → rank ≡ count → more ≡ count + 1
      → ((n : ℕ) → slice_get looked u ≡ Some n → length (edges_of graph u) ≤ n)
      → Sound graph [] rest (slice_set cs u (Finished rank)) looked circles more
  end_none rest rank more is same next all =
      subst (λ (r : ℕ). Sound graph [] rest (slice_set cs u (Finished r)) looked circles more) (sym same)
      (sound_finish graph [] trail rest u cs looked circles count more next
      (λ x on. absurd (contains_none x (subst (λ (ls : List Link). Contains ls x) is on)))
      all (subst (λ (p : List ℕ). Sound graph p trail cs looked circles count) (ap (λ (ls : List Link). path_to ls u) is) h))

-- a new root is put in work
pub begin : (graph : List Node) (root : ℕ) (trail : List Link) (cs : List Colour) (looked : List ℕ) (circles : List Circle) (count : ℕ)
    → trail ≡ [] → slice_get cs root ≡ Some New → Sound graph [] trail cs looked circles count
    → Sound graph (path_to trail root) trail (slice_set cs root (InWork 0)) looked circles count × IsWalk graph root trail root
begin graph root trail cs looked circles count none new h = (
  subst (λ (ls : List Link). Sound graph (path_to ls root) ls (slice_set cs root (InWork 0)) looked circles count) (sym none)
      (sound_enter graph [] [] [] root cs looked circles count (λ l on. on) new (subst (λ (ls : List Link). Sound graph [] ls cs looked circles count) none h)),
  subst (λ (ls : List Link). IsWalk graph root ls root) (sym none) refl,
)
