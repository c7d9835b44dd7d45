-- What the search does, a step at a time, keeps it sound.
use Rattle.std.proofs.Common.{◌≡◌, ℕ, ◌+◌, ◌<◌, ◌≤◌, List, [], ◌∷◌, ◌++◌, length, refl, sym, subst, ap, arith, inl, inr, ◌⊎◌, Some, slice_get, slice_set, length-set, ◌∙◌, replicate}
use Rattle.std.specs.List.{Contains}
use Rattle.std.proofs.lemmas.Bool.{cases_eq}
use Rattle.std.proofs.lemmas.Option.{slice_get_within}
use Rattle.std.proofs.lemmas.List.Elements.{All-push, All-nil, Contains-append_left}
use Rattle.fragment_graph.proofs.Lists.{same_item, none_some, get_more, get_snoc, get_end, set_same, set_other, set_keep, set_was}
use Rattle.name_tables.proofs.Lists.{get_same}
use Rattle.type_system_circles.specs.declared.graph.Edge.{Edge}
use Rattle.type_system_circles.specs.declared.graph.Link.{Link}
use Rattle.type_system_circles.specs.declared.graph.Node.{Node}
use Rattle.type_system_circles.specs.declared.search.Circle.{Circle}
use Rattle.type_system_circles.specs.declared.search.Colour.{Colour}
use Rattle.type_system_circles.specs.declared.search.Colour.TheVariants.{New, InWork, Finished}
use Rattle.type_system_circles.specs.Graph.{BeginsFirst, IsCircle, IsSimple, Told, edges_of}
use Rattle.type_system_circles.specs.Sound.{Settled, Sound}

place_of : Colour → ℕ
place_of New = 0
place_of (InWork i) = i
place_of (Finished r) = r

pub same_work : (i j : ℕ) → InWork i ≡ InWork j → i ≡ j
unfolding place_of
same_work i j e = ap place_of e

pub same_rank : (i j : ℕ) → Finished i ≡ Finished j → i ≡ j
unfolding place_of
same_rank i j e = ap place_of e

pub new_work : (i : ℕ) → New ≡ InWork i → ⊥
new_work i e = cc

pub new_finished : (i : ℕ) → New ≡ Finished i → ⊥
new_finished i e = cc

pub work_finished : (i j : ℕ) → InWork i ≡ Finished j → ⊥
work_finished i j e = cc

told_more : (circles : List Circle) (c : Circle) (l : Link) → Told circles l → Told (circles ++ c ∷ []) l
told_more circles c l t = (t.0, Contains-append_left circles (c ∷ []) t.0 t.1, t.2)

module _ (graph : List Node) where
  pub sound_start : (n : ℕ) → n ≡ length graph → (cs : List Colour) → cs ≡ replicate n New → (looked : List ℕ) → looked ≡ replicate n 0 → length cs ≡ n → length looked ≡ n → Sound graph [] [] cs looked [] 0
  sound_start n same cs new looked none lc ll =
      let all : (v : ℕ) (c : Colour) → slice_get cs v ≡ Some c → New ≡ c = λ v c g. get_same n v New c (subst (λ (zs : List Colour). slice_get zs v ≡ Some c) new g) in
      let zeros : (v k : ℕ) → slice_get looked v ≡ Some k → 0 ≡ k = λ v k g. get_same n v 0 k (subst (λ (zs : List ℕ). slice_get zs v ≡ Some k) none g) in
      record {
        sized = lc ∙ same;
        counted = ll ∙ same;
        placed = λ i v g. absurd (none_some v g);
        stands = λ i v g. absurd (new_work i (all v (InWork i) g));
        ranked = λ v r g. absurd (new_finished r (all v (Finished r) g));
        bounded = λ v m at. let z : 0 ≡ m = zeros v m at in omega (arith, z);
        complete = λ v r m g at. absurd (new_finished r (all v (Finished r) g));
        settled = λ v m k e at lt ed. let z : 0 ≡ m = zeros v m at in absurd (omega (arith, z, lt));
        real = All-nil (λ c. IsCircle graph c.links.items);
        simple = All-nil (λ c. IsSimple c.links.items);
        first = All-nil (λ c. BeginsFirst c.links.items);
      }

  pub sound_tell : (path : List ℕ) (trail : List Link) (cs : List Colour) (looked : List ℕ) (circles : List Circle) (count : ℕ) (c : Circle)
      → IsCircle graph c.links.items → IsSimple c.links.items → BeginsFirst c.links.items
      → Sound graph path trail cs looked circles count → Sound graph path trail cs looked (circles ++ c ∷ []) count
  sound_tell path trail cs looked circles count c is once begins h = record {
    sized = h.sized;
    counted = h.counted;
    placed = h.placed;
    stands = h.stands;
    ranked = h.ranked;
    bounded = h.bounded;
    complete = h.complete;
    settled = λ v n k e at lt ed. elim (h.settled v n k e at lt ed) [ inl t ↦ inl (told_more circles c (record { from = v; edge = e }) t) | inr o ↦ inr o ];
    real = All-push (λ (z : Circle). IsCircle graph z.links.items) circles c h.real is;
    simple = All-push (λ (z : Circle). IsSimple z.links.items) circles c h.simple once;
    first = All-push (λ (z : Circle). BeginsFirst z.links.items) circles c h.first begins;
  }

  -- a new node stands at the end of the path
  pub sound_enter : (path : List ℕ) (trail more : List Link) (t : ℕ) (cs : List Colour) (looked : List ℕ) (circles : List Circle) (count : ℕ)
      → ((l : Link) → Contains trail l → Contains more l) → slice_get cs t ≡ Some New
      → Sound graph path trail cs looked circles count → Sound graph (path ++ t ∷ []) more (slice_set cs t (InWork (length path))) looked circles count
  sound_enter path trail more t cs looked circles count wider at h =
      let w : Colour = InWork (length path) in
      let ds : List Colour = slice_set cs t w in
      let here : slice_get ds t ≡ Some w = set_same cs t New w at in
      let was : (v r : ℕ) → slice_get ds v ≡ Some (Finished r) → slice_get cs v ≡ Some (Finished r) =
      λ v r g. set_was cs t v New w (Finished r) at (work_finished (length path) r) g in
      record {
        sized = length-set cs t w ∙ h.sized;
        counted = h.counted;
        placed = λ i v g. elim (get_snoc path t i v g) [
          | inl front ↦ set_keep cs t v New w (InWork i) at (new_work i) (h.placed i v front)
          | inr e ↦ subst (λ (z : ℕ). slice_get ds z ≡ Some (InWork i)) e.1 (subst (λ (k : ℕ). slice_get ds t ≡ Some (InWork k)) (sym e.0) here)
        ];
        stands = λ i v g. elim (cases_eq v t) [
          | inl e ↦
              let same : length path ≡ i = same_work (length path) i (same_item w (InWork i) (slice_get ds t) here (subst (λ (k : ℕ). slice_get ds k ≡ Some (InWork i)) e g)) in
              subst (λ (n : ℕ). slice_get (path ++ t ∷ []) i ≡ Some n) (sym e) (get_end path t i (sym same))
          | inr ne ↦ get_more path (t ∷ []) i v (h.stands i v (sym (set_other cs t v w ne) ∙ g))
        ];
        ranked = λ v r g. h.ranked v r (was v r g);
        bounded = h.bounded;
        complete = λ v r n g. h.complete v r n (was v r g);
        settled = λ v n k e is lt ed. elim (h.settled v n k e is lt ed) [
          | inl told ↦ inl told
          | inr o ↦ elim o [
            | inl on ↦ inr (inl (wider (record { from = v; edge = e }) on))
            | inr b ↦ inr (inr (b.0, set_keep cs t e.target New w (Finished b.0) at (new_finished b.0) b.1, λ r g. b.2 r (was v r g)))
          ]
        ];
        real = h.real;
        simple = h.simple;
        first = h.first;
      }

  -- the node at the end of the path is finished
  pub sound_finish : (path : List ℕ) (trail rest : List Link) (u : ℕ) (cs : List Colour) (looked : List ℕ) (circles : List Circle) (count more : ℕ)
      → more ≡ count + 1
      → ((l : Link) → Contains trail l → Contains rest l ⊎ ((l.edge.target ≡ u) × ((i : ℕ) × (slice_get path i ≡ Some l.from))))
      → ((n : ℕ) → slice_get looked u ≡ Some n → length (edges_of graph u) ≤ n)
      → Sound graph (path ++ u ∷ []) trail cs looked circles count → Sound graph path rest (slice_set cs u (Finished count)) looked circles more
  sound_finish path trail rest u cs looked circles count more next left all h =
      let d : ℕ = length path in
      let z : Colour = Finished count in
      let ds : List Colour = slice_set cs u z in
      let at : slice_get cs u ≡ Some (InWork d) = h.placed d u (get_end path u d refl) in
      let here : slice_get ds u ≡ Some z = set_same cs u (InWork d) z at in
      let stay : (v r : ℕ) → slice_get cs v ≡ Some (Finished r) → slice_get ds v ≡ Some (Finished r) =
      λ v r g. set_keep cs u v (InWork d) z (Finished r) at (work_finished d r) g in
      let works : (i v : ℕ) → slice_get path i ≡ Some v → slice_get ds v ≡ Some (InWork i) =
      λ i v g.
      let short : i < d = slice_get_within path i v g in
      set_keep cs u v (InWork d) z (InWork i) at (λ e. let same : d ≡ i = same_work d i e in omega (arith, same, short)) (h.placed i v (get_more path (u ∷ []) i v g)) in
      record {
        sized = length-set cs u z ∙ h.sized;
        counted = h.counted;
        placed = works;
        stands = λ i v g. elim (cases_eq v u) [
          | inl e ↦ absurd (work_finished i count (same_item (InWork i) z (slice_get ds u) (subst (λ (k : ℕ). slice_get ds k ≡ Some (InWork i)) e g) here))
          | inr ne ↦ elim (get_snoc path u i v (h.stands i v (sym (set_other cs u v z ne) ∙ g))) [
            | inl front ↦ front
            | inr e ↦ absurd (ne (sym e.1))
          ]
        ];
        ranked = λ v r g. elim (cases_eq v u) [
          | inl e ↦
              let same : count ≡ r = same_rank count r (same_item z (Finished r) (slice_get ds u) here (subst (λ (k : ℕ). slice_get ds k ≡ Some (Finished r)) e g)) in
              omega (arith, same, next)
          | inr ne ↦ let low : r < count = h.ranked v r (sym (set_other cs u v z ne) ∙ g) in omega (arith, low, next)
        ];
        bounded = h.bounded;
        complete = λ v r n g is. elim (cases_eq v u) [
          | inl e ↦ subst (λ (k : ℕ). length (edges_of graph k) ≤ n) (sym e) (all n (subst (λ (k : ℕ). slice_get looked k ≡ Some n) e is))
          | inr ne ↦ h.complete v r n (sym (set_other cs u v z ne) ∙ g) is
        ];
        settled = λ v n k e is lt ed. elim (h.settled v n k e is lt ed) [
          | inl told ↦ inl told
          | inr o ↦ elim o [
            | inl on ↦ elim (left (record { from = v; edge = e }) on) [
              | inl still ↦ inr (inl still)
              | inr was ↦ inr (inr (
                count,
                subst (λ (t : ℕ). slice_get ds t ≡ Some z) (sym was.0) here,
                λ r g. absurd (work_finished was.1.0 r (same_item (InWork was.1.0) (Finished r) (slice_get ds v) (works was.1.0 v was.1.1) g)),
              ))
            ]
            | inr b ↦ inr (inr (
              b.0,
              stay e.target b.0 b.1,
              λ r g. elim (cases_eq v u) [
                | inl same ↦
                    let rank : count ≡ r = same_rank count r (same_item z (Finished r) (slice_get ds u) here (subst (λ (k : ℕ). slice_get ds k ≡ Some (Finished r)) same g)) in
                    let low : b.0 < count = h.ranked e.target b.0 b.1 in
                    omega (arith, rank, low)
                | inr ne ↦ b.2 r (sym (set_other cs u v z ne) ∙ g)
              ],
            ))
          ]
        ];
        real = h.real;
        simple = h.simple;
        first = h.first;
      }

  -- one more edge of a node was looked at
  pub sound_look : (path : List ℕ) (trail : List Link) (cs : List Colour) (looked : List ℕ) (circles : List Circle) (count : ℕ) (u n m : ℕ) (e : Edge)
      → m ≡ n + 1 → slice_get looked u ≡ Some n → slice_get (edges_of graph u) n ≡ Some e → Settled trail cs circles (record { from = u; edge = e })
      → Sound graph path trail cs looked circles count → Sound graph path trail cs (slice_set looked u m) circles count
  sound_look path trail cs looked circles count u n m e next at edge now h =
      let new : List ℕ = slice_set looked u m in
      let here : slice_get new u ≡ Some m = set_same looked u n m at in
      record {
        sized = h.sized;
        counted = length-set looked u m ∙ h.counted;
        placed = h.placed;
        stands = h.stands;
        ranked = h.ranked;
        bounded = λ v k is. elim (cases_eq v u) [
          | inl same ↦
              let one : m ≡ k = same_item m k (slice_get new u) here (subst (λ (z : ℕ). slice_get new z ≡ Some k) same is) in
              let room : n < length (edges_of graph u) = slice_get_within (edges_of graph u) n e edge in
              let more : k ≤ length (edges_of graph u) = omega (arith, one, next, room) in
              subst (λ (z : ℕ). k ≤ length (edges_of graph z)) (sym same) more
          | inr ne ↦ h.bounded v k (sym (set_other looked u v m ne) ∙ is)
        ];
        complete = λ v r k g is. elim (cases_eq v u) [
          | inl same ↦
              let one : m ≡ k = same_item m k (slice_get new u) here (subst (λ (z : ℕ). slice_get new z ≡ Some k) same is) in
              let most : length (edges_of graph v) ≤ n = h.complete v r n g (subst (λ (z : ℕ). slice_get looked z ≡ Some n) (sym same) at) in
              omega (arith, most, one, next)
          | inr ne ↦ h.complete v r k g (sym (set_other looked u v m ne) ∙ is)
        ];
        settled = λ v k j x is lt ed. elim (cases_eq v u) [
          | inl same ↦
              let one : m ≡ k = same_item m k (slice_get new u) here (subst (λ (z : ℕ). slice_get new z ≡ Some k) same is) in
              elim (cases_eq j n) [
                | inl last ↦
                    let is_edge : e ≡ x = same_item e x (slice_get (edges_of graph u) n) edge (subst (λ (i : ℕ). slice_get (edges_of graph u) i ≡ Some x) last (subst (λ (z : ℕ). slice_get (edges_of graph z) j ≡ Some x) same ed)) in
                    subst (λ (z : ℕ). Settled trail cs circles (record { from = z; edge = x })) (sym same)
                    (subst (λ (y : Edge). Settled trail cs circles (record { from = u; edge = y })) is_edge now)
                | inr before ↦ h.settled v n j x (subst (λ (z : ℕ). slice_get looked z ≡ Some n) (sym same) at) (omega (arith, lt, one, next, before)) ed
              ]
          | inr ne ↦ h.settled v k j x (sym (set_other looked u v m ne) ∙ is) lt ed
        ];
        real = h.real;
        simple = h.simple;
        first = h.first;
      }
