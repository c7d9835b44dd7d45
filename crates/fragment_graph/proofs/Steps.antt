-- What the search does, a step at a time, keeps it sound.
use Rattle.std.proofs.Common.{◌≡◌, ℕ, ◌+◌, ◌-◌, ◌<◌, ◌≤◌, List, [], ◌∷◌, ◌++◌, length, refl, sym, subst, ap, arith, inl, inr, Some, None, slice_get, slice_set, get_or, length-append, length-set, ◌∙◌}
use Rattle.std.specs.List.{Contains}
use Rattle.std.proofs.lemmas.Bool.{cases_eq}
use Rattle.std.proofs.lemmas.Option.{slice_get_within, slice_get_read, get_or_from_slice_get}
use Rattle.std.proofs.lemmas.List.Elements.{All-push, All-nil, Contains-append_left, Contains-push}
use Rattle.fragment_graph.specs.declared.graph.Node.{Node}
use Rattle.fragment_graph.specs.declared.graph.Spread.{Spread}
use Rattle.fragment_graph.specs.declared.search.Report.{Report}
use Rattle.fragment_graph.specs.declared.search.Colour.{Colour}
use Rattle.fragment_graph.specs.declared.search.Colour.TheVariants.{New, InWork, Finished}
use Rattle.fragment_graph.specs.declared.search.Step.{Step}
use Rattle.fragment_graph.specs.declared.search.Search.{Search}
use Rattle.fragment_graph.specs.Graph.{spreads_of, LeadsTo, IsTrueReport}
use Rattle.fragment_graph.specs.Sound.{Below, Link, Sound, SoundAlong}
use Rattle.fragment_graph.proofs.Lists.{same_item, none_some, get_more, get_snoc, get_end, get_none, set_same, set_other, set_keep, set_was, contains_at, contains_get}
use Rattle.fragment_graph.proofs.Chains.{chained_map, chained_look, chained_settle, chained_enter, chained_top, chained_pop, back}
use Rattle.fragment_graph.proofs.Counts.{fresh-set, unfinished-set, path_left-push, all_new, all_unfinished}

number_of : Colour → ℕ
number_of New = 0
number_of (InWork i) = i
number_of (Finished r) = r

same_work : (i j : ℕ) → InWork i ≡ InWork j → i ≡ j
unfolding number_of
same_work i j e = ap number_of e

pub same_rank : (i j : ℕ) → Finished i ≡ Finished j → i ≡ j
unfolding number_of
same_rank i j e = ap number_of e

pub new_work : (i : ℕ) → New ≡ InWork i → ⊥
new_work i e = cc

pub new_finished : (i : ℕ) → New ≡ Finished i → ⊥
new_finished i e = cc

pub work_finished : (i j : ℕ) → InWork i ≡ Finished j → ⊥
work_finished i j e = cc

module _ (graph : List Node) where
  below_colours : (cs ds : List Colour) (reports : List Report) (m n : ℕ) → m ≤ n
      → ((v r : ℕ) → slice_get cs v ≡ Some (Finished r) → slice_get ds v ≡ Some (Finished r))
      → (v : ℕ) → Below graph cs reports m v → Below graph ds reports n v
  below_colours cs ds reports m n le f v (inl past) = inl past
  below_colours cs ds reports m n le f v (inr (inl told)) = inr (inl told)
  below_colours cs ds reports m n le f v (inr (inr b)) = inr (inr (b.0, f v b.0 b.1, omega (arith, b.2, le)))

  below_reports : (cs : List Colour) (reports : List Report) (r : Report) (m v : ℕ) → Below graph cs reports m v → Below graph cs (reports ++ r ∷ []) m v
  below_reports cs reports r m v (inl past) = inl past
  below_reports cs reports r m v (inr (inl told)) = inr (inl (told.0, Contains-append_left reports (r ∷ []) told.0 told.1, told.2))
  below_reports cs reports r m v (inr (inr b)) = inr (inr b)

  pub sound_look : (base : List Step) (p : Step) (y : Spread) (cs : List Colour) (order : List ℕ) (reports : List Report) (looked : ℕ)
      → slice_get (spreads_of graph p.node) p.looked ≡ Some y
      → Sound graph (base ++ p ∷ []) [] cs order reports looked
      → Sound graph (base ++ record { node = p.node; looked = p.looked + 1 } ∷ []) (y.target ∷ []) cs order reports (looked + 1)
  sound_look base p y cs order reports looked at h =
      let q : Step = record { node = p.node; looked = p.looked + 1 } in
      let room : p.looked < length (spreads_of graph p.node) = slice_get_within (spreads_of graph p.node) p.looked y at in
      record {
        sized = h.sized;
        placed = λ i r g. elim (get_snoc base q i r g) [
          | inl front ↦ h.placed i r (get_more base (p ∷ []) i r front)
          | inr e ↦ subst (λ (z : Step). slice_get cs z.node ≡ Some (InWork i)) e.1 (h.placed i p (get_end base p i e.0))
        ];
        stands = λ v i g. let s = h.stands v i g in elim (get_snoc base p i (record { node = v; looked = s.0 }) s.1) [
          | inl front ↦ (s.0, get_more base (q ∷ []) i (record { node = v; looked = s.0 }) front)
          | inr e ↦ (p.looked + 1, subst (λ (n : ℕ). slice_get (base ++ q ∷ []) i ≡ Some (record { node = n; looked = p.looked + 1 })) (ap (λ (z : Step). z.node) e.1) (get_end base q i e.0))
        ];
        chained = chained_look graph (Below graph cs reports (length order)) base p.node p.looked y at h.chained;
        finished = h.finished;
        ordered = h.ordered;
        real = h.real;
        counted = omega (arith, h.counted, room, path_left-push graph base p, path_left-push graph base q);
        numbered = h.numbered;
      }

  pub sound_settle : (path : List Step) (t : ℕ) (cs : List Colour) (order : List ℕ) (reports : List Report) (looked : ℕ)
      → Below graph cs reports (length order) t
      → Sound graph path (t ∷ []) cs order reports looked → Sound graph path [] cs order reports looked
  sound_settle path t cs order reports looked b h = record {
    sized = h.sized;
    placed = h.placed;
    stands = h.stands;
    chained = chained_settle graph (Below graph cs reports (length order)) path t b h.chained;
    finished = h.finished;
    ordered = h.ordered;
    real = h.real;
    counted = h.counted;
    numbered = h.numbered;
  }

  pub sound_report : (path : List Step) (next : List ℕ) (cs : List Colour) (order : List ℕ) (reports : List Report) (looked : ℕ) (r : Report)
      → IsTrueReport graph r
      → Sound graph path next cs order reports looked → Sound graph path next cs order (reports ++ r ∷ []) looked
  sound_report path next cs order reports looked r real h = record {
    sized = h.sized;
    placed = h.placed;
    stands = h.stands;
    chained = chained_map graph (Below graph cs reports (length order)) (Below graph cs (reports ++ r ∷ []) (length order)) (below_reports cs reports r (length order)) path next h.chained;
    finished = λ v n g. let f = h.finished v n g in (f.0, λ x c. below_reports cs reports r n x.target (f.1 x c));
    ordered = h.ordered;
    real = All-push (IsTrueReport graph) reports r h.real real;
    counted = h.counted;
    numbered = h.numbered;
  }

  -- the spread that a node in work looked at last
  pub back_link : (path : List Step) (t d : ℕ) (p : Step) (cs : List Colour) (order : List ℕ) (reports : List Report) (looked : ℕ)
      → slice_get cs t ≡ Some (InWork d) → slice_get path d ≡ Some p
      → Sound graph path (t ∷ []) cs order reports looked
      → (p.node ≡ t) × ((v : ℕ) × Link graph p v × LeadsTo graph v t)
  back_link path t d p cs order reports looked in_work at h =
      let s = h.stands t d in_work in
      let is : p ≡ record { node = t; looked = s.0 } = same_item p (record { node = t; looked = s.0 }) (slice_get path d) at s.1 in
      (ap (λ (z : Step). z.node) is, back graph (Below graph cs reports (length order)) path t h.chained d p at)

  pub true_report : (p : Step) (t : ℕ) (x : Spread) (v : ℕ) → p.node ≡ t → (k : Link graph p v) → LeadsTo graph v t → k.spread ≡ x
      → IsTrueReport graph (record { node = t; spread = x })
  true_report p t x v e k leads is = (
    subst (λ (n : ℕ). Contains (spreads_of graph n) x) e (subst (λ (z : Spread). Contains (spreads_of graph p.node) z) is (contains_at (spreads_of graph p.node) k.before k.spread k.stands)),
    subst (λ (n : ℕ). LeadsTo graph n t) (sym k.leads ∙ ap (λ (z : Spread). z.target) is) leads,
  )

  pub sound_enter : (path : List Step) (t : ℕ) (cs : List Colour) (order : List ℕ) (reports : List Report) (looked : ℕ)
      → slice_get cs t ≡ Some New
      → Sound graph path (t ∷ []) cs order reports looked
      → Sound graph (path ++ record { node = t; looked = 0 } ∷ []) [] (slice_set cs t (InWork (length path))) order reports looked
  sound_enter path t cs order reports looked at h =
      let w : Colour = InWork (length path) in
      let p : Step = record { node = t; looked = 0 } in
      let ds : List Colour = slice_set cs t w in
      let here : slice_get ds t ≡ Some w = set_same cs t New w at in
      let stay : (v r : ℕ) → slice_get cs v ≡ Some (Finished r) → slice_get ds v ≡ Some (Finished r) =
      λ v r g. set_keep cs t v New w (Finished r) at (new_finished r) g in
      record {
        sized = length-set cs t w ∙ h.sized;
        placed = λ i q g. elim (get_snoc path p i q g) [
          | inl front ↦ set_keep cs t q.node New w (InWork i) at (new_work i) (h.placed i q front)
          | inr e ↦ subst (λ (z : Step). slice_get ds z.node ≡ Some (InWork i)) e.1 (subst (λ (k : ℕ). slice_get ds t ≡ Some (InWork k)) (sym e.0) here)
        ];
        stands = λ v i g. elim (cases_eq v t) [
          | inl e ↦
              let same : length path ≡ i = same_work (length path) i (same_item w (InWork i) (slice_get ds t) here (subst (λ (k : ℕ). slice_get ds k ≡ Some (InWork i)) e g)) in
              (0, subst (λ (n : ℕ). slice_get (path ++ p ∷ []) i ≡ Some (record { node = n; looked = 0 })) (sym e) (get_end path p i (sym same)))
          | inr ne ↦ let s = h.stands v i (sym (set_other cs t v w ne) ∙ g) in (s.0, get_more path (p ∷ []) i (record { node = v; looked = s.0 }) s.1)
        ];
        chained = chained_enter graph (Below graph ds reports (length order)) path t
            (chained_map graph (Below graph cs reports (length order)) (Below graph ds reports (length order))
            (below_colours cs ds reports (length order) (length order) (omega arith) stay) path (t ∷ []) h.chained);
        finished = λ v r g.
            let f = h.finished v r (set_was cs t v New w (Finished r) at (work_finished (length path) r) g) in
            (f.0, λ x c. below_colours cs ds reports r r (omega arith) stay x.target (f.1 x c));
        ordered = λ r v g. stay v r (h.ordered r v g);
        real = h.real;
        counted = omega (arith, h.counted, fresh-set graph cs t New w at, path_left-push graph path p);
        numbered = omega (arith, h.numbered, unfinished-set cs t New w at);
      }

  pub sound_finish : (base : List Step) (p : Step) (cs : List Colour) (order : List ℕ) (reports : List Report) (looked : ℕ)
      → slice_get (spreads_of graph p.node) p.looked ≡ None
      → Sound graph (base ++ p ∷ []) [] cs order reports looked
      → Sound graph base [] (slice_set cs p.node (Finished (length order))) (order ++ p.node ∷ []) reports looked
  sound_finish base p cs order reports looked none h =
      let u : ℕ = p.node in
      let m : ℕ = length order in
      let d : ℕ = length base in
      let z : Colour = Finished m in
      let ds : List Colour = slice_set cs u z in
      let at : slice_get cs u ≡ Some (InWork d) = h.placed d p (get_end base p d refl) in
      let here : slice_get ds u ≡ Some z = set_same cs u (InWork d) z at in
      let longer : length (order ++ u ∷ []) ≡ m + 1 = length-append order (u ∷ []) in
      let over : length (spreads_of graph u) ≤ p.looked = get_none (spreads_of graph u) p.looked none in
      let stay : (v r : ℕ) → slice_get cs v ≡ Some (Finished r) → slice_get ds v ≡ Some (Finished r) =
      λ v r g. set_keep cs u v (InWork d) z (Finished r) at (work_finished d r) g in
      record {
        sized = length-set cs u z ∙ h.sized;
        placed = λ i q g.
            let short : i < d = slice_get_within base i q g in
            set_keep cs u q.node (InWork d) z (InWork i) at (λ e. let same : d ≡ i = same_work d i e in omega (arith, same, short)) (h.placed i q (get_more base (p ∷ []) i q g));
        stands = λ v i g. elim (cases_eq v u) [
          | inl e ↦ absurd (work_finished i m (same_item (InWork i) z (slice_get ds u) (subst (λ (k : ℕ). slice_get ds k ≡ Some (InWork i)) e g) here))
          | inr ne ↦ let s = h.stands v i (sym (set_other cs u v z ne) ∙ g) in elim (get_snoc base p i (record { node = v; looked = s.0 }) s.1) [
            | inl front ↦ (s.0, front)
            | inr e ↦ absurd (ne (sym (ap (λ (w : Step). w.node) e.1)))
          ]
        ];
        chained = chained_settle graph (Below graph ds reports (length (order ++ u ∷ []))) base u (inr (inr (m, here, omega (arith, longer))))
            (chained_map graph (Below graph cs reports m) (Below graph ds reports (length (order ++ u ∷ [])))
            (below_colours cs ds reports m (length (order ++ u ∷ [])) (omega (arith, longer)) stay) base (u ∷ [])
            (chained_pop graph (Below graph cs reports m) base p h.chained));
        finished = λ v r g. elim (cases_eq v u) [
          | inl e ↦
              let same : m ≡ r = same_rank m r (same_item z (Finished r) (slice_get ds u) here (subst (λ (k : ℕ). slice_get ds k ≡ Some (Finished r)) e g)) in (
                subst (λ (k : ℕ). slice_get (order ++ u ∷ []) r ≡ Some k) (sym e) (get_end order u r (sym same)),
                λ x c.
                    let k = contains_get (spreads_of graph u) x (subst (λ (n : ℕ). Contains (spreads_of graph n) x) e c) in
                    let inside : k.0 < length (spreads_of graph u) = slice_get_within (spreads_of graph u) k.0 x k.1 in
                    below_colours cs ds reports m r (omega (arith, same)) stay x.target
                    (chained_top graph (Below graph cs reports m) base p h.chained k.0 x (omega (arith, inside, over)) k.1),
              )
          | inr ne ↦
              let f = h.finished v r (sym (set_other cs u v z ne) ∙ g) in
              (get_more order (u ∷ []) r v f.0, λ x c. below_colours cs ds reports r r (omega arith) stay x.target (f.1 x c))
        ];
        ordered = λ r v g. elim (get_snoc order u r v g) [
          | inl front ↦ stay v r (h.ordered r v front)
          | inr e ↦ subst (λ (k : ℕ). slice_get ds k ≡ Some (Finished r)) e.1 (subst (λ (k : ℕ). slice_get ds u ≡ Some (Finished k)) (sym e.0) here)
        ];
        real = h.real;
        counted = omega (arith, h.counted, over, fresh-set graph cs u (InWork d) z at, path_left-push graph base p);
        numbered = omega (arith, h.numbered, longer, unfinished-set cs u (InWork d) z at);
      }

  pub last_link : (s : Search) (t d : ℕ) (p : Step) → slice_get s.colours.items t ≡ Some (InWork d) → p ≡ get_or s.path.items d p
      → SoundAlong graph s.path.items (t ∷ []) s → (p.node ≡ t) × ((v : ℕ) × Link graph p v × LeadsTo graph v t)
  last_link s t d p in_work read h =
      let w = h.stands t d in_work in
      let room : d < length s.path.items = slice_get_within s.path.items d (record { node = t; looked = w.0 }) w.1 in
      back_link s.path.items t d p s.colours.items s.order.items s.reports.items s.looked in_work (slice_get_read s.path.items (length s.path.items) d p refl room read) h

  -- a node in work was met and reported
  pub sound_met : (s : Search) (t d : ℕ) (p : Step) (xs : List Spread) (e : Spread) (new : List Report)
      → slice_get s.colours.items t ≡ Some (InWork d) → p ≡ get_or s.path.items d p → xs ≡ spreads_of graph p.node
      → new ≡ s.reports.items ++ record { node = t; spread = get_or xs (p.looked - 1) e } ∷ []
      → SoundAlong graph s.path.items (t ∷ []) s → Sound graph s.path.items [] s.colours.items s.order.items new s.looked
  sound_met s t d p xs e new in_work read own is h =
      let k = last_link s t d p in_work read h in
      let link : Link graph p k.1.0 = k.1.1 in
      let x : Spread = get_or xs (p.looked - 1) e in
      let last = link.last in
      let place : p.looked - 1 ≡ link.before = omega (arith, last) in
      let same : x ≡ link.spread = ap (λ (zs : List Spread). get_or zs (p.looked - 1) e) own ∙ ap (λ (i : ℕ). get_or (spreads_of graph p.node) i e) place
      ∙ get_or_from_slice_get (spreads_of graph p.node) link.before link.spread e link.stands in
      let r : Report = record { node = t; spread = x } in
      let told : List Report = s.reports.items ++ r ∷ [] in
      subst (λ (zs : List Report). Sound graph s.path.items [] s.colours.items s.order.items zs s.looked) (sym is)
      (sound_settle s.path.items t s.colours.items s.order.items told s.looked (inr (inl (r, Contains-push s.reports.items r, refl)))
      (sound_report s.path.items (t ∷ []) s.colours.items s.order.items s.reports.items s.looked r (true_report p t x k.1.0 k.0 link k.1.2 (sym same)) h))

  pub sound_root : (t : ℕ) (cs : List Colour) (order : List ℕ) (reports : List Report) (looked : ℕ)
      → Sound graph [] [] cs order reports looked → Sound graph [] (t ∷ []) cs order reports looked
  sound_root t cs order reports looked h = record {
    sized = h.sized;
    placed = h.placed;
    stands = h.stands;
    chained = tt;
    finished = h.finished;
    ordered = h.ordered;
    real = h.real;
    counted = h.counted;
    numbered = h.numbered;
  }

  pub sound_start : (cs : List Colour) → length cs ≡ length graph → ((v : ℕ) (c : Colour) → slice_get cs v ≡ Some c → c ≡ New) → Sound graph [] [] cs [] [] 0
  sound_start cs l h = record {
    sized = l;
    placed = λ i p g. absurd (none_some p g);
    stands = λ v i g. absurd (new_work i (sym (h v (InWork i) g)));
    chained = tt;
    finished = λ v r g. absurd (new_finished r (sym (h v (Finished r) g)));
    ordered = λ r v g. absurd (none_some v g);
    real = All-nil (IsTrueReport graph);
    counted = omega (arith, all_new graph cs l h);
    numbered = omega (arith, all_unfinished cs h, l);
  }
