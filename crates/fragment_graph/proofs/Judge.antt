-- What holds when each node is finished.
use Rattle.std.proofs.Common.{◌≡◌, ℕ, ◌<◌, ◌≤◌, List, [], ◌∷◌, length, refl, sym, subst, ap, arith, inl, inr, ◌⊎◌, Some, slice_get, ◌∙◌, map}
use Rattle.std.proofs.lemmas.List.{length-map}
use Rattle.std.specs.List.{All, Contains}
use Rattle.std.specs.Option.{option_map, option_map_or}
use Rattle.std.proofs.lemmas.Bool.{cases_order}
use Rattle.std.proofs.lemmas.Option.{slice_get_within, slice_get_past, slice_get-map}
use Rattle.fragment_graph.specs.declared.graph.Node.{Node}
use Rattle.fragment_graph.specs.declared.graph.Spread.{Spread}
use Rattle.fragment_graph.specs.declared.search.Report.{Report}
use Rattle.fragment_graph.specs.declared.search.Outcome.{Outcome}
use Rattle.fragment_graph.specs.declared.search.Colour.{Colour}
use Rattle.fragment_graph.specs.declared.search.Colour.TheVariants.{New, InWork, Finished}
use Rattle.fragment_graph.specs.Graph.{spreads_of, Spreads, Path, step, more, Named, IsTrueReport}
use Rattle.fragment_graph.specs.Sound.{Below, Sound}
use Rattle.fragment_graph.specs.Searched.{Searched, rank_of}
use Rattle.fragment_graph.proofs.Lists.{same_item, none_some, get_some, contains_none}
use Rattle.fragment_graph.proofs.Chains.{lead}
use Rattle.fragment_graph.proofs.Counts.{all_finished, none_fresh}
use Rattle.fragment_graph.proofs.Steps.{same_rank}

named_none : {graph : List Node} (reports : List Report) {u w : ℕ} (p : Path graph u w) → reports ≡ [] → Named reports p → ⊥
named_none reports (step s) e n = contains_none n.0 (subst (λ (zs : List Report). Contains zs n.0) e n.1)
named_none reports (more s p) e (inl n) = contains_none n.0 (subst (λ (zs : List Report). Contains zs n.0) e n.1)
named_none reports (more s p) e (inr n) = named_none reports p e n

none_past : (graph : List Node) (u : ℕ) → length graph ≤ u → spreads_of graph u ≡ []
none_past graph u le = ap (λ o. option_map_or (λ (n : Node). n.spreads.items) o []) (slice_get_past graph u le)

pub inside : (graph : List Node) (u v : ℕ) → Spreads graph u v → length graph ≤ u → ⊥
inside graph u v s le = contains_none s.0 (subst (λ (zs : List Spread). Contains zs s.0) (none_past graph u le) s.1)

pub starts_inside : (graph : List Node) {u w : ℕ} → Path graph u w → length graph ≤ u → ⊥
starts_inside graph {u} (step {v = v} s) le = inside graph u v s le
starts_inside graph {u} (more {v = v} s p) le = inside graph u v s le

pub below_length : (m n : ℕ) → (m ≤ n → ⊥) → n < m
below_length m n h = elim (cases_order m n) [
  | inl e ↦ absurd (h (omega (arith, e)))
  | inr o ↦ elim o [ inl l ↦ absurd (h (omega (arith, l))) | inr l ↦ l ]
]

no_reports : (graph : List Node) (reports : List Report) → All (IsTrueReport graph) reports → ((v : ℕ) → Path graph v v → ⊥) → reports ≡ []
no_reports graph [] all none = refl
no_reports graph (r ∷ rs) all none =
    let t = all 0 r (omega arith) in absurd (none r.node (lead graph (r.spread, t.0, refl) t.1))

module _ (graph : List Node) (cs : List Colour) (order : List ℕ) (reports : List Report) (looked : ℕ)
    (sound : Sound graph [] [] cs order reports looked) (begun : (v : ℕ) → v < length graph → slice_get cs v ≡ Some New → ⊥) where
  finished : (v : ℕ) (c : Colour) → slice_get cs v ≡ Some c → (r : ℕ) × (c ≡ Finished r)
  finished v New g =
      let room : v < length cs = slice_get_within cs v New g in
      let sized = sound.sized in
      absurd (begun v (omega (arith, room, sized)) g)
  finished v (InWork i) g = absurd (none_some _ (sound.stands v i g).1)
  finished v (Finished r) g = (r, refl)

  finished_below : (v : ℕ) → v < length graph → (r : ℕ) × (slice_get cs v ≡ Some (Finished r))
  finished_below v l =
      let sized = sound.sized in
      let at = get_some cs v (omega (arith, l, sized)) in
      let f = finished v at.0 at.1 in
      (f.0, at.1 ∙ ap Some f.1)

  rank_at : (v r : ℕ) → slice_get cs v ≡ Some (Finished r) → slice_get (map rank_of cs) v ≡ Some r
  rank_at v r g = slice_get-map rank_of cs v ∙ ap (option_map rank_of) g

  rank_from : (v r : ℕ) → slice_get (map rank_of cs) v ≡ Some r → slice_get cs v ≡ Some (Finished r)
  rank_from v r g =
      let room : v < length (map rank_of cs) = slice_get_within (map rank_of cs) v r g in
      let at = get_some cs v (omega (arith, room, length-map cs rank_of)) in
      let f = finished v at.0 at.1 in
      let is : slice_get cs v ≡ Some (Finished f.0) = at.1 ∙ ap Some f.1 in
      is ∙ ap (λ (k : ℕ). Some (Finished k)) (same_item f.0 r (slice_get (map rank_of cs) v) (rank_at v f.0 is) g)

  falls_one : (u v r : ℕ) → slice_get cs u ≡ Some (Finished r) → Spreads graph u v → Below graph cs reports r v
  falls_one u v r at s = subst (Below graph cs reports r) s.2 ((sound.finished u r at).1 s.0 s.1)

  abbrev Falls : ℕ → ℕ → Type 0
  Falls r w = (length graph ≤ w) ⊎ ((k : ℕ) × (slice_get cs w ≡ Some (Finished k)) × (k < r))

  falls : {u w : ℕ} (p : Path graph u w) (r : ℕ) → slice_get cs u ≡ Some (Finished r) → Named reports p ⊎ Falls r w
  falls {u} {w} (step s) r at = elim (falls_one u w r at s) [
    | inl past ↦ inr (inl past)
    | inr o ↦ elim o [ inl told ↦ inl told | inr b ↦ inr (inr b) ]
  ]
  falls {u} {w} (more {v = v} s p) r at = elim (falls_one u v r at s) [
    | inl past ↦ absurd (starts_inside graph p past)
    | inr o ↦ elim o [
      | inl told ↦ inl (inl told)
      | inr b ↦ elim (falls p b.0 b.1) [
        | inl n ↦ inl (inr n)
        | inr f ↦ elim f [
          | inl past ↦ inr (inl past)
          | inr k ↦ let low = b.2 in let lower = k.2 in inr (inr (k.0, k.1, omega (arith, low, lower)))
        ]
      ]
    ]
  ]

  enough : (v : ℕ) (p : Path graph v v) → Named reports p
  enough v p =
      let at = finished_below v (below_length (length graph) v (starts_inside graph p)) in
      elim (falls p at.0 at.1) [
        | inl n ↦ n
        | inr f ↦ elim f [
          | inl past ↦ absurd (starts_inside graph p past)
          | inr k ↦
              let same : Finished at.0 ≡ Finished k.0 = same_item (Finished at.0) (Finished k.0) (slice_get cs v) at.1 k.1 in
              let lower = k.2 in
              absurd (omega (arith, same_rank at.0 k.0 same, lower))
        ]
      ]

  earlier : reports ≡ [] → (u v s r : ℕ) → Spreads graph u v → slice_get (map rank_of cs) u ≡ Some s → slice_get (map rank_of cs) v ≡ Some r → r < s
  earlier none u v s r e su rv =
      let at : slice_get cs v ≡ Some (Finished r) = rank_from v r rv in
      elim (falls_one u v s (rank_from u s su) e) [
        | inl past ↦
            let room : v < length cs = slice_get_within cs v (Finished r) at in
            let sized = sound.sized in
            absurd (omega (arith, past, room, sized))
        | inr o ↦ elim o [
          | inl told ↦ absurd (contains_none told.0 (subst (λ (zs : List Report). Contains zs told.0) none told.1))
          | inr b ↦
              let same : Finished b.0 ≡ Finished r = same_item (Finished b.0) (Finished r) (slice_get cs v) b.1 at in
              let low = b.2 in
              omega (arith, same_rank b.0 r same, low)
        ]
      ]

pub searched : (graph : List Node) (cs : List Colour) (o : Outcome)
    → Sound graph [] [] cs o.order.items o.reports.items o.looked
    → ((v : ℕ) → v < length graph → slice_get cs v ≡ Some New → ⊥)
    → o.ranks.items ≡ map rank_of cs
    → Searched graph o
searched graph cs o sound begun ranks =
    let order : List ℕ = o.order.items in
    let reports : List Report = o.reports.items in
    let sized = sound.sized in
    let all = finished graph cs order reports o.looked sound begun in
    record {
      real = sound.real;
      enough = enough graph cs order reports o.looked sound begun;
      looked = omega (arith, sound.counted, none_fresh graph cs all);
      order_length = omega (arith, sound.numbered, all_finished cs all);
      rank_length = ap length ranks ∙ length-map cs rank_of ∙ sized;
      ranked = λ v r. (
        λ g. (sound.finished v r (rank_from graph cs order reports o.looked sound begun v r (subst (λ (zs : List ℕ). slice_get zs v ≡ Some r) ranks g))).0,
        λ g. subst (λ (zs : List ℕ). slice_get zs v ≡ Some r) (sym ranks) (rank_at graph cs order reports o.looked sound begun v r (sound.ordered r v g)),
      );
      earlier = λ none u v s r e su rv. earlier graph cs order reports o.looked sound begun none u v s r e
          (subst (λ (zs : List ℕ). slice_get zs u ≡ Some s) ranks su) (subst (λ (zs : List ℕ). slice_get zs v ≡ Some r) ranks rv);
      none = (
        λ e v p. named_none reports p e (enough graph cs order reports o.looked sound begun v p),
        λ h. no_reports graph reports sound.real h,
      );
    }
