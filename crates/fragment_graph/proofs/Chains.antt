-- Steps of a path, each leading to the next.
use Rattle.std.proofs.Common.{◌≡◌, ℕ, ◌+◌, ◌<◌, List, [], ◌∷◌, ◌++◌, refl, subst, ap, arith, inl, inr, zero, suc, Some, slice_get}
use Rattle.std.specs.List.{Contains}
use Rattle.std.proofs.lemmas.Bool.{cases_eq}
use Rattle.fragment_graph.specs.declared.graph.Node.{Node}
use Rattle.fragment_graph.specs.declared.graph.Spread.{Spread}
use Rattle.fragment_graph.specs.declared.search.Step.{Step}
use Rattle.fragment_graph.specs.Graph.{spreads_of, Spreads, Path, step, more, LeadsTo}
use Rattle.fragment_graph.specs.Sound.{Link, after, StepHolds, Chained}
use Rattle.fragment_graph.proofs.Lists.{same_item, same_some, none_some, contains_at, contains_none, contains_one, one_contains}

module _ (graph : List Node) where
  pub chained_map : (B C : ℕ → Type 0) → ((v : ℕ) → B v → C v) → (path : List Step) (next : List ℕ) → Chained graph B path next → Chained graph C path next
  chained_map B C f [] next h = tt
  chained_map B C f (p ∷ ps) next h = (
    record { linked = h.0.linked; settled = λ j x l g. elim (h.0.settled j x l g) [ inl b ↦ inl (f x.target b) | inr c ↦ inr c ] },
    chained_map B C f ps next h.1,
  )

  after_same : (ps : List Step) (p q : Step) (n m : List ℕ) → p.node ≡ q.node → after (ps ++ p ∷ []) n ≡ after (ps ++ q ∷ []) m
  after_same [] p q n m e = ap (λ (v : ℕ). v ∷ []) e
  after_same (r ∷ rs) p q n m e = refl

  pub chained_look : (B : ℕ → Type 0) (base : List Step) (u l : ℕ) (y : Spread) → slice_get (spreads_of graph u) l ≡ Some y
      → Chained graph B (base ++ record { node = u; looked = l } ∷ []) [] → Chained graph B (base ++ record { node = u; looked = l + 1 } ∷ []) (y.target ∷ [])
  chained_look B [] u l y g h = (
    record {
      linked = λ v c. record { before = l; spread = y; last = omega arith; stands = g; leads = contains_one y.target v c };
      settled = λ j x lt at. elim (cases_eq j l) [
        | inl e ↦ inr (subst (λ (z : Spread). Contains (y.target ∷ []) z.target)
            (same_item y x (slice_get (spreads_of graph u) l) g (subst (λ (k : ℕ). slice_get (spreads_of graph u) k ≡ Some x) e at)) (one_contains y.target))
        | inr ne ↦ elim (h.0.settled j x (omega (arith, lt, ne)) at) [ inl b ↦ inl b | inr c ↦ absurd (contains_none x.target c) ]
      ];
    },
    tt,
  )
  chained_look B (p ∷ ps) u l y g h = (
    subst (λ (n : List ℕ). StepHolds graph B p n) (after_same ps (record { node = u; looked = l }) (record { node = u; looked = l + 1 }) [] (y.target ∷ []) refl) h.0,
    chained_look B ps u l y g h.1,
  )

  pub chained_settle : (B : ℕ → Type 0) (path : List Step) (t : ℕ) → B t → Chained graph B path (t ∷ []) → Chained graph B path []
  chained_settle B [] t b h = tt
  chained_settle B (p ∷ []) t b h = (
    record {
      linked = λ v c. absurd (contains_none v c);
      settled = λ j x l g. elim (h.0.settled j x l g) [ inl k ↦ inl k | inr c ↦ inl (subst B (contains_one t x.target c) b) ];
    },
    tt,
  )
  chained_settle B (p ∷ q ∷ ps) t b h = (h.0, chained_settle B (q ∷ ps) t b h.1)

  pub chained_enter : (B : ℕ → Type 0) (path : List Step) (t : ℕ) → Chained graph B path (t ∷ []) → Chained graph B (path ++ record { node = t; looked = 0 } ∷ []) []
  chained_enter B [] t h = (record { linked = λ v c. absurd (contains_none v c); settled = λ j x l g. absurd (omega (arith, l)) }, tt)
  chained_enter B (p ∷ []) t h = (h.0, chained_enter B [] t tt)
  chained_enter B (p ∷ q ∷ ps) t h = (h.0, chained_enter B (q ∷ ps) t h.1)

  pub chained_top : (B : ℕ → Type 0) (base : List Step) (p : Step) → Chained graph B (base ++ p ∷ []) []
      → (j : ℕ) (x : Spread) → j < p.looked → slice_get (spreads_of graph p.node) j ≡ Some x → B x.target
  chained_top B [] p h j x l g = elim (h.0.settled j x l g) [ inl b ↦ b | inr c ↦ absurd (contains_none x.target c) ]
  chained_top B (q ∷ qs) p h j x l g = chained_top B qs p h.1 j x l g

  pub chained_pop : (B : ℕ → Type 0) (base : List Step) (p : Step) → Chained graph B (base ++ p ∷ []) [] → Chained graph B base (p.node ∷ [])
  chained_pop B [] p h = tt
  chained_pop B (q ∷ []) p h = (h.0, tt)
  chained_pop B (q ∷ r ∷ rs) p h = (h.0, chained_pop B (r ∷ rs) p h.1)

  pub lead : {u v w : ℕ} → Spreads graph u v → LeadsTo graph v w → Path graph u w
  lead {u} s (inl e) = step (subst (λ (z : ℕ). Spreads graph u z) e s)
  lead s (inr path) = more s path

  abbrev pub Back : Step → ℕ → Type 0
  Back p t = (v : ℕ) × Link graph p v × LeadsTo graph v t

  via : (p : Step) (t : ℕ) → Back p t → LeadsTo graph p.node t
  via p t b = inr (lead (b.1.spread, contains_at (spreads_of graph p.node) b.1.before b.1.spread b.1.stands, b.1.leads) b.2)

  -- each step of the path leads to what the path goes on to
  pub back : (B : ℕ → Type 0) (path : List Step) (t : ℕ) → Chained graph B path (t ∷ []) → (i : ℕ) (p : Step) → slice_get path i ≡ Some p → Back p t
  back B [] t h i p g = absurd (none_some p g)
  back B (q ∷ []) t h zero p g = subst (λ (z : Step). Back z t) (same_some q p g) (t, h.0.linked t (one_contains t), inl refl)
  back B (q ∷ []) t h (suc i) p g = absurd (none_some p g)
  back B (q ∷ r ∷ rs) t h zero p g =
      subst (λ (z : Step). Back z t) (same_some q p g) (r.node, h.0.linked r.node (one_contains r.node), via r t (back B (r ∷ rs) t h.1 zero r refl))
  back B (q ∷ r ∷ rs) t h (suc i) p g = back B (r ∷ rs) t h.1 i p g
