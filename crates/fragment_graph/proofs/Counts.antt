-- How much is left.
use Rattle.std.proofs.Common.{◌≡◌, ℕ, ◌+◌, ◌-◌, ◌*◌, ◌≤◌, List, [], ◌∷◌, ◌++◌, length, refl, ap, arith, zero, suc, Some, slice_get, slice_set}
use Rattle.fragment_graph.specs.declared.graph.Node.{Node}
use Rattle.fragment_graph.specs.declared.search.Colour.{Colour}
use Rattle.fragment_graph.specs.declared.search.Colour.TheVariants.{New, InWork, Finished}
use Rattle.fragment_graph.specs.declared.search.Step.{Step}
use Rattle.fragment_graph.specs.Graph.{spreads_of, spread_count}
use Rattle.fragment_graph.specs.Sound.{fresh_of, fresh, unfinished_of, unfinished, path_left}
use Rattle.fragment_graph.proofs.Lists.{same_some, none_some}

no_spreads : (c : Colour) → fresh_of c 0 ≡ 0
no_spreads New = refl
no_spreads (InWork i) = refl
no_spreads (Finished r) = refl

pub fresh-set : (graph : List Node) (cs : List Colour) (v : ℕ) (c d : Colour) → slice_get cs v ≡ Some c
    → fresh graph (slice_set cs v d) + fresh_of c (length (spreads_of graph v)) ≡ fresh graph cs + fresh_of d (length (spreads_of graph v))
fresh-set [] cs v c d h = omega (arith, no_spreads c, no_spreads d)
fresh-set (n ∷ ns) [] v c d h = absurd (none_some c h)
fresh-set (n ∷ ns) (e ∷ cs) zero c d h =
    let k : ℕ = length n.spreads.items in
    let same : fresh_of e k ≡ fresh_of c k = ap (λ (z : Colour). fresh_of z k) (same_some e c h) in omega (arith, same)
fresh-set (n ∷ ns) (e ∷ cs) (suc v) c d h = omega (arith, fresh-set ns cs v c d h)

pub unfinished-set : (cs : List Colour) (v : ℕ) (c d : Colour) → slice_get cs v ≡ Some c
    → unfinished (slice_set cs v d) + unfinished_of c ≡ unfinished cs + unfinished_of d
unfinished-set [] v c d h = absurd (none_some c h)
unfinished-set (e ∷ cs) zero c d h =
    let same : unfinished_of e ≡ unfinished_of c = ap unfinished_of (same_some e c h) in omega (arith, same)
unfinished-set (e ∷ cs) (suc v) c d h = omega (arith, unfinished-set cs v c d h)

pub path_left-push : (graph : List Node) (path : List Step) (p : Step)
    → path_left graph (path ++ p ∷ []) ≡ path_left graph path + (length (spreads_of graph p.node) - p.looked)
path_left-push graph [] p = omega arith
path_left-push graph (q ∷ qs) p = omega (arith, path_left-push graph qs p)

-- no list holds more than memory can
pub spread_count-le : (graph : List Node) → spread_count graph ≤ length graph * 9223372036854775808
spread_count-le [] = omega arith
spread_count-le (n ∷ ns) =
    let here = n.spreads.ok in
    let small = n.spreads.small in
    omega (arith, spread_count-le ns, here.0, here.1, small)

-- at the end
pub all_finished : (cs : List Colour) → ((v : ℕ) (c : Colour) → slice_get cs v ≡ Some c → (r : ℕ) × (c ≡ Finished r)) → unfinished cs ≡ 0
all_finished [] h = refl
all_finished (c ∷ cs) h =
    let f = h zero c refl in
    let here : unfinished_of c ≡ 0 = ap unfinished_of f.1 in
    omega (arith, here, all_finished cs (λ v d g. h (suc v) d g))

pub none_fresh : (graph : List Node) (cs : List Colour) → ((v : ℕ) (c : Colour) → slice_get cs v ≡ Some c → (r : ℕ) × (c ≡ Finished r)) → fresh graph cs ≡ 0
none_fresh [] cs h = refl
none_fresh (n ∷ ns) [] h = refl
none_fresh (n ∷ ns) (c ∷ cs) h =
    let f = h zero c refl in
    let here : fresh_of c (length n.spreads.items) ≡ 0 = ap (λ (z : Colour). fresh_of z (length n.spreads.items)) f.1 in
    omega (arith, here, none_fresh ns cs (λ v d g. h (suc v) d g))

pub all_new : (graph : List Node) (cs : List Colour) → length cs ≡ length graph → ((v : ℕ) (c : Colour) → slice_get cs v ≡ Some c → c ≡ New)
    → fresh graph cs ≡ spread_count graph
all_new [] cs l h = refl
all_new (n ∷ ns) [] l h = absurd (omega (arith, l))
all_new (n ∷ ns) (c ∷ cs) l h =
    let here : fresh_of c (length n.spreads.items) ≡ length n.spreads.items = ap (λ (z : Colour). fresh_of z (length n.spreads.items)) (h zero c refl) in
    omega (arith, here, all_new ns cs (omega (arith, l)) (λ v d g. h (suc v) d g))

pub all_unfinished : (cs : List Colour) → ((v : ℕ) (c : Colour) → slice_get cs v ≡ Some c → c ≡ New) → unfinished cs ≡ length cs
all_unfinished [] h = refl
all_unfinished (c ∷ cs) h =
    let here : unfinished_of c ≡ 1 = ap unfinished_of (h zero c refl) in
    omega (arith, here, all_unfinished cs (λ v d g. h (suc v) d g))
