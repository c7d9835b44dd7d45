-- The search backwards comes to an end.
use Rattle.std.proofs.Common.{◌≡◌, ℕ, ◌+◌, ◌<◌, List, [], ◌∷◌, ◌++◌, length, length-append, ap, arith, Option, None, Some, zero, suc, slice_get, slice_set}
use Rattle.std.proofs.lemmas.Option.{slice_get_within}
use Rattle.fragment_graph.proofs.Lists.{none_some, same_some}
use Rattle.type_system_circles.specs.declared.graph.Link.{Link}
use Rattle.type_system_circles.specs.declared.graph.Node.{Node}
use Rattle.graph_ways.specs.declared.backwards.Search.{Search}
use Rattle.graph_ways.specs.Backwards.{steps_left, to_leave, unlooked, unmet}
use Rattle.graph_ways.specs.Ways.{links_to}
use Rattle.graph_ways.proofs.Rounds.{unmet-set}

unlooked-set : (links : ℕ → ℕ) (v : ℕ) (ns : List ℕ) (i n : ℕ) → slice_get ns i ≡ Some n → n < links (v + i)
    → unlooked links v (slice_set ns i (n + 1)) + 1 ≡ unlooked links v ns
unlooked-set links v [] i n h room = absurd (none_some n h)
unlooked-set links v (m ∷ ns) zero n h room =
    let same : m ≡ n = same_some m n h in
    let e : v + 0 ≡ v = omega arith in
    let here : n < links v = rw e at room in
    omega arith
unlooked-set links v (m ∷ ns) (suc i) n h room =
    let e : v + suc i ≡ (v + 1) + i = omega arith in
    let rest : unlooked links (v + 1) (slice_set ns i (n + 1)) + 1 ≡ unlooked links (v + 1) ns =
    unlooked-set links (v + 1) ns i n h (rw e at room) in
    omega arith

-- a node that is met waits
pub meets_as_many : (roots : List (Option ℕ)) (waiting more : List ℕ) (x root : ℕ) → slice_get roots x ≡ Some None
    → more ≡ waiting ++ x ∷ [] → length more + unmet (slice_set roots x (Some root)) ≡ length waiting + unmet roots
meets_as_many roots waiting more x root new is =
    let fewer = unmet-set roots x root new in
    omega (arith, fewer, ap length is, length-append waiting (x ∷ []))

-- a link was looked at
pub enters_less : (graph : List Node) (s t : Search) (l : Link) (v n : ℕ) → slice_get (links_to graph v) n ≡ Some l
    → slice_get s.entered.items v ≡ Some n → t.entered.items ≡ slice_set s.entered.items v (n + 1) → to_leave t ≡ to_leave s
    → steps_left graph t < steps_left graph s
unfolding steps_left
enters_less graph s t l v n link next is kept =
    let e : 0 + v ≡ v = omega arith in
    let room : n < length (links_to graph (0 + v)) = rw e (slice_get_within (links_to graph v) n l link) in
    let less = unlooked-set (λ u. length (links_to graph u)) 0 s.entered.items v n next room in
    omega (arith, less, kept, ap (unlooked (λ u. length (links_to graph u)) 0) is)

-- a node was let go of
pub leaves_less : (graph : List Node) (s t : Search) (u : ℕ) → s.waiting.items ≡ t.waiting.items ++ u ∷ []
    → t.roots.items ≡ s.roots.items → t.entered.items ≡ s.entered.items → steps_left graph t < steps_left graph s
unfolding steps_left
leaves_less graph s t u waiting roots entered =
    omega (
      arith,
      ap length waiting,
      length-append t.waiting.items (u ∷ []),
      ap unmet roots,
      ap (unlooked (λ v. length (links_to graph v)) 0) entered,
    )
