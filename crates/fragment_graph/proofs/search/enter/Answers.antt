use Rattle.std.proofs.Common.{◌≡◌, ◌++◌, ◌∷◌, [], length, slice_get, ℕ, List, slice_set, sym, subst, arith}
use Rattle.fragment_graph.specs.declared.search.Step.{Step}
use Rattle.fragment_graph.specs.declared.search.Colour.TheVariants.{New, InWork}
use Rattle.fragment_graph.specs.Sound.{Sound}
use Rattle.fragment_graph.proofs.Lists.{same_item, set_same, set_was}
use Rattle.fragment_graph.proofs.Counts.{unfinished-set}
use Rattle.fragment_graph.proofs.Steps.{sound_enter, new_work}
use Rattle.fragment_graph.proofs.search.enter.Goals as goal

depth : (n len k : ℕ) → k ≡ len → len ≡ n → n ≡ k
depth n len k e f = omega (arith, e, f)

pub returns-clause-sound : goal.returns-clause-sound
returns-clause-sound c =
    let s = c.args.search.now in
    subst (λ (zs : List Step). Sound c.args.graph.now zs [] (slice_set s.colours.items c.args.node (InWork c.len.result)) s.order.items s.reports.items s.looked)
    (sym c.in_ok-push.ensures.items)
    (subst (λ (k : ℕ). Sound c.args.graph.now (s.path.items ++ record { node = c.args.node; looked = 0 } ∷ []) [] (slice_set s.colours.items c.args.node (InWork k)) s.order.items s.reports.items s.looked)
    (depth (length s.path.items) s.path.len c.len.result c.len.ensures s.path.ok.0)
    (sound_enter c.args.graph.now s.path.items c.args.node s.colours.items s.order.items s.reports.items s.looked c.requires.new c.requires.sound))

pub returns-clause-begun : goal.returns-clause-begun
returns-clause-begun c = λ g.
    new_work c.len.result (same_item New (InWork c.len.result) (slice_get (slice_set c.args.search.now.colours.items c.args.node (InWork c.len.result)) c.args.node) g
    (set_same c.args.search.now.colours.items c.args.node New (InWork c.len.result) c.requires.new))

pub returns-clause-keeps : goal.returns-clause-keeps
returns-clause-keeps c = λ v g.
    set_was c.args.search.now.colours.items c.args.node v New (InWork c.len.result) New c.requires.new (λ e. new_work c.len.result (sym e)) g

pub returns-clause-left : goal.returns-clause-left
returns-clause-left c = omega (arith, unfinished-set c.args.search.now.colours.items c.args.node New (InWork c.len.result) c.requires.new)
