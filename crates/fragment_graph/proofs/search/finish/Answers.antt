use Rattle.std.proofs.Common.{◌≡◌, ◌<◌, ◌++◌, ◌∷◌, [], length, ℕ, List, slice_set, sym, subst, arith, refl}
use Rattle.std.proofs.lemmas.Option.{slice_get_within}
use Rattle.fragment_graph.specs.declared.search.Colour.TheVariants.{New, InWork, Finished}
use Rattle.fragment_graph.specs.Sound.{Sound}
use Rattle.fragment_graph.proofs.Lists.{get_end, set_was}
use Rattle.fragment_graph.proofs.Counts.{unfinished-set}
use Rattle.fragment_graph.proofs.Steps.{sound_finish, new_finished}
use Rattle.fragment_graph.proofs.search.finish.Goals as goal

rank : (n len k : ℕ) → k ≡ len → len ≡ n → n ≡ k
rank n len k e f = omega (arith, e, f)

pub index_mut-requires : goal.index_mut-requires
index_mut-requires c =
    let s = c.args.search.now in
    let at = c.requires.sound.placed (length s.path.items) c.args.step (get_end s.path.items c.args.step (length s.path.items) refl) in
    let inside : c.args.step.node < length s.colours.items = slice_get_within s.colours.items c.args.step.node (InWork (length s.path.items)) at in
    let same = s.colours.ok.0 in
    omega (arith, inside, same)

pub returns-clause-sound : goal.returns-clause-sound
returns-clause-sound c =
    let s = c.args.search.now in
    subst (λ (zs : List ℕ). Sound c.args.graph.now s.path.items [] (slice_set s.colours.items c.args.step.node (Finished c.len.result)) zs s.reports.items s.looked)
    (sym c.in_ok-push.ensures.items)
    (subst (λ (k : ℕ). Sound c.args.graph.now s.path.items [] (slice_set s.colours.items c.args.step.node (Finished k)) (s.order.items ++ c.args.step.node ∷ []) s.reports.items s.looked)
    (rank (length s.order.items) s.order.len c.len.result c.len.ensures s.order.ok.0)
    (sound_finish c.args.graph.now s.path.items c.args.step s.colours.items s.order.items s.reports.items s.looked c.requires.none c.requires.sound))

pub returns-clause-keeps : goal.returns-clause-keeps
returns-clause-keeps c = λ v g.
    let s = c.args.search.now in
    set_was s.colours.items c.args.step.node v (InWork (length s.path.items)) (Finished c.len.result) New
    (c.requires.sound.placed (length s.path.items) c.args.step (get_end s.path.items c.args.step (length s.path.items) refl))
    (λ e. new_finished c.len.result (sym e)) g

pub returns-clause-left : goal.returns-clause-left
returns-clause-left c =
    let s = c.args.search.now in
    omega (
      arith,
      unfinished-set s.colours.items c.args.step.node (InWork (length s.path.items)) (Finished c.len.result)
          (c.requires.sound.placed (length s.path.items) c.args.step (get_end s.path.items c.args.step (length s.path.items) refl)),
    )
