use Rattle.std.proofs.Common.{◌++◌, ◌∷◌, [], ◌≤◌, List, length, drop, ap, arith, inl, refl, sym, subst, ◌∙◌}
use Rattle.std.specs.List.{Contains}
use Rattle.std.proofs.lemmas.List.Elements.{Contains-push}
use Rattle.type_system_circles.specs.declared.graph.Link.{Link}
use Rattle.type_system_circles.specs.declared.search.Circle.{Circle}
use Rattle.type_system_circles.specs.Sound.{Sound, path_to}
use Rattle.type_system_circles.specs.Graph.{Told}
use Rattle.type_system_circles.proofs.Ends.{depth_within, end_closed, end_simple}
use Rattle.type_system_circles.proofs.Simple.{simple_turned}
use Rattle.type_system_circles.proofs.Steps.{sound_tell}
use Rattle.type_system_circles.proofs.Walks.{circle_turned, turned_has}
use Rattle.type_system_circles.proofs.search.tell.Goals as goal

pub closed-requires : goal.closed-requires
closed-requires c =
    let s = c.args.search.now in
    let a = c.requires.at in
    let within : c.args.depth ≤ length s.trail.items =
    depth_within c.args.graph.now a.root c.args.link.from s.trail.items s.colours.items s.looked.items s.circles.items _ a.walk a.sound c.args.link.edge.target c.args.depth c.requires.in_work in
    omega (arith, within, ap length c.as_slice.ensures.value)

pub returns-clause-at : goal.returns-clause-at
returns-clause-at c =
    let s = c.args.search.now in
    let a = c.requires.at in
    let g = c.args.graph.now in
    let l = c.args.link in
    let t = c.in_ok-turned.ensures.turned in
    let links = c.as_slice-2.result.now in
    let is = c.as_slice-2.ensures.value ∙ c.in_ok-back.ensures ∙ ap (λ (ls : List Link). drop c.args.depth ls ++ l ∷ []) c.as_slice.ensures.value in
    let closes = end_closed g a.root l.from s.trail.items s.colours.items s.looked.items s.circles.items _ a.walk a.sound l c.args.depth links refl c.requires.stands c.requires.in_work is in
    let once = end_simple g a.root l.from s.trail.items s.colours.items s.looked.items s.circles.items _ a.walk a.sound l c.args.depth links refl is in
    let circle : Circle = record { links = c.in_ok-turned.turned } in
    record {
      sound = subst (λ (cs : List Circle). Sound g (path_to s.trail.items l.from) s.trail.items s.colours.items s.looked.items cs (length s.order.items)) (sym c.in_ok-push.ensures.items)
          (sound_tell g (path_to s.trail.items l.from) s.trail.items s.colours.items s.looked.items s.circles.items (length s.order.items) circle
          (circle_turned g t.0 links c.in_ok-turned.turned.items t.1 closes)
          (simple_turned t.0 links c.in_ok-turned.turned.items t.1 once) c.in_ok-turned.ensures.first a.sound);
      root = a.root;
      walk = a.walk;
    }

pub returns-clause-settles : goal.returns-clause-settles
returns-clause-settles c =
    let s = c.args.search.now in
    let l = c.args.link in
    let t = c.in_ok-turned.ensures.turned in
    let links = c.as_slice-2.result.now in
    let front : List Link = drop c.args.depth c.as_slice.result.now in
    let is = c.as_slice-2.ensures.value ∙ c.in_ok-back.ensures in
    let circle : Circle = record { links = c.in_ok-turned.turned } in
    let has : Contains links l = subst (λ (ls : List Link). Contains ls l) (sym is) (Contains-push front l) in
    record {
      settled = inl (subst (λ (cs : List Circle). Told cs l) (sym c.in_ok-push.ensures.items)
          (circle, Contains-push s.circles.items circle, turned_has t.0 links c.in_ok-turned.turned.items l t.1 has));
      looked = refl;
      keeps = λ v g. g;
    }
