use Rattle.std.proofs.Common.{◌≡◌, ◌+◌, ◌<◌, ◌∷◌, [], ap, length, length-append, sym, arith, ◌∙◌}
use Rattle.fragment_graph.proofs.Lists.{set_was}
use Rattle.type_system_circles.specs.declared.search.Colour.TheVariants.{New, Finished}
use Rattle.type_system_circles.proofs.Ends.{empty, end_back, end_inside, end_none, end_works}
use Rattle.type_system_circles.proofs.Steps.{new_finished}
use Rattle.type_system_circles.proofs.search.finish.Goals as goal

pub index_mut-requires : goal.index_mut-requires
index_mut-requires c =
    let s = c.args.search.now in
    let a = c.requires.at in
    let inside : c.args.node < length c.args.graph.now = end_inside c.args.graph.now a.root c.args.node s.trail.items s.colours.items s.looked.items s.circles.items _ a.walk a.sound in
    let sized = a.sound.sized in
    let same = s.colours.ok.0 in
    omega (arith, inside, sized, same)

pub returns-in-Some-clause-ends : goal.returns-in-Some-clause-ends
returns-in-Some-clause-ends c =
    let s = c.args.search.now in
    let a = c.requires.at in
    let more : length c.push.new.self.items ≡ length s.order.items + 1 = omega (arith, ap length c.in_ok-push.ensures.items, length-append s.order.items (c.args.node ∷ [])) in
    let r = end_back c.args.graph.now a.root c.args.node s.trail.items s.colours.items s.looked.items s.circles.items (length s.order.items) a.walk a.sound
    c.pop.new.self.items c.in-Some.link c.len-rank.result (length c.push.new.self.items) c.in-Some.ensures.items (c.len-rank.ensures ∙ s.order.ok.0) more c.requires.all in
    record { sound = r.0; root = a.root; walk = r.1 }

pub returns-in-Some-clause-keeps : goal.returns-in-Some-clause-keeps
returns-in-Some-clause-keeps c =
    let s = c.args.search.now in
    let a = c.requires.at in
    let r = c.len-rank.result in
    let at = end_works c.args.graph.now a.root c.args.node s.trail.items s.colours.items s.looked.items s.circles.items _ a.walk a.sound in
    λ v g. set_was s.colours.items c.args.node v _ (Finished r) New at (λ e. new_finished r (sym e)) g

pub returns-in-None-clause-ends : goal.returns-in-None-clause-ends
returns-in-None-clause-ends c =
    let s = c.args.search.now in
    let a = c.requires.at in
    let new = c.pop.new.self in
    let more : length c.push.new.self.items ≡ length s.order.items + 1 = omega (arith, ap length c.in_ok-push.ensures.items, length-append s.order.items (c.args.node ∷ [])) in
    record {
      sound = end_none c.args.graph.now a.root c.args.node s.trail.items s.colours.items s.looked.items s.circles.items (length s.order.items) a.walk a.sound
          new.items c.len-rank.result (length c.push.new.self.items) (empty s.trail.items s.trail.len s.trail.ok.0 c.in-None.ensures.cases.0) (c.len-rank.ensures ∙ s.order.ok.0) more c.requires.all;
      none = empty new.items new.len new.ok.0 c.in-None.ensures.cases.1;
    }

pub returns-in-None-clause-keeps : goal.returns-in-None-clause-keeps
returns-in-None-clause-keeps c =
    let s = c.args.search.now in
    let a = c.requires.at in
    let r = c.len-rank.result in
    let at = end_works c.args.graph.now a.root c.args.node s.trail.items s.colours.items s.looked.items s.circles.items _ a.walk a.sound in
    λ v g. set_was s.colours.items c.args.node v _ (Finished r) New at (λ e. new_finished r (sym e)) g
