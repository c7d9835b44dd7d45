use Rattle.std.proofs.Common.{List, inl, inr, refl, sym, subst}
use Rattle.std.specs.List.{Contains}
use Rattle.std.proofs.lemmas.List.Elements.{Contains-push}
use Rattle.fragment_graph.proofs.Lists.{set_was}
use Rattle.type_system_circles.specs.declared.graph.Link.{Link}
use Rattle.type_system_circles.specs.declared.search.Colour.TheVariants.{New, InWork}
use Rattle.type_system_circles.proofs.Ends.{end_entered}
use Rattle.type_system_circles.proofs.Steps.{new_work}
use Rattle.type_system_circles.proofs.search.descend.Goals as goal

pub returns-clause-at : goal.returns-clause-at
returns-clause-at c =
    let s = c.args.search.now in
    let a = c.requires.at in
    let r = end_entered c.args.graph.now a.root c.args.link.from s.trail.items s.colours.items s.looked.items s.circles.items _ a.walk a.sound
    c.push.new.self.items c.args.link c.len-depth.result c.push.new.self.len refl c.requires.stands c.requires.new c.in_ok-push.ensures.items c.len-depth.ensures c.push.new.self.ok.0 in
    record { sound = r.0; root = a.root; walk = r.1 }

pub returns-clause-settles : goal.returns-clause-settles
returns-clause-settles c =
    let s = c.args.search.now in
    let d = c.len-depth.result in
    record {
      settled = inr (inl (subst (λ (ls : List Link). Contains ls c.args.link) (sym c.in_ok-push.ensures.items) (Contains-push s.trail.items c.args.link)));
      looked = refl;
      keeps = λ v g. set_was s.colours.items c.args.link.edge.target v New (InWork d) New c.requires.new (λ e. new_work d (sym e)) g;
    }
