use Rattle.std.proofs.Common.{◌∙◌, ap, cond, length, None, Some, sym}
use Rattle.std.specs.Str.{bytes_eq}
use Rattle.name_tables.specs.Adding.{or_else}
use Rattle.name_tables.specs.Maps.{entries_of}
use Rattle.fragment_graph.proofs.Numbering.{yes_self}
use Rattle.fragment_graph.proofs.names.add_name.Goals as goal

pub returns-in-Some-clause-adds : goal.returns-in-Some-clause-adds
returns-in-Some-clause-adds c = c.in_ok-earlier.ensures.adds

pub returns-in-None-clause-adds : goal.returns-in-None-clause-adds
returns-in-None-clause-adds c = c.in_ok-earlier.ensures.adds

pub returns-in-Some-clause-index : goal.returns-in-Some-clause-index
returns-in-Some-clause-index c =
    let name = c.args.name.now in
    c.in_ok-earlier.ensures.adds.indices name
    ∙ ap (λ o. or_else o (cond (bytes_eq name name) (Some (length (entries_of c.args.map.now))) None)) (sym c.in_ok-earlier.ensures.earlier ∙ c.in-Some.is)

pub returns-in-None-clause-index : goal.returns-in-None-clause-index
returns-in-None-clause-index c =
    let name = c.args.name.now in
    let next = length (entries_of c.args.map.now) in
    c.in_ok-earlier.ensures.adds.indices name
    ∙ ap (λ o. or_else o (cond (bytes_eq name name) (Some next) None)) (sym c.in_ok-earlier.ensures.earlier ∙ c.in-None.is)
    ∙ ap (λ b. cond b (Some next) None) (yes_self name) ∙ ap Some (sym c.len-next.ensures)
