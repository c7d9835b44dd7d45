use Rattle.std.proofs.Common.{◌≡◌, ◌++◌, [], None, ap, slice_get, sym, ◌∙◌}
use Rattle.std.specs.Option.{option_map_or}
use Rattle.std.proofs.lemmas.List.{append-nil}
use Rattle.std.proofs.lemmas.Option.{slice_get_past}
use Rattle.language_types.specs.References.{list_copied}
use Rattle.sdl_directive_circles.specs.Graph.{definition_told}
use Rattle.sdl_directive_circles.proofs.circles.add_name.Goals as goal

pub returns-in-None : goal.returns-in-None
returns-in-None c =
    let names = list_copied c.args.names.now.items in
    let none : slice_get c.args.document.now c.args.link.edge.target ≡ None = slice_get_past c.args.document.now c.args.link.edge.target
    c.in-None.ensures.lookup.3 in
    sym (append-nil names) ∙ ap (λ z. names ++ z) (sym (ap (λ o. option_map_or definition_told o []) none))
