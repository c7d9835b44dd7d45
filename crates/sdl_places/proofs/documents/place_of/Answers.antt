use Rattle.std.proofs.Common.{sym, ◌∙◌}
use Rattle.type_system_report.specs.Fault.{coordinate_value}
use Rattle.sdl_places.proofs.NamedLaws.{answer_named, place_none}
use Rattle.sdl_places.proofs.documents.place_of.Goals as goal

pub returns : goal.returns
returns c =
    let document = c.args.document.now in
    let at = coordinate_value c.args.at in
    record {
      place = c.found_place.ensures;
      named = answer_named document at c.found_place.result c.found_place.ensures;
      none = λ none p h. place_none document at (sym c.found_place.ensures ∙ none) p h;
    }
