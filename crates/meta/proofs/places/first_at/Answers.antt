use Rattle.std.proofs.Common.{refl, ap, sym, ◌∙◌, length}
use Rattle.std.specs.List.{slice_get}
use Rattle.std.specs.Option.{option_and_then, option_copied}
use Rattle.std.proofs.lemmas.Option.{slice_get_past, slice_get_read}
use Rattle.meta.proofs.PlaceLemmas.{item_at_first}
use Rattle.meta.proofs.places.first_at.Goals as goal

pub returns-in_err-first_place : goal.returns-in_err-first_place
returns-in_err-first_place g c =
    let xs = c.args.items.now in
    ap option_copied c.from_residual.ensures
    ∙ sym (item_at_first g.T.Named.name_of c.args.name.now xs ∙ ap (option_and_then (slice_get xs)) (sym c.first_place.ensures ∙ c.in_err-first_place.was))

pub returns-in_err-item : goal.returns-in_err-item
returns-in_err-item g c =
    let xs = c.args.items.now in
    ap option_copied c.from_residual-in_err-item.ensures
    ∙ sym (item_at_first g.T.Named.name_of c.args.name.now xs ∙ ap (option_and_then (slice_get xs)) (sym c.first_place.ensures ∙ c.in_ok-first_place.was) ∙ slice_get_past xs c.in_ok-first_place.field-0 c.in_err-item.ensures.lookup.3)

pub returns : goal.returns
returns g c =
    let xs = c.args.items.now in
    sym (item_at_first g.T.Named.name_of c.args.name.now xs ∙ ap (option_and_then (slice_get xs)) (sym c.first_place.ensures ∙ c.in_ok-first_place.was)
    ∙ slice_get_read xs (length xs) c.in_ok-first_place.field-0 c.in_ok-item.item.now refl c.in_ok-item.ensures.lookup.3.0 c.in_ok-item.ensures.lookup.1)
