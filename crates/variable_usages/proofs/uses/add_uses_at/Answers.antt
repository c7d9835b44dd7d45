use Rattle.std.proofs.Common.{◌++◌, [], length, map, sym, ap, ◌∙◌, append-nil, refl}
use Rattle.std.specs.Option.{option_map_or}
use Rattle.std.proofs.lemmas.List.{map-append}
use Rattle.std.proofs.lemmas.Option.{slice_get_past, slice_get_read}
use Rattle.variable_usages.specs.Uses.{use_of}
use Rattle.variable_usages.proofs.uses.add_uses_at.Goals as goal

pub returns-in-None : goal.returns-in-None
returns-in-None c =
    let found = map use_of c.args.found.now.items in
    sym (ap (λ o. found ++ option_map_or (λ v. map use_of v.items) o []) (slice_get_past c.args.all.now c.args.place c.in-None.ensures.lookup.3) ∙ append-nil found)

pub returns-in_ok-extend_from_slice-in-Some : goal.returns-in_ok-extend_from_slice-in-Some
returns-in_ok-extend_from_slice-in-Some c =
    let found = map use_of c.args.found.now.items in
    ap (map use_of) (c.in_ok-extend_from_slice-in-Some.ensures.items ∙ ap (λ zs. c.args.found.now.items ++ zs) c.as_slice.ensures.value)
    ∙ map-append use_of c.args.found.now.items c.in-Some.uses.now.items
    ∙ ap (λ o. found ++ option_map_or (λ v. map use_of v.items) o []) (sym (slice_get_read c.args.all.now (length c.args.all.now) c.args.place c.in-Some.uses.now refl c.in-Some.ensures.lookup.3.0 c.in-Some.ensures.lookup.1))
