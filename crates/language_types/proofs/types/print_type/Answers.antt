use Rattle.std.proofs.Common.{refl}
use Rattle.std.proofs.lemmas.Grind.{put_three}
use Rattle.language_types.proofs.TypesPrinted.{printed_by_parts}
use Rattle.language_types.proofs.types.print_type.Goals as goal

pub returns : goal.returns
returns g c = λ p ok.
    let before = c.in_ok-print_openings.ensures p refl in
    let name = c.in_ok-write_str.ensures.writes before.plain refl in
    put_three _ _ _ _ _ _ _ _ _ before name (c.print_closings.ensures name.plain ok) (printed_by_parts c.args.name.now c.args.modifiers.now)
