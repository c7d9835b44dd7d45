use Rattle.std.proofs.Common.{◌≡◌, drop, map, string_bytes}
use Rattle.language_types.specs.Names.{is_among}
use Rattle.type_system_interfaces.proofs.listed.is_text_among.Given as goal

abbrev pub invariant-loop-text : goal.invariant-loop-text
invariant-loop-text l =
    is_among (map string_bytes l.texts) l.name ≡ is_among (map string_bytes (drop l.text-index l.texts)) l.name
