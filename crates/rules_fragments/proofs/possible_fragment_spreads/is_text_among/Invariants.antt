use Rattle.std.proofs.Common.{◌≡◌, drop, map, string_bytes}
use Rattle.schema.specs.Possible.{is_among}
use Rattle.rules_fragments.proofs.possible_fragment_spreads.is_text_among.Given as goal

-- the name is among all just if it is among those to come
abbrev pub invariant-loop-text : goal.invariant-loop-text
invariant-loop-text l =
    is_among (map string_bytes l.texts) l.name ≡ is_among (map string_bytes (drop l.text-index l.texts)) l.name
