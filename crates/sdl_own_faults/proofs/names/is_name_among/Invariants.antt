use Rattle.std.proofs.Common.{◌≡◌, drop}
use Rattle.language_types.specs.Names.{is_among}
use Rattle.language_types.specs.References.{list_copied}
use Rattle.sdl_own_faults.proofs.names.is_name_among.Given as goal

-- what is left decides
abbrev pub invariant-loop-listed : goal.invariant-loop-listed
invariant-loop-listed l = is_among (list_copied l.names) l.name ≡ is_among (list_copied (drop l.listed-index l.names)) l.name
