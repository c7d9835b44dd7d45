use Rattle.std.proofs.Common.{◌≡◌, ◌++◌, take}
use Rattle.std.specs.List.{flat_map}
use Rattle.sdl_own_faults.specs.Fault.{reported}
use Rattle.sdl_own_faults.specs.Members.{field_faults}
use Rattle.sdl_own_faults.proofs.members.report_fields.Given as goal

-- what is found at those that were seen was reported
abbrev pub invariant-loop-field : goal.invariant-loop-field
invariant-loop-field l = reported l.faults ≡ reported l.initial.faults ++ flat_map (field_faults l.of) (take l.field-index l.fields)
