use Rattle.std.proofs.Common.{◌≡◌, filter, map, take}
use Rattle.sdl_mending.specs.Touched.{has_type}
use Rattle.type_system_report.specs.Fault.{fault_value, reported}
use Rattle.sdl_faults.specs.Apart.{is_apart}
use Rattle.sdl_faults.proofs.apart.apart_of.Given as goal

-- those so far
abbrev pub invariant-loop-fault : goal.invariant-loop-fault
invariant-loop-fault l = reported l.apart ≡ filter (is_apart (has_type l.touched)) (map fault_value (take l.fault-index l.faults))
