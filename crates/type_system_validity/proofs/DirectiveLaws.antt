-- A directive has no fault if and only if it is valid.
use Rattle.std.proofs.Common.{◌++◌, string_bytes}
use Rattle.schema_validation.specs.declared.directives.DirectiveType.{DirectiveType}
use Rattle.type_system_report.specs.declared.fault.CoordinateOf.TheVariants as c
use Rattle.type_system_report.specs.declared.fault.FaultKindOf.TheVariants as k
use Rattle.type_system.specs.All.{directive_faults}
use Rattle.type_system.specs.RequiredMembers.{deprecated_directive_argument, deprecated_directive_arguments}
use Rattle.type_system.specs.ReservedNames.{reserved_directive}
use Rattle.type_system.specs.SomeLocations.{missing_locations}
use Rattle.type_system_validity.specs.Deprecation.{IsCurrentIfRequired}
use Rattle.type_system_validity.specs.Valid.{IsValidDirective}
use Rattle.type_system_validity.proofs.Iff.{NoneIff, iff_both, iff_each}
use Rattle.type_system_validity.proofs.MemberLaws.{iff_current, iff_some}
use Rattle.type_system_validity.proofs.NameLaws.{iff_directive_names}

pub iff_directive : {S : Type 0} (d : DirectiveType S) → NoneIff (directive_faults d) (IsValidDirective d)
iff_directive d =
    let of = string_bytes d.name in
    let location = iff_some d.locations.items (c.Directive of) k.NoLocations in
    let deprecation = iff_each (deprecated_directive_argument of) IsCurrentIfRequired (λ a. iff_current a (c.DirectiveArgument of (string_bytes a.name)) k.DeprecatedArgument) d.arguments.items in
    let two = iff_both (reserved_directive d) (missing_locations d) _ _ (iff_directive_names d) location in
    let all = iff_both (reserved_directive d ++ missing_locations d) (deprecated_directive_arguments d) _ _ two deprecation in
    (λ e. let h = all.0 e in record { names = h.0.0; location = h.0.1; deprecation = h.1 }, λ h. all.1 ((h.names, h.location), h.deprecation))
