use Rattle.std.proofs.Common.{◌≡◌, drop}
use Rattle.std.specs.Prelude.{find, string_bytes}
use Rattle.std.specs.Str.{bytes_eq}
use Rattle.events.proofs.typed_events.first_argument.Given as goal

abbrev pub invariant-loop-argument : goal.invariant-loop-argument
invariant-loop-argument g l =
    find (λ a. bytes_eq (string_bytes a.name) l.name) l.arguments ≡ find (λ a. bytes_eq (string_bytes a.name) l.name) (drop l.argument-index l.arguments)
