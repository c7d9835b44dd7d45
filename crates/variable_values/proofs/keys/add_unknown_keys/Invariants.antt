use Rattle.std.proofs.Common.{◌≡◌, ◌++◌, map, take}
use Rattle.variable_values.specs.Faults.{unknown_field}
use Rattle.variable_values.specs.Keys.{field_names, keys_of, unknown_keys}
use Rattle.variable_values.specs.Messages.{texts_of, told_after}
use Rattle.variable_values.specs.Places.{before}
use Rattle.variable_values.proofs.KeyLaws.{HasBoth}
use Rattle.variable_values.proofs.keys.add_unknown_keys.Given as goal

abbrev pub invariant-loop-key : goal.invariant-loop-key
invariant-loop-key g l =
    let names = unknown_keys (field_names l.fields) (take l.key-index (keys_of l.entries)) in
    record {
      told : texts_of l.messages ≡ texts_of l.initial.messages ++ map (told_after (before l.place)) (map unknown_field names);
      has_both : HasBoth l.noted (field_names l.fields) names;
    }
