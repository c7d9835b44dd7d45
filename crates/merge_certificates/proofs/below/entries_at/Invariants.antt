use Rattle.std.proofs.Common.{◌≡◌, Some, take, slice_get}
use Rattle.std.specs.List.{All, Contains}
use Rattle.merge_sets.specs.declared.node.Entry.{Entry}
use Rattle.merge_certificates.proofs.below.entries_at.Given as goal

abbrev pub invariant-loop-place : goal.invariant-loop-place
invariant-loop-place l = All (λ k. (a : Entry) → slice_get l.fields k ≡ Some a → Contains l.entries.items a) (take l.place-index l.places)
