use Rattle.std.proofs.Common.{◌≡◌, drop, map, string_bytes}
use Rattle.std.specs.Prelude.{find}
use Rattle.schema_validation.proofs.first.first_text.Given as goal

abbrev pub invariant-loop-text : goal.invariant-loop-text
invariant-loop-text g l = find (g.T.NameTest.fails_at l.test) (map string_bytes l.texts) ≡ find (g.T.NameTest.fails_at l.test) (map string_bytes (drop l.text-index l.texts))
