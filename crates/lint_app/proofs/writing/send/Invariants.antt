use Rattle.std.proofs.Common.{◌≤◌, length, take}
use Rattle.std.specs.Io.KnownBytes.{Appends}
use Rattle.lint_app.proofs.writing.send.Given as goal

-- so many bytes were taken
abbrev pub invariant-writes : goal.invariant-writes
invariant-writes g l = (l.sent ≤ length l.bytes) × Appends (g.W.Write.contents l.fn.output) (g.W.Write.contents l.output) (take l.sent l.bytes)
