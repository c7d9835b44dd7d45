use Rattle.std.proofs.Common.{subst, sym}
use Rattle.std.specs.Str.{IsCharBoundary}
use Rattle.lint_sources.proofs.ShownLines.{line_end_boundary}
use Rattle.lint_sources.proofs.text_places.first_line.Goals as goal

-- a line ends where a character does
pub range-requires-clause-end_boundary : goal.range-requires-clause-end_boundary
range-requires-clause-end_boundary c = subst (IsCharBoundary c.args.text.now) (sym c.first_length.ensures) (line_end_boundary c.args.text.now)
