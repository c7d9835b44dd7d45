use Rattle.std.proofs.Common.{drop}
use Rattle.lint_files.specs.Read.{JoinsFiles}
use Rattle.lint_sources.specs.declared.sources.Joined.{Joined}
use Rattle.lint_files.proofs.files.joined_of.Given as goal

-- what joins the other files behind these joins all
abbrev pub invariant-loop-file : goal.invariant-loop-file
invariant-loop-file l = (new : Joined) → JoinsFiles l.file (drop l.file l.sources) l.joined new → JoinsFiles 0 l.sources l.initial.joined new
