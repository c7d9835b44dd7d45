use Rattle.std.proofs.Common.{◌≡◌, ◌↔◌, List, map, take}
use Rattle.std.specs.List.{Contains}
use Rattle.walk.specs.ContextState.{with_errors}
use Rattle.rules_document.specs.MetFragments.{IsKeptFor, IsMet, NameAndSpan}
use Rattle.rules_document.specs.NoUnusedFragments.{UnusedAmong, unused_error}
use Rattle.rules_document.proofs.no_unused_fragments.report_unused.Given as goal

-- those of the definitions that were seen are reported, and met
abbrev pub invariant-loop-place : goal.invariant-loop-place
invariant-loop-place g l =
    (fs : List NameAndSpan) × UnusedAmong l.document (take l.place l.document) fs
    × ((p : NameAndSpan) → IsMet l.reached.graph.now.numbers l.met p ↔ Contains fs p) × IsKeptFor l.reached.graph.now.numbers l.met
    × (l.ctx ≡ with_errors l.fn.ctx (map unused_error fs))
