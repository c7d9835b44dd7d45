use Rattle.std.proofs.Common.{map, ap, ◌∙◌, refl}
use Rattle.walk.specs.ContextState.{with_errors}
use Rattle.fragment_graph.specs.declared.cycles.DocumentCycles.{DocumentCycles}
use Rattle.fragment_graph.specs.DocumentCycles.{name_and_place}
use Rattle.fragment_graph.proofs.NamePaths.{searched_document}
use Rattle.rules_document.specs.NoFragmentCycles.{cycle_error}
use Rattle.rules_document.proofs.no_fragment_cycles.NoFragmentCycles.leave.Goals as goal

pub returns-clause-ok : goal.returns-clause-ok
returns-clause-ok g c = λ document is.
    let found : DocumentCycles = record { graph = c.args.graph; outcome = c.in_ok-outcome.field-0.outcome; reports = c.in_ok-outcome.field-0.reports } in
    let all = searched_document document found is c.in_ok-outcome.ensures.outcome c.in_ok-outcome.ensures.reports in (
      map cycle_error (map name_and_place found.reports.items),
      record { reports = map name_and_place found.reports.items; found = all.found; errors = refl; looked = all.looked; kept = (found, refl, all) },
      c.in_ok-report_all.ensures.ok ∙ ap (λ rs. with_errors c.args.ctx.now (map cycle_error (map name_and_place rs))) c.as_slice.ensures.value,
    )
