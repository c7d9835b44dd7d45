use Rattle.std.proofs.Common.{IfOk, [], None, Some, string_bytes, subst, sym}
use Rattle.lint_sources.specs.Faults.{IsFault}
use Rattle.lint_schema.specs.Judged.{IsToldIn}
use Rattle.lint_schema.specs.Told.{IsToldAt}
use Rattle.lint_schema.proofs.judging.first_told.Goals as goal

-- at its place
pub returns-in-Some : goal.returns-in-Some
returns-in-Some c =
    let sources = c.args.sources.now in
    let said = Some (string_bytes c.args.located.now.message) in
    subst (λ o. IfOk c.placed_fault.result (IsToldIn sources c.args.joined.now said o)) (sym c.in-Some.is)
    (subst (λ place. IfOk c.placed_fault.result (IsToldAt sources place said)) c.place_of-place.ensures c.placed_fault.ensures)

-- of the first file
pub returns-in-None : goal.returns-in-None
returns-in-None c =
    let sources = c.args.sources.now in
    let said = Some (string_bytes c.args.located.now.message) in
    subst (λ o. IfOk c.new.result (IsToldIn sources c.args.joined.now said o)) (sym c.in-None.is)
    (subst (λ path. IfOk c.new.result (IsFault path [] None said)) c.path_of.ensures c.new.ensures)
