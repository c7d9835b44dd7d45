use Rattle.std.proofs.Common.{◌-◌, ◌≡◌, length, slice_get, Some, None, subst, sym}
use Rattle.operation_scopes.proofs.Indexing.{last_of, last_place, no_place}
use Rattle.operation_scopes.proofs.Joined.{some_weaker, none_weaker}
use Rattle.operation_scopes.proofs.index.last_operation.Goals as goal

pub returns-in-Some-clause-some : goal.returns-in-Some-clause-some
returns-in-Some-clause-some g c =
    some_weaker c.operation_at.result _ _
    (λ o stands name own.
    last_of c.args.document.now name c.in-Some.place o.now (subst (λ zs. slice_get zs (length zs - 1) ≡ Some c.in-Some.place) own (sym c.in-Some.ensures)) stands)
    c.operation_at.ensures.some

pub returns-in-Some-clause-none : goal.returns-in-Some-clause-none
returns-in-Some-clause-none g c =
    none_weaker c.operation_at.result _ _
    (λ none name own named.
    let (o, stands) = last_place c.args.document.now name c.in-Some.place (subst (λ zs. slice_get zs (length zs - 1) ≡ Some c.in-Some.place) own (sym c.in-Some.ensures)) in
    none o stands)
    c.operation_at.ensures.none

pub returns-in-None-clause-none : goal.returns-in-None-clause-none
returns-in-None-clause-none g c = λ name own. no_place c.args.document.now name (subst (λ zs. slice_get zs (length zs - 1) ≡ None) own (sym c.in-None.ensures))
