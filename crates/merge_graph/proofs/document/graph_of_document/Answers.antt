use Rattle.std.proofs.Common.{◌≡◌, List, [], ◌∷◌, arith, length, map, refl}
use Rattle.merge_field_pairs.specs.Entries.{plain}
use Rattle.merge_graph.proofs.JudgeLaws.{lawful}
use Rattle.merge_graph.proofs.document.graph_of_document.Goals as goal

pub returns-clause-lawful : goal.returns-clause-lawful
returns-clause-lawful g c = λ tidy.
    let judge = c.in_ok-graph.graph.judge in
    lawful g.S.PartialEq.eq judge.schema.now (map plain judge.fields.items) g.met.S.Eq.laws tidy

nothing : {X : Type 0} (xs : List X) → length xs ≡ 0 → xs ≡ []
nothing [] e = refl
nothing (x ∷ xs) e = absurd (omega (arith, e))

pub returns-clause-none : goal.returns-clause-none
returns-clause-none g c =
    let reports = c.args.cycles.outcome.reports in
    let long = reports.ok.0 in
    let is = c.is_empty.ensures in
    let test = c.if-not-is_empty.false in
    let none : length reports.items ≡ 0 = grind (arith, long, is, test) in
    (λ some. c.requires.none.0 (nothing reports.items none), λ none. refl)
