use Rattle.std.proofs.Common.{◌≡◌, ◌<◌, ◌≤◌, ◌*◌, ◌-◌, ◌↔◌, ◌⊎◌, ℕ, length, map, sym, subst, arith}
use Rattle.std.specs.Option.{IsSome}
use Rattle.fragment_graph.specs.DocumentCycles.{HasNoCycle}
use Rattle.merge_field_pairs.specs.Entries.{plain}
use Rattle.merge_field_pairs.specs.Numbered.{AreTidy}
use Rattle.merge_sets.specs.Judgement.{Lawful}
use Rattle.merge_sets.specs.World.{world}
use Rattle.merge_search.specs.Reports.{Judged}
use Rattle.merge_graph.specs.Definitions.{fragment_count}
use Rattle.merge_graph.specs.DocumentGraph.{IsGraphOf}
use Rattle.merge_graph.specs.Judging.{judgement_of}
use Rattle.merge_graph.specs.Sizes.{selection_count}
use Rattle.merge_document.specs.Found.{most_opened}
use Rattle.merge_document.proofs.Comparing.{cost_few}
use Rattle.merge_document.proofs.Opening.{looked_few, opened_few}
use Rattle.merge_document.proofs.Searching.{at_some, judged, few, enough, limited_is, opens}
use Rattle.merge_document.proofs.search.search_fields.Goals as goal

graph_is : (g : _) (c : goal.After-found_in g) → IsGraphOf c.args.schema.now c.args.document.now c.limited-graph.result
graph_is g c =
    let document_is = IsGraphOf c.args.schema.now c.args.document.now in
    subst document_is (sym c.limited-graph.ensures)
    (limited_is c.args.schema.now c.args.document.now c.in-Some.all c.args.limit
    (at_some document_is c.in_ok-all.field-0 c.in-Some.all c.in-Some.is c.in_ok-all.ensures.graph))

fragments_few : (g : _) (c : goal.After-found_in g) → length c.limited-graph.result.fragments.items ≤ fragment_count c.args.document.now
fragments_few g c =
    let is = graph_is g c in
    subst (λ zs. length zs ≤ fragment_count c.args.document.now) (sym (is.is).fragments_are) (is.origins).few

pub returns-in_ok-search-in-Some-clause-none : goal.returns-in_ok-search-in-Some-clause-none
returns-in_ok-search-in-Some-clause-none g c = subst (λ o. IsSome o ↔ HasNoCycle c.args.document.now) c.in-Some.is c.in_ok-all.ensures.none

pub returns-in_ok-search-in-Some-clause-judged : goal.returns-in_ok-search-in-Some-clause-judged
returns-in_ok-search-in-Some-clause-judged g c =
    let E = g.S.PartialEq.eq in
    let graph = c.limited-graph.result in
    let search = c.in_ok-search-in-Some in
    judged E c.args.schema.now c.args.document.now graph (graph_is g c) c.found_in.result c.found_in.ensures.fields c.found_in.ensures.limit
    (subst (λ v. Judged (world (judgement_of E) graph) graph.order.items v.items) (sym c.found_in.ensures.found) search.ensures.judged)
    (subst (λ x. AreTidy (map plain x.judge.fields.items) → Lawful (judgement_of E x.judge)) (sym c.limited-graph.ensures)
    (at_some (λ x. AreTidy (map plain x.judge.fields.items) → Lawful (judgement_of E x.judge))
    c.in_ok-all.field-0 c.in-Some.all c.in-Some.is c.in_ok-all.ensures.lawful))

pub returns-in_ok-search-in-Some-clause-few : goal.returns-in_ok-search-in-Some-clause-few
returns-in_ok-search-in-Some-clause-few g c =
    let document = c.args.document.now in
    subst (λ (k : ℕ). k ≤ fragment_count document * (fragment_count document - 1)) (sym c.found_in.ensures.compared)
    (few g.S.PartialEq.eq c.args.schema.now document c.limited-graph.result (graph_is g c) c.in_ok-search-in-Some.search.compared
    c.in_ok-search-in-Some.ensures.few)

pub returns-in_ok-search-in-Some-clause-enough : goal.returns-in_ok-search-in-Some-clause-enough
returns-in_ok-search-in-Some-clause-enough g c = λ done ps t.
    let search = c.in_ok-search-in-Some.search in
    let found = c.found_in.result in
    let room = subst (λ (n : ℕ). (n ≡ 0) ⊎ (length search.found.items < n)) c.found_in.ensures.limit
    (subst (λ v. (found.limit ≡ 0) ⊎ (length v.items < found.limit)) c.found_in.ensures.found done) in
    let l = enough g.S.PartialEq.eq c.args.schema.now c.args.document.now c.limited-graph.result (graph_is g c) search.compared
    (c.in_ok-search-in-Some.ensures.enough room) ps t in
    let same = c.found_in.ensures.compared in omega (arith, l, same)

pub returns-in_ok-search-in-Some-clause-opened : goal.returns-in_ok-search-in-Some-clause-opened
returns-in_ok-search-in-Some-clause-opened g c =
    let search = c.in_ok-search-in-Some.search in
    let many = fragment_count c.args.document.now in
    subst (λ (k : ℕ). k ≤ many * c.found_in.result.lists) (sym c.found_in.ensures.opened)
    (subst (λ (k : ℕ). search.opened ≤ many * k) (sym c.found_in.ensures.lists)
    (opens g.S.PartialEq.eq c.args.schema.now c.args.document.now c.limited-graph.result (graph_is g c) search.opened search.lists
    c.in_ok-search-in-Some.ensures.opened))

pub returns-in_ok-search-in-Some-clause-compares : goal.returns-in_ok-search-in-Some-clause-compares
returns-in_ok-search-in-Some-clause-compares g c = λ known.
    let graph = c.limited-graph.result in
    omega (
      arith,
      cost_few c.args.schema.now c.args.document.now known graph (graph_is g c) (judgement_of g.S.PartialEq.eq graph.judge),
      c.in_ok-search-in-Some.ensures.compares,
      c.found_in.ensures.judged,
    )

pub returns-in_ok-search-in-Some-clause-linear : goal.returns-in_ok-search-in-Some-clause-linear
returns-in_ok-search-in-Some-clause-linear g c = λ known.
    let graph = c.limited-graph.result in
    let search = c.in_ok-search-in-Some.search in
    let many = fragment_count c.args.document.now in
    subst (λ (k : ℕ). k ≤ many * most_opened c.args.document.now) (sym c.found_in.ensures.opened)
    (opened_few c.args.schema.now c.args.document.now known graph (graph_is g c) (judgement_of g.S.PartialEq.eq graph.judge) search.opened c.in_ok-search-in-Some.ensures.linear
    many (fragments_few g c))

pub returns-in_ok-search-in-Some-clause-looked : goal.returns-in_ok-search-in-Some-clause-looked
returns-in_ok-search-in-Some-clause-looked g c = λ known.
    let graph = c.limited-graph.result in
    let search = c.in_ok-search-in-Some.search in
    subst (λ (k : ℕ). k ≤ selection_count c.args.document.now * most_opened c.args.document.now) (sym c.found_in.ensures.looked)
    (looked_few c.args.schema.now c.args.document.now known graph (graph_is g c) (judgement_of g.S.PartialEq.eq graph.judge) search.looked c.in_ok-search-in-Some.ensures.looked)
