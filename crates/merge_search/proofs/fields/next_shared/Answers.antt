use Rattle.std.proofs.Common.{◌≡◌, ◌+◌, ◌<◌, [], arith, length, drop, get_or, rules, sym, ◌∙◌}
use Rattle.std.proofs.lemmas.List.{nil_from_length}
use Rattle.merge_sets.specs.declared.node.Entry.{Entry}
use Rattle.merge_sets.specs.Names.{named}
use Rattle.merge_sets.specs.World.{world, own_of}
use Rattle.merge_search.specs.Reports.{AtNamed, AtOwn}
use Rattle.merge_search.specs.Tasks.{NameDone}
use Rattle.merge_sets.specs.Graph.{firsts_at}
use Rattle.merge_sets.proofs.OneName.{no_entry}
use Rattle.merge_search.proofs.Rows.{row_own}
use Rattle.merge_search.proofs.Costs.{costs_next}
use Rattle.merge_search.proofs.Steps.{drop_next, each_next, name_absent}
use Rattle.merge_search.proofs.fields.next_shared.Goals as goal

pub loop-next-init : goal.loop-next-init
loop-next-init g c = (λ e s t d. d, λ e. omega arith)

pub loop-next-preserved : goal.loop-next-preserved
loop-next-preserved g c =
    let v = world g.J.Judge.judgement c.args.graph.now in
    let i = c.args.i in
    let j = c.args.j in
    let k = c.loop-next.next in
    let less : k < length c.first_of_names-firsts.result.now = search rules in
    let f : Entry = get_or c.first_of_names-firsts.result.now k no_entry in
    let firsts = firsts_at v.sets i in
    let is = c.first_of_names-firsts.ensures.is in
    let empty : length c.group.result.now ≡ 0 = search rules in
    let none : named f.response (own_of v j) ≡ [] = sym c.group.ensures ∙ nil_from_length c.group.result.now empty in (
      λ e s t d.
          c.loop-next.invariant.0 e s t
          (each_next v e (NameDone v e i j) (AtOwn v i j) (AtNamed v i j f.response) (λ f. AtNamed v i j f.response) f (drop (k + 1) firsts) (drop k firsts) s s t
          (drop_next c.first_of_names-firsts.result.now firsts k no_entry is less)
          (row_own v i j f.response) (name_absent v e i j f.response s none) d),
      λ e. omega (arith, c.loop-next.invariant.1 e, costs_next v i j c.first_of_names-firsts.result.now firsts k is less),
    )

pub returns-clause-meets : goal.returns-clause-meets
returns-clause-meets g c = c.loop-next.invariant.0

pub returns-clause-costs : goal.returns-clause-costs
returns-clause-costs g c = c.loop-next.invariant.1
