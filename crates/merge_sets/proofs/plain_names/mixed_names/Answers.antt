use Rattle.std.proofs.Common.{ap, arith, subst}
use Rattle.std.specs.List.{All}
use Rattle.merge_sets.specs.declared.node.Entry.{Entry}
use Rattle.merge_sets.specs.World.{world}
use Rattle.merge_sets.specs.Kinds.{IsToldOf}
use Rattle.merge_sets.proofs.NamesSeen.{names_plain}
use Rattle.merge_sets.proofs.plain_names.mixed_names.Goals as goal

pub returns-clause-names : goal.returns-clause-names
returns-clause-names g c =
    let w = world g.J.Judge.judgement c.args.graph.now in
    let own = c.in_ok-fields.fields.items in
    let same = ap (λ v. v.items) c.in_ok-set.ensures.own in
    let told = subst (λ xs. All (λ (a : Entry). IsToldOf w.judgement xs c.in_ok-mixed.mixed a.response) xs) same c.in_ok-mixed.ensures.told in
    names_plain w c.in_ok-unlike.unlike c.in_ok-mixed.mixed own c.in_ok-unlike.ensures.names c.in_ok-fields.ensures told

pub returns-clause-ticks : goal.returns-clause-ticks
returns-clause-ticks g c s own some = omega (arith, c.in_ok-unlike.ensures.ticks s own some, c.marked_names.ensures.spent)
