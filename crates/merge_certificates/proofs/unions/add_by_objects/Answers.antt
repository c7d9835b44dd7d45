use Rattle.std.proofs.Common.{subst, ◌∙◌, sym}
use Rattle.merge_sets.specs.Names.{named}
use Rattle.merge_certificates.specs.Quiet.{HoldBelow}
use Rattle.merge_certificates.specs.Unions.{HaveUnions}
use Rattle.merge_sets.specs.World.{world}
use Rattle.merge_certificates.proofs.Uniting.{flat_joined}
use Rattle.merge_certificates.proofs.unions.add_by_objects.Goals as goal

pub add_unions-requires : goal.add_unions-requires
add_unions-requires g c =
    let own = c.in_ok-set.set.own.items in
    let is = c.fields_named-group.ensures ∙ c.sorted_fields.ensures.grouped 0 in
    subst (λ zs. HoldBelow zs (named 0 own)) (sym c.as_slice.ensures.value) (subst (λ zs. HoldBelow c.in_ok-common.common.items zs) is c.in_ok-common.ensures)

pub returns-clause-joined : goal.returns-clause-joined
returns-clause-joined g c =
    let v = world g.J.Judge.judgement c.args.graph.now in
    let judge = c.args.graph.now.judge in
    let own = c.in_ok-set.set.own.items in
    let common = c.in_ok-common.common.items in
    let is = c.fields_named-group.ensures ∙ c.sorted_fields.ensures.grouped 0 in
    flat_joined v (g.J.Judge.objects judge) (g.J.Judge.objects_apart judge) c.args.fields.now own common c.add_unions.new.unions.items
    c.in_ok-set.ensures (subst (λ zs. HoldBelow common zs) is c.in_ok-common.ensures)
    (subst (λ zs. HaveUnions c.add_unions.new.unions.items own zs) c.as_slice.ensures.value c.in_ok-add_unions.ensures.added)
