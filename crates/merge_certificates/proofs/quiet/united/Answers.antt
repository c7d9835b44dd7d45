use Rattle.std.proofs.Common.{ap, subst, sym}
use Rattle.std.specs.List.{All, Contains}
use Rattle.std.specs.Option.{IfSome}
use Rattle.merge_sets.specs.declared.node.Entry.{Entry}
use Rattle.merge_certificates.specs.Quiet.{AreWrittenOut, HoldAll}
use Rattle.merge_sets.specs.World.{world, own_of}
use Rattle.merge_certificates.proofs.Merged.{written_holds}
use Rattle.merge_certificates.proofs.quiet.united.Goals as goal

pub returns : goal.returns
returns g c =
    let v = world g.J.Judge.judgement c.args.graph.now in
    let sets = c.args.sets.now in
    let written = c.in-Some.written.items in
    let fields = c.in_ok-fields.fields.items in
    let out = subst (λ o. IfSome o (λ u. AreWrittenOut v sets u.items)) c.in-Some.is c.in_ok-written.ensures in
    let owns = subst (λ zs. All (λ s. (a : Entry) → Contains (own_of v s) a → Contains fields a) zs) c.as_slice-2.ensures.value c.in_ok-fields.ensures in
    subst (λ zs. HoldAll v sets zs) (sym (ap (λ z. z.items) c.in_ok-set.ensures.own)) (written_holds v sets written fields out owns)
