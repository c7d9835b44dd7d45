use Rattle.std.proofs.Common.{Bool, ◌≡◌, false, subst}
use Rattle.std.specs.Bool.{OnTrue}
use Rattle.bit_matrix.specs.Set.{has}
use Rattle.merge_sets.specs.Judgement.{NoneConflict}
use Rattle.merge_certificates.specs.Quiet.{IsFrom}
use Rattle.merge_sets.specs.World.{world}
use Rattle.merge_certificates.proofs.Merged.{group_merged, uncovered, unions_kept}
use Rattle.merge_certificates.proofs.quiet.is_quiet_group.Goals as goal

pub returns-clause-quiet : goal.returns-clause-quiet
returns-clause-quiet g c = λ l covers all.
    let v = world g.J.Judge.judgement c.args.graph.now in
    let x = c.args.x in
    let xs = c.args.group.now in
    let name = c.args.name in
    let names = c.agree_or_apart.new.apart.names in
    let none = subst (λ b. OnTrue b (has names name ≡ false → (e : Bool) → IsFrom x e → NoneConflict v.judgement e xs xs)) c.if-not-branch.false c.in_ok-agree_or_apart.ensures.agree in
    let told = c.in_ok-unions_below.ensures in
    let new = c.unions_below.new.unions.items in
    (unions_kept v l c.args.waiting.now.items new told.kept all, group_merged v l x name xs new c.requires (λ is. none (uncovered l names name covers is)) told.joined all)
