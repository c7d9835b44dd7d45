use Rattle.std.proofs.Common.{◌<◌, Bool, ℕ, arith, subst}
use Rattle.std.specs.Bool.{OnTrue}
use Rattle.std.proofs.lemmas.Result.{IfOk-weaker}
use Rattle.bit_matrix.specs.Set.{has}
use Rattle.merge_certificates.specs.Quiet.{AllQuietBut, Covers}
use Rattle.merge_sets.specs.World.{world}
use Rattle.merge_certificates.proofs.Touching.{apart_below, none_at, none_told}
use Rattle.merge_certificates.proofs.touched.touched_below.Goals as goal

pub returns-clause-knows : goal.returns-clause-knows
returns-clause-knows g c =
    let v = world g.J.Judge.judgement c.args.graph.now in
    let names = c.are_quiet_but.new.apart.names in
    let unions = c.unions_below.new.unions.items in
    let e = c.args.e in
    let but = subst (λ b. OnTrue b ((l : ℕ → Bool) → Covers l names → AllQuietBut v l unions)) c.if-not-is_known.false c.in_ok-is_known.ensures.quiet in
    IfOk-weaker c.names_below_each.result _ _
    (λ t are. apart_below v names e c.args.fields.now unions t c.in_ok-unions_below.ensures.joined (but (λ n. has names n) (λ n h. h)) are)
    c.names_below_each.ensures.touched

pub returns-then-not-is_known-clause-knows : goal.returns-then-not-is_known-clause-knows
returns-then-not-is_known-clause-knows g c = λ k l a b at. absurd (none_at c.none_touched.result c.none_touched.ensures k l at)

pub returns-clause-ticks : goal.returns-clause-ticks
returns-clause-ticks g c =
    let asked = subst (λ b. OnTrue b (c.are_quiet_but.new.budget < c.args.budget.now)) c.if-not-is_known.false c.in_ok-is_known.ensures.ticks in
    IfOk-weaker c.names_below_each.result _ _ (λ t are told. omega (arith, asked, c.names_below_each.ensures.spent)) c.names_below_each.ensures.touched

pub returns-then-not-is_known-clause-ticks : goal.returns-then-not-is_known-clause-ticks
returns-then-not-is_known-clause-ticks g c told = absurd (none_told c.none_touched.result c.none_touched.ensures told)
