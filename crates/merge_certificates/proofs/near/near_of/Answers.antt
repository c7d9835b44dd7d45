use Rattle.std.proofs.Common.{◌+◌, ℕ, ap, arith, subst, sym}
use Rattle.std.specs.List.{All, Contains}
use Rattle.merge_certificates.specs.Near.{IsNear, listed_at}
use Rattle.merge_sets.proofs.Marks.{stays}
use Rattle.merge_certificates.proofs.Nearness.{one_near, one_untold}
use Rattle.merge_certificates.proofs.near.near_of.Goals as goal
use Rattle.merge_certificates.proofs.near.near_of.Goals.{in-Some+in_ok-add_places-in-Some, in-None+in_ok-insert-in-None}

pub loop-l-init : goal.loop-l-init
loop-l-init c = λ l less. absurd (omega (arith, less))

pub loop-l-preserved : goal.loop-l-preserved
loop-l-preserved c =
    let touched = c.args.touched.now in
    let l = c.loop-l.l in
    let untold = c.loop-l.untold in
    let old = c.loop-l.entries.items in
    elim c.match-names_at.branch [
      | in-Some+in_ok-add_places-in-Some w ↦
          let at = w.in-Some.ensures in
          let new = w.add_places.new.entries.items in
          let added = subst (λ zs. All (λ (n : ℕ). Contains new (listed_at n l)) zs) at.2 w.in_ok-add_places-in-Some.ensures.added in
          subst (λ u. IsNear touched (l + 1) u c.match-names_at.entries.items) (sym w.untold-is)
          (subst (λ zs. IsNear touched (l + 1) untold zs) (sym (ap (λ v. v.items) w.entries-is))
          (one_near touched l untold old c.loop-l.invariant new at.0 at.1 w.in_ok-add_places-in-Some.ensures.kept added))
      | in-None+in_ok-insert-in-None w ↦
          let more = w.insert.new.self in
          let one = w.in_ok-insert-in-None.ensures in
          subst (λ u. IsNear touched (l + 1) u c.match-names_at.entries.items) (sym w.untold-is)
          (subst (λ zs. IsNear touched (l + 1) more zs) (sym (ap (λ v. v.items) w.entries-is))
          (one_untold touched l untold old c.loop-l.invariant more one.there (stays untold more l one.there one.others)))
    ]

pub returns : goal.returns
returns c = subst (λ zs. IsNear c.args.touched.now c.args.count c.loop-l.untold zs) (sym (ap (λ v. v.items) c.in_ok-index.ensures.own))
    (λ l less. c.loop-l.invariant l (omega (arith, less, c.loop-l-test.false)))
