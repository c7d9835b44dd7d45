use Rattle.std.proofs.Common.{ℕ, sym, subst, ◌≡◌, ◌⊎◌}
use Rattle.std.specs.List.{All, Contains}
use Rattle.merge_sets.specs.World.{world, set_of}
use Rattle.merge_certificates.proofs.Merged.{opened_out}
use Rattle.merge_certificates.proofs.quiet.written_out.Goals as goal

pub returns : goal.returns
returns g c =
    let v = world g.J.Judge.judgement c.args.graph.now in
    let order = c.open_reached.new.opening.order.items in
    let some = c.args.sets.now in
    let sets = c.add_sets.new.sets.items in
    let copied = c.in_ok-written.ensures.items in
    opened_out v some c.as_slice.result.now order sets
    (subst (λ zs. All (λ s. All (λ f. Contains zs f) (Rattle.merge_sets.specs.World.spreads_of v s)) some) (sym c.as_slice.ensures.value) c.in_ok-starts.ensures.all)
    c.in_ok-open_reached.ensures
    (λ s h. c.in_ok-add_sets.ensures.kept s (subst (λ zs. Contains zs s) (sym copied) h))
    (subst (λ zs. All (λ f. Contains sets (set_of v f)) zs) c.as_slice-2.ensures.value c.in_ok-add_sets.ensures.added)
    (λ s h. subst (λ zs. Contains some s ⊎ ((f : ℕ) × Contains zs f × (s ≡ set_of v f))) c.as_slice-2.ensures.value
    (subst (λ zs. Contains zs s ⊎ ((f : ℕ) × Contains c.as_slice-2.result.now f × (s ≡ set_of v f))) copied (c.in_ok-add_sets.ensures.only s h)))
