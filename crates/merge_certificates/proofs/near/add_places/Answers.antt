use Rattle.std.proofs.Common.{◌≡◌, ◌++◌, ◌∷◌, [], ℕ, arith, get_or, subst, sym, take}
use Rattle.std.specs.List.{All, Contains}
use Rattle.std.proofs.lemmas.List.{length-take, take_all}
use Rattle.std.proofs.lemmas.List.Elements.{All-more, All-weaker, Contains-append_left, Contains-push}
use Rattle.merge_sets.specs.declared.node.Entry.{Entry}
use Rattle.merge_certificates.specs.Near.{listed_at}
use Rattle.merge_certificates.proofs.near.add_places.Goals as goal

pub loop-name-init : goal.loop-name-init
loop-name-init c = (λ a h. h, λ k d l. absurd (omega (arith, length-take 0 c.args.list.now, l)))

pub loop-name-preserved : goal.loop-name-preserved
loop-name-preserved c =
    let list = c.args.list.now in
    let k = c.args.k in
    let m = c.loop-name.name-index in
    let old = c.loop-name.entries.items in
    let new = c.push.new.self.items in
    let one = listed_at (get_or list m 0) k in
    let is : new ≡ old ++ one ∷ [] = c.in_ok-push.ensures.items in
    let kept : (a : Entry) → Contains old a → Contains new a = λ a h. subst (λ zs. Contains zs a) (sym is) (Contains-append_left old (one ∷ []) a h) in (
      λ a h. kept a (c.loop-name.invariant.0 a h),
      All-more (λ (n : ℕ). Contains new (listed_at n k)) list m 0 c.loop-name-test.true
          (All-weaker (λ (n : ℕ). Contains old (listed_at n k)) (λ (n : ℕ). Contains new (listed_at n k)) (λ n h. kept (listed_at n k) h) (take m list) c.loop-name.invariant.1)
          (subst (λ zs. Contains zs one) (sym is) (Contains-push old one)),
    )

pub returns : goal.returns
returns c = record {
  kept = c.loop-name.invariant.0;
  added = subst (λ zs. All (λ (n : ℕ). Contains c.loop-name.entries.items (listed_at n c.args.k)) zs) (take_all c.loop-name.name-index c.args.list.now c.loop-name-test.false) c.loop-name.invariant.1;
}
