use Rattle.std.proofs.Common.{◌≡◌, ℕ, arith, refl, subst}
use Rattle.std.specs.List.{All, Contains}
use Rattle.std.proofs.lemmas.List.{length-take, take_all}
use Rattle.std.proofs.lemmas.List.Elements.{All-contains, All-more, Contains-get_or}
use Rattle.merge_certificates.proofs.touched.is_listed.Goals as goal

pub loop-other-init : goal.loop-other-init
loop-other-init c = λ k d l. absurd (omega (arith, length-take 0 c.args.list.now, l))

pub loop-other-preserved : goal.loop-other-preserved
loop-other-preserved c = All-more (λ (m : ℕ). m ≡ c.args.number → ⊥) c.args.list.now c.loop-other.other-index 0 c.loop-other-test.true c.loop-other.invariant c.if-other-number.false

pub returns-then-other-number : goal.returns-then-other-number
returns-then-other-number c = record {
  yes = λ yes. subst (λ n. Contains c.args.list.now n) c.if-other-number.true (Contains-get_or c.args.list.now c.loop-other.other-index 0 c.loop-other-test.true);
  no = λ no. cc;
}

pub returns : goal.returns
returns c = record {
  yes = λ yes. cc;
  no = λ no there.
      All-contains (λ (m : ℕ). m ≡ c.args.number → ⊥) c.args.list.now c.args.number
      (subst (λ zs. All (λ (m : ℕ). m ≡ c.args.number → ⊥) zs) (take_all c.loop-other.other-index c.args.list.now c.loop-other-test.false) c.loop-other.invariant) there refl;
}
