use Rattle.std.proofs.Common.{[], ◌∷◌, ◌++◌, ◌≡◌, ◌<◌, ◌∙◌, get_or, Bool, true, false, length, sym, ap, subst, arith}
use Rattle.expected_tokens.specs.Stops.{IsFront}
use Rattle.expected_tokens.specs.declared.expected.Expected.TheVariants.{Punctuator}
use Rattle.graphql_lexer.specs.declared.lexer.Punctuator.TheVariants.{Bang}
use Rattle.expected_tokens.proofs.Laws.{Sifted, all_sifted, none_yet, order_no, order_yes, sifted_none, step_no, step_yes}
use Rattle.expected_tokens.proofs.questions.expected_tokens.Goals as goal
use Rattle.expected_tokens.proofs.questions.expected_tokens.Goals.{then-branch+in_ok-push, else-branch}

not_both : (b : Bool) → b ≡ true → b ≡ false → ⊥
not_both b e f = let g : true ≡ false = sym e ∙ f in cc

pub loop-candidate-init : goal.loop-candidate-init
loop-candidate-init c = record {
  sifted = λ before p b. subst (λ z. Sifted [] z before p) (sym c.new-found.ensures.items) (sifted_none before p);
  order = none_yet c.new-found.result.items c.new-found.ensures.items;
}

pub loop-candidate-preserved : goal.loop-candidate-preserved
loop-candidate-preserved c =
    let all = c.all-candidates.result.now in
    let found = c.loop-candidate.found.items in
    let grown = c.if-branch.found.items in
    let n = c.loop-candidate.candidate-index in
    let d = Punctuator Bang in
    let less : n < length all = omega (arith, c.loop-candidate-test.true) in
    let told = c.in_ok-may_follow.ensures in
    let so_far = c.loop-candidate.invariant in
    elim c.if-branch.branch [
      | then-branch+in_ok-push w ↦
          let e : grown ≡ found ++ get_or all n d ∷ [] = ap (λ v. v.items) w.found-is ∙ w.in_ok-push.ensures.items in
          record {
            sifted = λ before p b. step_yes all found grown n d before p less e
                ((told before p b).0 w.if-branch.true) (so_far.sifted before p b);
            order = order_yes all found grown n d less e so_far.order;
          }
      | else-branch w ↦
          let e : grown ≡ found = ap (λ v. v.items) w.found-is in
          record {
            sifted = λ before p b. step_no all found grown n d before p less e
                (λ m. not_both c.in_ok-may_follow.field-0 ((told before p b).1 m) w.if-branch.false)
                (so_far.sifted before p b);
            order = order_no all found grown n d less e so_far.order;
          }
    ]

pub returns : goal.returns
returns c =
    let front = c.in_ok-front.front.now in
    let all = c.all-candidates in
    let loop = c.loop-candidate in
    let is : IsFront c.args.text.now front = subst (λ z. IsFront z front) c.as_bytes.ensures.value c.in_ok-front.ensures in
    all_sifted c.args.text.now front all.result.now loop.found.items loop.candidate-index (omega arith)
    all.ensures.every all.ensures.listed loop.invariant.order is loop.invariant.sifted
