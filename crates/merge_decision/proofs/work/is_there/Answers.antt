use Rattle.std.proofs.Common.{◌≡◌, ℕ, List, sym, subst, ◌∙◌, length}
use Rattle.std.specs.List.{Contains}
use Rattle.merge_sets.proofs.Laws.{on_true_weaker}
use Rattle.merge_decision.proofs.work.is_there.Goals as goal

pub returns : goal.returns
returns c =
    let unions = c.args.work.now.unions.items in
    let other = c.in-Some-get.other.now in
    let at = c.in-Some-get.ensures.lookup in
    let there : Contains c.deref-2.result.now other = (_, at.3.0, sym at.1) in
    on_true_weaker c.are_same.result (λ same. record {
      union = other;
      there = subst (λ us. Contains us other) c.deref-2.ensures.value there;
      flagged = search Rattle.std.proofs.Common.rules;
      same = sym c.as_slice.ensures.value ∙ same ∙ c.as_slice-2.ensures.value;
    }) c.are_same.ensures
