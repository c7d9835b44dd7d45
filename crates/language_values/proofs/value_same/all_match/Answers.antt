use Rattle.std.proofs.Common.{◌∙◌, ◌&&◌, sym, ap}
use Rattle.std.specs.List.{list_all}
use Rattle.language_values.specs.ValuesSame.{is_match}
use Rattle.language_values.proofs.Steps.{all_last}
use Rattle.language_values.proofs.value_same.all_match.Goals as goal

pub loop-preserved : goal.loop-preserved
loop-preserved g c =
    let E = g.S.PartialEq.eq in
    ap (λ b. b && list_all (is_match E) c.match_first.new.waiting.items) (sym c.if-not-branch.false)
    ∙ c.in_ok-match_first.ensures
    ∙ sym (all_last (is_match E) c.loop.waiting.items c.pop.new.self.items c.in-Some.matching c.in-Some.ensures.items)
    ∙ c.loop.invariant

pub returns-then-not-branch : goal.returns-then-not-branch
returns-then-not-branch g c =
    let E = g.S.PartialEq.eq in
    sym (sym c.loop.invariant
    ∙ all_last (is_match E) c.loop.waiting.items c.pop.new.self.items c.in-Some.matching c.in-Some.ensures.items
    ∙ sym c.in_ok-match_first.ensures
    ∙ ap (λ b. b && list_all (is_match E) c.match_first.new.waiting.items) c.if-not-branch.true)
