use Rattle.std.proofs.Common.{false, ap, ◌∙◌}
use Rattle.bit_matrix.specs.Set.{has}
use Rattle.merge_certificates.specs.declared.quiet.Apart.{Apart}
use Rattle.merge_certificates.specs.Quiet.{Covers}
use Rattle.merge_sets.specs.World.{world}
use Rattle.merge_sets.proofs.Laws.{clash, on_true_weaker}
use Rattle.merge_certificates.proofs.Merged.{quiet_whole}
use Rattle.merge_certificates.proofs.quiet.are_quiet.Goals as goal

pub returns-clause-quiet : goal.returns-clause-quiet
returns-clause-quiet g c =
    let told = c.in_ok-is_quiet.ensures in
    let names = c.are_quiet_but.new.apart.names in
    let same = told.full c.none_apart-apart.ensures.room in
    let covers : Covers (λ n. false) names = λ n is. absurd (clash (has names n) is (ap (λ (a : Apart). has a.names n) same ∙ c.none_apart-apart.ensures.none n)) in
    on_true_weaker c.in_ok-is_quiet.is_quiet (λ but. quiet_whole (world g.J.Judge.judgement c.args.graph.now) c.args.unions.items (but (λ n. false) covers)) told.quiet
