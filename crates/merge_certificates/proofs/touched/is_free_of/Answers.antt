use Rattle.std.proofs.Common.{◌≡◌, ℕ, false, subst}
use Rattle.std.specs.List.{All}
use Rattle.bit_matrix.specs.Set.{has}
use Rattle.merge_sets.proofs.Laws.{on_true_weaker}
use Rattle.merge_certificates.proofs.touched.is_free_of.Goals as goal

pub returns-in-Some : goal.returns-in-Some
returns-in-Some c =
    let at = c.in-Some.ensures in
    on_true_weaker c.has_none.result (λ none. (at.0, at.1, subst (λ zs. All (λ (n : ℕ). has c.args.names.now n ≡ false) zs) at.2 none)) c.has_none.ensures
