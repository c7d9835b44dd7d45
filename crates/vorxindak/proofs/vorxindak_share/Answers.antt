use Rattle.std.proofs.Common.{◌<◌, ◌∙◌, subst, sym}
use Rattle.vorxindak.proofs.Told.{is_done, not_done}
use Rattle.vorxindak.proofs.vorxindak_share.Goals as goal

pub returns : goal.returns
returns c =
    let is = c.status_of_share.ensures in
    record {
      same = c.share.ensures.same;
      kept = λ h. c.share.ensures.kept (not_done c.share.result (subst (λ n. 0 < n) is h));
      shared = λ e. c.share.ensures.shared (is_done c.share.result (sym is ∙ e));
      empty = λ e. c.share.ensures.empty (is_done c.share.result (sym is ∙ e));
      answered = record { shared = c.share.result; status_is = is; shares = c.share.ensures.answered };
    }
