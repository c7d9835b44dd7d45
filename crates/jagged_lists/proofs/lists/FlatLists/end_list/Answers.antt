use Rattle.std.proofs.Common.{◌≡◌, ◌+◌, ◌++◌, ◌∷◌, [], length, length-append, append-nil, ap, sym, ◌∙◌, arith}
use Rattle.jagged_lists.specs.Lists.{joined, ranges_from}
use Rattle.jagged_lists.proofs.Ranges.{joined-more, ranges-more}
use Rattle.jagged_lists.proofs.lists.FlatLists.end_list.Goals as goal

pub returns-clause-ok : goal.returns-clause-ok
returns-clause-ok g c = λ ls next h.
    let items = c.args.self.now.items.items in
    let all : length items ≡ length (joined ls) + length next = ap length h.items ∙ length-append (joined ls) next in
    let end : c.len-end.result ≡ length (joined ls) + length next = c.len-end.ensures ∙ c.args.self.now.items.ok.0 ∙ all in
    let from_start : length (joined ls) ≡ 0 + length (joined ls) = omega arith in
    record {
      items = h.items ∙ sym (joined-more ls next) ∙ sym (append-nil (joined (ls ++ next ∷ [])));
      ranges =
          c.in_ok-push.ensures.items ∙ ap (λ rs. rs ++ (c.args.self.now.start, c.len-end.result) ∷ []) h.ranges
          ∙ ap (λ s. ranges_from 0 ls ++ (s, c.len-end.result) ∷ []) h.start
          ∙ ap (λ e. ranges_from 0 ls ++ (length (joined ls), e) ∷ []) end
          ∙ ap (λ m. ranges_from 0 ls ++ (m, m + length next) ∷ []) from_start
          ∙ sym (ranges-more 0 ls next);
      start = end ∙ sym (length-append (joined ls) next) ∙ ap length (sym (joined-more ls next));
    }
