use Rattle.std.proofs.Common.{◌≡◌, ◌∷◌, arith, length, suc, reverse, ap, ◌∙◌}
use Rattle.std.proofs.lemmas.Result.{MatchResult-weaker, on_ok_weaker}
use Rattle.graphql_reader.proofs.LeavesLaws.{leaves_no_more}
use Rattle.graphql_reader.proofs.OpenSetLaws.{part_begins, part_deep, part_whole}
use Rattle.graphql_reader.proofs.SelectionLaws.{on_ok_all, reverse_count, reverse_more}
use Rattle.graphql_reader.proofs.selections.begin_set.Goals as goal

pub returns-then-not-begins-clause-tree : goal.returns-then-not-begins-clause-tree
returns-then-not-begins-clause-tree c first mid old going added leaves = part_whole {mid = mid} {old = old} c.args.begins c.if-not-begins.true going added leaves

pub returns-clause-tree : goal.returns-clause-tree
returns-clause-tree c =
    let old = c.args.firsts.now.items in
    let grown = c.push.new.self.items in
    let added = c.in_ok-push.ensures.items in
    let first_is : c.len-first.result ≡ length c.args.nodes.now.items = omega (arith, c.len-first.ensures, c.args.nodes.now.ok.0) in
    let more : reverse grown ≡ length c.args.nodes.now.items ∷ reverse old = reverse_more old grown c.len-first.result added ∙ ap (λ n. n ∷ reverse old) first_is in
    let count : c.len-levels.result ≡ suc (length (reverse old)) = omega (arith, c.len-levels.ensures, c.push.new.self.ok.0, reverse_count old grown c.len-first.result added) in
    on_ok_all c.open_set.result (λ nest taken h first mid before going part leaves. part_begins {mid = mid} {old = before} c.len-levels.result c.args.begins c.if-not-begins.false going part leaves more count nest taken h) c.open_set.ensures.depth c.open_set.ensures.taken c.open_set.ensures.leaves

pub returns-clause-less : goal.returns-clause-less
returns-clause-less c = on_ok_weaker c.open_set.result (λ t. leaves_no_more t) c.open_set.ensures.leaves

pub returns-clause-stuck : goal.returns-clause-stuck
returns-clause-stuck c =
    let old = c.args.firsts.now.items in
    let count : c.len-levels.result ≡ suc (length (reverse old)) = omega (arith, c.len-levels.ensures, c.push.new.self.ok.0, reverse_count old c.push.new.self.items c.len-first.result c.in_ok-push.ensures.items) in
    MatchResult-weaker c.open_set.result c.open_set.ensures.stuck (λ y h. h) (λ e f first mid before going leaves. part_deep {mid = mid} {old = before} c.len-levels.result c.args.begins c.if-not-begins.false going leaves count f)
