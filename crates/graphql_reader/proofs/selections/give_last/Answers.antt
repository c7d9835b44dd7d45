use Rattle.std.proofs.Common.{◌≡◌, length, ap, ◌∙◌}
use Rattle.graphql_lexer.specs.Ahead.{last_end_of}
use Rattle.graphql_reader.specs.Selections.{nodes_seen, selection_seen}
use Rattle.graphql_reader.specs.OpenSets.{given_set}
use Rattle.graphql_reader.proofs.OpenSetLaws.{last_set, last_was}
use Rattle.graphql_reader.proofs.selections.give_last.Goals as goal

pub returns-in-Some : goal.returns-in-Some
returns-in-Some c before holder e =
    let nodes = c.args.nodes.now.items in
    let count : c.args.nodes.now.len ≡ length nodes = c.args.nodes.now.ok.0 in
    let was : c.in-Some.holder.now ≡ holder = last_was before nodes holder c.in-Some.holder.now _ e count c.in-Some.ensures.value in
    (c.give.new.holder, last_set before nodes holder c.give.new.holder _ e count, c.give.ensures ∙ ap (λ n. given_set (selection_seen n) (nodes_seen c.args.set.items) (last_end_of c.args.tokens.now)) was)
