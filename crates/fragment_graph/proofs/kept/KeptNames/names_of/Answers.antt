use Rattle.std.proofs.lemmas.Result.{IfOk-weaker}
use Rattle.fragment_graph.specs.Kept.{IsCopy}
use Rattle.fragment_graph.specs.Numbers.{NumberedDefinitions}
use Rattle.fragment_graph.proofs.Keeping.{numbered_copy}
use Rattle.fragment_graph.proofs.kept.KeptNames.names_of.Goals as goal

pub returns-then-are_numbers_of : goal.returns-then-are_numbers_of
returns-then-are_numbers_of g c =
    let k = c.args.self.now in
    IfOk-weaker c.copied.result (IsCopy k.names) (λ n. NumberedDefinitions c.args.document.now n.numbers n.defined.items)
    (λ n h. numbered_copy c.args.document.now k.names n k.numbered k.exact (c.are_numbers_of.ensures c.if-are_numbers_of.true) h) c.copied.ensures
