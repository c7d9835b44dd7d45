use Rattle.std.proofs.Common.{refl}
use Rattle.std.proofs.lemmas.Result.{MatchResult-weaker, IfOk-weaker, on_ok_weaker}
use Rattle.graphql_reader.proofs.DocumentLeaveLaws.{variables_absent, variables_fault, variables_read}
use Rattle.graphql_reader.proofs.definitions.read_variable_definitions.Goals as goal

pub returns-clause-tree : goal.returns-clause-tree
returns-clause-tree c =
    IfOk-weaker c.read_variables_from.result _ _ (λ vs h. h c.args.tokens.now (c.if-not-take.ensures.taken refl) c.start-start.ensures) c.read_variables_from.ensures.tree

pub returns-clause-leaves : goal.returns-clause-leaves
returns-clause-leaves c =
    on_ok_weaker c.read_variables_from.result (λ h. variables_read c.take.new.self (c.if-not-take.ensures.taken refl) h) c.read_variables_from.ensures.leaves

pub returns-clause-stuck : goal.returns-clause-stuck
returns-clause-stuck c =
    MatchResult-weaker c.read_variables_from.result c.read_variables_from.ensures.stuck (λ x h. h) (λ e f. variables_fault c.take.new.self (c.if-not-take.ensures.taken refl) f)

pub returns-then-not-take-clause-leaves : goal.returns-then-not-take-clause-leaves
returns-then-not-take-clause-leaves c = variables_absent (c.if-not-take.ensures.left refl)
