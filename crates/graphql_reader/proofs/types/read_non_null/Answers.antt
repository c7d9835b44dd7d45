use Rattle.std.proofs.Common.{refl}
use Rattle.std.proofs.lemmas.Result.{IfOk-weaker}
use Rattle.language_types.specs.Types.{shape}
use Rattle.graphql_reader.proofs.TypeLaws.{banged}
use Rattle.graphql_reader.proofs.TypeLeaveLaws.{bang_left, bang_taken}
use Rattle.graphql_reader.proofs.types.read_non_null.Goals as goal

pub returns-then-take-clause-tree : goal.returns-then-take-clause-tree
returns-then-take-clause-tree c =
    IfOk-weaker c.wrap_non_null.result _ _ (λ k is limit depth first may inside. banged limit depth (shape c.args.plain) (shape k) first c.args.tokens.now c.take.new.self may inside (c.if-take.ensures.taken refl) is) c.wrap_non_null.ensures.value

pub returns-then-take-clause-leaves : goal.returns-then-take-clause-leaves
returns-then-take-clause-leaves c =
    IfOk-weaker c.wrap_non_null.result _ _ (λ k is limit. bang_taken (c.if-take.ensures.taken refl)) c.wrap_non_null.ensures.value

pub returns-else-take-clause-leaves : goal.returns-else-take-clause-leaves
returns-else-take-clause-leaves c limit = bang_left (c.if-take.ensures.left refl)
