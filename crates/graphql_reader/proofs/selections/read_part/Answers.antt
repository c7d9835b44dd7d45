use Rattle.std.proofs.Common.{refl}
use Rattle.std.proofs.lemmas.Result.{IfOk-weaker, MatchResult-weaker}
use Rattle.graphql_reader.proofs.SelectionLeaveLaws.{fault_dots, fault_field, part_dots, part_field}
use Rattle.graphql_reader.proofs.selections.read_part.Goals as goal

pub returns-then-take-clause-leaves : goal.returns-then-take-clause-leaves
returns-then-take-clause-leaves c =
    IfOk-weaker c.read_after_dots.result _ _ (λ x h. part_dots c.args.max_depth c.args.tokens.now c.take.new.self c.read_after_dots.new.tokens x (c.if-take.ensures.taken refl) h) c.read_after_dots.ensures.leaves

pub returns-then-take-clause-stuck : goal.returns-then-take-clause-stuck
returns-then-take-clause-stuck c =
    MatchResult-weaker c.read_after_dots.result c.read_after_dots.ensures.stuck (λ x h. h) (λ e h depth. fault_dots c.take.new.self depth (c.if-take.ensures.taken refl) (h depth))

pub returns-else-take-clause-leaves : goal.returns-else-take-clause-leaves
returns-else-take-clause-leaves c =
    IfOk-weaker c.read_field.result _ _ (λ x h. part_field c.args.max_depth c.args.tokens.now c.take.new.self c.read_field.new.tokens x (c.if-take.ensures.left refl) h) c.read_field.ensures.leaves

pub returns-else-take-clause-stuck : goal.returns-else-take-clause-stuck
returns-else-take-clause-stuck c =
    MatchResult-weaker c.read_field.result c.read_field.ensures.stuck (λ x h. h) (λ e h depth. fault_field c.take.new.self depth (c.if-take.ensures.left refl) (h depth))
