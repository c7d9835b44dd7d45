use Rattle.std.proofs.Common.{subst}
use Rattle.std.specs.Bool.{OnTrue}
use Rattle.merge_sets.specs.Names.{HaveOwnNames}
use Rattle.merge_sets.proofs.Naming.{own_grouped}
use Rattle.merge_sets.proofs.groups.repeated_firsts.Goals as goal

pub returns-then-are_ascending-clause-once : goal.returns-then-are_ascending-clause-once
returns-then-are_ascending-clause-once c =
    own_grouped c.args.own.now c.args.by_name.now c.requires (subst (λ b. OnTrue b (HaveOwnNames c.args.by_name.now)) c.if-are_ascending.true c.are_ascending.ensures.once)
