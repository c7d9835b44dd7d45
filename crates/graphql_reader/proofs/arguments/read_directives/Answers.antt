use Rattle.std.proofs.lemmas.Result.{err_from_is_err_and}
use Rattle.std.proofs.Common.{refl}
use Rattle.value_reader.specs.Seen.{rules_of}
use Rattle.graphql_reader.specs.Arguments.{directive_seen, SpellsDirective}
use Rattle.graphql_reader.proofs.ArgumentLaws.{pushed_some}
use Rattle.graphql_reader.proofs.PassedLaws.{reads_new, reads_push}
use Rattle.graphql_reader.proofs.ArgumentLeaveLaws.{marks_ended, marks_fault, marks_more, marks_same, some_directive}
use Rattle.graphql_reader.proofs.ConstantLaws.{not_so}
use Rattle.graphql_reader.proofs.LeavesLaws.{fault_behind, leaves_then, reads_less}
use Rattle.graphql_reader.proofs.arguments.read_directives.Goals as goal

pub loop-variables-init : goal.loop-variables-init
loop-variables-init c = record {
  reached = reads_new (SpellsDirective (rules_of c.args.variables c.args.max_depth)) directive_seen c.in_ok-directives.directives.items c.args.tokens.now c.in_ok-directives.ensures.items;
  leaves = marks_same c.args.variables;
  begun = λ e. c.if-not-is.ensures.0 refl;
}

pub loop-variables-preserved : goal.loop-variables-preserved
loop-variables-preserved c = record {
  reached = reads_push (SpellsDirective (rules_of c.args.variables c.args.max_depth)) directive_seen c.loop-variables.directives.items c.push.new.self.items c.in_ok-directive.directive c.args.tokens.now c.loop-variables.tokens c.read_directive.new.tokens c.loop-variables.invariant.reached c.in_ok-directive.ensures.tree c.in_ok-push.ensures.items;
  leaves = leaves_then c.loop-variables.invariant.leaves (marks_more c.args.variables (c.loop-variables-test.ensures.0 refl) c.in_ok-directive.ensures.leaves);
  begun = λ e. absurd (pushed_some directive_seen c.loop-variables.directives.items c.push.new.self.items c.in_ok-directive.directive c.in_ok-push.ensures.items e);
}

pub loop-variables-smaller : goal.loop-variables-smaller
loop-variables-smaller c =
    let S = SpellsDirective (rules_of c.args.variables c.args.max_depth) (directive_seen c.in_ok-directive.directive) in
    reads_less S c.loop-variables.tokens c.read_directive.new.tokens (some_directive (rules_of c.args.variables c.args.max_depth) (directive_seen c.in_ok-directive.directive)) c.in_ok-directive.ensures.tree

pub returns-clause-leaves : goal.returns-clause-leaves
returns-clause-leaves c =
    leaves_then c.loop-variables.invariant.leaves (marks_ended c.args.variables (not_so c.is-in-loop-variables.result _ c.is-in-loop-variables.ensures c.loop-variables-test.false))

pub returns-then-not-is-clause-leaves : goal.returns-then-not-is-clause-leaves
returns-then-not-is-clause-leaves c = marks_ended c.args.variables (not_so c.is.result _ c.is.ensures c.if-not-is.true)

pub returns-in_err-directive-clause-stuck : goal.returns-in_err-directive-clause-stuck
returns-in_err-directive-clause-stuck c =
    let p = err_from_is_err_and c.from_residual-in_err-directive.result c.from_residual-in_err-directive.ensures.1 in
    rw (p.1, p.2) (fault_behind c.loop-variables.invariant.leaves (marks_fault c.args.variables (c.loop-variables-test.ensures.0 refl) c.in_err-directive.ensures.stuck))
