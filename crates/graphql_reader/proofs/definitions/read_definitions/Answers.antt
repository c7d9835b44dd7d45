use Rattle.std.proofs.lemmas.Result.{err_from_is_err_and}
use Rattle.std.proofs.Common.{◌≡◌, [], ◌∷◌, ◌++◌, map, ◌∙◌}
use Rattle.graphql_reader.specs.Arguments.{SpellsEach}
use Rattle.graphql_reader.specs.Documents.{SpellsDefinition, definition_seen}
use Rattle.graphql_reader.specs.Passed.{Reads}
use Rattle.graphql_reader.proofs.ArgumentLaws.{pushed_some}
use Rattle.graphql_reader.proofs.ConstantLaws.{not_so}
use Rattle.graphql_reader.proofs.DocumentLeaveLaws.{document_begun, document_fault, document_more, some_definition}
use Rattle.graphql_reader.proofs.LeavesLaws.{fault_behind, leaves_then, reads_less}
use Rattle.graphql_reader.proofs.PassedLaws.{reads_new, reads_push}
use Rattle.graphql_reader.proofs.definitions.read_definitions.Goals as goal

pub loop-definitions-init : goal.loop-definitions-init
loop-definitions-init c = record {
  tree = reads_new (SpellsDefinition c.args.max_depth) definition_seen c.new-definitions.result.items c.args.tokens.now c.new-definitions.ensures.items;
  leaves = document_begun;
}

pub loop-definitions-preserved : goal.loop-definitions-preserved
loop-definitions-preserved c = record {
  tree = reads_push (SpellsDefinition c.args.max_depth) definition_seen c.loop-definitions.definitions.items c.push.new.self.items c.in_ok-definition.definition c.args.tokens.now c.loop-definitions.tokens c.read_definition.new.tokens c.loop-definitions.invariant.tree c.in_ok-definition.ensures.tree c.in_ok-push.ensures.items;
  leaves = leaves_then c.loop-definitions.invariant.leaves (document_more c.in_ok-definition.ensures.leaves (not_so c.is_at_end.result _ c.is_at_end.ensures c.if-is_at_end.false));
}

pub loop-definitions-smaller : goal.loop-definitions-smaller
loop-definitions-smaller c =
    let x = definition_seen c.in_ok-definition.definition in
    reads_less (SpellsDefinition c.args.max_depth x) c.loop-definitions.tokens c.read_definition.new.tokens (some_definition c.args.max_depth x) c.in_ok-definition.ensures.tree

pub returns-then-is_at_end-clause-tree : goal.returns-then-is_at_end-clause-tree
returns-then-is_at_end-clause-tree c =
    let S = SpellsDefinition c.args.max_depth in
    let old = c.args.tokens.now in
    let now = c.read_definition.new.tokens in
    let all = c.shrink_to_fit.new.self.items in
    let grown : all ≡ c.loop-definitions.definitions.items ++ c.in_ok-definition.definition ∷ [] = c.shrink_to_fit.ensures.items ∙ c.in_ok-push.ensures.items in
    let read : Reads (SpellsEach S (map definition_seen all)) old now = reads_push S definition_seen c.loop-definitions.definitions.items all c.in_ok-definition.definition old c.loop-definitions.tokens now c.loop-definitions.invariant.tree c.in_ok-definition.ensures.tree grown in
    (read.0, read.1, (pushed_some definition_seen c.loop-definitions.definitions.items all c.in_ok-definition.definition grown, read.2))

pub returns-then-is_at_end-clause-ended : goal.returns-then-is_at_end-clause-ended
returns-then-is_at_end-clause-ended c = c.is_at_end.ensures.0 c.if-is_at_end.true

pub returns-in_err-definition-clause-stuck : goal.returns-in_err-definition-clause-stuck
returns-in_err-definition-clause-stuck c =
    let p = err_from_is_err_and c.from_residual.result c.from_residual.ensures.1 in
    rw (p.1, p.2) (fault_behind c.loop-definitions.invariant.leaves (document_fault c.in_err-definition.ensures.stuck))
