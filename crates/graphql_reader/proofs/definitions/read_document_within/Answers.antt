use Rattle.std.proofs.lemmas.Result.{IfErr-weaker, IfOk-weaker}
use Rattle.std.proofs.Common.{map, subst}
use Rattle.graphql_lexer.specs.Ahead.{left}
use Rattle.graphql_lexer.specs.Lexemes.{AreLexemes}
use Rattle.graphql_reader.specs.Documents.{definition_seen}
use Rattle.graphql_reader.proofs.ConstantLaws.{Only}
use Rattle.graphql_reader.proofs.DocumentLaws.{document_read, if_ok_both}
use Rattle.graphql_reader.proofs.DocumentLeaveLaws.{fault_of, no_document}
use Rattle.graphql_reader.proofs.DocumentOnlyLaws.{document_once}
use Rattle.graphql_reader.proofs.definitions.read_document_within.Goals as goal

pub returns-clause-document : goal.returns-clause-document
returns-clause-document c =
    let first = c.new-tokens.result in
    let are : AreLexemes c.args.text.now (left first) = subst (λ s. AreLexemes s (left first)) c.as_bytes.ensures.value c.new-tokens.ensures.lexemes in
    if_ok_both c.read_definitions.result (λ x (ts, took, (some, h)) end. document_read c.args.max_depth c.args.text.now (map definition_seen x.items) first c.read_definitions.new.tokens are (ts, took, h) some end) c.read_definitions.ensures.tree c.read_definitions.ensures.ended

pub returns-clause-only : goal.returns-clause-only
returns-clause-only c =
    let ts = left c.new-tokens.result in
    let only : Only c.args.text.now ts = subst (λ s. Only s ts) c.as_bytes.ensures.value c.new-tokens.ensures.only in
    IfOk-weaker c.read_definitions.result _ _ (λ x is others other. document_once c.args.max_depth c.args.text.now ts (map definition_seen x.items) others only is other) (returns-clause-document c)

pub returns-clause-none : goal.returns-clause-none
returns-clause-none c =
    let first = c.new-tokens.result in
    let only : Only c.args.text.now (left first) = subst (λ s. Only s (left first)) c.as_bytes.ensures.value c.new-tokens.ensures.only in
    IfErr-weaker c.read_definitions.result _ _ (λ e f. no_document c.args.max_depth c.args.text.now first c.read_definitions.new.tokens e only f) c.read_definitions.ensures.stuck

pub returns-clause-fault : goal.returns-clause-fault
returns-clause-fault c =
    let first = c.new-tokens.result in
    let are : AreLexemes c.args.text.now (left first) = subst (λ s. AreLexemes s (left first)) c.as_bytes.ensures.value c.new-tokens.ensures.lexemes in
    IfErr-weaker c.read_definitions.result _ _ (λ e f. fault_of c.args.max_depth c.args.text.now first c.read_definitions.new.tokens e are f) c.read_definitions.ensures.stuck
