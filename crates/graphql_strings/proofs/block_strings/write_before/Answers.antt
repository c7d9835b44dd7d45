use Rattle.std.proofs.Common.{◌≡◌, ◌+◌, ◌++◌, true, false, drop, slice_range, sym, ap, ◌∙◌, append_assoc, string_bytes}
use Rattle.graphql_strings.specs.BlockScanning.{left_of}
use Rattle.graphql_strings.specs.Characters.{begins, escaped_quotes}
use Rattle.graphql_strings.proofs.BlockLaws.{line_keep, line_escape}
use Rattle.graphql_strings.proofs.block_strings.write_before.Goals as goal

pub returns-then-not-starts_with-clause-written : goal.returns-then-not-starts_with-clause-written
returns-then-not-starts_with-clause-written c =
    let line = c.args.line.now in
    let index = c.args.index in
    let same : c.rest.result.now ≡ drop index line = c.rest.ensures ∙ ap (drop index) c.as_bytes.ensures.value in
    let other : begins escaped_quotes (drop index line) ≡ false = sym (ap (begins escaped_quotes) same) ∙ sym c.if-not-starts_with.ensures.value in
    ap (λ x. string_bytes c.args.text.now ++ x) (line_keep line index c.args.start c.requires.within c.requires.placed other)

pub returns-clause-written : goal.returns-clause-written
returns-clause-written c =
    let line = c.args.line.now in
    let index = c.args.index in
    let start = c.args.start in
    let old = string_bytes c.args.text.now in
    let same : c.rest.result.now ≡ drop index line = c.rest.ensures ∙ ap (drop index) c.as_bytes.ensures.value in
    let escape : begins escaped_quotes (drop index line) ≡ true = sym (ap (begins escaped_quotes) same) ∙ sym c.if-not-starts_with.ensures.value in
    let rest = left_of line (index + 1) (index + 1) in
    ap (λ x. x ++ rest) (c.in_ok-push_str.ensures.bytes ∙ ap (λ x. old ++ x) c.part-front.ensures) ∙ append_assoc old (slice_range line start index) rest
    ∙ ap (λ x. old ++ x) (line_escape line index start c.requires.within escape)
