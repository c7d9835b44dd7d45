use Rattle.std.proofs.Common.{◌<◌, ◌==◌, List, [], ℕ, Bor, inl, length, get_or, drop, map, if◌then◌else◌, string_bytes, sym, ap, subst, ◌∙◌, arith}
use Rattle.std.proofs.lemmas.List.{get_or-map, length-map}
use Rattle.graphql_strings.proofs.BlockLaws.{IsWhiteTo}
use Rattle.graphql_strings.proofs.BlockValue.{value_between, row_step, row_end, line_at, white_line, prefix_map}
use Rattle.graphql_strings.proofs.block_strings.block_string_value.Goals as goal

pub unindented-line-requires : goal.unindented-line-requires
unindented-line-requires c some =
    let text : Bor (List ℕ) → List ℕ = λ x. x.now in
    let none : Bor (List ℕ) = record { ref_ptr = (0, 0); now = [] } in
    let lines = c.as_slice-lines.result.now in
    let i = c.loop-index.index in
    let line = text (get_or lines i none) in
    let lt : i < length lines = omega (arith, c.after_last_written-stop.ensures.within) in
    subst (λ (n : ℕ). IsWhiteTo n line) (sym c.common_indent-indent.ensures) (white_line (map text lines) i line (sym (get_or-map text lines i none [] lt)) some)

pub loop-index-preserved : goal.loop-index-preserved
loop-index-preserved c =
    let text : Bor (List ℕ) → List ℕ = λ x. x.now in
    let none : Bor (List ℕ) = record { ref_ptr = (0, 0); now = [] } in
    let lines = c.as_slice-lines.result.now in
    let i = c.loop-index.index in
    let line = text (get_or lines i none) in
    let lt : i < length lines = omega (arith, c.after_last_written-stop.ensures.within) in
    let inside : i < length (map text lines) = omega (arith, length-map lines text) in
    let is = c.unindented-line.ensures ∙ ap (λ (n : ℕ). if i == 0 then line else drop n line) c.common_indent-indent.ensures ∙ line_at (map text lines) i line (sym (get_or-map text lines i none [] lt)) in
    record {
      so_far = row_step (map text lines) c.first_written-first.result i (string_bytes c.loop-index.text) (string_bytes c.write_next.new.text) c.unindented-line.result.now (omega arith) inside c.loop-index.invariant.so_far is c.in_ok-write_next.ensures;
      place = inl (omega arith);
    }

pub returns : goal.returns
returns c =
    let text : Bor (List ℕ) → List ℕ = λ x. x.now in
    let lines = c.as_slice-lines.result.now in
    let all = ap (map text) c.as_slice-lines.ensures.value ∙ c.in_ok-all.ensures in
    let first = c.first_written-first.ensures.exact ∙ prefix_map text lines in
    row_end (map text lines) c.first_written-first.result c.after_last_written-stop.result c.loop-index.index (string_bytes c.loop-index.text) c.loop-index.invariant.place (omega arith) c.loop-index.invariant.so_far
    ∙ sym (value_between c.args.raw.now (map text lines) c.first_written-first.result c.after_last_written-stop.result all first c.after_last_written-stop.ensures.exact)
