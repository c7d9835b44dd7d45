use Rattle.std.proofs.Common.{◌≡◌, ◌++◌, List, [], ◌∷◌, ℕ, Bor, false, length, map, slice_range, sym, ap, subst, ◌∙◌, arith}
use Rattle.std.proofs.lemmas.List.{map-append}
use Rattle.graphql_strings.specs.BlockScanning.{LinesRead}
use Rattle.graphql_strings.proofs.BlockLaws.{lines_none, lines_all}
use Rattle.graphql_strings.proofs.block_strings.lines_of.Goals as goal

pub loop-index-init : goal.loop-index-init
loop-index-init c =
    subst (λ (ls : List (Bor (List ℕ))). LinesRead c.args.raw.now 0 false 0 (map (λ x. x.now) ls)) (sym c.new-lines.ensures.items) (lines_none c.args.raw.now c.utf8.raw)

pub loop-index-preserved : goal.loop-index-preserved
loop-index-preserved c = rw c.as_bytes.ensures.value c.in_ok-start.ensures

pub returns : goal.returns
returns c =
    let raw = c.args.raw.now in
    let l = c.loop-index in
    let text : Bor (List ℕ) → List ℕ = λ x. x.now in
    let at_end : l.index ≡ length raw = omega arith in
    let line : c.part-last.result.now ≡ slice_range raw l.start l.index = c.part-last.ensures ∙ ap (slice_range raw l.start) (sym at_end) in
    ap (map text) c.in_ok-push.ensures.items ∙ map-append text l.lines.items (c.part-last.result ∷ []) ∙ ap (λ x. map text l.lines.items ++ x ∷ []) line
    ∙ lines_all raw l.index l.start l.after_return (map text l.lines.items) l.invariant at_end
