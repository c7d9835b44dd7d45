use Rattle.std.proofs.Common.{◌≡◌, ◌+◌, ◌++◌, ◌==◌, ◌&&◌, List, [], ◌∷◌, ℕ, Bor, true, false, get_or, map, slice_range, sym, ap, subst, ◌∙◌}
use Rattle.std.proofs.lemmas.List.{map-append}
use Rattle.graphql_strings.specs.BlockScanning.{LinesRead}
use Rattle.graphql_strings.specs.Characters.{is_line_end}
use Rattle.graphql_strings.proofs.BlockLaws.{lines_keep, lines_skip, lines_cut}
use Rattle.graphql_strings.proofs.block_strings.end_line.Goals as goal

pub returns-then-not-is_line_end : goal.returns-then-not-is_line_end
returns-then-not-is_line_end c =
    let raw = c.args.raw.now in
    let other : is_line_end (get_or raw c.args.index 0) ≡ false = cc (c.if-not-is_line_end.ensures, c.as_bytes.ensures.value) in
    lines_keep raw c.args.index c.args.start c.args.after_return (map (λ x. x.now) c.args.lines.now.items) c.requires.within c.requires.read other

pub returns-then-is_second_half : goal.returns-then-is_second_half
returns-then-is_second_half c =
    let raw = c.args.raw.now in
    let second : (c.args.after_return && (get_or raw c.args.index 0 == 10)) ≡ true = cc (c.if-is_second_half.ensures, c.as_bytes.ensures.value) in
    lines_skip raw c.args.index c.args.start c.args.after_return (map (λ x. x.now) c.args.lines.now.items) c.utf8.raw c.requires.within c.requires.read second

pub returns : goal.returns
returns c =
    let raw = c.args.raw.now in
    let text : Bor (List ℕ) → List ℕ = λ x. x.now in
    let old = c.args.lines.now.items in
    let first : (c.args.after_return && (get_or raw c.args.index 0 == 10)) ≡ false = cc (c.if-is_second_half.ensures, c.as_bytes.ensures.value) in
    let ends : is_line_end (get_or raw c.args.index 0) ≡ true = cc (c.if-not-is_line_end.ensures, c.as_bytes.ensures.value) in
    let all : map text c.push.new.self.items ≡ map text old ++ slice_range raw c.args.start c.args.index ∷ [] = ap (map text) c.in_ok-push.ensures.items ∙ map-append text old (c.part-line.result ∷ []) ∙ ap (λ x. map text old ++ x ∷ []) c.part-line.ensures in
    subst (LinesRead raw (c.args.index + 1) (get_or raw c.args.index 0 == 13) (c.args.index + 1)) (sym all)
    (lines_cut raw c.args.index c.args.start c.args.after_return (map text old) c.utf8.raw c.requires.within c.requires.read first ends)
