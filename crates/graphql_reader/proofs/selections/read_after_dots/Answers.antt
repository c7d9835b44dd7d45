use Rattle.std.proofs.Common.{◌≡◌, ◌⊎◌, inl, inr, refl}
use Rattle.std.proofs.lemmas.Result.{err_from_is_err_and, IfOk-weaker, MatchResult-weaker}
use Rattle.graphql_lexer.specs.Ahead.{ahead_of}
use Rattle.graphql_lexer.specs.Lexical.{name, punctuator}
use Rattle.graphql_lexer.specs.declared.lexer.Punctuator.TheVariants.{At, BraceOpen}
use Rattle.graphql_reader.specs.Arguments.{name_seen}
use Rattle.graphql_reader.specs.Languages.{ASpread, AfterDots, InlineBody}
use Rattle.graphql_reader.specs.Selections.{on}
use Rattle.graphql_reader.proofs.ConstantLaws.{not_so}
use Rattle.graphql_reader.proofs.LeavesLaws.{fault_behind}
use Rattle.graphql_reader.proofs.SelectionLaws.{dots_alone, dots_condition}
use Rattle.graphql_reader.proofs.SelectionLeaveLaws.{body_next, condition_nameless, condition_read, leaves_moved, not_moved, part_behind, spread_next}
use Rattle.graphql_reader.proofs.selections.read_after_dots.Goals as goal
use Rattle.graphql_reader.proofs.selections.read_after_dots.Goals.{then-is-via-then-is, then-is-via-else-is+then-is-2}

pub returns-then-take_word-clause-tree : goal.returns-then-take_word-clause-tree
returns-then-take_word-clause-tree c =
    IfOk-weaker c.read_inline.result _ _ (λ part h dots d start. h dots start (dots_condition (name_seen c.in_ok-condition.condition) dots c.args.tokens.now c.take_word.new.self c.name.new.tokens d (c.if-take_word.ensures.taken refl) c.in_ok-condition.ensures.taken c.in_ok-condition.ensures.span)) c.read_inline.ensures.tree

pub returns-then-is-clause-tree : goal.returns-then-is-clause-tree
returns-then-is-clause-tree c =
    IfOk-weaker c.read_inline-then-is.result _ _ (λ part h dots d start. h dots start (dots_alone dots c.args.tokens.now c.take_word.new.self d (c.if-take_word.ensures.left refl).1)) c.read_inline-then-is.ensures.tree

pub returns-then-take_word-clause-leaves : goal.returns-then-take_word-clause-leaves
returns-then-take_word-clause-leaves c =
    IfOk-weaker c.read_inline.result _ _ (λ x h. part_behind AfterDots InlineBody c.args.max_depth c.args.tokens.now c.name.new.tokens c.read_inline.new.tokens x (λ d. condition_read c.take_word.new.self d c.in_ok-condition.condition.item.now (c.if-take_word.ensures.taken refl) c.in_ok-condition.ensures.taken) h) c.read_inline.ensures.leaves

pub returns-then-take_word-clause-stuck : goal.returns-then-take_word-clause-stuck
returns-then-take_word-clause-stuck c =
    MatchResult-weaker c.read_inline.result c.read_inline.ensures.stuck (λ x h. h) (λ e h depth. fault_behind (condition_read c.take_word.new.self depth c.in_ok-condition.condition.item.now (c.if-take_word.ensures.taken refl) c.in_ok-condition.ensures.taken) (h depth))

pub returns-in_err-condition-clause-stuck : goal.returns-in_err-condition-clause-stuck
returns-in_err-condition-clause-stuck c =
    let p = err_from_is_err_and c.from_residual.result c.from_residual.ensures.1 in
    rw (p.1, p.2) (λ depth. condition_nameless c.take_word.new.self depth (c.if-take_word.ensures.taken refl) c.in_err-condition.ensures.left c.in_err-condition.ensures.placed)

pub returns-then-is-clause-leaves : goal.returns-then-is-clause-leaves
returns-then-is-clause-leaves c =
    let same = (c.if-take_word.ensures.left refl).1 in
    let next = elim c.then-is.branch as (λ w. ((ahead_of c.take_word.new.self).token ≡ punctuator At) ⊎ ((ahead_of c.take_word.new.self).token ≡ punctuator BraceOpen)) [ then-is-via-then-is w ↦ inl (c.is.ensures.0 w.if-is.true) | then-is-via-else-is+then-is-2 w ↦ inr (w.is-else-is.ensures.0 w.if-is-2.true) ] in
    IfOk-weaker c.read_inline-then-is.result _ _ (λ x h. part_behind AfterDots InlineBody c.args.max_depth c.args.tokens.now c.take_word.new.self c.read_inline-then-is.new.tokens x (λ d. leaves_moved same (body_next d next)) h) c.read_inline-then-is.ensures.leaves

pub returns-then-is-clause-stuck : goal.returns-then-is-clause-stuck
returns-then-is-clause-stuck c =
    let same = (c.if-take_word.ensures.left refl).1 in
    let next = elim c.then-is.branch as (λ w. ((ahead_of c.take_word.new.self).token ≡ punctuator At) ⊎ ((ahead_of c.take_word.new.self).token ≡ punctuator BraceOpen)) [ then-is-via-then-is w ↦ inl (c.is.ensures.0 w.if-is.true) | then-is-via-else-is+then-is-2 w ↦ inr (w.is-else-is.ensures.0 w.if-is-2.true) ] in
    MatchResult-weaker c.read_inline-then-is.result c.read_inline-then-is.ensures.stuck (λ x h. h) (λ e h depth. fault_behind (leaves_moved same (body_next depth next)) (h depth))

pub returns-clause-leaves : goal.returns-clause-leaves
returns-clause-leaves c =
    let same = (c.if-take_word.ensures.left refl).1 in
    let other = not_moved c.args.tokens.now c.take_word.new.self (name on) same (c.if-take_word.ensures.left refl).0 in
    let no_at = not_so c.is.result _ c.is.ensures c.if-is.false in
    let no_brace = not_so c.is-else-is.result _ c.is-else-is.ensures c.if-is-2.false in
    IfOk-weaker c.read_fragment_spread.result _ _ (λ x h. part_behind AfterDots (λ d. ASpread) c.args.max_depth c.args.tokens.now c.take_word.new.self c.read_fragment_spread.new.tokens x (λ d. leaves_moved same (spread_next d other no_at no_brace)) (h other)) c.read_fragment_spread.ensures.leaves

pub returns-clause-stuck : goal.returns-clause-stuck
returns-clause-stuck c =
    let same = (c.if-take_word.ensures.left refl).1 in
    let other = not_moved c.args.tokens.now c.take_word.new.self (name on) same (c.if-take_word.ensures.left refl).0 in
    let no_at = not_so c.is.result _ c.is.ensures c.if-is.false in
    let no_brace = not_so c.is-else-is.result _ c.is-else-is.ensures c.if-is-2.false in
    MatchResult-weaker c.read_fragment_spread.result c.read_fragment_spread.ensures.stuck (λ x h. h) (λ e h depth. fault_behind (leaves_moved same (spread_next depth other no_at no_brace)) (h other depth))
