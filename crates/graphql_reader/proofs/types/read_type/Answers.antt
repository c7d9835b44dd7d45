use Rattle.std.proofs.Common.{◌≡◌, ◌+◌, ◌-◌, suc, reverse, ap, arith, subst, sym, ◌∙◌}
use Rattle.std.proofs.lemmas.Result.{err_from_is_err_and}
use Rattle.language_types.specs.Types.{shape}
use Rattle.graphql_reader.specs.Languages.{AType, Closing, Leaves, NoBang}
use Rattle.graphql_reader.specs.Passed.{Reads}
use Rattle.graphql_reader.specs.Types.{MayBeNull, SpellsShape}
use Rattle.graphql_reader.proofs.LeavesLaws.{fault_behind, fault_from, fault_less, leaves_from, leaves_less, leaves_then}
use Rattle.graphql_reader.proofs.LanguageLaws.{type_parts}
use Rattle.graphql_reader.proofs.PassedLaws.{reads_covers}
use Rattle.graphql_reader.proofs.TypeLaws.{Inside, closed, may_list, may_named, named_inside, outside, some_shape}
use Rattle.graphql_reader.proofs.TypeLeaveLaws.{bang_read, closed_one, name_missing, name_taken, unclosed}
use Rattle.graphql_reader.proofs.types.read_type.Goals as goal

pub loop-init : goal.loop-init
loop-init c =
    let limit = c.args.max_depth in
    let old = c.args.tokens.now in
    let k = shape c.in_ok-named.named in
    let n = c.in_ok-levels.levels in
    let same : n ≡ n - 0 = omega arith in
    record {
      tree = subst (λ m. Reads (Inside limit m (shape c.in_ok-item.item)) old c.read_non_null.new.tokens) same (c.in_ok-item.ensures.tree limit n old (may_named k (ap (λ x. x.modifiers) c.in_ok-named.ensures)) (named_inside limit n c.in_ok-name.name.item.now k old c.take_opening_brackets.new.tokens c.name.new.tokens c.in_ok-levels.ensures.tree c.in_ok-name.ensures.taken c.in_ok-named.ensures));
      leaves = subst (λ m. Leaves limit NoBang AType (Closing m) old c.read_non_null.new.tokens) same (leaves_then (leaves_less (λ r f. tt) (leaves_from type_parts c.in_ok-levels.ensures.leaves)) (leaves_then (name_taken n c.in_ok-name.name.item.now c.in_ok-levels.ensures.all c.in_ok-name.ensures.taken) (bang_read n (c.in_ok-item.ensures.leaves limit))));
    }

pub loop-preserved : goal.loop-preserved
loop-preserved c =
    let limit = c.args.max_depth in
    let old = c.args.tokens.now in
    let n = c.in_ok-levels.levels - (c.loop.counter + 1) in
    let k = shape c.loop.item in
    let one : c.in_ok-levels.levels - c.loop.counter ≡ suc n = omega arith in
    let before : Reads (Inside limit (suc n) k) old c.loop.tokens = subst (λ m. Reads (Inside limit m k) old c.loop.tokens) one c.loop.invariant.tree in
    let left_over : Leaves limit NoBang AType (Closing (suc n)) old c.loop.tokens = subst (λ m. Leaves limit NoBang AType (Closing m) old c.loop.tokens) one c.loop.invariant.leaves in
    let may : MayBeNull (reverse (shape c.in_ok-list.list).modifiers) = subst (λ x. MayBeNull (reverse x.modifiers)) (sym c.in_ok-list.ensures) (may_list k) in
    record {
      tree = c.in_ok-item-2.ensures.tree limit n old may (closed limit n k (shape c.in_ok-list.list) old c.loop.tokens c.expect.new.tokens before c.in_ok-expect.ensures.taken c.in_ok-list.ensures);
      leaves = leaves_then left_over (leaves_then (closed_one n c.in_ok-expect.ensures.taken) (bang_read n (c.in_ok-item-2.ensures.leaves limit)));
    }

pub returns-clause-tree : goal.returns-clause-tree
returns-clause-tree c =
    let limit = c.args.max_depth in
    let old = c.args.tokens.now in
    let k = shape c.loop.item in
    let none : c.in_ok-levels.levels - c.loop.counter ≡ 0 = omega arith in
    reads_covers (SpellsShape limit 0 k) c.span_from-span.result old c.loop.tokens (some_shape limit k) (c.span_from-span.ensures.start ∙ c.start-start.ensures) c.span_from-span.ensures.stop (outside limit k old c.loop.tokens (subst (λ m. Reads (Inside limit m k) old c.loop.tokens) none c.loop.invariant.tree))

pub returns-clause-leaves : goal.returns-clause-leaves
returns-clause-leaves c =
    let none : c.in_ok-levels.levels - c.loop.counter ≡ 0 = omega arith in
    subst (λ m. Leaves c.args.max_depth NoBang AType (Closing m) c.args.tokens.now c.loop.tokens) none c.loop.invariant.leaves

pub returns-in_err-levels-clause-stuck : goal.returns-in_err-levels-clause-stuck
returns-in_err-levels-clause-stuck c =
    let p = err_from_is_err_and c.from_residual.result c.from_residual.ensures.1 in
    rw (p.1, p.2) (fault_less (λ r f. tt) (fault_from type_parts c.in_err-levels.ensures.stuck))

pub returns-in_err-name-clause-stuck : goal.returns-in_err-name-clause-stuck
returns-in_err-name-clause-stuck c =
    let p = err_from_is_err_and c.from_residual-in_err-name.result c.from_residual-in_err-name.ensures.1 in
    rw (p.1, p.2) (fault_behind (leaves_less (λ r f. tt) (leaves_from type_parts c.in_ok-levels.ensures.leaves)) (name_missing c.in_ok-levels.levels c.in_ok-levels.ensures.all c.in_err-name.ensures.left c.in_err-name.ensures.placed))

pub returns-in_err-expect-clause-stuck : goal.returns-in_err-expect-clause-stuck
returns-in_err-expect-clause-stuck c =
    let limit = c.args.max_depth in
    let old = c.args.tokens.now in
    let n = c.in_ok-levels.levels - (c.loop.counter + 1) in
    let one : c.in_ok-levels.levels - c.loop.counter ≡ suc n = omega arith in
    let left_over : Leaves limit NoBang AType (Closing (suc n)) old c.loop.tokens = subst (λ m. Leaves limit NoBang AType (Closing m) old c.loop.tokens) one c.loop.invariant.leaves in
    let p = err_from_is_err_and c.from_residual-in_err-expect.result c.from_residual-in_err-expect.ensures.1 in
    rw (p.1, p.2) (fault_behind left_over (unclosed n c.in_err-expect.ensures.left c.in_err-expect.ensures.placed))
