use Rattle.std.proofs.Common.{◌∙◌, ap, arith, drop, length, length-append, refl, rules, sym}
use Rattle.std.proofs.Math.Seq.{drop-append_seam}
use Rattle.std.proofs.Math.Utf8.{encode, encodes}
use Rattle.std.proofs.lemmas.Str.{encodes-chars, len_utf8_bounds, length-encode}
use Rattle.lint_report.specs.Windows.{room_of}
use Rattle.lint_report.proofs.Columns.{front_boundary, keeps_more, keeps_none, kept_all, kept_part, left_all}
use Rattle.lint_report.proofs.windows.last_within.Goals as goal

pub loop-before-init : goal.loop-before-init
loop-before-init c = (search rules, keeps_none c.args.text.now c.args.room c.utf8.text)

-- one character more
pub loop-before-preserved : goal.loop-before-preserved
loop-before-preserved c = (
  search rules,
  keeps_more c.args.text.now c.loop-before.front.now c.in-Some.before.now c.in-Some.last c.args.room c.loop-before.left c.room_for-taken.result _ c.in-Some.ensures.utf8 c.in-Some.ensures.parts c.room_for-taken.ensures c.if-taken-left.false refl c.loop-before.invariant.1,
)

pub loop-before-smaller : goal.loop-before-smaller
loop-before-smaller c =
    omega (arith, ap length c.in-Some.ensures.parts, length-append c.in-Some.before.now (encode c.in-Some.last), length-encode c.in-Some.last, (len_utf8_bounds c.in-Some.last).0)

pub range_from-requires : goal.range_from-requires
range_from-requires c = let h = c.loop-before.invariant.1 in λ some. front_boundary c.args.text.now c.loop-before.front.now (encodes h.kept) c.utf8.text h.utf8 h.spelled

-- the next character does not fit
pub returns-then-taken-left-clause-shown : goal.returns-then-taken-left-clause-shown
returns-then-taken-left-clause-shown c =
    let h = c.loop-before.invariant.1 in
    let part = kept_part c.args.text.now c.loop-before.front.now c.in-Some.before.now c.in-Some.last c.args.room c.loop-before.left c.room_for-taken.result c.in-Some.ensures.utf8 c.in-Some.ensures.parts c.room_for-taken.ensures c.if-taken-left.true h in
    c.range_from.ensures.value ∙ ap (drop (length c.loop-before.front.now)) h.spelled ∙ drop-append_seam c.loop-before.front.now (encodes h.kept) ∙ ap encodes (sym part)

pub returns-then-taken-left-clause-left : goal.returns-then-taken-left-clause-left
returns-then-taken-left-clause-left c =
    let h = c.loop-before.invariant.1 in
    let part = kept_part c.args.text.now c.loop-before.front.now c.in-Some.before.now c.in-Some.last c.args.room c.loop-before.left c.room_for-taken.result c.in-Some.ensures.utf8 c.in-Some.ensures.parts c.room_for-taken.ensures c.if-taken-left.true h in
    omega (arith, ap room_of part, h.taken)

pub returns-then-taken-left-clause-within : goal.returns-then-taken-left-clause-within
returns-then-taken-left-clause-within c =
    let h = c.loop-before.invariant.1 in
    let part = kept_part c.args.text.now c.loop-before.front.now c.in-Some.before.now c.in-Some.last c.args.room c.loop-before.left c.room_for-taken.result c.in-Some.ensures.utf8 c.in-Some.ensures.parts c.room_for-taken.ensures c.if-taken-left.true h in
    omega (arith, ap room_of part, h.taken)

-- all characters fit
pub returns-clause-shown : goal.returns-clause-shown
returns-clause-shown c =
    let all = kept_all c.args.text.now c.loop-before.front.now c.args.room c.loop-before.left c.in_default.ensures.parts c.loop-before.invariant.1 in
    sym (ap encodes all ∙ encodes-chars c.args.text.now c.utf8.text)

pub returns-clause-left : goal.returns-clause-left
returns-clause-left c =
    let all = kept_all c.args.text.now c.loop-before.front.now c.args.room c.loop-before.left c.in_default.ensures.parts c.loop-before.invariant.1 in
    omega (arith, ap room_of all, left_all c.args.text.now c.loop-before.front.now c.args.room c.loop-before.left c.in_default.ensures.parts c.loop-before.invariant.1)

pub returns-clause-within : goal.returns-clause-within
returns-clause-within c =
    let all = kept_all c.args.text.now c.loop-before.front.now c.args.room c.loop-before.left c.in_default.ensures.parts c.loop-before.invariant.1 in
    omega (arith, ap room_of all, left_all c.args.text.now c.loop-before.front.now c.args.room c.loop-before.left c.in_default.ensures.parts c.loop-before.invariant.1)
