use Rattle.std.proofs.Common.{◌≡◌, ◌<◌, ◌+◌, ◌-◌, ◌++◌, length, drop, refl, sym, ap, subst, ◌∙◌, arith, string_bytes, Err}
use Rattle.std.specs.Char.{encode_utf8}
use Rattle.graphql_strings.specs.Unescaping.{escape_at}
use Rattle.graphql_strings.proofs.EscapeLaws.{found_at}
use Rattle.graphql_strings.proofs.FaultLaws.{stops_behind}
use Rattle.graphql_strings.proofs.StringLaws.{Unescaped, unescaped_none, unescaped_escape, unescaped_all, unescaped_refused, stop_boundary, run_is, after_piece, backslash_at}
use Rattle.graphql_strings.proofs.strings.string_value.Goals as goal

pub loop-text-init : goal.loop-text-init
loop-text-init c = subst (Unescaped c.args.raw.now 0) (sym c.new-text.ensures.bytes) (unescaped_none c.args.raw.now c.utf8.raw)

pub part-run-requires-clause-stops : goal.part-run-requires-clause-stops
part-run-requires-clause-stops c =
    let l = c.loop-text in
    let is = run_is c.args.raw.now c.as_bytes-bytes.result.now c.rest-ahead.result.now l.start c.plain_length-plain.result c.as_bytes-bytes.ensures.value c.rest-ahead.ensures c.plain_length-plain.ensures.exact c.plain_length-plain.ensures.within l.invariant.within in
    stop_boundary c.args.raw.now l.start c.plain_length-plain.result is.0 is.1

pub returns-then-stop-bytes-clause-value : goal.returns-then-stop-bytes-clause-value
returns-then-stop-bytes-clause-value c =
    let l = c.loop-text in
    let stop = l.start + c.plain_length-plain.result in
    let new = string_bytes c.push_str.new.self in
    let after = after_piece c.args.raw.now (string_bytes l.text) new c.as_bytes-bytes.result.now c.rest-ahead.result.now c.part-run.result.now l.start c.plain_length-plain.result l.invariant c.as_bytes-bytes.ensures.value c.rest-ahead.ensures c.plain_length-plain.ensures.exact c.plain_length-plain.ensures.within c.part-run.ensures c.in_ok-push_str.ensures.bytes in
    let all : stop ≡ length c.args.raw.now = omega arith in
    (unescaped_all c.args.raw.now new stop after all).0

pub returns-then-stop-bytes-clause-only : goal.returns-then-stop-bytes-clause-only
returns-then-stop-bytes-clause-only c =
    let l = c.loop-text in
    let stop = l.start + c.plain_length-plain.result in
    let new = string_bytes c.push_str.new.self in
    let after = after_piece c.args.raw.now (string_bytes l.text) new c.as_bytes-bytes.result.now c.rest-ahead.result.now c.part-run.result.now l.start c.plain_length-plain.result l.invariant c.as_bytes-bytes.ensures.value c.rest-ahead.ensures c.plain_length-plain.ensures.exact c.plain_length-plain.ensures.within c.part-run.ensures c.in_ok-push_str.ensures.bytes in
    let all : stop ≡ length c.args.raw.now = omega arith in
    (unescaped_all c.args.raw.now new stop after all).1

pub returns-in-Err-clause-refused : goal.returns-in-Err-clause-refused
returns-in-Err-clause-refused c =
    let l = c.loop-text in
    let raw = c.args.raw.now in
    let stop = l.start + c.plain_length-plain.result in
    let new = string_bytes c.push_str.new.self in
    let after = after_piece raw (string_bytes l.text) new c.as_bytes-bytes.result.now c.rest-ahead.result.now c.part-run.result.now l.start c.plain_length-plain.result l.invariant c.as_bytes-bytes.ensures.value c.rest-ahead.ensures c.plain_length-plain.ensures.exact c.plain_length-plain.ensures.within c.part-run.ensures c.in_ok-push_str.ensures.bytes in
    let slash = backslash_at raw c.as_bytes-bytes.result.now c.rest-ahead.result.now c.rest-behind.result.now l.start c.plain_length-plain.result l.invariant.within c.as_bytes-bytes.ensures.value c.rest-ahead.ensures c.plain_length-plain.ensures.exact c.plain_length-plain.ensures.within (λ e. omega arith) c.rest-behind.ensures in
    let refused : escape_at (drop stop raw) ≡ Err c.in-Err.refusal.passed = sym (ap escape_at slash.1) ∙ c.in-Err.ensures.exact in
    unescaped_refused raw new stop c.in-Err.refusal.passed after slash.0 refused

pub returns-in-Err-clause-place : goal.returns-in-Err-clause-place
returns-in-Err-clause-place c =
    let l = c.loop-text in
    let raw = c.args.raw.now in
    let stop = l.start + c.plain_length-plain.result in
    let new = string_bytes c.push_str.new.self in
    let after = after_piece raw (string_bytes l.text) new c.as_bytes-bytes.result.now c.rest-ahead.result.now c.part-run.result.now l.start c.plain_length-plain.result l.invariant c.as_bytes-bytes.ensures.value c.rest-ahead.ensures c.plain_length-plain.ensures.exact c.plain_length-plain.ensures.within c.part-run.ensures c.in_ok-push_str.ensures.bytes in
    let slash = backslash_at raw c.as_bytes-bytes.result.now c.rest-ahead.result.now c.rest-behind.result.now l.start c.plain_length-plain.result l.invariant.within c.as_bytes-bytes.ensures.value c.rest-ahead.ensures c.plain_length-plain.ensures.exact c.plain_length-plain.ensures.within (λ e. omega arith) c.rest-behind.ensures in
    let refused : escape_at (drop stop raw) ≡ Err c.in-Err.refusal.passed = sym (ap escape_at slash.1) ∙ c.in-Err.ensures.exact in
    (stop, c.in-Err.refusal.passed, new, refl, after.value, slash.0, stops_behind (drop stop raw) c.in-Err.refusal.passed slash.0 refused)

-- one more escape
step : (c : goal.In_ok-push-in-Ok) → (0 < c.in-Ok.length) × Unescaped c.args.raw.now (c.loop-text.start + c.plain_length-plain.result + c.in-Ok.length) (string_bytes c.push_str.new.self ++ encode_utf8 c.in-Ok.character)
step c =
    let l = c.loop-text in
    let raw = c.args.raw.now in
    let stop = l.start + c.plain_length-plain.result in
    let new = string_bytes c.push_str.new.self in
    let after = after_piece raw (string_bytes l.text) new c.as_bytes-bytes.result.now c.rest-ahead.result.now c.part-run.result.now l.start c.plain_length-plain.result l.invariant c.as_bytes-bytes.ensures.value c.rest-ahead.ensures c.plain_length-plain.ensures.exact c.plain_length-plain.ensures.within c.part-run.ensures c.in_ok-push_str.ensures.bytes in
    let slash = backslash_at raw c.as_bytes-bytes.result.now c.rest-ahead.result.now c.rest-behind.result.now l.start c.plain_length-plain.result l.invariant.within c.as_bytes-bytes.ensures.value c.rest-ahead.ensures c.plain_length-plain.ensures.exact c.plain_length-plain.ensures.within (λ e. omega arith) c.rest-behind.ensures in
    let found : escape_at (drop stop raw) ≡ found_at c.in-Ok.character c.in-Ok.length = sym (ap escape_at slash.1) ∙ c.in-Ok.ensures.exact in
    unescaped_escape raw new stop c.in-Ok.character c.in-Ok.length c.utf8.raw after slash.0 found

pub overflow_add-start : goal.overflow_add-start
overflow_add-start c = let next = (step c).1 in omega (arith, next.within)

pub loop-text-preserved : goal.loop-text-preserved
loop-text-preserved c = subst (Unescaped c.args.raw.now (c.loop-text.start + c.plain_length-plain.result + c.in-Ok.length)) (sym c.in_ok-push-in-Ok.ensures.bytes) (step c).1

pub loop-text-smaller : goal.loop-text-smaller
loop-text-smaller c =
    let next = step c in
    let less : length c.args.raw.now - (c.loop-text.start + c.plain_length-plain.result + c.in-Ok.length) < length c.args.raw.now - c.loop-text.start = omega (arith, next.0, next.1.within) in
    less
