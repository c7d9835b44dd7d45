use Rattle.std.proofs.Common.{◌<◌, ◌≤◌, ◌-◌, List, [], ℕ, Bor, length, map, sym, ap, ◌∙◌, arith}
use Rattle.std.proofs.lemmas.List.{get_or-map, length-map}
use Rattle.graphql_strings.specs.BlockStrings.{is_blank_line}
use Rattle.graphql_strings.proofs.BlockLaws.{last_step, last_stop}
use Rattle.graphql_strings.proofs.block_strings.after_last_written.Goals as goal

pub returns-then-not-is_blank_line-clause-exact : goal.returns-then-not-is_blank_line-clause-exact
returns-then-not-is_blank_line-clause-exact c =
    let text : Bor (List ℕ) → List ℕ = λ x. x.now in
    let none : Bor (List ℕ) = record { ref_ptr = (0, 0); now = [] } in
    let lines = c.args.lines.now in
    let stop = c.loop-stop.stop in
    let some : 0 < stop = omega arith in
    let within : stop ≤ length (map text lines) = omega (arith, length-map lines text, c.loop-stop.invariant.within) in
    let last : stop - 1 < length lines = omega (arith, c.loop-stop.invariant.within) in
    last_stop (map text lines) stop some within (ap is_blank_line (get_or-map text lines (stop - 1) none [] last) ∙ sym c.if-not-is_blank_line.ensures) c.loop-stop.invariant.blank

pub loop-stop-preserved : goal.loop-stop-preserved
loop-stop-preserved c =
    let text : Bor (List ℕ) → List ℕ = λ x. x.now in
    let none : Bor (List ℕ) = record { ref_ptr = (0, 0); now = [] } in
    let lines = c.args.lines.now in
    let stop = c.loop-stop.stop in
    let some : 0 < stop = omega arith in
    let within : stop ≤ length (map text lines) = omega (arith, length-map lines text, c.loop-stop.invariant.within) in
    let last : stop - 1 < length lines = omega (arith, c.loop-stop.invariant.within) in
    record {
      blank = last_step (map text lines) stop some within (ap is_blank_line (get_or-map text lines (stop - 1) none [] last) ∙ sym c.if-not-is_blank_line.ensures) c.loop-stop.invariant.blank;
      within = omega (arith, c.loop-stop.invariant.within);
    }
