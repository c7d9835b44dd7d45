use Rattle.std.proofs.Common.{◌≡◌, ◌+◌, take, get_or, false, sym, ◌∙◌}
use Rattle.std.proofs.lemmas.List.{take_more}
use Rattle.merge_set_table.specs.Once.{is_among}
use Rattle.merge_set_table.proofs.OnceLaws.{once_step}
use Rattle.merge_set_table.proofs.once.are_each_once.Goals as goal

pub loop-place-preserved : goal.loop-place-preserved
loop-place-preserved c =
    let xs = c.args.numbers.now in
    let i = c.loop-place.place in
    let absent : is_among (take i xs) (get_or xs i 0) ≡ false = sym c.contains.ensures.value ∙ c.if-contains.false in
    once_step xs i (take i xs) (take (i + 1) xs) c.loop-place-test.true c.loop-place.invariant absent (take_more xs i 0 c.loop-place-test.true)
