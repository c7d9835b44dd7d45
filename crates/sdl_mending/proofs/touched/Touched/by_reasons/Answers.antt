use Rattle.std.proofs.Common.{List, ℕ, subst, sym}
use Rattle.std.specs.List.Sorted.{IsPermutation}
use Rattle.sdl_mending.specs.Touched.{places}
use Rattle.sdl_mending.proofs.Growth.{touched_all}
use Rattle.sdl_mending.proofs.touched.Touched.by_reasons.Goals as goal

pub returns : goal.returns
returns c =
    let reasons = c.args.reasons.now in
    let stood = subst (λ (is : List ℕ). IsPermutation (places reasons) is) (sym c.as_slice.ensures.value) c.in_ok-places.ensures.all in
    touched_all c.args.document.now reasons c.as_slice.result.now c.in_ok-types.types c.add_touched.new.types c.add_named.new.types stood c.in_ok-types.ensures.none c.in_ok-add_touched.ensures c.in_ok-add_named.ensures
