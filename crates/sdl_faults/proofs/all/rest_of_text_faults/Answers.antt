use Rattle.sdl_faults.proofs.Tells.{tells_rest}
use Rattle.sdl_faults.proofs.all.rest_of_text_faults.Goals as goal

pub returns : goal.returns
returns c =
    tells_rest c.args.document.now c.args.standard.now c.args.mended.now _ _ _ _ _ c.new-told.ensures.items c.in_ok-add_own_faults.ensures c.in_ok-add_plain_faults.ensures c.in_ok-add_apart_faults.ensures c.in_ok-sort_faults.ensures.permutation c.in_ok-sort_faults.ensures.sorted
