use Rattle.sdl_faults.proofs.Tells.{tells_plain}
use Rattle.sdl_faults.proofs.all.plain_text_faults.Goals as goal

pub returns : goal.returns
returns c =
    tells_plain c.args.document.now c.args.standard.now _ _ _ _ c.new-told.ensures.items c.in_ok-add_own_faults.ensures c.in_ok-add_plain_faults.ensures c.in_ok-sort_faults.ensures.permutation c.in_ok-sort_faults.ensures.sorted
