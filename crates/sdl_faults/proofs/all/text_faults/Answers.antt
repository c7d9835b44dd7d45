use Rattle.sdl_faults.proofs.Tells.{tells_all}
use Rattle.sdl_faults.proofs.Validity.{iff_valid}
use Rattle.sdl_faults.proofs.all.text_faults.Goals as goal

pub returns : goal.returns
returns c =
    let told = tells_all c.args.document.now c.args.standard.now c.args.schema.now _ _ _ _ c.new-told.ensures.items c.in_ok-add_schema_faults.ensures c.in_ok-add_directive_faults.ensures c.in_ok-sort_faults.ensures.permutation c.in_ok-sort_faults.ensures.sorted in
    record { told = told; valid = iff_valid c.args.document.now c.args.standard.now c.args.schema.now _ told }
