use Rattle.std.proofs.Common.{◌≡◌, ℕ, List, [], Some, None, slice_get, length, refl, sym, ap, ◌∙◌, subst}
use Rattle.std.proofs.lemmas.Option.{slice_get_past, slice_get_read}
use Rattle.jagged_lists.specs.Lists.{ranges_from}
use Rattle.jagged_lists.proofs.Ranges.{found, past}
use Rattle.jagged_lists.proofs.lists.FlatLists.list.Goals as goal

pub returns-in-Some : goal.returns-in-Some
returns-in-Some g c = λ ls next h.
    let ranges = c.args.self.now.ranges.items in
    let read = c.in-Some.ensures.lookup in
    let at : slice_get (ranges_from 0 ls) c.args.number ≡ Some (c.in-Some.field-0.now) =
    subst (λ rs. slice_get rs c.args.number ≡ Some (c.in-Some.field-0.now)) (c.deref.ensures.value ∙ h.ranges) (slice_get_read c.deref.result.now (length c.deref.result.now) c.args.number c.in-Some.field-0.now refl read.3.0 read.1) in
    let there = found [] next ls c.args.number c.in-Some.field-0.now at in
    c.stretch.ensures there.before _ there.after (c.as_slice.ensures.value ∙ h.items ∙ there.parts) there.starts there.ends

pub returns-in-None : goal.returns-in-None
returns-in-None g c = λ ls next h.
    let none = slice_get_past c.deref.result.now c.args.number c.in-None.ensures.lookup.3 in
    sym (past 0 ls c.args.number (subst (λ rs. slice_get rs c.args.number ≡ None) (c.deref.ensures.value ∙ h.ranges) none))
