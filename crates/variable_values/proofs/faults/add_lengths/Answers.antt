use Rattle.std.proofs.Common.{◌≡◌, ◌++◌, [], Some, None, ap, sym, ◌∙◌, append_assoc, option_copied, refl, reverse}
use Rattle.std.proofs.lemmas.List.{append-nil}
use Rattle.language_types.specs.Types.{borrowed_shape, outermost}
use Rattle.variable_values.specs.Places.{before}
use Rattle.variable_values.specs.Rows.{lengths_of_one}
use Rattle.variable_values.proofs.RowLaws.{lengths_first, lengths_none, lengths_outer}
use Rattle.variable_values.proofs.Told.{told-more}
use Rattle.variable_values.proofs.faults.add_lengths.Goals as goal

pub loop-modifier-init : goal.loop-modifier-init
loop-modifier-init c = ([], sym (append-nil _), refl)

pub loop-modifier-preserved : goal.loop-modifier-preserved
loop-modifier-preserved c =
    let at = borrowed_shape c.loop-modifier.at in
    let inner = borrowed_shape c.borrow_inner-at.result in
    let x = c.in-Some.modifier.now in
    let some : outermost at.modifiers ≡ Some x = sym c.modifier.ensures ∙ ap option_copied c.in-Some.is in
    let inv = c.loop-modifier.invariant in
    let told = c.in_ok-add_length_of_one.ensures in (
      inv.0 ++ told.0,
      told-more (before c.args.place.now) _ _ _ inv.0 told.0 inv.1 told.2,
      inv.2 ∙ ap (λ z. inv.0 ++ z) (lengths_outer at inner x some c.borrow_inner-at.ensures ∙ lengths_first x (reverse inner.modifiers) ∙ ap (λ z. z ++ lengths_of_one (reverse inner.modifiers)) (sym told.1)) ∙ sym (append_assoc inv.0 told.0 (lengths_of_one (reverse inner.modifiers))),
    )

pub returns : goal.returns
returns c =
    let at = borrowed_shape c.loop-modifier.at in
    let none : outermost at.modifiers ≡ None = sym c.modifier.ensures ∙ ap option_copied c.in_default.is in
    let inv = c.loop-modifier.invariant in
    (inv.0, sym (inv.2 ∙ ap (λ z. inv.0 ++ z) (lengths_none at none) ∙ append-nil inv.0), inv.1)
