use Rattle.std.proofs.Common.{◌≡◌, sym, ap, ◌∙◌}
use Rattle.std.proofs.lemmas.Bool.Decides.{Decides-like}
use Rattle.language_values.proofs.Members.{bytes_eq-same}
use Rattle.language_types.specs.Types.{TypeShape, shape}
use Rattle.merge_field_pairs.proofs.SameTypes.{modifiers, one_shape}
use Rattle.merge_field_pairs.proofs.alike.are_one_type.Goals as goal

pub returns-then-eq : goal.returns-then-eq
returns-then-eq c =
    let left = shape c.args.left.now in
    let right = shape c.args.right.now in
    let names : left.name ≡ right.name =
    sym c.innermost_name.ensures ∙ (bytes_eq-same c.innermost_name.result.now c.innermost_name-2.result.now (sym c.if-eq.ensures) ∙ c.innermost_name-2.ensures) in
    Decides-like c.eq-then-eq.result (λ same. one_shape left right names (sym c.modifiers.ensures ∙ (same ∙ c.modifiers-then-eq.ensures)))
    (λ one. c.modifiers.ensures ∙ (ap (λ (t : TypeShape). t.modifiers) one ∙ sym c.modifiers-then-eq.ensures))
    (modifiers c.modifiers.result.now c.modifiers-then-eq.result.now c.eq-then-eq.result c.eq-then-eq.ensures)
