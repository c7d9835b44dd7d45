use Rattle.std.proofs.Common.{◌≡◌, ◌∙◌, ◌∷◌, Some, sym, ap}
use Rattle.std.specs.Option.{option_copied}
use Rattle.bit_matrix.specs.Set.{has}
use Rattle.rules_specified.specs.Collected.{inside}
use Rattle.rules_specified.proofs.Parts.{marks_more, spread_opened, spread_unknown}
use Rattle.rules_specified.proofs.collected.of_spread.Goals as goal

pub returns-in_default : goal.returns-in_default
returns-in_default g c names m =
    let root = c.args.root.now in
    (names, m, (spread_unknown root.schema.now root.document.now root.name.now root.numbers names c.args.name.now c.requires.numbers (sym c.number.ensures ∙ c.in_default.is), cc))

pub returns : goal.returns
returns g c names m =
    let root = c.args.root.now in
    let name = c.args.name.now in
    let at = sym c.number.ensures ∙ c.in-Some.is in (
      name ∷ names,
      marks_more root.numbers c.insert.new.self c.args.opened.now names name c.in-Some.number c.requires.numbers.numbered at c.in_ok-insert.ensures.there c.in_ok-insert.ensures.others m,
      spread_opened root.schema.now root.document.now root.name.now names name c.in-Some-last_fragment.fragment.now
          (sym (m name c.in-Some.number at) ∙ sym c.contains.ensures ∙ c.if-contains.false)
          (sym (c.last_fragment.ensures name at) ∙ ap option_copied c.in-Some-last_fragment.is)
          (sym c.is_named_subtype.ensures ∙ c.if-not-is_named_subtype.false)
          ∙ ap (λ set. inside set (name ∷ names)) (sym c.as_slice.ensures.value),
    )
