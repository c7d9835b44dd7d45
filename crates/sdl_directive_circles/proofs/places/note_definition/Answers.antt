use Rattle.std.proofs.Common.{Some, option_map, ap, refl, subst, sym, ◌∙◌}
use Rattle.sdl_directive_circles.specs.Graph.{IsNoted}
use Rattle.sdl_directive_circles.specs.Uses.{name_value}
use Rattle.sdl_directive_circles.proofs.Placing.{directive_noted, type_noted}
use Rattle.sdl_directive_circles.proofs.places.note_definition.Goals as goal

pub returns-in_ok-note-in-Some-Directive : goal.returns-in_ok-note-in-Some-Directive
returns-in_ok-note-in-Some-Directive c =
    let p = c.args.places.now in
    subst (λ o. IsNoted o c.args.place p (record { directives = c.note.new.self; types = p.types }))
    (sym (ap (option_map name_value) (c.in-Some-Directive.is ∙ ap Some c.in-Some-Directive.field-0-is)) ∙ c.defined_name.ensures)
    (directive_noted c.in-Some-Directive.name.now c.args.place p (record { directives = c.note.new.self; types = p.types })
    c.in_ok-note-in-Some-Directive.ensures.noted refl)

pub returns-in_ok-note-in-Some-Type : goal.returns-in_ok-note-in-Some-Type
returns-in_ok-note-in-Some-Type c =
    let p = c.args.places.now in
    subst (λ o. IsNoted o c.args.place p (record { directives = p.directives; types = c.note-in-Some-Type.new.self }))
    (sym (ap (option_map name_value) (c.in-Some-Type.is ∙ ap Some c.in-Some-Type.field-0-is)) ∙ c.defined_name.ensures)
    (type_noted c.in-Some-Type.name.now c.args.place p (record { directives = p.directives; types = c.note-in-Some-Type.new.self })
    c.in_ok-note-in-Some-Type.ensures.noted refl)
