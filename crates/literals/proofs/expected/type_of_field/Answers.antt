use Rattle.std.proofs.Common.{◌≡◌, true, false, true≢false, is_some, ap, sym, ◌∙◌, option_copied}
use Rattle.schema.specs.Catalog.{type_in}
use Rattle.schema_validation.specs.Names.{argument_type}
use Rattle.meta.specs.Kinds.{name_of_meta}
use Rattle.schema.proofs.AcceptedLemmas.{find-called}
use Rattle.literals.proofs.expected.type_of_field.Goals as goal

pub unreachable-requires : goal.unreachable-requires
unreachable-requires g c =
    let s = c.args.schema.now in
    let n = argument_type c.args.field.now in
    let some : is_some (type_in n s) ≡ true = find-called name_of_meta s.types n c.requires in
    let none : is_some (type_in n s) ≡ false = ap is_some (sym (ap (λ k. type_in k s) c.innermost_name.ensures) ∙ sym c.concrete_type_by_name.ensures ∙ ap option_copied c.in-None.is) in
    true≢false (sym some ∙ none)

pub returns-clause-made : goal.returns-clause-made
returns-clause-made g c =
    let named = sym (ap (λ k. type_in k c.args.schema.now) c.innermost_name.ensures) in
    (named ∙ sym c.concrete_type_by_name.ensures ∙ ap option_copied c.in-Some.is, c.modifiers.ensures)

pub returns-clause-known : goal.returns-clause-known
returns-clause-known g c = (argument_type c.args.field.now, sym (ap (λ k. type_in k c.args.schema.now) c.innermost_name.ensures) ∙ sym c.concrete_type_by_name.ensures ∙ ap option_copied c.in-Some.is)
