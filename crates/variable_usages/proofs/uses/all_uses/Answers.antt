use Rattle.std.proofs.Common.{◌++◌, ◌∷◌, [], map, ap, sym, ◌∙◌, take}
use Rattle.std.proofs.lemmas.List.{map-append}
use Rattle.variable_usages.specs.Uses.{definition_uses, use_of}
use Rattle.variable_usages.proofs.Telling.{map_next}
use Rattle.variable_usages.proofs.uses.all_uses.Goals as goal

pub loop-definition-preserved : goal.loop-definition-preserved
loop-definition-preserved g c =
    let doc = c.args.document.now in
    let i = c.loop-definition.definition-index in
    let d = c.definition-item.result in
    ap (map (λ v. map use_of v.items)) c.in_ok-push.ensures.items
    ∙ map-append (λ v. map use_of v.items) c.loop-definition.all.items (c.in_ok-variable_uses.field-0 ∷ [])
    ∙ ap (λ z. z ++ map use_of c.in_ok-variable_uses.field-0.items ∷ []) c.loop-definition.invariant
    ∙ ap (λ us. map definition_uses (take i doc) ++ us ∷ []) c.in_ok-variable_uses.ensures
    ∙ sym (map_next definition_uses doc i d c.definition-item.is c.loop-definition-test.true)
