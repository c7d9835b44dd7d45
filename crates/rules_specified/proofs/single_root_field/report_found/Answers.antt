use Rattle.std.proofs.Common.{◌≡◌, ◌∙◌, List, [], ◌∷◌, false, ap, sym}
use Rattle.std.proofs.lemmas.Bool.{true≢false}
use Rattle.std.proofs.lemmas.Result.{on_ok_weaker}
use Rattle.language_types.specs.Position.{Placed}
use Rattle.language_types.specs.declared.position.SourcePosition.{SourcePosition}
use Rattle.language.specs.declared.tree.Field.{Field}
use Rattle.language.specs.declared.tree.Operation.{Operation}
use Rattle.walk.specs.ContextState.{ContextState, with_errors}
use Rattle.rules_specified.specs.FoundAtRoot.{IsFound}
use Rattle.rules_specified.specs.SingleRootField.{at_places, introspection_text, introspections, message, others, places, root_errors, several_text}
use Rattle.rules_specified.specs.declared.single_root_field.FoundAtRoot.{FoundAtRoot}
use Rattle.rules_specified.proofs.Telling.{reports_more}
use Rattle.rules_specified.proofs.single_root_field.report_found.Goals as goal

-- where a field is found, both kinds of places are told, one after the other
told : {S C : Type 0} (w mid last : ContextState S C) (o : Placed (Operation S)) (found : FoundAtRoot) (fs : List (Placed (Field S)))
    (ps qs : List SourcePosition) → IsFound fs found → found.is_empty ≡ false → ps ≡ found.others.items → qs ≡ found.introspections.items
    → mid ≡ with_errors w (at_places (message several_text o.item.name) ps)
    → last ≡ with_errors mid (at_places (message introspection_text o.item.name) qs) → last ≡ with_errors w (root_errors o fs)
told w mid last o found [] ps qs is some p q m l = absurd (true≢false (sym is.empty ∙ some))
told w mid last o found (f ∷ fs) ps qs is some p q m l =
    let several = message several_text o.item.name in
    let asking = message introspection_text o.item.name in
    reports_more (at_places several (places (others (f ∷ fs)))) (at_places asking (places (introspections (f ∷ fs)))) w mid last
    (m ∙ ap (λ x. with_errors w (at_places several x)) (p ∙ is.others))
    (l ∙ ap (λ x. with_errors mid (at_places asking x)) (q ∙ is.introspections))

pub returns-clause-ok : goal.returns-clause-ok
returns-clause-ok g c =
    on_ok_weaker c.report-3.result
    (λ l fs is. told c.args.ctx.now c.report-2.new.ctx c.report-3.new.ctx c.args.operation.now c.args.found.now fs
    c.as_slice.result.now c.as_slice-2.result.now is c.if-found.false c.as_slice.ensures.value c.as_slice-2.ensures.value c.in_ok-report.ensures.ok l)
    c.report-3.ensures.ok
