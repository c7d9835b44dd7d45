-- After a walk the rule on cycles keeps what its search found.
use Rattle.std.proofs.Common.{◌≡◌, List, [], ◌∷◌, ◌++◌, ◌∙◌, Option, None, Some, ap, refl, subst, sym}
use Rattle.std.specs.Option.{is_some, unwrap_or}
use Rattle.std.proofs.lemmas.Bool.{true≢false}
use Rattle.language.specs.declared.tree.Definition.{Definition}
use Rattle.schema.specs.Catalog.{Catalog}
use Rattle.events.specs.TypedEvent.{TypedEvent, typed_events}
use Rattle.events.specs.Typing.{Typing}
use Rattle.walk.specs.ContextState.{DocumentScope}
use Rattle.walk.specs.declared.multi_visitor.MultiVisitorCons.{MultiVisitorCons}
use Rattle.walk.specs.ErrorValue.{ErrorValue}
use Rattle.walk.specs.Step.{Run}
use Rattle.fragment_graph.specs.declared.cycles.DocumentCycles.{DocumentCycles}
use Rattle.fragment_graph.specs.DocumentCycles.{SearchedDocument}
use Rattle.rules_document.specs.AtDocument.{document_step}
use Rattle.rules_document.specs.AtDocumentLaws.{document_given}
use Rattle.rules_document.specs.NoFragmentCycles.{cycle_errors, KeepsFound}
use Rattle.rules_document.specs.declared.no_fragment_cycles.NoFragmentCycles.{NoFragmentCycles}
use Rattle.rules_first_stage.specs.declared.across.AcrossDocument.{AcrossDocument}
use Rattle.rules_first_stage.specs.Across.{across_step}

-- a run of a list is one of each visitor in it
run_of_part : {E V W R : Type 0} (step : E → V → V → List R → Type 0) (part : E → W → W → List R → Type 0) (get : V → W)
    → ((e : E) (a b : V) (es : List R) → step e a b es → (fs : List R) × part e (get a) (get b) fs)
    → (events : List E) (a b : V) (es : List R) → Run step events a b es → (fs : List R) × Run part events (get a) (get b) fs
run_of_part step part get one [] a b es r = ([], (ap get r.0, refl))
run_of_part step part get one (e ∷ events) a b es (mid, first, rest, s, r, q) =
    let (fs, s') = one e a mid first s in
    let (gs, r') = run_of_part step part get one events mid b rest r in
    (fs ++ gs, (get mid, fs, gs, s', r', refl))

-- the rule on cycles among those that look across the document
abbrev pub cycles_of : AcrossDocument → NoFragmentCycles
cycles_of a = a.cycles

module _ {S C : Type 0} where
  -- the last but one of the steps across the document is that of the rule on cycles
  cycles_step : (scope : DocumentScope S C) (e : TypedEvent S C) (a b : AcrossDocument) (es : List ErrorValue)
      → across_step scope e a b es → (fs : List ErrorValue) × document_step cycle_errors scope e a.cycles b.cycles fs
  cycles_step scope e a b es (_, _, _, (_, _, _, (_, _, _, (_, _, _, (fs, _, s, _, _), _), _), _), _) = (fs, s)

  pub kept_after : (scope : DocumentScope S C) (schema : Catalog S C) (t : Typing S C) (doc : List (Definition S)) (a b : AcrossDocument) (es : List ErrorValue)
      → Run (across_step scope) (typed_events schema t doc) a b es → KeepsFound doc (cycles_of b)
  kept_after scope schema t doc a b es r =
      let (fs, r') = run_of_part (across_step scope) (document_step cycle_errors scope) cycles_of (cycles_step scope) (typed_events schema t doc) a b es r in
      (document_given cycle_errors scope schema t doc a.cycles b.cycles fs r').kept

-- what came out of a list is there, and it is the document's, if the rule on cycles that a member has keeps it
module _ {S V X W : Type 0} (cycles : X → NoFragmentCycles) (doc : List (Definition S)) (l : MultiVisitorCons V (MultiVisitorCons X W)) (kept : KeepsFound doc (cycles l.1.0))
    (p : V × MultiVisitorCons X W) (parts : p ≡ (l.0, l.1)) (q : X × W) (parts' : q ≡ (p.1.0, p.1.1)) (found : Option DocumentCycles) (is : found ≡ (cycles q.0).found) where
  there : found ≡ Some kept.0
  there = is ∙ ap (λ z. (cycles z.0).found) parts' ∙ ap (λ z. (cycles z.1.0).found) parts ∙ kept.1

  pub is_there : found ≡ None → ⊥
  is_there none = true≢false (ap is_some (sym there ∙ none))

  pub is_searched : (c : DocumentCycles) → found ≡ Some c → SearchedDocument doc c
  is_searched c some = subst (SearchedDocument doc) (ap (λ o. unwrap_or o kept.0) (sym there ∙ some)) kept.2
