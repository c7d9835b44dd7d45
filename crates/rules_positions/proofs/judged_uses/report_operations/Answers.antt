use Rattle.std.proofs.Common.{◌≡◌, [], List, Option, ℕ, None, ap, subst, sym, ◌∙◌}
use mathlib.Core.Path.{fun_ext}
use Rattle.std.proofs.lemmas.Result.{IfOk-weaker}
use Rattle.fragment_reach.specs.Reach.{operation}
use Rattle.walk.specs.Entering.{EachGives}
use Rattle.walk.proofs.Kept.{with_none}
use Rattle.operation_scopes.specs.Places.{places_of}
use Rattle.rules_positions.specs.DefinedVariables.{first_of, variables_of}
use Rattle.rules_positions.specs.FirstVariables.{kept_first}
use Rattle.rules_positions.specs.JudgedUses.{UsesGive, uses_in, values_in}
use Rattle.rules_positions.proofs.Skipping.{none_misplaced, own_variables}
use Rattle.rules_positions.proofs.judged_uses.report_operations.Goals as goal

pub returns-then-is_empty-clause-ok : goal.returns-then-is_empty-clause-ok
returns-then-is_empty-clause-ok g c =
    let w = c.args.ctx.now in
    let document = c.args.document.now in
    let index = c.args.index.now in
    λ name kept.
    let own = own_variables document name c.args.own.now kept in
    let none : (v : List ℕ) → first_of (variables_of document name) v ≡ None =
    λ v. ap (λ ds. first_of ds v) (sym own) ∙ sym (c.in_ok-variables.ensures v) ∙ c.is_empty.ensures.0 c.if-is_empty.true v
    in (
      [],
      none_misplaced g.J.Judge.variable_of g.J.Judge.judged document index c.requires.index name w.schema.types (values_in g.J.Judge.value c.args.uses.now) none,
      with_none w,
    )

pub returns-clause-ok : goal.returns-clause-ok
returns-clause-ok g c =
    let types = c.args.ctx.now.schema.types in
    let document = c.args.document.now in
    let uses = values_in g.J.Judge.value c.args.uses.now in
    let known = λ (name : Option (List ℕ)) (kept : c.args.own.now ≡ places_of document (operation name)).
    fun_ext (λ (v : List ℕ). c.in_ok-variables.ensures v ∙ ap (λ ds. first_of ds v) (own_variables document name c.args.own.now kept))
    in
    IfOk-weaker c.report_places.result _ _
    (λ _ (es, p, e) name kept. (
      es,
      (
        c.reached_definitions.new.search.found.items,
        c.in_ok-reached_definitions.ensures.reached name kept,
        subst (λ k. EachGives (λ place fs. UsesGive g.J.Judge.variable_of g.J.Judge.judged types k (uses_in uses place) fs) c.reached_definitions.new.search.found.items es) (known name kept)
            (subst (λ ps. EachGives (λ place fs. UsesGive g.J.Judge.variable_of g.J.Judge.judged types (kept_first c.in_ok-variables.variables) (uses_in uses place) fs) ps es) c.found_places.ensures p),
      ),
      e,
    ))
    c.report_places.ensures.ok
