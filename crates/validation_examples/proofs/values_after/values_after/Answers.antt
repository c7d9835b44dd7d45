use Rattle.std.proofs.Common.{◌≡◌, List, [], ◌∷◌, Some, false, ap, inl, sym}
use Rattle.std.specs.List.{Contains}
use Rattle.language_types.specs.declared.position.Span.{Span}
use Rattle.language_types.specs.declared.position.Spanning.{Spanning}
use Rattle.language.specs.declared.tree.Definition.{Definition}
use Rattle.language.specs.declared.tree.Definition.TheVariants as definition
use Rattle.language.specs.declared.tree.Operation.{Operation}
use Rattle.events.specs.Typing.{untyped}
use Rattle.fragment_graph.proofs.Lists.{contains_at}
use Rattle.validation_examples.proofs.Fresh.{none_by_all}
use Rattle.validation_examples.specs.ValuesAfter.{first_operation}
use Rattle.validation_examples.proofs.values_after.values_after.Goals as goal

-- the first operation stands in the document
stands : {S : Type 0} (document : List (Definition S)) (o : Spanning (Operation S) Span) → first_operation document ≡ Some o → Contains document (definition.Operation o)
stands [] o e = cc
stands (definition.Operation p ∷ rest) o e = let same : definition.Operation p ≡ definition.Operation o = cc in contains_at (definition.Operation p ∷ rest) 0 _ (ap Some same)
stands (definition.Fragment f ∷ rest) o e = cc

-- nothing was reported, so the types of all variables are input types
pub validate_input_values-requires : goal.validate_input_values-requires
validate_input_values-requires g c =
    let document = c.args.document.now in
    let (is_valid, _) = none_by_all document _ c.args.schema.now _ c.in_ok-ctx.ensures _ _ _ c.has_errors.ensures c.in_ok-visit_all_rules.ensures.valid in
    let facts = c.clean_documents.ensures c.args.schema.now untyped document (is_valid c.if-has_errors.false).stage_one in
    record { known = facts.variable_types c.in-Some.operation.now (stands document _ (sym c.in-Some.ensures)) }

pub returns-then-has_errors-clause-nothing : goal.returns-then-has_errors-clause-nothing
returns-then-has_errors-clause-nothing g c =
    let (_, is_silent) = none_by_all c.args.document.now _ c.args.schema.now _ c.in_ok-ctx.ensures _ _ _ c.has_errors.ensures c.in_ok-visit_all_rules.ensures.valid in
    inl (λ is. let silent : c.has_errors.result ≡ false = is_silent is in cc)

pub returns-in-Some-clause-judged : goal.returns-in-Some-clause-judged
returns-in-Some-clause-judged g c =
    let (is_valid, _) = none_by_all c.args.document.now _ c.args.schema.now _ c.in_ok-ctx.ensures _ _ _ c.has_errors.ensures c.in_ok-visit_all_rules.ensures.valid in
    let (found, faults, all) = c.in_ok-validate_input_values-in-Some.ensures.faults in
    record {
      valid = is_valid c.if-has_errors.false;
      operation = c.in-Some.operation.now;
      first = sym c.in-Some.ensures;
      found = found;
      faults = faults;
      in_order = record { all = all; sorted = c.in_ok-validate_input_values-in-Some.ensures.sorted };
    }
