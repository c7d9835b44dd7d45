use Rattle.std.proofs.Common.{◌≡◌, true, ap, sym, subst, ◌∙◌}
use Rattle.std.specs.Prelude.{is_ok}
use Rattle.std.specs.List.{list_all}
use Rattle.std.proofs.lemmas.Result.{on_err_weaker}
use Rattle.indexmap.specs.IndexMap.{values}
use Rattle.schema_validation.specs.Accepted.{is_input_listed}
use Rattle.schema.specs.Changes.{directive_types, with_directive}
use Rattle.schema.proofs.ChangeLemmas.{catalog-same, on-err-from, inputs-either}
use Rattle.schema.proofs.DistinctLemmas.{distinct-either}
use Rattle.schema.proofs.model.schemas.SchemaTypeOf.put_directive.Goals as goal

pub invariant_of-self-inside : goal.invariant_of-self-inside
invariant_of-self-inside g c =
    let s = c.self.inside in
    let types : values s.types ≡ c.args.self.now.types = ap (λ k. k.types) c.self.view_is in
    let input = subst (λ ts. list_all (is_input_listed ts) (directive_types c.args.directive) ≡ true) (sym types) c.requires in (
      s.accepted,
      (
        inputs-either (is_input_listed (values s.types)) c.args.directive (values s.directives) (values c.put_entry.new.directives) (is_ok c.put_entry.result) input s.directive_inputs_input c.put_entry.ensures.listed,
        (s.keyed, (c.put_entry.ensures.keyed, (distinct-either c.args.directive (values s.directives) (values c.put_entry.new.directives) (is_ok c.put_entry.result) s.directives_distinct c.put_entry.ensures.listed, (s.slotted, tt)))),
      ),
    )

pub returns-clause-unchanged : goal.returns-clause-unchanged
returns-clause-unchanged g c =
    let s = c.self.inside in
    on_err_weaker {P = values c.put_entry.new.directives ≡ values s.directives} c.put_entry.result
    (λ e. catalog-same _ c.args.self.now (ap (λ k. k.description) c.self.view_is) (ap (λ k. k.types) c.self.view_is) (ap (λ k. k.roots) c.self.view_is) (e ∙ ap (λ k. k.directives) c.self.view_is) (ap (λ k. k.dialect) c.self.view_is))
    (on-err-from (values c.put_entry.new.directives) (with_directive c.args.directive (values s.directives)) (values s.directives) c.put_entry.result c.put_entry.ensures.listed)
