use Rattle.std.proofs.Common.{◌≡◌, length, Option, None, Some, false, not, refl, sym, ap, subst, ◌∙◌, arith}
use Rattle.std.specs.Option.{is_some}
use Rattle.std.proofs.lemmas.Option.{slice_get-get_or}
use Rattle.merge_set_table.specs.Known.{known_rank}
use Rattle.merge_graph.specs.Building.{rank_in, AreKnown}
use Rattle.merge_graph.proofs.Assembling.{missing_added, missing_there}
use Rattle.merge_graph.proofs.document.add_missing.Goals as goal

none_is : {X : Type 0} (o : Option X) → is_some o ≡ false → o ≡ None
none_is None e = refl
none_is (Some x) e = absurd cc

pub add_definition-requires : goal.add_definition-requires
add_definition-requires g c =
    let o = c.index.result.now in
    let inside = c.requires.inside in
    let sized = c.requires.sized in
    slice_get-get_or c.args.building.now.stretches.items c.args.place o (omega (arith, inside, sized)) ∙ ap (λ x. Some x) (sym c.index.ensures)
    ∙ ap (λ x. Some x) (none_is o (c.is_none.ensures ∙ ap not c.if-is_none.true))

pub returns-in_ok-add_definition-clause-adds : goal.returns-in_ok-add_definition-clause-adds
returns-in_ok-add_definition-clause-adds g c = λ all built.
    let old = c.args.building.now in
    let counted : c.len.result ≡ length old.fragments.items = let e = c.len.ensures in let long = old.fragments.ok.0 in omega (arith, e, long) in
    missing_added c.args.schema.now c.args.document.now (rank_in c.args.cycles.now) (known_rank c.known_fragments-known.result) c.index-document-place.result c.args.place c.in_ok-add_definition.field-0 c.args.building.now c.add_definition.new.building
    (slice_get-get_or c.args.document.now c.args.place c.index-document-place.result c.requires.inside ∙ ap (λ x. Some x) (sym c.index-document-place.is))
    (subst (λ k. AreKnown (rank_in c.args.cycles.now) k (known_rank c.known_fragments-known.result)) counted c.known_fragments-known.ensures)
    c.in_ok-add_definition.ensures all built

pub returns-else-is_none-clause-adds : goal.returns-else-is_none-clause-adds
returns-else-is_none-clause-adds g c = λ all built.
    let o = c.index.result.now in
    let inside = c.requires.inside in
    let sized = c.requires.sized in
    missing_there c.args.schema.now c.args.document.now (rank_in c.args.cycles.now) c.args.place o c.args.building.now
    (slice_get-get_or c.args.building.now.stretches.items c.args.place o (omega (arith, inside, sized)) ∙ ap (λ x. Some x) (sym c.index.ensures))
    (c.is_none.ensures ∙ ap not c.if-is_none.false)
    built
