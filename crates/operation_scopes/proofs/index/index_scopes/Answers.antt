use Rattle.std.proofs.Common.{arith, length, refl, subst, sym, ap}
use Rattle.std.proofs.lemmas.List.{length-map}
use Rattle.std.proofs.lemmas.Option.{slice_get_read}
use Rattle.fragment_graph.specs.Numbers.{defined_number}
use Rattle.fragment_graph.proofs.Joining.{next_take}
use Rattle.fragment_graph.proofs.Lists.{contains_at}
use Rattle.operation_scopes.proofs.Indexing.{Indexed, indexed_next, number_there, length_taken}
use Rattle.operation_scopes.proofs.index.index_scopes.Goals as goal

pub loop-place-preserved : goal.loop-place-preserved
loop-place-preserved g c =
    let doc = c.args.document.now in
    let i = c.loop-place.place in
    let d = c.index-document-place.result in
    let h = c.loop-place.invariant in
    let old = c.loop-place.index in
    let new = c.add_definition.new.index in
    let n = old.graph.numbers in
    let number = c.index-number.result.now in
    let low = c.loop-place-test.true in
    let at = slice_get_read doc (length doc) i d refl low c.index-document-place.is in
    let long = length-map doc (defined_number n) in
    let same = ap length h.graph.defined in
    let noted = slice_get_read old.graph.defined.items (length old.graph.defined.items) i number refl (omega (arith, long, same, low)) c.index-number.ensures in
    subst (λ zs. Indexed doc zs c.add_definition.new.numbers new) (sym (next_take doc i d c.index-document-place.is low))
    (indexed_next doc _ number i c.loop-place.numbers c.add_definition.new.numbers old new (length_taken doc i low) h d (contains_at doc i d at)
    (number_there n doc old.graph.defined.items i d number h.graph.defined at noted) c.in_ok-add_definition.ensures)
