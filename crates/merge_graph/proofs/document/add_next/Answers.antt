use Rattle.std.proofs.Common.{rules, ◌≡◌, ◌<◌, ◌++◌, ◌∷◌, [], ◌∙◌, ap, length, length-append, subst, arith}
use Rattle.std.proofs.lemmas.Result.{on_ok_weaker}
use Rattle.std.proofs.lemmas.Grind.{common_steps}
use Rattle.merge_set_table.specs.Known.{known_rank}
use Rattle.merge_graph.specs.Building.{rank_in, AreKnown}
use Rattle.merge_graph.proofs.Lasts.{last_inside}
use Rattle.merge_graph.proofs.Ranks.{has_last, last_at, name_at, rank_at}
use Rattle.merge_graph.proofs.Assembling.{fragment_added, free_next}
use Rattle.merge_graph.proofs.document.add_next.Goals as goal

pub offset_bounds-document-place : goal.offset_bounds-document-place
offset_bounds-document-place g c =
    let searched = c.requires.ranked.searched in
    let last = last_at c.args.document.now c.args.cycles.now searched c.args.last.now c.requires.last (length c.args.building.now.fragments.items) c.args.node c.requires.next c.in-Some.place c.in-Some.ensures in
    let l : c.in-Some.place < length c.args.document.now = last_inside c.args.document.now (name_at c.args.document.now c.args.cycles.now searched c.args.node) c.in-Some.place last in
    first_of (search rules, grind (arith, common_steps))

pub bounds-document-place : goal.bounds-document-place
bounds-document-place g c =
    let searched = c.requires.ranked.searched in
    last_inside c.args.document.now (name_at c.args.document.now c.args.cycles.now searched c.args.node) c.in-Some.place
    (last_at c.args.document.now c.args.cycles.now searched c.args.last.now c.requires.last (length c.args.building.now.fragments.items) c.args.node c.requires.next c.in-Some.place c.in-Some.ensures)

pub add_fragment-requires : goal.add_fragment-requires
add_fragment-requires g c =
    let searched = c.requires.ranked.searched in
    let next = length c.args.building.now.fragments.items in
    let name = name_at c.args.document.now c.args.cycles.now searched c.args.node in
    c.requires.free name next c.in-Some.place (rank_at c.args.document.now c.args.cycles.now searched next c.args.node c.requires.next) (omega arith)
    (last_at c.args.document.now c.args.cycles.now searched c.args.last.now c.requires.last next c.args.node c.requires.next c.in-Some.place c.in-Some.ensures)

pub unreachable-requires : goal.unreachable-requires
unreachable-requires g c =
    has_last c.args.document.now c.args.cycles.now c.requires.ranked.searched c.args.last.now c.requires.last (length c.args.building.now.fragments.items) c.args.node c.requires.next c.in-None.ensures

pub returns-clause-built : goal.returns-clause-built
returns-clause-built g c =
    let next = length c.args.building.now.fragments.items in
    let searched = c.requires.ranked.searched in
    let counted : c.len.result ≡ next = let e = c.len.ensures in let long = c.args.building.now.fragments.ok.0 in omega (arith, e, long) in
    on_ok_weaker c.add_fragment.result
    (λ h. fragment_added c.args.schema.now c.args.document.now c.args.cycles.now (known_rank c.known_fragments-known.result) c.args.building.now c.add_fragment.new.building
    (name_at c.args.document.now c.args.cycles.now searched c.args.node) c.in-Some.place c.index-document-place.result c.requires.ranked
    (last_at c.args.document.now c.args.cycles.now searched c.args.last.now c.requires.last next c.args.node c.requires.next c.in-Some.place c.in-Some.ensures)
    c.requires.built (rank_at c.args.document.now c.args.cycles.now searched next c.args.node c.requires.next)
    (subst (λ k. AreKnown (rank_in c.args.cycles.now) k (known_rank c.known_fragments-known.result)) counted c.known_fragments-known.ensures)
    c.index-document-place.is h)
    c.add_fragment.ensures

pub returns-clause-free : goal.returns-clause-free
returns-clause-free g c =
    let next = length c.args.building.now.fragments.items in
    let searched = c.requires.ranked.searched in
    on_ok_weaker c.add_fragment.result
    (λ h. free_next c.args.document.now (rank_in c.args.cycles.now) c.args.schema.now (known_rank c.known_fragments-known.result) c.args.building.now c.add_fragment.new.building
    (name_at c.args.document.now c.args.cycles.now searched c.args.node) c.in-Some.place c.index-document-place.result
    (last_at c.args.document.now c.args.cycles.now searched c.args.last.now c.requires.last next c.args.node c.requires.next c.in-Some.place c.in-Some.ensures)
    (rank_at c.args.document.now c.args.cycles.now searched next c.args.node c.requires.next) h c.requires.free)
    c.add_fragment.ensures

pub returns-clause-longer : goal.returns-clause-longer
returns-clause-longer g c =
    on_ok_weaker c.add_fragment.result
    (λ h.
    let grown : length c.add_fragment.new.building.fragments.items ≡ length (c.args.building.now.fragments.items ++ h.set ∷ []) = ap (λ b. length b.fragments.items) h.is ∙ ap length h.pushed in
    let l : length (c.args.building.now.fragments.items ++ h.set ∷ []) ≡ _ = length-append c.args.building.now.fragments.items (h.set ∷ []) in
    omega (arith, grown, l))
    c.add_fragment.ensures
