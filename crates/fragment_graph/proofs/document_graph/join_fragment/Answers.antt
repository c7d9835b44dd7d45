use Rattle.std.proofs.Common.{◌++◌, arith, refl, ap, length, ◌∙◌, map}
use Rattle.std.proofs.lemmas.Option.{slice_get_read}
use Rattle.std.proofs.lemmas.Result.{on_ok_weaker}
use Rattle.fragment_graph.specs.Spreads.{placed_spreads_of_all}
use Rattle.fragment_graph.specs.DocumentGraph.{resolved}
use Rattle.fragment_graph.proofs.Numbering.{below}
use Rattle.fragment_graph.proofs.GraphGrowth.{joined_one}
use Rattle.fragment_graph.proofs.document_graph.join_fragment.Goals as goal

pub index_mut-requires : goal.index_mut-requires
index_mut-requires g c =
    let l = below c.args.numbers.now c.requires.numbered c.args.fragment.now.item.name.item.now c.args.place c.requires.has in
    let sized = c.requires.sized in
    let ok = c.args.nodes.now.ok.0 in
    omega (arith, l, sized, ok)

pub returns : goal.returns
returns g c =
    let n = c.args.numbers.now in
    let l = below n c.requires.numbered c.args.fragment.now.item.name.item.now c.args.place c.requires.has in
    let sized = c.requires.sized in
    let set = ap (λ zs. map (resolved n) (placed_spreads_of_all zs)) c.as_slice.ensures.value in
    let found = c.in_ok-add_spreads.ensures ∙ ap (λ zs. zs ++ map (resolved n) (placed_spreads_of_all c.as_slice.result.now)) c.clear.ensures.items ∙ set in
    on_ok_weaker c.join_spreads.result
    (λ e.
    joined_one n c.args.fragment.now c.args.nodes.now.items c.args.place c.index_mut.result.now c.join_spreads.new.node
    c.requires.numbered c.requires.has
    (slice_get_read c.args.nodes.now.items (length c.args.nodes.now.items) c.args.place c.index_mut.result.now refl (omega (arith, l, sized)) c.index_mut.ensures.value)
    (e ∙ ap (λ zs. c.index_mut.result.now.spreads.items ++ zs) (c.as_slice-2.ensures.value ∙ found)))
    c.join_spreads.ensures
