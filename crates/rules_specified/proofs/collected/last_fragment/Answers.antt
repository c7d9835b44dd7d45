use Rattle.std.proofs.Common.{◌≡◌, ◌∙◌, Some, None, option_and_then, slice_get, sym, ap}
use Rattle.merge_graph.specs.Definitions.{last_place}
use Rattle.rules_specified.proofs.LastFragments.{last_by_place}
use Rattle.rules_specified.proofs.collected.last_fragment.Goals as goal

pub returns-in-Some : goal.returns-in-Some
returns-in-Some g c name e =
    let root = c.args.root.now in
    let kept = ap (λ o. option_and_then (λ k. option_and_then (λ p. p) (slice_get root.last.items k)) o) e in
    c.fragment_at.ensures
    ∙ last_by_place name root.document.now (last_place root.numbers root.last.items) (Some c.in-Some.place) c.requires.last (kept ∙ ap (λ xs. option_and_then (λ p. p) (slice_get xs c.args.number)) (sym c.as_slice.ensures.value) ∙ sym c.place_at.ensures ∙ c.in-Some.is)

pub returns-in-None : goal.returns-in-None
returns-in-None g c name e =
    let root = c.args.root.now in
    let kept = ap (λ o. option_and_then (λ k. option_and_then (λ p. p) (slice_get root.last.items k)) o) e in
    last_by_place name root.document.now (last_place root.numbers root.last.items) None c.requires.last (kept ∙ ap (λ xs. option_and_then (λ p. p) (slice_get xs c.args.number)) (sym c.as_slice.ensures.value) ∙ sym c.place_at.ensures ∙ c.in-None.is)
