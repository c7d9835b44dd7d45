use Rattle.std.proofs.Common.{rules, map, ap, sym, ◌∙◌}
use Rattle.std.specs.Str.{bytes_eq}
use Rattle.meta.proofs.PlaceLemmas.{point_of, none_left, found_there, other_there}
use Rattle.meta.proofs.places.place_in_order.Goals as goal

pub returns-in_err-place : goal.returns-in_err-place
returns-in_err-place g c =
    let names = map g.T.Named.name_of c.args.items.now in
    let at = c.partition_point-start.result in
    let point = point_of names c.args.name.now c.args.order.now at c.partition_point-start.ensures.partitioned c.requires.ascending (λ a r q k. search rules) in
    c.from_residual.ensures ∙ sym (none_left names c.args.name.now c.args.order.now at c.requires.ascending c.requires.first point c.in_err-place.ensures.lookup.3)

pub returns-then-eq : goal.returns-then-eq
returns-then-eq g c =
    let names = map g.T.Named.name_of c.args.items.now in
    let at = c.partition_point-start.result in
    let point = point_of names c.args.name.now c.args.order.now at c.partition_point-start.ensures.partitioned c.requires.ascending (λ a r q k. search rules) in
    sym (found_there names c.args.name.now c.args.order.now at c.requires.ascending c.requires.first point c.in_ok-place.field-0.now c.in_ok-place.ensures.lookup.3.0 (sym c.in_ok-place.ensures.lookup.1)
    (ap (λ n. bytes_eq n c.args.name.now) (sym c.name_of_place.ensures) ∙ sym c.if-eq.ensures))

pub returns-else-eq : goal.returns-else-eq
returns-else-eq g c =
    let names = map g.T.Named.name_of c.args.items.now in
    let at = c.partition_point-start.result in
    let point = point_of names c.args.name.now c.args.order.now at c.partition_point-start.ensures.partitioned c.requires.ascending (λ a r q k. search rules) in
    sym (other_there names c.args.name.now c.args.order.now at c.requires.ascending c.requires.first point c.in_ok-place.field-0.now c.in_ok-place.ensures.lookup.3.0 (sym c.in_ok-place.ensures.lookup.1)
    (ap (λ n. bytes_eq n c.args.name.now) (sym c.name_of_place.ensures) ∙ sym c.if-eq.ensures))
