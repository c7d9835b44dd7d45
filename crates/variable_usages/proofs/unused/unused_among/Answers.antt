use Rattle.std.proofs.Common.{map, take}
use Rattle.variable_usages.specs.Names.{has_name}
use Rattle.variable_usages.specs.Unused.{name_and_span}
use Rattle.variable_usages.proofs.Telling.{map_next}
use Rattle.variable_usages.proofs.Variables.{unused_next}
use Rattle.variable_usages.proofs.unused.unused_among.Goals as goal

pub loop-definition-preserved : goal.loop-definition-preserved
loop-definition-preserved g c =
    let ds = c.args.definitions.now in
    let i = c.loop-definition.definition-index in
    let d = c.definition-item.result in
    let before = map (λ v. (v.0.item.now, v.0.span)) (take i ds) in (
      unused_next (has_name c.args.used.now) before (map name_and_span c.loop-definition.found.items) (d.0.item.now, d.0.span) c.loop-definition.invariant.0
          _ (map name_and_span c.add_variable.new.found.items)
          (map_next (λ v. (v.0.item.now, v.0.span)) ds i d c.definition-item.is c.loop-definition-test.true) c.in_ok-add_variable.ensures.added,
      c.in_ok-add_variable.ensures.start,
    )
