use Rattle.std.proofs.Common.{map}
use Rattle.operation_scopes.specs.Index.{operation_names}
use Rattle.variable_usages.specs.Unused.{UnusedIn, unused_of}
use Rattle.variable_usages.proofs.Turns.{all_turns, may_reach, next_turn}
use Rattle.variable_usages.proofs.unused.unused_in.Goals as goal

pub add_if_defined-requires : goal.add_if_defined-requires
add_if_defined-requires g c =
    may_reach c.args.index.now c.loop-number.number _ c.len-number-end.ensures c.index-name.result.now c.index-name.ensures c.loop-number-test.true
    c.args.document.now c.loop-number.search.search c.operation_places-own.result.now c.requires c.loop-number.invariant.1 c.operation_places-own.ensures

pub loop-number-preserved : goal.loop-number-preserved
loop-number-preserved g c = (
  next_turn c.args.index.now c.loop-number.number _ c.len-number-end.ensures c.index-name.result.now c.index-name.ensures c.loop-number-test.true
      (UnusedIn c.args.document.now) (map unused_of c.loop-number.found.items) (map unused_of c.add_if_defined.new.found.items) c.loop-number.invariant.0 c.in_ok-add_if_defined.ensures.told,
  c.in_ok-add_if_defined.ensures.ready,
)

pub returns : goal.returns
returns g c = (
  operation_names c.args.index.now.scopes,
  c.requires.scopes.names,
  all_turns c.args.index.now c.loop-number.number _ c.len-number-end.ensures (UnusedIn c.args.document.now) (map unused_of c.loop-number.found.items) c.loop-number-test.false c.loop-number.invariant.0,
)
