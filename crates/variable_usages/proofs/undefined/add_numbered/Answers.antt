use Rattle.std.proofs.Common.{option_map, refl}
use Rattle.std.proofs.lemmas.Result.{on_ok_weaker}
use Rattle.variable_usages.proofs.Turns.{may_reach, named_at}
use Rattle.variable_usages.proofs.undefined.add_numbered.Goals as goal

pub add_undefined-requires : goal.add_undefined-requires
add_undefined-requires g c =
    may_reach c.args.index.now c.args.number _ refl c.index-name.result.now c.index-name.ensures c.requires.numbered
    c.args.document.now c.args.search.now.search c.operation_places-own.result.now c.requires.indexed c.requires.ready c.operation_places-own.ensures

pub returns-clause-told : goal.returns-clause-told
returns-clause-told g c =
    on_ok_weaker c.add_undefined.result
    (λ (part, given, more). (part, (option_map (λ n. n.now) c.index-name.result.now, named_at c.args.index.now c.args.number _ refl c.index-name.result.now c.index-name.ensures c.requires.numbered, given), more))
    c.add_undefined.ensures.told
