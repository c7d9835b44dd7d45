use Rattle.std.proofs.Common.{map, option_map}
use Rattle.variable_usages.specs.Unused.{unused_of}
use Rattle.variable_usages.proofs.Skipping.{none_unused}
use Rattle.variable_usages.proofs.unused.add_if_defined.Goals as goal

pub returns-then-defines_none-clause-told : goal.returns-then-defines_none-clause-told
returns-then-defines_none-clause-told g c =
    none_unused c.args.document.now c.args.index.now.scopes c.requires.index.scopes (option_map (λ n. n.now) c.args.name) (map unused_of c.args.found.now.items)
    (c.defines_none.ensures c.if-defines_none.true (option_map (λ n. n.now) c.args.name) c.requires.own)
