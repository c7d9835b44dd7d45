use Rattle.std.proofs.Common.{◌≡◌, false, take}
use Rattle.std.specs.List.{All}
use Rattle.merge_sets.specs.Indexed.{firsts_of}
use Rattle.merge_sets.specs.Names.{named}
use Rattle.merge_certificates.specs.Unions.{HasUnion, UnionsKept}
use Rattle.merge_certificates.proofs.unions.add_unions.Given as goal

abbrev pub invariant-loop-first : goal.invariant-loop-first
invariant-loop-first l =
    (l.first-items ≡ firsts_of l.set.own.items l.set.index)
    × UnionsKept l.fn.unions.items l.unions.items
    × All (λ f. HasUnion l.unions.items false (named f.response l.set.own.items) l.common) (take l.first-index l.first-items)
