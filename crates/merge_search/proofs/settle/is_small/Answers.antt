use Rattle.std.proofs.Common.{◌≡◌, Bool, arith, length, sym, true, false, ◌∙◌}
use Rattle.std.specs.Bool.{OnTrue}
use Rattle.std.proofs.lemmas.List.{nil_from_length}
use Rattle.merge_search.proofs.settle.is_small.Goals as goal

said : {P : Type 0} (b : Bool) → P → OnTrue b P
said true p = p
said false p = tt

pub returns-clause-alone : goal.returns-clause-alone
returns-clause-alone g c =
    let list = c.spreads.result.now in
    let empty : length list ≡ 0 = grind (arith, c.is_empty.ensures, c.if-not-is_empty.false) in
    said _ (sym c.spreads.ensures ∙ nil_from_length list empty)
