use Rattle.std.proofs.Common.{List, ap}
use Rattle.bit_matrix.specs.declared.set.BitSet.{BitSet}
use Rattle.bit_matrix.specs.Rows.{marked}
use Rattle.bit_matrix.proofs.RowLemmas.{holds}
use Rattle.bit_matrix.proofs.rows.BitRows.new.Goals as goal

pub returns : goal.returns
unfolding marked
returns c = λ i j. ap (λ (rows : List BitSet). holds rows i j) c.new.ensures.items
