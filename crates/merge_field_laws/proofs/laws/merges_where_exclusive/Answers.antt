use Rattle.merge_field_laws.proofs.Merging.{where_exclusive}
use Rattle.merge_field_laws.proofs.laws.merges_where_exclusive.Goals as goal

pub returns : goal.returns
returns g c = λ schema document a b m. where_exclusive schema document g.S.PartialEq.eq a b m
