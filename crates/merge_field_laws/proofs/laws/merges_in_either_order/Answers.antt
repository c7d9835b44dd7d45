use Rattle.merge_field_laws.proofs.Merging.{either_order}
use Rattle.merge_field_laws.proofs.laws.merges_in_either_order.Goals as goal

pub returns : goal.returns
returns g c = λ schema document tidy e a b i j. (
  either_order schema document g.S.PartialEq.eq g.met.S.Eq.laws tidy e a b i j,
  either_order schema document g.S.PartialEq.eq g.met.S.Eq.laws tidy e b a j i,
)
