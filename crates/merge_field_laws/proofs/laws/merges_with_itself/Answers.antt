use Rattle.merge_field_laws.proofs.Merging.{with_itself, each_with_itself}
use Rattle.merge_field_laws.proofs.laws.merges_with_itself.Goals as goal

pub returns-clause-below : goal.returns-clause-below
returns-clause-below g c = λ schema document tidy clean a i all e. with_itself schema document g.S.PartialEq.eq g.met.S.Eq.laws tidy clean a i all e

pub returns-clause-all : goal.returns-clause-all
returns-clause-all g c = λ schema document tidy known clean all a i e. each_with_itself schema document g.S.PartialEq.eq g.met.S.Eq.laws tidy clean known all a i e
