use Rattle.merge_field_laws.proofs.CleanMerging.{clean_merges_fairly}
use Rattle.merge_field_laws.proofs.clean.merges_where_clean.Goals as goal

pub returns : goal.returns
returns g c = λ schema t document found. clean_merges_fairly g.S.PartialEq.eq g.met.S.Eq.laws schema t document (c.clean_documents.ensures schema t document found)
