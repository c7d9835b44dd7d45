use Rattle.merge_field_laws.proofs.CleanMerging.{clean_merges_with_itself}
use Rattle.merge_field_laws.proofs.clean.merges_where_valid.Goals as goal

pub returns : goal.returns
returns g c =
    λ schema t document valid a i e.
    clean_merges_with_itself g.S.PartialEq.eq g.met.S.Eq.laws schema t document (c.clean_documents.ensures schema t document valid.stage_one) valid.merges a i e
