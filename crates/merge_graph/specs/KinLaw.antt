-- Two fields are judged as any other two of their kinds.
use Rattle.std.proofs.Common.{ap}
use Rattle.std.specs.Prelude.{List, Bool, Option}
use Rattle.std.specs.Option.{is_some}
use Rattle.schema.specs.Catalog.{Catalog}
use Rattle.merge_field_pairs.specs.declared.direct.DirectReason.{DirectReason}
use Rattle.merge_field_pairs.specs.Entries.{PlainEntry}
use Rattle.merge_field_pairs.proofs.KinLaws.{kin_at}
use Rattle.merge_sets.specs.Judgement.{KinAgree}
use Rattle.merge_graph.specs.Judging.{judgement_by, kin_by}

pub kin_judged_alike : {S C : Type 0} (E : S → S → Bool) (schema : Catalog S C) (fields : List (PlainEntry S C))
    → KinAgree (judgement_by E schema fields) (kin_by E fields)
kin_judged_alike E schema fields e one other a b p q =
    ap (λ (o : Option DirectReason). is_some o) (kin_at E schema p.0 fields e one other a b p.1 q.1)
