-- Two fields that are plainly like a third are in no conflict.
use Rattle.std.proofs.Common.{ap}
use Rattle.std.specs.Prelude.{List, Bool, Option}
use Rattle.std.specs.Option.{is_some}
use Rattle.schema.specs.Catalog.{Catalog}
use Rattle.merge_field_pairs.specs.declared.direct.DirectReason.{DirectReason}
use Rattle.merge_field_pairs.specs.Entries.{PlainEntry}
use Rattle.merge_field_pairs.proofs.AlikeLaws.{alike_at}
use Rattle.merge_sets.specs.Judgement.{AlikeAgree}
use Rattle.merge_graph.specs.Judging.{judgement_by, alike_by}

pub alike_agree : {S C : Type 0} (E : S → S → Bool) (schema : Catalog S C) (fields : List (PlainEntry S C))
    → AlikeAgree (judgement_by E schema fields) (alike_by E fields)
alike_agree E schema fields e one a b p q = ap (λ (o : Option DirectReason). is_some o) (alike_at E schema p.0 fields e one a b p.1 q.1)
