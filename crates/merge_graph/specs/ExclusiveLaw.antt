-- Below fields that are exclusive all are.
use Rattle.std.specs.Prelude.{List, Bool}
use Rattle.schema.specs.Catalog.{Catalog}
use Rattle.merge_field_pairs.specs.Entries.{PlainEntry}
use Rattle.merge_field_pairs.proofs.NumberedLaws.{exclusive_at_true}
use Rattle.merge_sets.specs.Judgement.{ExclusiveStays}
use Rattle.merge_graph.specs.Judging.{judgement_by}

pub exclusive_judged : {S C : Type 0} (E : S → S → Bool) (schema : Catalog S C) (fields : List (PlainEntry S C))
    → ExclusiveStays (judgement_by E schema fields)
exclusive_judged E schema fields a b = exclusive_at_true fields a b
