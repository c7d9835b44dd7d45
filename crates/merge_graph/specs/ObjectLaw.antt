-- Fields in object types of different numbers exclude each other.
use Rattle.std.specs.Prelude.{List, Bool}
use Rattle.schema.specs.Catalog.{Catalog}
use Rattle.merge_field_pairs.specs.Entries.{PlainEntry}
use Rattle.merge_field_pairs.specs.Objects.{object_number_at}
use Rattle.merge_field_pairs.proofs.ObjectLaws.{objects_apart}
use Rattle.merge_sets.specs.Judgement.{ObjectsApart}
use Rattle.merge_graph.specs.Judging.{judgement_by}

pub objects_judged : {S C : Type 0} (E : S → S → Bool) (schema : Catalog S C) (fields : List (PlainEntry S C))
    → ObjectsApart (judgement_by E schema fields) (object_number_at fields)
objects_judged E schema fields a b f g apart = objects_apart fields a b f g apart
