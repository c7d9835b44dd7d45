-- Where the rules of the first stage find nothing is what the laws of merging ask.
use Rattle.std.proofs.Common.{List, Bool}
use Rattle.std.specs.Cmp.{IsEquivalence}
use Rattle.language.specs.declared.tree.Definition.{Definition}
use Rattle.schema.specs.Catalog.{Catalog}
use Rattle.events.specs.Typing.{Typing}
use Rattle.merge_field_pairs.specs.Entries.{PlainEntry}
use Rattle.merge_graph.specs.SetsIn.{IsFieldIn}
use Rattle.merge_document.specs.Merging.{DocumentMerges, Merges}
use Rattle.rules_first_stage.specs.CleanStage.{CleanDocument}
use Rattle.validation.proofs.Stages.{tidy_where_clean, known_where_clean}
use Rattle.merge_field_laws.specs.Clean.{MergesFairly}
use Rattle.merge_field_laws.proofs.Merging.{either_order, where_exclusive, with_itself, each_with_itself}

module _ {S C : Type 0} (E : S → S → Bool) (laws : IsEquivalence E) (schema : Catalog S C) (t : Typing S C) (document : List (Definition S)) where
  pub clean_merges_fairly : CleanDocument schema t document → MergesFairly E schema document
  clean_merges_fairly c =
      let tidy = tidy_where_clean schema t document c in
      record {
        either_order = λ e a b i j. (either_order schema document E laws tidy e a b i j, either_order schema document E laws tidy e b a j i);
        where_exclusive = λ a b m. where_exclusive schema document E a b m;
        with_itself = λ a i all e. with_itself schema document E laws tidy c.no_cycle a i all e;
      }

  pub clean_merges_with_itself : CleanDocument schema t document → DocumentMerges E schema document → (a : PlainEntry S C) → IsFieldIn schema document a → (e : Bool) → Merges E schema document e a a
  clean_merges_with_itself c merges a i e =
      each_with_itself schema document E laws (tidy_where_clean schema t document c) c.no_cycle (known_where_clean schema t document c) merges a i e
