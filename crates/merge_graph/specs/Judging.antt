-- What a search asks of the fields of a document.
use Rattle.std.specs.Prelude.{ℕ, List, map, Bool}
use Rattle.std.specs.Cmp.{IsEquivalence}
use Rattle.std.specs.Option.{is_some}
use Rattle.schema.specs.Catalog.{Catalog}
use Rattle.merge_field_pairs.specs.Entries.{PlainEntry, plain}
use Rattle.merge_field_pairs.specs.Alike.{AreAlikeAt}
use Rattle.merge_field_pairs.specs.Kinds.{IsKinAt}
use Rattle.merge_field_pairs.specs.Numbered.{exclusive_at, direct_at}
use Rattle.merge_sets.specs.Judgement.{Judgement}
use Rattle.merge_graph.specs.declared.judge.FieldJudge.{FieldJudge}

module _ {S C : Type 0} where
  -- of fields by number, under an equality of scalars: in conflict are those that have a reason by themselves
  abbrev pub judgement_by : (S → S → Bool) → Catalog S C → List (PlainEntry S C) → Judgement
  judgement_by E schema fields = record {
    exclusive = λ e left right. exclusive_at fields e left right;
    conflict = λ e left right. is_some (direct_at E schema fields e left right);
  }

  abbrev pub judgement_of : (S → S → Bool) → FieldJudge S C → Judgement
  judgement_of E judge = judgement_by E judge.schema.now (map plain judge.fields.items)

  -- one field, and another that is plainly like it, under a lawful equality of scalars
  abbrev pub alike_by : (S → S → Bool) → List (PlainEntry S C) → ℕ → ℕ → Type 0
  alike_by E fields one other = IsEquivalence E × AreAlikeAt E fields one other

  abbrev pub alike_of : (S → S → Bool) → FieldJudge S C → ℕ → ℕ → Type 0
  alike_of E judge = alike_by E (map plain judge.fields.items)

  -- one field, and another of its kind, under a lawful equality of scalars
  abbrev pub kin_by : (S → S → Bool) → List (PlainEntry S C) → ℕ → ℕ → Type 0
  kin_by E fields one other = IsEquivalence E × IsKinAt E fields one other

  abbrev pub kin_of : (S → S → Bool) → FieldJudge S C → ℕ → ℕ → Type 0
  kin_of E judge = kin_by E (map plain judge.fields.items)
