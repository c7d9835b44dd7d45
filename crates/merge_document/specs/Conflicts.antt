-- What the conflicts that are reported of a document are: true, and none is missed (section 5.3.2).
use Rattle.std.specs.Prelude.{◌≡◌, ◌↔◌, ◌⊎◌, List, Bool, false, Option}
use Rattle.std.specs.List.{All, Contains}
use Rattle.language.specs.declared.tree.Selection.{Selection}
use Rattle.language.specs.declared.tree.Definition.{Definition}
use Rattle.meta.specs.declared.kinds.MetaTypeOf.{MetaTypeOf}
use Rattle.schema.specs.Catalog.{Catalog}
use Rattle.merge_field_pairs.specs.Entries.{PlainEntry, IsTidy, exclusive_of}
use Rattle.merge_field_pairs.specs.OwnFields.{own_fields}
use Rattle.merge_graph.specs.SetsIn.{IsSetIn, IsFieldIn}
use Rattle.merge_conflicts.specs.Reports.{Reports, none, direct, nested, roots}
use Rattle.merge_document.specs.WrittenOut.{Stands, Apart}
use Rattle.merge_document.specs.Merging.{Same, Fails, Passes, Below, DocumentMerges, Way, here, down}

module _ {S C : Type 0} where
  -- Two fields fail by themselves in some conflict, at the top or below, under the flag.
  pub data Tells : Reports (PlainEntry S C) → Bool → PlainEntry S C → PlainEntry S C → Type 0 where
    this : {a b : PlainEntry S C} {e : Bool} {rest : Reports (PlainEntry S C)} → Tells (direct a b e rest) e a b
    after_direct : {a b c d : PlainEntry S C} {e f : Bool} {rest : Reports (PlainEntry S C)} → Tells rest e a b
        → Tells (direct c d f rest) e a b
    inside : {a b c d : PlainEntry S C} {e : Bool} {below rest : Reports (PlainEntry S C)} → Tells below e a b
        → Tells (nested c d below rest) e a b
    after_nested : {a b c d : PlainEntry S C} {e : Bool} {below rest : Reports (PlainEntry S C)} → Tells rest e a b
        → Tells (nested c d below rest) e a b

  -- The same, in either order.
  abbrev pub TellsEither : Reports (PlainEntry S C) → Bool → PlainEntry S C → PlainEntry S C → Type 0
  TellsEither reports e a b = Tells reports e a b ⊎ Tells reports e b a

  -- A conflict of the two stands at the top, in either order.
  abbrev pub AtTheTop : Reports (PlainEntry S C) → PlainEntry S C → PlainEntry S C → Type 0
  AtTheTop reports a b = Contains (roots reports) (a, b) ⊎ Contains (roots reports) (b, a)

module _ {S C : Type 0} (E : S → S → Bool) (schema : Catalog S C) (document : List (Definition S)) where
  -- Each conflict is true of its two fields: the first of their own faults, or where they have none some pairs below
  -- them, in either order.
  pub data AreTrue : Bool → Reports (PlainEntry S C) → Type 0 where
    true_none : {e : Bool} → AreTrue e none
    true_direct : {e : Bool} {a b : PlainEntry S C} {rest : Reports (PlainEntry S C)} → Fails E schema e a b
        → AreTrue e rest → AreTrue e (direct a b e rest)
    true_nested : {e : Bool} {a b : PlainEntry S C} {below rest : Reports (PlainEntry S C)} → Passes E schema e a b
        → All (λ r. Below E schema document a b r.0 r.1 ⊎ Below E schema document a b r.1 r.0) (roots below)
        → (below ≡ none → ⊥) → AreTrue (exclusive_of e a b) below → AreTrue e rest → AreTrue e (nested a b below rest)

  -- Two places of one set of the document, of one response name.
  abbrev pub AreInOneSet : PlainEntry S C → PlainEntry S C → Type 0
  AreInOneSet a b = (p : Option (MetaTypeOf S C)) × (set : List (Selection S)) × IsSetIn schema document p set
      × Apart schema document p set a b × Same a b

  -- Every conflict that is reported is a true one, of two places of one written-out set.
  pub record AreReal (reports : Reports (PlainEntry S C)) : Type 0 where
    pub true_ones : AreTrue false reports
    pub in_one_set : All (λ r. AreInOneSet r.0 r.1) (roots reports)

  -- Some pair of the way is reported.
  abbrev pub IsPassed : Reports (PlainEntry S C) → {e : Bool} {a b : PlainEntry S C} → Way E schema document e a b → Type 0
  IsPassed reports {a = a} {b = b} (here h) = (f : Bool) × TellsEither reports f a b
  IsPassed reports {a = a} {b = b} (down step way) = ((f : Bool) × TellsEither reports f a b) ⊎ IsPassed reports way

  -- Two fields of one response name in one written-out set of the document; they may be one field.
  abbrev pub Meet : PlainEntry S C → PlainEntry S C → Type 0
  Meet a b = (p : Option (MetaTypeOf S C)) × (set : List (Selection S)) × IsSetIn schema document p set
      × Stands schema document p set a × Stands schema document p set b × Same a b

  -- What two fields of one set have between them is reported.
  pub record AreTold (reports : Reports (PlainEntry S C)) : Type 0 where
    -- nothing where the document merges
    pub silent : DocumentMerges E schema document → reports ≡ none
    -- two fields of a set that conflict by themselves, at the top or below
    pub failing : (a b : PlainEntry S C) → Meet a b → Fails E schema false a b → TellsEither reports false a b
    -- at the top, where one of them is an own field of the set
    pub at_the_top : (p : Option (MetaTypeOf S C)) (set : List (Selection S)) (a b : PlainEntry S C) → IsSetIn schema document p set
        → Contains (own_fields schema p set) a → Stands schema document p set b → Same a b → Fails E schema false a b → AtTheTop reports a b

  -- No conflict is missed.
  pub record AreAll (reports : Reports (PlainEntry S C)) : Type 0 where
    -- nothing is reported if and only if the document merges
    pub exact : (reports ≡ none) ↔ DocumentMerges E schema document
    -- two fields of a set that conflict by themselves are reported, at the top or below
    pub failing : (a b : PlainEntry S C) → Meet a b → Fails E schema false a b → TellsEither reports false a b
    -- at the top, where one of them is an own field of the set
    pub at_the_top : (p : Option (MetaTypeOf S C)) (set : List (Selection S)) (a b : PlainEntry S C) → IsSetIn schema document p set
        → Contains (own_fields schema p set) a → Stands schema document p set b → Same a b → Fails E schema false a b → AtTheTop reports a b
    -- and on each way from two fields of a set down to two that fail some pair is reported
    pub ways : (a b : PlainEntry S C) → Meet a b → (way : Way E schema document false a b) → IsPassed reports way

module _ {S C : Type 0} (schema : Catalog S C) (document : List (Definition S)) where
  -- No field of the document repeats an argument, nor a key in one.
  abbrev pub IsTidyDocument : Type 0
  IsTidyDocument = (a : PlainEntry S C) → IsFieldIn schema document a → IsTidy a
