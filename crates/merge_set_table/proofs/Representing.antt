-- A table that says more represents the same.
use Rattle.std.proofs.Common.{ℕ, List, Option, arith}
use Rattle.language.specs.declared.tree.Selection.{Selection}
use Rattle.meta.specs.declared.kinds.MetaTypeOf.{MetaTypeOf}
use Rattle.schema.specs.Catalog.{Catalog}
use Rattle.merge_field_pairs.specs.Entries.{PlainEntry}
use Rattle.merge_sets.specs.declared.node.Entry.{Entry as OwnField}
use Rattle.merge_set_table.specs.Table.{Numbered, Extends, IsOwnField}
use Rattle.merge_set_table.specs.Represents.{Represents, nothing, join, leaf, field, spread, unknown, inline, IsSetOf}

module _ {S C : Type 0} where
  pub extends_self : (m : Numbered S C) → Extends m m
  extends_self m = record { fields = λ k a h. h; responses = λ n k h. h; sets = λ k r h. h; longer = omega arith }

  pub extends_then : {m m' m'' : Numbered S C} → Extends m m' → Extends m' m'' → Extends m m''
  extends_then d e = record {
    fields = λ k a h. e.fields k a (d.fields k a h);
    responses = λ n k h. e.responses n k (d.responses n k h);
    sets = λ k r h. e.sets k r (d.sets k r h);
    longer = let l = d.longer in let r = e.longer in omega (arith, l, r);
  }

  pub own_more : {m m' : Numbered S C} {o : PlainEntry S C} {a : OwnField} → Extends m m' → IsOwnField m o a → IsOwnField m' o a
  own_more e is = record { field = e.fields _ _ is.field; response = e.responses _ _ is.response }

  module _ (schema : Catalog S C) (numbers : List ℕ → Option ℕ) where
    pub represents_more : {m m' : Numbered S C} {p : Option (MetaTypeOf S C)} {xs : List (Selection S)} {own : List OwnField} {to : List ℕ}
        → Extends m m' → Represents schema numbers m p xs own to → Represents schema numbers m' p xs own to
    represents_more e nothing = nothing
    represents_more e (join a b) = join (represents_more e a) (represents_more e b)
    represents_more e (leaf f a is none below) = leaf f a (own_more e is) none below
    represents_more e (field f a w n row to is some below stored once r) = field f a w n row to (own_more e is) some below (e.sets n row stored) once (represents_more e r)
    represents_more e (spread s g h) = spread s g h
    represents_more e (unknown s h) = unknown s h
    represents_more e (inline i own to to' same r) = inline i own to to' same (represents_more e r)

    pub set_more : {m m' : Numbered S C} {n : ℕ} {p : Option (MetaTypeOf S C)} {set : List (Selection S)} → Extends m m' → IsSetOf schema numbers m n p set → IsSetOf schema numbers m' n p set
    set_more e is = record { row = is.row; to = is.to; stored = e.sets _ is.row is.stored; once = is.once; represents = represents_more e is.represents }
