-- A field that got a number.
use Rattle.std.proofs.Common.{◌≡◌, ℕ, [], ◌∷◌, ◌++◌, length, map, Option, Some, slice_get, refl, sym, ap, subst, ◌∙◌, arith, length-append}
use Rattle.std.specs.List.{sum_by}
use Rattle.std.proofs.lemmas.List.{map-append, length-map}
use Rattle.merge_field_pairs.specs.declared.entry.Entry.{Entry}
use Rattle.merge_field_pairs.specs.Entries.{plain, response_of}
use Rattle.merge_sets.specs.declared.node.Entry.{Entry as OwnField}
use Rattle.merge_set_table.specs.declared.table.NumberedSet.{NumberedSet}
use Rattle.merge_set_table.specs.declared.table.Table.{Table}
use Rattle.merge_set_table.specs.Names.{number_in, KeepsNames, AreApart}
use Rattle.merge_set_table.specs.Sizes.{row_size}
use Rattle.merge_set_table.specs.Adding.{PushesField}
use Rattle.merge_set_table.proofs.Lists.{get_more, get_last}

abbrev pub field_with : ℕ → ℕ → Option ℕ → OwnField
field_with response number below = record { response = response; field = number; below = below }

module _ {S C : Type 0} where
  pub pushed : (e : Entry S C) (below : Option ℕ) (response number : ℕ) (a b : NumberedSet) (s t : Table S C)
      → number_in t.responses (response_of (plain e)) ≡ Some response → KeepsNames s.responses t.responses → (AreApart s.responses → AreApart t.responses)
      → number ≡ length s.fields.items → t.fields.items ≡ s.fields.items ++ e ∷ [] → t.sets.items ≡ s.sets.items → t.order.items ≡ s.order.items
      → b.own.items ≡ a.own.items ++ field_with response number below ∷ [] → b.spreads.items ≡ a.spreads.items
      → t.inner.items ≡ s.inner.items → t.written.items ≡ s.written.items → b.inner.items ≡ a.inner.items
      → PushesField (plain e) below a b s t
  pushed e below response number a b s t named kept apart at fields sets order own spreads inner written parts =
      let fields_are : map plain t.fields.items ≡ map plain s.fields.items ++ plain e ∷ [] = ap (map plain) fields ∙ map-append plain s.fields.items (e ∷ []) in
      record {
        own_field = field_with response number below;
        fields = fields_are;
        is = record {
          field = ap (λ xs. slice_get xs number) fields_are
              ∙ ap (λ (k : ℕ). slice_get (map plain s.fields.items ++ plain e ∷ []) k) (at ∙ sym (length-map s.fields.items plain))
              ∙ get_last (map plain s.fields.items) (plain e);
          response = named;
        };
        below_is = refl;
        own = own;
        spreads = spreads;
        parts = parts;
        extends = record {
          fields = λ k x h. ap (λ xs. slice_get xs k) fields_are ∙ get_more (map plain s.fields.items) (plain e ∷ []) k x h;
          responses = kept;
          sets = λ k r h. subst (λ ss. slice_get ss k ≡ Some r) (sym sets) h;
          longer = omega (arith, ap length sets);
        };
        sets = sets;
        inner = inner;
        order = order;
        apart = apart;
        size = omega (
          arith,
          ap length fields,
          length-append s.fields.items (e ∷ []),
          ap length order,
          ap length inner,
          ap length written,
          ap (sum_by row_size) sets,
          ap length own,
          length-append a.own.items (field_with response number below ∷ []),
          ap length spreads,
          ap length parts,
        );
      }
