-- How many selections the sets have that each step adds.
use Rattle.std.proofs.Common.{◌≡◌, ◌≤◌, ℕ, ◌+◌, ◌-◌, List, [], ◌∷◌, ◌++◌, length, take, drop, Option, Some, slice_get, slice_set, refl, sym, ap, subst, ◌∙◌, arith, append_assoc, append-nil, length-append, length-drop, take_all}
use Rattle.std.specs.Prelude.{slice_range}
use Rattle.std.proofs.Math.Seq.{set-append_seam, drop-append_seam}
use Rattle.std.proofs.Math.ListN.{set}
use Rattle.std.proofs.lemmas.List.{take-append-le, drop-append-le}
use Rattle.std.proofs.lemmas.List.Sums.{sum_by-cons, sum_by-append}
use Rattle.language.specs.declared.tree.Selection.{Selection}
use Rattle.language.specs.SelectionsInside.{all_inside}
use Rattle.meta.specs.declared.kinds.MetaTypeOf.{MetaTypeOf}
use Rattle.schema.specs.Catalog.{Catalog}
use Rattle.merge_sets.specs.declared.node.Entry.{Entry as OwnField}
use Rattle.merge_sets.specs.declared.node.InnerSet.{InnerSet}
use Rattle.merge_set_table.specs.declared.table.NumberedSet.{NumberedSet}
use Rattle.merge_set_table.specs.declared.table.Table.{Table}
use Rattle.merge_set_table.specs.Depths.{depths}
use Rattle.merge_set_table.specs.Nesting.{parts_measure, inner_measure, MeasuresParts, Measures, Nests, NestsSet}
use Rattle.merge_set_table.specs.Table.{Numbered, numbered, Extends}
use Rattle.merge_set_table.specs.Represents.{Represents, IsSetOf}
use Rattle.merge_set_table.specs.Adding.{BeginsPart, EndsPart, AddsParts, PushesField}
use Rattle.merge_set_table.proofs.Depths.{deeper, depths_append}
use Rattle.merge_set_table.proofs.Representing.{represents_more, set_more}

-- what stands in a list that grew
pub range_kept : {X : Type 0} (xs ys : List X) (start end : ℕ) → start ≤ end → end ≤ length xs → slice_range (xs ++ ys) start end ≡ slice_range xs start end
range_kept xs ys start end low high =
    let long = length-drop start xs in
    ap (take (end - start)) (drop-append-le start xs ys (omega (arith, low, high)))
    ∙ take-append-le (end - start) (drop start xs) ys (omega (arith, low, high, long))

pub range_new : {X : Type 0} (xs ys : List X) → slice_range (xs ++ ys) (length xs) (length (xs ++ ys)) ≡ ys
range_new xs ys =
    let long = length-append xs ys in
    ap (take (length (xs ++ ys) - length xs)) (drop-append_seam xs ys) ∙ take_all (length (xs ++ ys) - length xs) ys (omega (arith, long))

module _ {S C : Type 0} (schema : Catalog S C) where
  -- what measures the sets of a larger table measures those of a smaller one, and what measures the parts of a larger
  -- set those of a smaller one
  parts_less : (m m' : Numbered S C) (own own' more : List OwnField) (h : ℕ → ℕ → ℕ) → Extends m m' → own' ≡ own ++ more → MeasuresParts schema m' own' h → MeasuresParts schema m own h
  parts_less m m' own own' more h e is measures = record {
    most = λ numbers p set start end to low high r.
        let longer : end ≤ length own' = let long = length-append own more in omega (arith, high, long, ap length is) in
        let same : slice_range own' start end ≡ slice_range own start end = ap (λ z. slice_range z start end) is ∙ range_kept own more start end low high in
        measures.most numbers p set start end to low longer
        (subst (λ z. Represents schema numbers m' p set z to) (sym same) (represents_more schema numbers e r));
  }

  pub measures_less : (m m' : Numbered S C) (f : ℕ → ℕ) (g : ℕ → ℕ → ℕ → ℕ) → Extends m m' → Measures schema m' f g → Measures schema m f g
  measures_less m m' f g e measures = record {
    sets = λ numbers p set n is. measures.sets numbers p set n (set_more schema numbers e is);
    parts = λ n row at. parts_less m m' row.own.items row.own.items [] (g n) e (sym (append-nil row.own.items)) (measures.parts n row (e.sets n row at));
  }

  pub nests_none : (part : NumberedSet) (t : Table S C) → Nests schema [] [] part part t t
  nests_none part t = record { begun = []; parts = sym (append-nil part.inner.items); count = omega arith; few = λ f h g m p. omega arith }

  pub nests_then : (xs ys : List (Selection S)) (ms ns : List ℕ) (a b c : NumberedSet) (s t u : Table S C) (own : List OwnField) → Extends (numbered t) (numbered u) → c.own.items ≡ b.own.items ++ own
      → Nests schema xs ms a b s t → Nests schema ys ns b c t u → Nests schema (xs ++ ys) (ms ++ ns) a c s u
  nests_then xs ys ms ns a b c s t u own e is d n = record {
    begun = d.begun ++ n.begun;
    parts = n.parts ∙ ap (λ z. z ++ n.begun) d.parts ∙ append_assoc a.inner.items d.begun n.begun;
    count = omega (arith, d.count, n.count, length-append ms ns);
    few = λ f h g measures parts. omega (
      arith,
      d.few f h g (measures_less (numbered t) (numbered u) f g e measures) (parts_less (numbered t) (numbered u) b.own.items c.own.items own h e is parts),
      n.few f h g measures parts,
      sum_by-append f ms ns,
      sum_by-append (λ (i : InnerSet). h i.first_field i.fields_end) d.begun n.begun,
      depths_append xs ys 0,
    );
  }

  -- a field or a spread was added, and no set
  pub nests_alone : (xs : List (Selection S)) (a b : NumberedSet) (s t : Table S C) → b.inner.items ≡ a.inner.items → t.sets.items ≡ s.sets.items → t.inner.items ≡ s.inner.items → Nests schema xs [] a b s t
  nests_alone xs a b s t parts sets inner = record {
    begun = [];
    parts = parts ∙ sym (append-nil a.inner.items);
    count = omega (arith, ap length sets);
    few = λ f h g m p. omega (arith, ap (inner_measure g) inner);
  }

  -- a field with its set
  pub nests_field : (xs set' : List (Selection S)) (more : List ℕ) (o : _) (below : Option ℕ) (a b : NumberedSet) (s t u : Table S C) → depths xs 0 ≡ depths set' 1
      → NestsSet schema set' more s t → PushesField o below a b t u → Nests schema xs more a b s u
  nests_field xs set' more o below a b s t u deep n pushed = record {
    begun = [];
    parts = pushed.parts ∙ sym (append-nil a.inner.items);
    count = omega (arith, n.count, ap length pushed.sets);
    few = λ f h g m p. omega (arith, n.few f g (measures_less (numbered t) (numbered u) f g pushed.extends m), ap (inner_measure g) pushed.inner, deep);
  }

  -- a set that was begun as a part, filled and ended
  module _ (xs set' : List (Selection S)) (place : ℕ) (a b c d : NumberedSet) (s t : Table S C) (first : BeginsPart place a b) (last : EndsPart place c d) where
    pub nests_part : (numbers : List ℕ → Option ℕ) (q : Option (MetaTypeOf S C)) (more : List ℕ) → depths xs 0 ≡ depths set' 1
        → AddsParts schema numbers q set' b c s t → Nests schema set' more b c s t → Nests schema xs more a d s t
    nests_part numbers q more deep added n =
        let waited : c.inner.items ≡ a.inner.items ++ first.part ∷ n.begun = n.parts ∙ ap (λ z. z ++ n.begun) first.inner ∙ append_assoc a.inner.items (first.part ∷ []) n.begun in
        let there : slice_get c.inner.items place ≡ Some first.part = ap (λ z. slice_get z place) waited ∙ ap (slice_get (a.inner.items ++ first.part ∷ n.begun)) first.at ∙ seam a.inner.items first.part n.begun in
        let start : last.part.first_field ≡ length a.own.items = last.first first.part there ∙ first.first in
        let own : d.own.items ≡ a.own.items ++ added.own_more = last.same.own ∙ added.own ∙ ap (λ z. z ++ added.own_more) first.same.own in
        let end : last.part.fields_end ≡ length (a.own.items ++ added.own_more) = last.end ∙ ap length (sym last.same.own) ∙ ap length own in
        let longer = length-append a.own.items added.own_more in
        record {
          begun = last.part ∷ n.begun;
          parts = last.inner ∙ ap (λ z. slice_set z place last.part) waited ∙ ap (λ (k : ℕ). set (a.inner.items ++ first.part ∷ n.begun) k last.part) first.at ∙ set-append_seam a.inner.items first.part n.begun last.part;
          count = n.count;
          few = λ f h g measures parts.
              let itself : h last.part.first_field last.part.fields_end ≤ all_inside set' =
              subst (λ (z : ℕ). h z last.part.fields_end ≤ all_inside set') (sym start)
              (subst (λ (z : ℕ). h (length a.own.items) z ≤ all_inside set') (sym end)
              (parts.most numbers q set' (length a.own.items) (length (a.own.items ++ added.own_more)) added.to_more (omega (arith, longer)) (omega (arith, ap length own))
              (subst (λ z. Represents schema numbers (numbered t) q set' z added.to_more) (sym (ap (λ z. slice_range z (length a.own.items) (length (a.own.items ++ added.own_more))) own ∙ range_new a.own.items added.own_more)) added.represents))) in
              omega (
                arith,
                itself,
                n.few f h g measures (parts_less (numbered t) (numbered t) c.own.items d.own.items [] h (same (numbered t)) (last.same.own ∙ sym (append-nil c.own.items)) parts),
                sum_by-cons (λ (i : InnerSet). h i.first_field i.fields_end) last.part n.begun,
                deep,
                deeper set' 0,
              );
        }
      where
        seam : (xs : List InnerSet) (x : InnerSet) (ys : List InnerSet) → slice_get (xs ++ x ∷ ys) (length xs) ≡ Some x
        seam [] x ys = refl
        seam (y ∷ xs) x ys = seam xs x ys

        same : (m : Numbered S C) → Extends m m
        same m = record { fields = λ k a h. h; responses = λ n k h. h; sets = λ k r h. h; longer = omega arith }

  -- a set that was filled and stored, with a place in the order
  pub nests_set : (numbers : List ℕ → Option ℕ) (p : Option (MetaTypeOf S C)) (set' : List (Selection S)) (more : List ℕ) (n : ℕ) (empty part : NumberedSet) (t t1 t2 t3 : Table S C) (is : IsSetOf schema numbers (numbered t3) n p set')
      → is.row.own.items ≡ part.own.items → empty.inner.items ≡ [] → length t1.sets.items ≡ length t.sets.items → t1.inner.items ≡ t.inner.items → length t3.sets.items ≡ length t2.sets.items + 1
      → Extends (numbered t2) (numbered t3) → ((g : ℕ → ℕ → ℕ → ℕ) → inner_measure g t3.inner.items ≡ inner_measure g t2.inner.items + parts_measure (g n) part.inner.items)
      → Nests schema set' more empty part t1 t2 → NestsSet schema set' (n ∷ more) t t3
  nests_set numbers p set' more n empty part t t1 t2 t3 is own none long inner longer e kept nests = record {
    count = omega (arith, nests.count, long, longer);
    few = λ f g m.
        let begun : part.inner.items ≡ nests.begun = nests.parts ∙ ap (λ z. z ++ nests.begun) none in
        let parts = parts_less (numbered t2) (numbered t3) part.own.items is.row.own.items [] (g n) e (own ∙ sym (append-nil part.own.items)) (m.parts n is.row is.stored) in
        omega (
          arith,
          nests.few f (g n) g (measures_less (numbered t2) (numbered t3) f g e m) parts,
          ap (parts_measure (g n)) begun,
          ap (inner_measure g) inner,
          kept g,
          m.sets numbers p set' n is,
          sum_by-cons f n more,
          deeper set' 0,
        );
  }
