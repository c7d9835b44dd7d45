-- What is said over the graph of a document is said over the document, and back.
use Rattle.std.proofs.Common.{◌≡◌, ℕ, List, Bool, false, Option, Some, None, slice_get, refl, sym, ap, subst, ◌∙◌}
use Rattle.std.specs.Option.{is_some}
use Rattle.language.specs.declared.tree.Selection.{Selection}
use Rattle.language.specs.declared.tree.Definition.{Definition}
use Rattle.meta.specs.declared.kinds.MetaTypeOf.{MetaTypeOf}
use Rattle.schema.specs.Catalog.{Catalog}
use Rattle.fragment_graph.proofs.Lists.{same_some, contains_at, contains_get}
use Rattle.merge_field_pairs.specs.Entries.{PlainEntry, exclusive_of}
use Rattle.merge_field_pairs.specs.OwnFields.{own_fields, own_spreads}
use Rattle.merge_field_pairs.specs.DirectReason.{direct_of}
use Rattle.merge_sets.specs.declared.node.Entry.{Entry}
use Rattle.merge_sets.specs.World as graph_world
use Rattle.merge_sets.specs.World.{World, spreads_of, set_of, conflict_of}
use Rattle.merge_sets.specs.Merging as graph
use Rattle.merge_set_table.specs.Table.{Numbered}
use Rattle.merge_set_table.specs.Parts.{IsPartOf}
use Rattle.merge_document.specs.WrittenOut.{Stands, own, spread, StandsIn, Apart, own_own, own_spread, spread_own, two_spreads, one_spread}
use Rattle.merge_document.specs.Merging.{Below, below, Merges, merges}
use Rattle.merge_document.proofs.Fields.{IsEntryOf, set_below, number_below, same_name, same_number, conflict_is, exclusive_is}
use Rattle.merge_document.proofs.Sets.{IsWorldOf, IsSet, own_out, member_out, member_in, name_of, number_of, spread_once, fragment_out, fragment_in}

pub passes_some : {X : Type 0} (o : Option X) (b : Bool) → b ≡ is_some o → o ≡ None → b ≡ false
passes_some o b e h = e ∙ ap is_some h

pub some_passes : {X : Type 0} (o : Option X) (b : Bool) → b ≡ is_some o → b ≡ false → o ≡ None
some_passes None b e h = refl
some_passes (Some x) b e h = cc

module _ {S C : Type 0} (E : S → S → Bool) (schema : Catalog S C) (document : List (Definition S)) (numbers : List ℕ → Option ℕ) (m : Numbered S C) (w : World) (is : IsWorldOf E schema document numbers m w) where
  abbrev pub SetAt : ℕ → Option (MetaTypeOf S C) → List (Selection S) → Type 0
  SetAt s p set = IsSet E schema document numbers m w is s p set

  abbrev pub Of : PlainEntry S C → Entry → Type 0
  Of x a = IsEntryOf schema numbers m x a

  pub stands_out : {s : ℕ} {p : Option (MetaTypeOf S C)} {set : List (Selection S)} {a : Entry} → SetAt s p set → graph.Stands w s a
      → (x : PlainEntry S C) × Stands schema document p set x × Of x a
  stands_out at (graph.own c) = let o = member_out E schema document numbers m w is at c in (o.0, own o.1, o.2)
  stands_out at (graph.spread c h) =
      let n = name_of E schema document numbers m w is at c in
      let d = fragment_out E schema document numbers m w is n.2 in
      let r = stands_out d.2 h in (r.0, spread n.1 d.1 r.1, r.2)

  pub stands_in : {p : Option (MetaTypeOf S C)} {set : List (Selection S)} {x : PlainEntry S C} → Stands schema document p set x → {s : ℕ} → SetAt s p set
      → (a : Entry) × graph.Stands w s a × Of x a
  stands_in (own c) at = let o = member_in E schema document numbers m w is at c in (o.0, graph.own o.1, o.2)
  stands_in (spread c i h) at =
      let n = fragment_in E schema document numbers m w is i in
      let r = stands_in h n.2 in (r.0, graph.spread (number_of E schema document numbers m w is at c n.1) r.1, r.2)

  -- what stands in a part of a set stands in the set
  pub stands_whole : {p q : Option (MetaTypeOf S C)} {set inner : List (Selection S)} {x : PlainEntry S C} → IsPartOf schema q inner p set → Stands schema document q inner x → Stands schema document p set x
  stands_whole {x = x} h (own c) = own (h.fields x c)
  stands_whole h (spread {name = name} c i s) = spread (h.names name c) i s

  -- what stands in a fragment
  written_out : {f : ℕ} {name : List ℕ} {a : Entry} → numbers name ≡ Some f → graph.Stands w (set_of w f) a → (x : PlainEntry S C) × StandsIn schema document name x × Of x a
  written_out n h = let d = fragment_out E schema document numbers m w is n in let r = stands_out d.2 h in (r.0, (d.0, d.1, r.1), r.2)

  pub apart_out : {s : ℕ} {p : Option (MetaTypeOf S C)} {set : List (Selection S)} {a b : Entry} → SetAt s p set → graph.Apart w s a b
      → (x : PlainEntry S C) × (y : PlainEntry S C) × Apart schema document p set x y × Of x a × Of y b
  apart_out at (graph.own_own {k = k} {l = l} h i other) =
      let x = own_out E schema document numbers m w is k at h in let y = own_out E schema document numbers m w is l at i in
      (x.0, y.0, own_own x.1 y.1 other, x.2, y.2)
  apart_out at (graph.own_spread c v h) =
      let x = member_out E schema document numbers m w is at c in let n = name_of E schema document numbers m w is at v in
      let y = written_out n.2 h in (x.0, y.0, own_spread x.1 n.1 y.1, x.2, y.2)
  apart_out at (graph.spread_own v h c) =
      let n = name_of E schema document numbers m w is at v in let x = written_out n.2 h in
      let y = member_out E schema document numbers m w is at c in (x.0, y.0, spread_own n.1 x.1 y.1, x.2, y.2)
  apart_out {s} {p} {set} at (graph.two_spreads {f = f} {g = g} {k = k} {l = l} h i other u v) =
      let n = name_of E schema document numbers m w is at (contains_at (spreads_of w s) k f h) in
      let o = name_of E schema document numbers m w is at (contains_at (spreads_of w s) l g i) in
      let x = written_out n.2 u in let y = written_out o.2 v in
      let j = contains_get (own_spreads set) n.0 n.1 in let q = contains_get (own_spreads set) o.0 o.1 in
      (x.0, y.0, two_spreads j.1 q.1 (λ e. other (spread_once E schema document numbers m w is at h (subst (λ (z : ℕ). slice_get (spreads_of w s) l ≡ Some z) (sym (one j.0 q.0 n.0 o.0 e j.1 q.1 n.2 o.2)) i))) x.1 y.1, x.2, y.2)
    where
      one : (j q : ℕ) (name also : List ℕ) → j ≡ q → slice_get (own_spreads set) j ≡ Some name → slice_get (own_spreads set) q ≡ Some also → numbers name ≡ Some f → numbers also ≡ Some g → f ≡ g
      one j q name also e h i a b =
          same_some f g (sym a ∙ ap numbers (same_some name also (sym h ∙ ap (slice_get (own_spreads set)) e ∙ i)) ∙ b)
  apart_out at (graph.one_spread v h) =
      let n = name_of E schema document numbers m w is at v in let d = fragment_out E schema document numbers m w is n.2 in
      let r = apart_out d.2 h in (r.0, r.1, one_spread n.1 d.1 r.2, r.3, r.4)

  -- two places are of two fields that stand there
  pub apart_stand : {p : Option (MetaTypeOf S C)} {set : List (Selection S)} {x y : PlainEntry S C} → Apart schema document p set x y → Stands schema document p set x × Stands schema document p set y
  apart_stand {p} {set} {x} {y} (own_own {k = k} {l = l} h i other) = (own (contains_at (own_fields schema p set) k x h), own (contains_at (own_fields schema p set) l y i))
  apart_stand (own_spread c v h) = (own c, spread v h.1 h.2)
  apart_stand (spread_own v h c) = (spread v h.1 h.2, own c)
  apart_stand {p} {set} (two_spreads {name = n} {other = o} {k = k} {l = l} h i other u v) =
      (spread (contains_at (own_spreads set) k n h) u.1 u.2, spread (contains_at (own_spreads set) l o i) v.1 v.2)
  apart_stand (one_spread v i h) = let r = apart_stand h in (spread v i r.0, spread v i r.1)

  module _ {x y : PlainEntry S C} {a b : Entry} (f : Of x a) (g : Of y b) where
    pub conflict_at : (e : Bool) → conflict_of w e a b ≡ is_some (direct_of E schema e x y)
    conflict_at e = conflict_is schema numbers m E f g w.judgement is.judges e

    pub exclusive_at : (e : Bool) → graph_world.exclusive_of w e a b ≡ exclusive_of e x y
    exclusive_at e = exclusive_is schema numbers m E f g w.judgement is.judges e

    pub same_out : graph_world.Same a b → Rattle.merge_document.specs.Merging.Same x y
    same_out = same_name schema numbers m is.apart f g

    pub same_in : Rattle.merge_document.specs.Merging.Same x y → graph_world.Same a b
    same_in = same_number schema numbers m f g

  pub below_out : {x y : PlainEntry S C} {a b c d : Entry} → Of x a → Of y b → graph.Below w a b c d
      → (z : PlainEntry S C) × (u : PlainEntry S C) × Below E schema document x y z u × Of z c × Of u d
  below_out f g (graph.below sa tb p q same) =
      let v = set_below schema numbers m f sa in let t = set_below schema numbers m g tb in
      let z = stands_out v.2 p in let u = stands_out t.2 q in
      (z.0, u.0, below v.1 t.1 z.1 u.1 (same_out z.2 u.2 same), z.2, u.2)

  pub below_in : {x y z u : PlainEntry S C} {a b : Entry} → Of x a → Of y b → Below E schema document x y z u
      → (c : Entry) × (d : Entry) × graph.Below w a b c d × Of z c × Of u d
  below_in f g (below sv sw p q same) =
      let s = number_below schema numbers m f sv in let t = number_below schema numbers m g sw in
      let c = stands_in p s.2 in let d = stands_in q t.2 in
      (c.0, d.0, graph.below s.1 t.1 c.1 d.1 (same_in c.2 d.2 same), c.2, d.2)

  pub merges_in : {e e' : Bool} {x y : PlainEntry S C} {a b : Entry} → e' ≡ e → Of x a → Of y b → Merges E schema document e x y → graph.Merges w e' a b
  merges_in {e} {e'} {x} {y} {a} {b} eq f g (merges pass next) =
      subst (λ (i : Bool). graph.Merges w i a b) (sym eq)
      (graph.merges (passes_some (direct_of E schema e x y) (conflict_of w e a b) (conflict_at f g e) pass)
      (λ c d h. let t = below_out f g h in merges_in (exclusive_at f g e) t.3 t.4 (next t.0 t.1 t.2)))

  pub merges_out : {e' : Bool} {a b : Entry} → graph.Merges w e' a b → {e : Bool} {x y : PlainEntry S C} → e' ≡ e → Of x a → Of y b → Merges E schema document e x y
  merges_out {e'} {a} {b} (graph.merges pass next) {e} {x} {y} eq f g =
      subst (λ (i : Bool). Merges E schema document i x y) eq
      (merges (some_passes (direct_of E schema e' x y) (conflict_of w e' a b) (conflict_at f g e') pass)
      (λ z u h. let t = below_in f g h in merges_out (next t.0 t.1 t.2) (exclusive_at f g e') t.3 t.4))
