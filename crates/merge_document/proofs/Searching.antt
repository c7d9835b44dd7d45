-- What a search of a document's graph says of the document.
use Rattle.std.proofs.Common.{◌≡◌, ◌<◌, ◌≤◌, ◌*◌, ◌-◌, ◌⊎◌, ℕ, List, Bool, Option, Some, IfSome, map, length, sym, ap, subst, ◌∙◌, arith}
use Rattle.std.specs.List.{Contains}
use Rattle.language.specs.declared.tree.Definition.{Definition}
use Rattle.language.specs.declared.tree.Selection.{Selection}
use Rattle.meta.specs.declared.kinds.MetaTypeOf.{MetaTypeOf}
use Rattle.schema.specs.Catalog.{Catalog}
use Rattle.merge_field_pairs.specs.Entries.{plain}
use Rattle.merge_field_pairs.specs.Numbered.{AreTidy}
use Rattle.merge_sets.specs.declared.graph.Graph.{Graph}
use Rattle.merge_sets.specs.Judgement.{Lawful}
use Rattle.merge_sets.specs.World.{World, world}
use Rattle.merge_search.specs.Reports.{Judged}
use Rattle.merge_tops.specs.Tops.{Together}
use Rattle.merge_graph.specs.declared.judge.FieldJudge.{FieldJudge}
use Rattle.merge_graph.specs.Building.{IsFragment}
use Rattle.merge_graph.specs.Definitions.{fragment_count}
use Rattle.merge_graph.specs.DocumentGraph.{IsGraphOf, AreOrigins}
use Rattle.merge_graph.specs.SetsIn.{IsSetIn}
use Rattle.merge_set_table.specs.Parts.{IsPartAt}
use Rattle.merge_graph.specs.Judging.{judgement_by, judgement_of}
use Rattle.merge_graph.proofs.SetLaws.{equally_many, own_same, spreads_same}
use Rattle.merge_conflicts.specs.Reports.{AreReportsOf}
use Rattle.merge_document.specs.declared.search.FoundConflicts.{FoundConflicts}
use Rattle.merge_document.specs.Conflicts.{IsTidyDocument}
use Rattle.merge_document.specs.Found.{IsFinished, IsJudged, AreTogether}
use Rattle.merge_document.proofs.Sets.{IsWorldOf}
use Rattle.merge_document.proofs.Finding.{made, is_real, unmerged, is_told, is_all, are_tidy}
use Rattle.merge_document.proofs.Counting.{pairs_grow, more_times, together_all, as_many}

-- what holds of the value that is there
pub at_some : {X : Type 0} (P : X → Type 0) (o : Option X) (x : X) → o ≡ Some x → IfSome o P → P x
at_some P o x e h = subst (λ z. IfSome z P) e h

-- with another limit the graph is that of the document, too
pub limited_is : {S C : Type 0} (schema : Catalog S C) (document : List (Definition S)) (g : Graph (FieldJudge S C)) (limit : ℕ)
    → IsGraphOf schema document g → IsGraphOf schema document (record g { limit = limit })
limited_is schema document g limit is = record {
  table = is.table;
  numbers = is.numbers;
  fragment_sets = is.fragment_sets;
  order = is.order;
  is = record {
    judged_under = (is.is).judged_under;
    fields = (is.is).fields;
    sets = (is.is).sets;
    fragments_are = (is.is).fragments_are;
    order_is = (is.is).order_is;
  };
  apart = is.apart;
  defined = is.defined;
  single = is.single;
  fragments = is.fragments;
  sets = is.sets;
  origins = is.origins;
  size = is.size;
  nests = λ known. let n = is.nests known in record { count = n.count; few = n.few; fragments = n.fragments };
}

module _ {S C : Type 0} (E : S → S → Bool) (schema : Catalog S C) (document : List (Definition S)) (g : Graph (FieldJudge S C)) (is : IsGraphOf schema document g) where
  abbrev pub its_world : World
  its_world = world (judgement_of E) g

  pub world_is : IsWorldOf E schema document is.numbers is.table its_world
  world_is = record {
    judges = ap (λ s. judgement_by E s (map plain g.judge.fields.items)) (is.is).judged_under ∙ ap (λ f. judgement_by E schema f) (is.is).fields;
    many = equally_many g.sets.items (is.table).sets (is.is).sets;
    own = own_same g.sets.items (is.table).sets (is.is).sets;
    spreads = spreads_same g.sets.items (is.table).sets (is.is).sets;
    apart = is.apart;
    defined = λ name. (is.defined name).1;
    single = is.single;
    fragments = λ name f h. subst (λ (z : List ℕ). IsFragment schema document is.numbers is.table z name f) (sym (is.is).fragments_are) (is.fragments name f h);
  }

  origins : AreOrigins schema document is.numbers is.table g.fragments.items g.order.items
  origins =
      subst (λ (z : List ℕ). AreOrigins schema document is.numbers is.table z g.order.items) (sym (is.is).fragments_are)
      (subst (λ (z : List ℕ). AreOrigins schema document is.numbers is.table is.fragment_sets z) (sym (is.is).order_is) is.origins)

  sets : (p : Option (MetaTypeOf S C)) (set : List (Selection S)) → IsSetIn schema document p set → (s : ℕ) × Contains g.order.items s × IsPartAt schema is.numbers is.table s p set
  sets p set i = let h = is.sets p set i in (h.0, subst (λ (z : List ℕ). Contains z h.0) (sym (is.is).order_is) h.1, h.2)

  pub judged : (f : FoundConflicts S C) → f.fields ≡ g.judge.fields → f.limit ≡ g.limit → Judged its_world g.order.items f.found.items
      → (AreTidy (map plain g.judge.fields.items) → Lawful (judgement_of E g.judge)) → IsJudged E schema document f
  judged f same bound j lawful =
      let room = λ (done : IsFinished f). subst (λ (n : ℕ). (n ≡ 0) ⊎ (length f.found.items < n)) bound done in
      let t = made E schema document is.numbers is.table its_world world_is g.order.items origins sets f.found.items j.real in
      let fields : map plain f.fields.items ≡ (is.table).fields = ap (λ v. map plain v.items) same ∙ (is.is).fields in
      let lawful_where = λ (tidy : IsTidyDocument schema document).
      let fields_tidy = are_tidy E schema document is.numbers is.table its_world world_is g.order.items origins sets tidy in
      lawful (subst AreTidy (sym (is.is).fields) fields_tidy) in
      let found = f.found.items in
      record {
        numbered = t.numbered;
        reports = t.reports;
        found = (j.real).grown ∙ sym t.writes;
        are = subst (λ z. AreReportsOf z t.numbered t.reports) (sym fields) t.are;
        real = is_real E schema document is.numbers is.table its_world world_is g.order.items origins sets found j.real;
        refuses = λ some tidy.
            let refuted = j.refuses (lawful_where tidy) in
            unmerged E schema document is.numbers is.table its_world world_is g.order.items origins sets found j.real refuted some;
        told = λ done tidy. is_told E schema document is.numbers is.table its_world world_is g.order.items origins sets found j.real
            (j.refuses (lawful_where tidy)) (j.complete (room done) (lawful_where tidy));
        all = λ done tidy. is_all E schema document is.numbers is.table its_world world_is g.order.items origins sets found j.real
            (j.refuses (lawful_where tidy)) (j.complete (room done) (lawful_where tidy));
      }

  pub few : (compared : ℕ) → compared ≤ length g.fragments.items * (length g.fragments.items - 1) → compared ≤ fragment_count document * (fragment_count document - 1)
  few compared l = let more = pairs_grow (length g.fragments.items) (fragment_count document) origins.few in omega (arith, l, more)

  pub opens : (opened lists : ℕ) → opened ≤ length g.fragments.items * lists → opened ≤ fragment_count document * lists
  opens opened lists l =
      let more = more_times (length g.fragments.items) (fragment_count document) lists origins.few in omega (arith, l, more)

  pub enough : (compared : ℕ) → ((ps : List (ℕ × ℕ)) → Together its_world g.order.items ps → length ps ≤ compared) → (ps : List (List ℕ × List ℕ)) → AreTogether schema document ps → length ps ≤ compared
  enough compared h ps t =
      let l = h _ (together_all E schema document is.numbers is.table its_world world_is g.order.items sets ps t) in
      let same = as_many E schema document is.numbers is.table its_world world_is g.order.items sets ps in omega (arith, l, same)
