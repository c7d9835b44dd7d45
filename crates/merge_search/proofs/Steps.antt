-- What the pieces of a step make of the state together.
use Rattle.std.proofs.Common.{◌≡◌, ℕ, ◌+◌, ◌<◌, ◌≤◌, List, [], ◌∷◌, length, drop, get_or, refl, sym, subst, ◌∙◌, Bool, true, false, None, Some, Option, inl, inr, ◌⊎◌}
use Rattle.std.specs.Prelude.{slice_get}
use Rattle.std.specs.Option.{option_map_or}
use Rattle.std.specs.List.{All, Contains}
use Rattle.std.proofs.lemmas.List.{drop_more}
use Rattle.std.proofs.Math.ListN.{drop_of_length-le}
use Rattle.std.proofs.lemmas.List.Elements.{All-nil, All-cons, All-contains, Contains-append_cases, Contains-get_or}
use Rattle.merge_sets.specs.declared.node.Entry.{Entry}
use Rattle.merge_sets.specs.declared.node.SetNode.{SetNode}
use Rattle.merge_search.specs.declared.state.Search.{Search}
use Rattle.merge_sets.specs.Names.{named, AreListed}
use Rattle.merge_sets.specs.Indexed.{firsts_of}
use Rattle.merge_sets.specs.World.{World, HasRoom, own_of, spreads_of, set_of, conflict_of, exclusive_of}
use Rattle.merge_search.specs.Opened.{OpensCounted}
use Rattle.merge_search.specs.State.{Keeps, NotesPair}
use Rattle.merge_search.specs.Work as done
use Rattle.merge_sets.specs.Merging.{Merges}
use Rattle.merge_sets.specs.Clear.{AreOthers, IsClear}
use Rattle.merge_search.specs.Reports.{AtLists, AtRest, Root, Adds, AddsAll, AtFields, AtWith, AtNamed, AtOwn, AtSearch, AtFirst}
use Rattle.merge_search.specs.Work.{pair_in, Did, Done, SearchDone, Pair, OwnPairs}
use Rattle.merge_search.specs.declared.task.Partner.TheVariants as partner
use Rattle.merge_search.specs.declared.task.Task.{Task}
use Rattle.merge_search.specs.declared.task.Task.TheVariants.{With, Listed, Rows, Own, Close, Opened, Mark, Spreads}
use Rattle.merge_search.specs.Tasks.{Meets, AtPartners, Compares, Searches, ComparesEach, MeetsNested, MeetsBelow, MeetsBoth, MeetsFields, MeetsList, MeetsNamed, MeetsRows, MeetsOne, MeetsSearch, MeetsFragments, RowDone, WithDone, NameDone, Closes}
use Rattle.merge_sets.specs.Graph.{firsts_at}
use Rattle.merge_sets.proofs.OneName.{no_entry, named_in, named_is, named_own}
use Rattle.merge_search.proofs.Work.{did_none, did_full, did_then, did_map, did_opened, did_fragments, did_report, did_kept}
use Rattle.merge_sets.proofs.Laws.{clash}
use Rattle.merge_search.proofs.Adding.{all_full, merges_none, adds_none, adds_map, adds_then, adds_from, adds_node, adds_same, all_both, all_map, all_told}
use Rattle.merge_search.proofs.Clearing.{others_done, others_told}
use Rattle.merge_search.proofs.Rows.{row_named, row_with, tell_with, tell_named, tell_own, own_pairs, row_first, row_second, row_fragments, row_nested, row_below_own, row_below_forth, row_below_back, row_below_spreads}

pub drop_next : {X : Type 0} (ys xs : List X) (k : ℕ) (d : X) → ys ≡ xs → k < length ys → drop k xs ≡ get_or ys k d ∷ drop (k + 1) xs
drop_next ys xs k d h l = subst (λ zs. drop k zs ≡ get_or ys k d ∷ drop (k + 1) zs) h (drop_more ys k d l)

pub drop_end : {X : Type 0} (ys xs : List X) (k : ℕ) → ys ≡ xs → length ys ≤ k → drop k xs ≡ []
drop_end ys xs k h l = subst (λ zs. drop k zs ≡ []) h (drop_of_length-le ys l)

-- what stands in a list is its first, or stands in the rest
first_or_rest : {X : Type 0} (x : X) (xs : List X) (y : X) → Contains (x ∷ xs) y → (x ≡ y) ⊎ Contains xs y
first_or_rest {X} x xs y c = elim (Contains-append_cases (x ∷ []) xs y c) [
  | inl one ↦ inl (All-contains (λ z. x ≡ z) (x ∷ []) y (All-cons (λ z. x ≡ z) x [] refl (All-nil (λ z. x ≡ z))) one)
  | inr more ↦ inr more
]

listed_of : (o : Option SetNode) → AreListed (option_map_or (λ n. firsts_of n.own.items n.index) o []) (option_map_or (λ n. n.own.items) o [])
listed_of None = All-nil _
listed_of (Some n) = n.listed

module _ (w : World) (e : Bool) where
  pub each_none : (D : Entry → Search → Type 0) (P : Root → Type 0) (Q : Entry → Root → Type 0) (items : List Entry) (s : Search) → items ≡ [] → ComparesEach w e D P Q items s s
  each_none D P Q items s h = record {
    done = did_none w _ s (λ M grown. subst (λ xs. All (λ x. D x M) xs) (sym h) (All-nil (λ x. D x M)));
    real = record {
      adds = adds_none w e P s.found.items;
      tells = λ room r at fails. absurd (All-contains (λ x. ⊥) [] (at.0) (All-nil (λ x. ⊥)) (subst (λ xs. Contains xs (at.0)) h (at.1)));
    };
  }

  -- the first of a list, and then the rest
  pub each_next : (D : Entry → Search → Type 0) (P R : Root → Type 0) (Q : Entry → Root → Type 0) (x : Entry) (rest items : List Entry) (s t u : Search) → items ≡ x ∷ rest
      → ((r : Root) → R r → P r) → Compares w e (D x) R (Q x) s t → ComparesEach w e D P Q rest t u → ComparesEach w e D P Q items s u
  each_next D P R Q x rest items s t u h f one more = record {
    done = did_map w _ _ (λ M z. subst (λ xs. All (λ y. D y M) xs) (sym h) (All-cons (λ y. D y M) x rest z.0 z.1)) (did_then w _ _ one.done more.done);
    real = all_told w e P _ _
        (λ r at. elim (first_or_rest x rest (at.0) (subst (λ xs. Contains xs (at.0)) h (at.1))) [
          | inl is ↦ inl (subst (λ y. Q y r) (sym is) (at.2))
          | inr there ↦ inr (at.0, there, at.2)
        ])
        (all_both w e P (Q x) (λ r. (y : Entry) × Contains rest y × Q y r) (all_map w e R P (Q x) f one.real) more.real);
  }

  pub searches_none : (D : ℕ → Search → Type 0) (P : Root → Type 0) (items : List ℕ) (s : Search) → items ≡ [] → Searches w e (λ M. All (λ x. D x M) items) P s s
  searches_none D P items s h = record {
    done = did_none w _ s (λ M grown. subst (λ xs. All (λ x. D x M) xs) (sym h) (All-nil (λ x. D x M)));
    real = adds_none w e P s.found.items;
  }

  pub searches_next : (D : ℕ → Search → Type 0) (P R : Root → Type 0) (x : ℕ) (rest items : List ℕ) (s t u : Search) → items ≡ x ∷ rest
      → ((r : Root) → R r → P r) → Searches w e (D x) R s t → Searches w e (λ M. All (λ y. D y M) rest) P t u → Searches w e (λ M. All (λ y. D y M) items) P s u
  searches_next D P R x rest items s t u h f one more = record {
    done = did_map w _ _ (λ M z. subst (λ xs. All (λ y. D y M) xs) (sym h) (All-cons (λ y. D y M) x rest z.0 z.1)) (did_then w _ _ one.done more.done);
    real = adds_then w e P (adds_map w e R P f one.real) more.real;
  }

  -- all that a field is compared with, and all of a response name
  pub with_whole : (a : Entry) (j : ℕ) (s t : Search) → MeetsList w e a (named a.response (own_of w j)) 0 s t
      → Compares w e (WithDone w e j a) (AtWith w a j) (AtWith w a j) s t
  with_whole a j s t d = record {
    done = d.done;
    real = all_told w e _ _ _ (tell_with w a j)
        (all_map w e (AtRest a (named a.response (own_of w j))) (AtWith w a j) _ (λ r h. row_with w a r.right j r h.1 (h.0, refl)) d.real);
  }

  pub named_whole : (i j n : ℕ) (s t : Search) → ComparesEach w e (WithDone w e j) (AtNamed w i j n) (λ a. AtWith w a j) (named n (own_of w i)) s t → MeetsNamed w e i j n s t
  named_whole i j n s t d = record { done = d.done; real = all_told w e _ _ _ (tell_named w i j n) d.real }

  pub own_whole : (i j : ℕ) (s t : Search) → ComparesEach w e (NameDone w e i j) (AtOwn w i j) (λ f. AtNamed w i j f.response) (firsts_at w.sets i) s t
      → Compares w e (λ M. OwnPairs w M e i j) (AtOwn w i j) (AtOwn w i j) s t
  own_whole i j s t d =
      let listed = listed_of (slice_get w.sets i) in
      record {
        done = did_map w _ _ (λ M z. own_pairs w M e i j (firsts_at w.sets i) listed z) d.done;
        real = all_told w e _ _ _ (tell_own w i j (firsts_at w.sets i) listed) d.real;
      }

  -- a response name that the other set doesn't have
  pub name_absent : (i j n : ℕ) (s : Search) → named n (own_of w j) ≡ [] → MeetsNamed w e i j n s s
  name_absent i j n s h = record {
    done = did_none w _ s (λ M grown k d l.
        let a = get_or (named n (own_of w i)) k d in
        subst (λ (m : ℕ). All (λ b. Done w M e a b) (named m (own_of w j))) (sym (named_is n (own_of w i) a (Contains-get_or (named n (own_of w i)) k d l)))
        (subst (λ xs. All (λ b. Done w M e a b) xs) (sym h) (All-nil (λ b. Done w M e a b))));
    real = record {
      adds = adds_none w e (AtNamed w i j n) s.found.items;
      tells = λ room r at fails. absurd (All-contains (λ x. ⊥) [] r.right (All-nil (λ x. ⊥)) (subst (λ xs. Contains xs r.right) h (named_in n (own_of w j) r.right at.2 (sym at.3 ∙ at.1))));
    };
  }

  -- the fields of one response name, one after the other
  pub rows_named : (i j n : ℕ) (fields : List Entry) (s t : Search) → fields ≡ named n (own_of w i) → MeetsRows w e j fields s t → MeetsNamed w e i j n s t
  rows_named i j n fields s t is d = named_whole i j n s t (subst (λ xs. ComparesEach w e (WithDone w e j) (AtNamed w i j n) (λ a. AtWith w a j) xs s t) is (record {
    done = d.done;
    real = all_map w e _ (AtNamed w i j n) _ (λ r at. row_named w at.0 i j n r (subst (λ xs. Contains xs (at.0)) is at.1) at.2) d.real;
  }))

  -- a field that merges with all of its response name
  pub with_clear : (a : Entry) (j : ℕ) (s : Search) → IsClear w e a (named a.response (own_of w j)) → Compares w e (WithDone w e j a) (AtWith w a j) (AtWith w a j) s s
  with_clear a j s clear = record {
    done = did_none w _ s (λ M grown k d l. done.merged (clear k d l));
    real = record {
      adds = adds_none w e (AtWith w a j) s.found.items;
      tells = λ room r at fails.
          let z = tell_with w a j r at in
          absurd (clash (conflict_of w e r.left r.right) fails
          (subst (λ x. conflict_of w e x r.right ≡ false) (sym (at.0)) (subst (λ y. conflict_of w e a y ≡ false) (sym (z.2.1)) (merges_none (All-contains (λ b. Merges w e a b) (named a.response (own_of w j)) (z.0) clear (z.1))))));
    };
  }

  -- the sets below two fields, and the report of the two
  pub nested_closed : (a b : Entry) (i j : ℕ) (s t u : Search) → MeetsBelow w (exclusive_of w e a b) i j s t → Closes a b (length s.found.items) t u → MeetsNested w e a b i j s u
  nested_closed a b i j s t u d (inl (l, same)) = subst (λ (z : Search). MeetsNested w e a b i j s z) (sym same) (record {
    done = d.done;
    real = λ none sa sb. adds_same w e (exclusive_of w e a b) _ _ s.found.items t.found.items l d.real;
  })
  nested_closed a b i j s t u d (inr (l, told)) = record {
    done = did_map w _ _ (λ M z. z.0) (did_report w _ _ told d.done);
    real = λ none sa sb. adds_node w e a b _ s.found.items t.found.items _ none (adds_map w (exclusive_of w e a b) _ _ (row_nested w a b i j sa sb) d.real) l refl told.found;
  }

  -- the four parts of two sets
  pub below_whole : (i j : ℕ) (s t u v z : Search)
      → ComparesEach w e (NameDone w e i j) (AtOwn w i j) (λ f. AtNamed w i j f.response) (firsts_at w.sets i) s t
      → Searches w e (λ M. All (λ h. SearchDone w M e i h) (spreads_of w j)) (AtPartners w j (partner.Own i)) t u
      → Searches w e (λ M. All (λ h. SearchDone w M e j h) (spreads_of w i)) (AtPartners w i (partner.Own j)) u v
      → Searches w e (λ M. All (λ g. All (λ h. Pair M e g h) (spreads_of w j)) (spreads_of w i)) (AtPartners w i (partner.Each j)) v z
      → MeetsBelow w e i j s z
  below_whole i j s t u v z own forth back both =
      let all = own_whole i j s t own in
      record {
        done = did_map w _ _ (λ M h. (h.0.0.0, (h.0.0.1, h.0.1, h.1))) (did_then w _ _ (did_then w _ _ (did_then w _ _ all.done forth.done) back.done) both.done);
        real = adds_then w e _ (adds_then w e _ (adds_then w e _
            (adds_map w e _ _ (row_below_own w i j) all.real.adds)
            (adds_map w e _ _ (row_below_forth w i j) forth.real))
            (adds_map w e _ _ (row_below_back w i j) back.real))
            (adds_map w e _ _ (row_below_spreads w i j) both.real);
      }

  -- a fragment that a search has opened
  pub one_whole : (i g : ℕ) (s t u : Search)
      → ComparesEach w e (NameDone w e i (set_of w g)) (AtOwn w i (set_of w g)) (λ f. AtNamed w i (set_of w g) f.response) (firsts_at w.sets i) s t
      → Keeps t u → MeetsOne w e i g s u
  one_whole i g s t u own k =
      let all = own_whole i (set_of w g) s t own in
      record { done = did_kept w _ k all.done; real = subst (λ zs. Adds w e (AtOwn w i (set_of w g)) s.found.items zs) (sym k.found) all.real.adds }

  -- no fragment is left that a search opened
  pub opened_end : (D : ℕ → Search → Type 0) (P : Root → Type 0) (items : List ℕ) (s t : Search) → items ≡ [] → Keeps s t → Searches w e (λ M. All (λ h. D h M) items) P s t
  opened_end D P items s t h k = record {
    done = did_kept w _ k (searches_none D P items s h).done;
    real = subst (λ zs. Adds w e P s.found.items zs) (sym k.found) (adds_none w e P s.found.items);
  }

  -- all of them, noted and counted first
  pub search_opened : (i g : ℕ) (hs : List ℕ) (s t u : Search) → OpensCounted w e i g hs s t → Searches w e (λ M. All (λ h. OwnPairs w M e i (set_of w h)) hs) (AtSearch w i g) t u
      → MeetsSearch w e i g s u
  search_opened i g hs s t u o d = record {
    done = did_map w _ _ (λ M z. inr z) (did_opened w e i g hs o d.done);
    real = adds_from w e _ (o.counts.found ∙ o.opens.asks.found) d.real;
  }

  -- two fragments, noted first
  pub fragments_noted : (f g : ℕ) (s t u v z : Search) → (f ≡ g → ⊥) → (pair_in s e f g ≡ true → ⊥) → NotesPair f g e s t
      → ComparesEach w e (NameDone w e (set_of w f) (set_of w g)) (AtOwn w (set_of w f) (set_of w g)) (λ h. AtNamed w (set_of w f) (set_of w g) h.response) (firsts_at w.sets (set_of w f)) t u
      → (f < length w.fragments → Searches w e (λ M. All (λ h. Pair M e f h) (spreads_of w (set_of w g))) (AtFirst w f (set_of w g)) u v)
      → (g < length w.fragments → Searches w e (λ M. All (λ h. Pair M e h g) (spreads_of w (set_of w f))) (AtPartners w (set_of w f) (partner.Second g)) v z)
      → MeetsFragments w e f g s z
  fragments_noted f g s t u v z ne fresh n own first second lf lg =
      let all = own_whole (set_of w f) (set_of w g) t u own in
      record {
        done = did_fragments w e f g n ne lf lg fresh (did_map w _ _ (λ M h. (h.0.0, h.0.1, h.1)) (did_then w _ _ (did_then w _ _ all.done (first lf).done) (second lg).done));
        real = adds_from w e _ n.found (adds_then w e _ (adds_then w e _
            (adds_map w e _ _ (row_fragments w f g ne) all.real.adds)
            (adds_map w e _ _ (row_first w f g ne) (first lf).real))
            (adds_map w e _ _ (row_second w f g ne) (second lg).real));
      }

  pub did_before : (D : Search → Type 0) {s t u : Search} → Keeps s t → Did w D t u → Did w D s u
  did_before D {s} k d = did_map w _ _ (λ M z. z.1) (did_then w (λ M. Unit {0}) D (did_kept w (λ M. Unit {0}) k (did_none w (λ M. Unit {0}) s (λ M g. tt))) d)

  -- nothing that is spoken of changed before and after
  pub compares_kept : (D : Search → Type 0) (P Q : Root → Type 0) (s t u v : Search) → Keeps s t → Compares w e D P Q t u → Keeps u v → Compares w e D P Q s v
  compares_kept D P Q s t u v k d l = record {
    done = did_kept w D l (did_before D k d.done);
    real = subst (λ zs. AddsAll w e P Q zs v.found.items) k.found (subst (λ zs. AddsAll w e P Q t.found.items zs) (sym l.found) d.real);
  }

  pub searches_kept : (D : Search → Type 0) (P : Root → Type 0) (s t u v : Search) → Keeps s t → Searches w e D P t u → Keeps u v → Searches w e D P s v
  searches_kept D P s t u v k d l = record {
    done = did_kept w D l (did_before D k d.done);
    real = subst (λ zs. Adds w e P zs v.found.items) k.found (subst (λ zs. Adds w e P t.found.items zs) (sym l.found) d.real);
  }

  -- enough was found
  pub compares_full : (D : Search → Type 0) (P Q : Root → Type 0) (s : Search) → (HasRoom w s.found.items → ⊥) → Compares w e D P Q s s
  compares_full D P Q s full = record { done = did_full w D s full; real = all_full w e P Q s.found.items full }

  pub searches_full : (D : Search → Type 0) (P : Root → Type 0) (s : Search) → (HasRoom w s.found.items → ⊥) → Searches w e D P s s
  searches_full D P s full = record { done = did_full w D s full; real = adds_none w e P s.found.items }

pub keeps_self : (s : Search) → Keeps s s
keeps_self s = record { pairs = refl; searched = refl; found = refl; compared = refl; opened = refl; looked = refl; lists = refl; repeated = refl }

-- a field and one of a list
pub listed_row : (a : Entry) (list : List Entry) (b : Entry) (r : Root) → Contains list b → AtFields a b r → AtRest a list r
listed_row a list b r there at = (at.0, subst (λ (x : Entry). Contains list x) (sym at.1) there)

module _ (w : World) (e : Bool) where
  -- no field of a list is left
  pub list_end : (a : Entry) (list : List Entry) (k : ℕ) (s : Search) → length list ≤ k → MeetsList w e a list k s s
  list_end a list k s past = each_none w e (λ b M. Done w M e a b) (AtRest a list) (λ b. AtFields a b) (drop k list) s (drop_end list list k refl past)

  -- the next field of a list, and then the rest
  pub list_next : (a : Entry) (list : List Entry) (k : ℕ) (s t u : Search) → k < length list → MeetsFields w e a (get_or list k no_entry) s t
      → MeetsList w e a list (k + 1) t u → MeetsList w e a list k s u
  list_next a list k s t u less one more =
      let b = get_or list k no_entry in
      each_next w e (λ b M. Done w M e a b) (AtRest a list) (AtFields a b) (λ b. AtFields a b) b (drop (k + 1) list) (drop k list) s t u
      (drop_next list list k no_entry refl less) (λ r z. listed_row a list b r (Contains-get_or list k no_entry less) z) one more

  -- nothing that is spoken of changed before
  pub list_kept : (a : Entry) (list : List Entry) (k : ℕ) (s t u : Search) → Keeps s t → MeetsList w e a list k t u → MeetsList w e a list k s u
  list_kept a list k s t u keeps d = compares_kept w e _ _ _ s t u u keeps d (keeps_self u)

  pub both_kept : (left right : List Entry) (k : ℕ) (s t u : Search) → Keeps s t → MeetsBoth w e left right k t u → MeetsBoth w e left right k s u
  both_kept left right k s t u keeps d = compares_kept w e _ _ _ s t u u keeps d (keeps_self u)

  pub named_kept : (i j n : ℕ) (s t u : Search) → Keeps s t → MeetsNamed w e i j n t u → MeetsNamed w e i j n s u
  named_kept i j n s t u keeps d = compares_kept w e _ _ _ s t u u keeps d (keeps_self u)

  -- all that a field is compared with, where the others are known to merge with it
  pub others_whole : (a : Entry) (rest others : List Entry) (s t : Search) → AreOthers w e a rest others → MeetsList w e a others 0 s t
      → Compares w e (RowDone w e rest a) (AtRest a rest) (AtRest a rest) s t
  others_whole a rest others s t are d = record {
    done = did_map w _ _ (λ M z. others_done w e a rest others are M z) d.done;
    real = others_told w e a rest others are (all_told w e _ _ _ (λ r h. (r.right, h.1, (h.0, refl))) d.real);
  }

  -- no row is left
  pub both_end : (left right : List Entry) (k : ℕ) (s : Search) → length left ≤ k → MeetsBoth w e left right k s s
  both_end left right k s past = each_none w e (RowDone w e right) (AtLists left right) (λ a. AtRest a right) (drop k left) s (drop_end left left k refl past)

  -- the next row, and then the rest
  pub both_next : (left right : List Entry) (k : ℕ) (s t u : Search) → k < length left
      → (let a = get_or left k no_entry in Compares w e (RowDone w e right a) (AtRest a right) (AtRest a right) s t)
      → MeetsBoth w e left right (k + 1) t u → MeetsBoth w e left right k s u
  both_next left right k s t u less one more =
      let a = get_or left k no_entry in
      each_next w e (RowDone w e right) (AtLists left right) (AtRest a right) (λ a. AtRest a right) a (drop (k + 1) left) (drop k left) s t u
      (drop_next left left k no_entry refl less)
      (λ r h. (subst (λ (x : Entry). Contains left x) (sym h.0) (Contains-get_or left k no_entry less), h.1)) one more

  -- the fields of one response name of two sets, as two lists
  named_both : (i j n : ℕ) (s t : Search) → MeetsBoth w e (named n (own_of w i)) (named n (own_of w j)) 0 s t → MeetsNamed w e i j n s t
  named_both i j n s t d =
      let left = named n (own_of w i) in
      let right = named n (own_of w j) in
      record {
        done = did_map w _ _ (λ M z k f l. let a = get_or left k f in
            subst (λ (m : ℕ). All (λ b. Done w M e a b) (named m (own_of w j))) (sym (named_is n (own_of w i) a (Contains-get_or left k f l))) (z k f l)) d.done;
        real = all_told w e _ _ _ (λ r h. (r.left, named_in n (own_of w i) r.left h.0 h.1, (refl, named_in n (own_of w j) r.right h.2 (sym h.3 ∙ h.1))))
            (all_map w e (AtLists left right) (AtNamed w i j n) _ (λ r h. (
              named_own n (own_of w i) r.left h.0,
              named_is n (own_of w i) r.left h.0,
              named_own n (own_of w j) r.right h.1,
              named_is n (own_of w i) r.left h.0 ∙ sym (named_is n (own_of w j) r.right h.1),
            )) d.real);
      }

  pub both_named : (i j n : ℕ) (left right : List Entry) (s t : Search) → left ≡ named n (own_of w i) → right ≡ named n (own_of w j)
      → MeetsBoth w e left right 0 s t → MeetsNamed w e i j n s t
  both_named i j n left right s t is other d =
      named_both i j n s t (subst (λ ys. MeetsBoth w e (named n (own_of w i)) ys 0 s t) other (subst (λ xs. MeetsBoth w e xs right 0 s t) is d))

pub skipped : (w : World) (t : Task) (s : Search) → (HasRoom w s.found.items → ⊥) → ((a b : Entry) (n : ℕ) → t ≡ Close a b n → ⊥) → ((i n : ℕ) → t ≡ Mark i n → ⊥) → Meets w t s s
skipped w (With a j e n) s full close mark = compares_full w e _ _ _ s full
skipped w (Listed a list e n) s full close mark = compares_full w e _ _ _ s full
skipped w (Rows rows e k) s full close mark = λ knows. compares_full w e _ _ _ s full
skipped w (Own i j e k) s full close mark = compares_full w e _ _ _ s full
skipped w (Close a b n) s full close mark = absurd (close a b n refl)
skipped w (Opened i g e opening k) s full close mark = λ reached. searches_full w e _ _ s full
skipped w (Mark i n) s full close mark = absurd (mark i n refl)
skipped w (Spreads i p e k) s full close mark = λ there. searches_full w e _ _ s full
