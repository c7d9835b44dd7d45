-- What lists and objects that wait hold, as one more is put on the list.
use Rattle.std.proofs.Common.{◌≡◌, ◌+◌, ◌*◌, ◌<◌, ℕ, List, [], ◌∷◌, ◌++◌, reverse, sym, ap, ◌∙◌, arith, Vec, Bor, append_assoc}
use Rattle.std.specs.List.{flat_map, sum_by}
use Rattle.std.proofs.lemmas.List.{reverse-append}
use Rattle.std.proofs.lemmas.List.Concat.{flat_map-cons}
use Rattle.std.proofs.lemmas.List.Sums.{sum_by_push, sum_by-cons}
use Rattle.std.specs.declared.alloc.Global.{Global}
use Rattle.language_types.specs.declared.position.Span.{Span}
use Rattle.language_types.specs.declared.position.Spanning.{Spanning}
use Rattle.language_values.specs.declared.value.InputValue.{InputValue}
use Rattle.language_values.specs.declared.value.InputValue.TheVariants as v
use Rattle.language_values.specs.declared.value.Rest.{Rest}
use Rattle.language_values.specs.declared.value.Rest.TheVariants.{Items, Entries}
use Rattle.language_values.specs.Values.{Entry, variables_of, variables_of_all, variables_of_object}
use Rattle.language_values.specs.ValuesInside.{values_inside}
use Rattle.language_values.specs.ValuesLeft.{variables_left, variables_waiting, values_left, values_waiting}
use Rattle.language_values.proofs.InsideLaws.{inside-List, inside-Object}
use Rattle.language_values.proofs.ValueLemmas.{variables_of-at-List, variables_of-at-Object}

module _ {S : Type 0} where
  -- what is left after the first value
  pub split_items : (xs ys : List (Spanning (InputValue S) Span)) (x : Spanning (InputValue S) Span) → xs ≡ x ∷ ys → variables_of_all xs ≡ variables_of x.item ++ variables_of_all ys
  split_items xs ys x e = ap variables_of_all e ∙ flat_map-cons (λ w. variables_of w.item) x ys

  pub split_entries : (xs ys : List (Entry (InputValue S))) (x : Entry (InputValue S)) → xs ≡ x ∷ ys → variables_of_object xs ≡ variables_of x.1.item ++ variables_of_object ys
  split_entries xs ys x e = ap variables_of_object e ∙ flat_map-cons (λ w. variables_of w.1.item) x ys

  pub split_items_inside : (xs ys : List (Spanning (InputValue S) Span)) (x : Spanning (InputValue S) Span) → xs ≡ x ∷ ys → sum_by (λ w. values_inside w.item) xs ≡ values_inside x.item + sum_by (λ w. values_inside w.item) ys
  split_items_inside xs ys x e = ap (λ l. sum_by (λ w. values_inside w.item) l) e ∙ sum_by-cons (λ w. values_inside w.item) x ys

  pub split_entries_inside : (xs ys : List (Entry (InputValue S))) (x : Entry (InputValue S)) → xs ≡ x ∷ ys → sum_by (λ w. values_inside w.1.item) xs ≡ values_inside x.1.item + sum_by (λ w. values_inside w.1.item) ys
  split_entries_inside xs ys x e = ap (λ l. sum_by (λ w. values_inside w.1.item) l) e ∙ sum_by-cons (λ w. values_inside w.1.item) x ys

  -- what is inside a list or an object
  pub left_of_list : (w : InputValue S) (xs : Vec (Spanning (InputValue S) Span) Global) (r : Bor (List (Spanning (InputValue S) Span))) → w ≡ v.List xs → r.now ≡ xs.items → variables_of w ≡ variables_left (Items r)
  left_of_list w xs r e h = variables_of-at-List w xs e ∙ ap variables_of_all (sym h)

  pub left_of_object : (w : InputValue S) (xs : Vec (Entry (InputValue S)) Global) (r : Bor (List (Entry (InputValue S)))) → w ≡ v.Object xs → r.now ≡ xs.items → variables_of w ≡ variables_left (Entries r)
  left_of_object w xs r e h = variables_of-at-Object w xs e ∙ ap variables_of_object (sym h)

  pub inside_list : (w : InputValue S) (xs : Vec (Spanning (InputValue S) Span) Global) (r : Bor (List (Spanning (InputValue S) Span))) → w ≡ v.List xs → r.now ≡ xs.items → values_inside w ≡ 1 + values_left (Items r)
  inside_list w xs r e h = ap values_inside e ∙ inside-List xs ∙ ap (λ l. 1 + sum_by (λ u. values_inside u.item) l) (sym h)

  pub inside_object : (w : InputValue S) (xs : Vec (Entry (InputValue S)) Global) (r : Bor (List (Entry (InputValue S)))) → w ≡ v.Object xs → r.now ≡ xs.items → values_inside w ≡ 1 + values_left (Entries r)
  inside_object w xs r e h = ap values_inside e ∙ inside-Object xs ∙ ap (λ l. 1 + sum_by (λ u. values_inside u.1.item) l) (sym h)

  pub waiting_push : (ws : List (Rest S)) (w : Rest S) → variables_waiting (ws ++ w ∷ []) ≡ variables_left w ++ variables_waiting ws
  waiting_push ws w = ap (λ us. flat_map variables_left us) (reverse-append ws (w ∷ [])) ∙ flat_map-cons variables_left w (reverse ws)

  pub values_push : (ws : List (Rest S)) (w : Rest S) → values_waiting (ws ++ w ∷ []) ≡ values_waiting ws + (1 + 2 * values_left w)
  values_push ws w = sum_by_push (λ u. 1 + 2 * values_left u) ws w

  -- what is inside a value is put on the list
  pub put : (v : InputValue S) (w : Rest S) (old new : List (Rest S)) (found : List (List ℕ)) → variables_of v ≡ variables_left w → new ≡ old ++ w ∷ []
      → found ++ variables_waiting new ≡ found ++ (variables_of v ++ variables_waiting old)
  put v w old new found e k = ap (λ z. found ++ z) (ap variables_waiting k ∙ waiting_push old w ∙ ap (λ z. z ++ variables_waiting old) (sym e))

  pub put_less : (v : InputValue S) (w : Rest S) (old new : List (Rest S)) → values_inside v ≡ 1 + values_left w → new ≡ old ++ w ∷ [] → values_waiting new < 2 * values_inside v + values_waiting old
  put_less v w old new e k = omega (arith, e, ap values_waiting k, values_push old w)

  pub told : (v : InputValue S) (name : List ℕ) (old new : List (List ℕ)) (rest : List (List ℕ)) → variables_of v ≡ name ∷ [] → new ≡ old ++ name ∷ [] → new ++ rest ≡ old ++ (variables_of v ++ rest)
  told v name old new rest e k = ap (λ z. z ++ rest) (k ∙ ap (λ z. old ++ z) (sym e)) ∙ append_assoc old (variables_of v) rest

  -- one is taken off the list with its first value, and the others go back
  pub taken : (ws rest put_back new : List (Rest S)) (w o : Rest S) (v : InputValue S) (found more all : List (List ℕ)) → variables_left w ≡ variables_of v ++ variables_left o → ws ≡ rest ++ w ∷ [] → put_back ≡ rest ++ o ∷ []
      → found ++ variables_waiting ws ≡ all → more ++ variables_waiting new ≡ found ++ (variables_of v ++ variables_waiting put_back) → more ++ variables_waiting new ≡ all
  taken ws rest put_back new w o v found more all e h k i j =
      j
      ∙ ap (λ z. found ++ (variables_of v ++ z)) (ap variables_waiting k ∙ waiting_push rest o)
      ∙ ap (λ z. found ++ z) (sym (append_assoc (variables_of v) (variables_left o) (variables_waiting rest)) ∙ ap (λ z. z ++ variables_waiting rest) (sym e) ∙ sym (waiting_push rest w) ∙ sym (ap variables_waiting h))
      ∙ i

  pub taken_less : (ws rest put_back new : List (Rest S)) (w o : Rest S) (v : InputValue S) → values_left w ≡ values_inside v + values_left o → ws ≡ rest ++ w ∷ [] → put_back ≡ rest ++ o ∷ []
      → values_waiting new < 2 * values_inside v + values_waiting put_back → values_waiting new < values_waiting ws
  taken_less ws rest put_back new w o v e h k j = omega (arith, j, e, ap values_waiting h, values_push rest w, ap values_waiting k, values_push rest o)

  -- one with nothing left has none
  pub dropped : (ws rest : List (Rest S)) (w : Rest S) (found all : List (List ℕ)) → variables_left w ≡ [] → ws ≡ rest ++ w ∷ [] → found ++ variables_waiting ws ≡ all → found ++ variables_waiting rest ≡ all
  dropped ws rest w found all e h i = ap (λ z. found ++ z) (sym (ap variables_waiting h ∙ waiting_push rest w ∙ ap (λ z. z ++ variables_waiting rest) e)) ∙ i
