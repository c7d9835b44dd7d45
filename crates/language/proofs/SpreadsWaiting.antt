-- What sets that wait have, as one more is put on the list.
use Rattle.std.proofs.Common.{◌≡◌, ◌+◌, ◌*◌, ◌<◌, ℕ, List, [], ◌∷◌, ◌++◌, reverse, sym, ap, ◌∙◌, arith, Bor, append_assoc}
use Rattle.std.specs.List.{flat_map}
use Rattle.std.proofs.lemmas.List.Sums.{sum_by_push, sum_by-cons}
use Rattle.language.specs.declared.tree.Selection.{Selection}
use Rattle.language.specs.SelectionsInside.{selections_inside, all_inside}
use Rattle.language.specs.Spreads.{spreads_of, spreads_of_all}
use Rattle.language.specs.SpreadsWaiting.{spreads_waiting, selections_waiting}
use Rattle.std.proofs.lemmas.List.{reverse-append}
use Rattle.std.proofs.lemmas.List.Concat.{flat_map-cons}

abbrev pub Waiting : Type 0 → Type 0
Waiting S = List (Bor (List (Selection S)))

module _ {S : Type 0} where
  pub waiting_push : (ws : Waiting S) (w : Bor (List (Selection S))) → spreads_waiting (ws ++ w ∷ []) ≡ spreads_of_all w.now ++ spreads_waiting ws
  waiting_push ws w = ap (λ us. flat_map (λ u. spreads_of_all u.now) us) (reverse-append ws (w ∷ [])) ∙ flat_map-cons (λ u. spreads_of_all u.now) w (reverse ws)

  pub selections_push : (ws : Waiting S) (w : Bor (List (Selection S))) → selections_waiting (ws ++ w ∷ []) ≡ selections_waiting ws + (1 + 2 * all_inside w.now)
  selections_push ws w = sum_by_push (λ u. 1 + 2 * all_inside u.now) ws w

  -- a set is put on the list, which is all that the selection has
  pub put : (s : Selection S) (set : List (Selection S)) (old new : Waiting S) (w : Bor (List (Selection S))) (found : List (List ℕ)) → spreads_of s ≡ spreads_of_all set → w.now ≡ set → new ≡ old ++ w ∷ []
      → found ++ spreads_waiting new ≡ found ++ (spreads_of s ++ spreads_waiting old)
  put s set old new w found e h k = ap (λ z. found ++ z) (ap spreads_waiting k ∙ waiting_push old w ∙ ap (λ z. spreads_of_all z ++ spreads_waiting old) h ∙ ap (λ z. z ++ spreads_waiting old) (sym e))

  pub put_less : (s : Selection S) (set : List (Selection S)) (old new : Waiting S) (w : Bor (List (Selection S))) → selections_inside s ≡ 1 + all_inside set → w.now ≡ set → new ≡ old ++ w ∷ []
      → selections_waiting new < 2 * selections_inside s + selections_waiting old
  put_less s set old new w e h k = omega (arith, e, ap all_inside h, ap selections_waiting k, selections_push old w)

  pub told : (s : Selection S) (name : List ℕ) (old new : List (List ℕ)) (rest : List (List ℕ)) → spreads_of s ≡ name ∷ [] → new ≡ old ++ name ∷ [] → new ++ rest ≡ old ++ (spreads_of s ++ rest)
  told s name old new rest e k = ap (λ z. z ++ rest) (k ∙ ap (λ z. old ++ z) (sym e)) ∙ append_assoc old (spreads_of s) rest

  -- a set that is taken off the list has its first selection, and the others go back
  split_spreads : (w o : Bor (List (Selection S))) (s : Selection S) → w.now ≡ s ∷ o.now → spreads_of_all w.now ≡ spreads_of s ++ spreads_of_all o.now
  split_spreads w o s e = ap spreads_of_all e ∙ flat_map-cons spreads_of s o.now

  split_inside : (w o : Bor (List (Selection S))) (s : Selection S) → w.now ≡ s ∷ o.now → all_inside w.now ≡ selections_inside s + all_inside o.now
  split_inside w o s e = ap all_inside e ∙ sum_by-cons selections_inside s o.now

  pub taken : (ws rest put_back new : Waiting S) (w o : Bor (List (Selection S))) (s : Selection S) (found more all : List (List ℕ)) → w.now ≡ s ∷ o.now → ws ≡ rest ++ w ∷ [] → put_back ≡ rest ++ o ∷ []
      → found ++ spreads_waiting ws ≡ all → more ++ spreads_waiting new ≡ found ++ (spreads_of s ++ spreads_waiting put_back) → more ++ spreads_waiting new ≡ all
  taken ws rest put_back new w o s found more all e h k i j =
      j
      ∙ ap (λ z. found ++ (spreads_of s ++ z)) (ap spreads_waiting k ∙ waiting_push rest o)
      ∙ ap (λ z. found ++ z) (sym (append_assoc (spreads_of s) (spreads_of_all o.now) (spreads_waiting rest)) ∙ ap (λ z. z ++ spreads_waiting rest) (sym (split_spreads w o s e)) ∙ sym (waiting_push rest w) ∙ sym (ap spreads_waiting h))
      ∙ i

  pub taken_less : (ws rest put_back new : Waiting S) (w o : Bor (List (Selection S))) (s : Selection S) → w.now ≡ s ∷ o.now → ws ≡ rest ++ w ∷ [] → put_back ≡ rest ++ o ∷ []
      → selections_waiting new < 2 * selections_inside s + selections_waiting put_back → selections_waiting new < selections_waiting ws
  taken_less ws rest put_back new w o s e h k j = omega (arith, j, ap selections_waiting h, selections_push rest w, ap selections_waiting k, selections_push rest o, split_inside w o s e)

  -- an empty set has none
  pub dropped : (ws rest : Waiting S) (w : Bor (List (Selection S))) (found all : List (List ℕ)) → w.now ≡ [] → ws ≡ rest ++ w ∷ [] → found ++ spreads_waiting ws ≡ all → found ++ spreads_waiting rest ≡ all
  dropped ws rest w found all e h i = ap (λ z. found ++ z) (sym (ap spreads_waiting h ∙ waiting_push rest w ∙ ap (λ z. spreads_of_all z ++ spreads_waiting rest) e)) ∙ i
