-- The directives of a list that may stand once, directive by directive.
use Rattle.std.proofs.Common.{◌≡◌, ℕ, ◌+◌, ◌<◌, get_or, List, [], ◌∷◌, ◌++◌, map, take, length, cond, true, false, refl, ap, sym, ◌∙◌, arith}
use Rattle.std.specs.List.{flat_map}
use Rattle.std.proofs.lemmas.List.{append-nil, take_more, map-append}
use Rattle.std.proofs.lemmas.Grind.{flat_map-append}
use Rattle.language.specs.declared.tree.Directive.{Directive}
use Rattle.schema.specs.Catalog.{Catalog}
use Rattle.events.specs.Node.{Placed}
use Rattle.rules_support.specs.Names.{Named}
use Rattle.rules_support.specs.Repeats.{repeats}
use Rattle.rules_arguments.specs.UniqueDirectiveNames.{is_once, once_among, once_here, whole_name}
use Rattle.rules_arguments.specs.declared.unique_directive_names.Whole.{Whole}

module _ {S C : Type 0} (schema : Catalog S C) where
  next : (ds : List (Placed (Directive S))) (i : ℕ) (d e : Placed (Directive S)) → i < length ds → d ≡ get_or ds i e → once_among schema (take (i + 1) ds) ≡ once_among schema (take i ds) ++ once_here schema d
  next ds i d e h is =
      ap (once_among schema) (take_more ds i e h)
      ∙ flat_map-append (once_here schema) (take i ds) (get_or ds i e ∷ [])
      ∙ ap (λ ns. once_among schema (take i ds) ++ ns) (append-nil (once_here schema (get_or ds i e)) ∙ ap (once_here schema) (sym is))

  -- one that may stand once comes behind those that were met
  pub one_more : (ds : List (Placed (Directive S))) (i : ℕ) (d e : Placed (Directive S)) (old : List Whole) (w : Whole) → i < length ds → d ≡ get_or ds i e → map whole_name old ≡ once_among schema (take i ds)
      → is_once schema d ≡ true → whole_name w ≡ (d.item.name.item.now, d.span.start) → map whole_name (old ++ w ∷ []) ≡ once_among schema (take (i + 1) ds)
  one_more ds i d e old w h is met once named =
      map-append whole_name old (w ∷ [])
      ∙ ap (λ ns. ns ++ whole_name w ∷ []) met
      ∙ ap (λ n. once_among schema (take i ds) ++ n ∷ []) named
      ∙ ap (λ b. once_among schema (take i ds) ++ cond b ((d.item.name.item.now, d.span.start) ∷ []) []) (sym once)
      ∙ sym (next ds i d e h is)

  -- any other is passed over
  pub none_more : (ds : List (Placed (Directive S))) (i : ℕ) (d e : Placed (Directive S)) (old : List Whole) → i < length ds → d ≡ get_or ds i e → map whole_name old ≡ once_among schema (take i ds)
      → is_once schema d ≡ false → map whole_name old ≡ once_among schema (take (i + 1) ds)
  none_more ds i d e old h is met once =
      met
      ∙ sym (append-nil (once_among schema (take i ds)))
      ∙ ap (λ b. once_among schema (take i ds) ++ cond b ((d.item.name.item.now, d.span.start) ∷ []) []) (sym once)
      ∙ sym (next ds i d e h is)

  -- among fewer than two none stands again
  pub few_repeat : (message : List ℕ → List ℕ) (ds : List (Placed (Directive S))) → length ds < 2 → repeats message (once_among schema ds) ≡ []
  few_repeat message [] few = refl
  few_repeat message (d ∷ []) few =
      elim (is_once schema d) as (λ b. repeats message (cond b ((d.item.name.item.now, d.span.start) ∷ []) [] ++ []) ≡ []) [ true ↦ refl | false ↦ refl ]
  few_repeat message (d ∷ e ∷ ds) few = absurd (omega arith)
