-- The four directives that every schema has.
use Rattle.std.proofs.Common.{◌≡◌, ℕ, List, [], ◌∷◌, ◌++◌, true, not, ◌&&◌, ◌||◌, Option, Some, codes, map, refl, ap, subst, sym, ◌∙◌}
use Rattle.std.specs.List.{flat_map, list_all}
use Rattle.std.proofs.lemmas.Bool.{and_parts, and_from}
use Rattle.meta.specs.declared.kinds.MetaTypeOf.{MetaTypeOf}
use Rattle.schema_validation.specs.declared.directives.DirectiveType.{DirectiveType}
use Rattle.schema_validation.specs.Accepted.{Roots, IsAccepted, is_input_listed}
use Rattle.schema_validation.specs.Added.{DirectiveShape, argument_shape, directive_shape, standard_directives}
use Rattle.schema_validation.specs.Directives.{directive_name, directive_inputs}
use Rattle.schema_validation.specs.Named.{is_called, is_any_called, are_named, are_distinct}
use Rattle.schema_validation.specs.Names.{inputs_in, added_inputs}
use Rattle.schema_validation.proofs.Refusals.{all-back}
use Rattle.schema_validation.proofs.SwapLemmas.{shape_types, types-shape}

shape_name : DirectiveShape → Option (List ℕ)
shape_name s = Some s.name

shapes_inputs : List DirectiveShape → List (List ℕ)
shapes_inputs ss = flat_map (λ s. shape_types s.arguments) ss

module _ {S : Type 0} where
  any-shape : (n : List ℕ) (ds : List (DirectiveType S)) → is_any_called directive_name ds n ≡ is_any_called shape_name (map directive_shape ds) n
  unfolding shape_name
  any-shape n [] = refl
  any-shape n (d ∷ ds) = ap (λ r. is_called directive_name n d || r) (any-shape n ds)

  distinct-shape : (ds : List (DirectiveType S)) → are_distinct directive_name ds ≡ are_distinct shape_name (map directive_shape ds)
  unfolding shape_name
  distinct-shape [] = refl
  distinct-shape (d ∷ ds) =
      ap (λ b. not b && are_distinct directive_name ds) (any-shape (directive_shape d).name ds)
      ∙ ap (λ r. not (is_any_called shape_name (map directive_shape ds) (directive_shape d).name) && r) (distinct-shape ds)

  pub directives-named : (ds : List (DirectiveType S)) → are_named directive_name ds ≡ true
  directives-named [] = refl
  directives-named (d ∷ ds) = directives-named ds

  pub directives-distinct : (ds : List (DirectiveType S)) → map directive_shape ds ≡ standard_directives → are_distinct directive_name ds ≡ true
  unfolding shape_name
  directives-distinct ds e = distinct-shape ds ∙ ap (are_distinct shape_name) e

  inputs-shapes : (ds : List (DirectiveType S)) → directive_inputs ds ≡ shapes_inputs (map directive_shape ds)
  unfolding shapes_inputs
  inputs-shapes [] = refl
  inputs-shapes (d ∷ ds) =
      ap (λ l. l ++ directive_inputs ds) (types-shape d.arguments.items)
      ∙ ap (λ l. shape_types (map argument_shape d.arguments.items) ++ l) (inputs-shapes ds)

standard-inputs : shapes_inputs standard_directives ≡ codes "Boolean" ∷ codes "Boolean" ∷ codes "String" ∷ codes "String" ∷ []
unfolding shapes_inputs shape_types
standard-inputs = refl

pub directives-input : {S C : Type 0} (roots : Roots) (ts : List (MetaTypeOf S C)) (ds : List (DirectiveType S)) → IsAccepted roots ts → map directive_shape ds ≡ standard_directives → list_all (is_input_listed ts) (directive_inputs ds) ≡ true
directives-input roots ts ds a e =
    let p = is_input_listed ts in
    let both : list_all p added_inputs ≡ true = all-back p (flat_map inputs_in ts) added_inputs a.inputs_input in
    let string = and_parts (p (codes "String")) (list_all p (codes "Boolean" ∷ [])) both in
    let boolean = and_parts (p (codes "Boolean")) true string.1 in
    let tail : list_all p (codes "String" ∷ codes "String" ∷ []) ≡ true = and_from (p (codes "String")) (list_all p (codes "String" ∷ [])) string.0 (and_from (p (codes "String")) true string.0 refl) in
    ap (list_all p) (inputs-shapes ds ∙ ap shapes_inputs e ∙ standard-inputs)
    ∙ and_from (p (codes "Boolean")) (list_all p (codes "Boolean" ∷ codes "String" ∷ codes "String" ∷ [])) boolean.0
    (and_from (p (codes "Boolean")) (list_all p (codes "String" ∷ codes "String" ∷ [])) boolean.0 tail)

pub accepted-at : {S C : Type 0} (roots : Roots) (ts us : List (MetaTypeOf S C)) (q : List ℕ) (mu su : Option (List ℕ)) → IsAccepted roots ts → q ≡ roots.query → mu ≡ roots.mutation → su ≡ roots.subscription → us ≡ ts → IsAccepted (record { query = q; mutation = mu; subscription = su }) us
accepted-at roots ts us q mu su a e f g h =
    let same : roots ≡ record { query = q; mutation = mu; subscription = su } = λ i. record { query = sym e i; mutation = sym f i; subscription = sym g i } in
    subst (λ r. IsAccepted r us) same (subst (IsAccepted roots) (sym h) a)
