-- Nothing is told if and only if the schema is a valid type system and the directives of its text are used rightly.
use Rattle.std.proofs.Common.{◌≡◌, ◌↔◌, List, [], ◌∷◌, ◌++◌, arith, length, map, ap, refl, sym, ◌∙◌}
use Rattle.std.specs.List.{flat_map}
use Rattle.std.specs.List.Sorted.{IsPermutation}
use Rattle.std.proofs.lemmas.List.Sorted.{length_permutation}
use Rattle.graphql_reader.specs.declared.type_system.TypeSystemDefinition.{TypeSystemDefinition}
use Rattle.language_values.specs.ValuesPrinted.{printed_value}
use Rattle.sdl_directive_circles.specs.Circles.{HasNoDirectiveCircle}
use Rattle.sdl_directive_values.specs.Conforming.{HasConformingValues}
use Rattle.sdl_directive_values.specs.Faults.{reported, value_fault}
use Rattle.sdl_directives.proofs.Rightness.{iff_right}
use Rattle.sdl_directives.specs.Judged.{document_faults}
use Rattle.sdl_directives.specs.Right.{HasRightDirectives}
use Rattle.sdl_scalars.specs.Checks.{MayAnswer}
use Rattle.sdl_scalars.specs.SourceScalar.{source_str, source_text}
use Rattle.type_system.specs.All.{all_faults, directive_faults}
use Rattle.type_system_inputs.specs.Told.{circle_fields}
use Rattle.type_system_validity.proofs.Valid.{iff_definitions}
use Rattle.sdl_faults.specs.declared.located.LocatedFault.{LocatedFault}
use Rattle.sdl_faults.specs.Schema.{AreSchemaFaults, SourceSchema}
use Rattle.sdl_faults.specs.Text.{AreDirectiveFaults, TellsFaults}
use Rattle.sdl_faults.specs.Told.{ToldFault, told_circle, told_default, told_directive_circle, told_fault, told_given, told_use, told_value, told_values}
use Rattle.sdl_faults.specs.Valid.{IsValidSchema, IsValidText}

left_none : {X : Type 0} (xs ys : List X) → xs ++ ys ≡ [] → xs ≡ []
left_none [] ys e = refl
left_none (x ∷ xs) ys e = cc

right_none : {X : Type 0} (xs ys : List X) → xs ++ ys ≡ [] → ys ≡ []
right_none [] ys e = e
right_none (x ∷ xs) ys e = cc

none_mapped : {X Y : Type 0} (f : X → Y) (xs : List X) → map f xs ≡ [] → xs ≡ []
none_mapped f [] e = refl
none_mapped f (x ∷ xs) e = cc

no_length : {X : Type 0} (xs : List X) → length xs ≡ 0 → xs ≡ []
no_length [] e = refl
no_length (x ∷ xs) e = absurd (omega (arith, e))

-- a list in another order is empty where the one is
none_moved : {X : Type 0} (xs ys : List X) → IsPermutation xs ys → xs ≡ [] → ys ≡ []
none_moved xs ys moved e = no_length ys (length_permutation xs ys moved ∙ ap length e)

none_before : {X : Type 0} (xs ys : List X) → IsPermutation xs ys → ys ≡ [] → xs ≡ []
none_before xs ys moved e = no_length xs (sym (length_permutation xs ys moved) ∙ ap length e)

module _ (document : List TypeSystemDefinition) (schema : SourceSchema) (told : List ToldFault) (are : AreSchemaFaults document schema told) where
  valid_if_none : told ≡ [] → IsValidSchema schema
  valid_if_none e =
      let all : (are.faults ++ are.circles) ++ are.defaults ≡ [] = sym are.all ∙ e in
      let two : are.faults ++ are.circles ≡ [] = left_none (are.faults ++ are.circles) are.defaults all in
      let faults : are.faults ≡ [] = left_none are.faults are.circles two in
      let circles : are.circles ≡ [] = right_none are.faults are.circles two in
      let defaults : are.defaults ≡ [] = right_none (are.faults ++ are.circles) are.defaults all in
      let ds = are.are_faults.directives in
      let found = all_faults schema ++ flat_map directive_faults ds in
      record {
        system = record {
          definitions = (iff_definitions schema ds are.are_faults.are_directives.all).0 (none_mapped (told_fault document) found (sym are.are_faults.told_is ∙ faults));
          defaults = are.are_defaults.none.0 (none_mapped (told_default document) are.are_defaults.faults (sym are.are_defaults.told_is ∙ defaults));
        };
        circles = are.are_circles.found.none.0 (ap (map circle_fields) (none_mapped (told_circle document) are.are_circles.circles (sym are.are_circles.told_is ∙ circles)));
      }

  none_if_valid : IsValidSchema schema → told ≡ []
  none_if_valid v =
      let ds = are.are_faults.directives in
      let faults : are.faults ≡ [] = are.are_faults.told_is ∙ ap (map (told_fault document)) ((iff_definitions schema ds are.are_faults.are_directives.all).1 v.system.definitions) in
      let defaults : are.defaults ≡ [] = are.are_defaults.told_is ∙ ap (map (told_default document)) (are.are_defaults.none.1 v.system.defaults) in
      let circles : are.circles ≡ [] =
      are.are_circles.told_is ∙ ap (map (told_circle document)) (none_mapped circle_fields are.are_circles.circles (are.are_circles.found.none.1 v.circles)) in
      are.all ∙ ap (λ z. (z ++ are.circles) ++ are.defaults) faults ∙ ap (λ z. z ++ are.defaults) circles ∙ defaults

-- the directives of the document are used rightly
record AreRight (document standard : List TypeSystemDefinition) (schema : SourceSchema) : Type 0 where
  directives : HasRightDirectives document standard
  values : HasConformingValues schema MayAnswer (printed_value source_text source_str) document standard
  circles : HasNoDirectiveCircle document

module _ (document standard : List TypeSystemDefinition) (schema : SourceSchema) (told : List ToldFault) (are : AreDirectiveFaults document standard schema told) where
  right_if_none : told ≡ [] → AreRight document standard schema
  right_if_none e =
      let all : are.plain ++ are.given ≡ [] = sym are.all ∙ e in
      let plain : are.are_plain.uses ++ are.are_plain.circles ≡ [] = sym are.are_plain.all ∙ left_none are.plain are.given all in
      let uses : are.are_plain.uses ≡ [] = left_none are.are_plain.uses are.are_plain.circles plain in
      let circles : are.are_plain.circles ≡ [] = right_none are.are_plain.uses are.are_plain.circles plain in
      let given : are.given ≡ [] = right_none are.plain are.given all in
      let told_circles = are.are_plain.are_circles in
      record {
        directives = (iff_right document standard).0 (none_mapped told_use (document_faults document standard) (sym are.are_plain.are_uses ∙ uses));
        values = are.are_given.none.0 (none_mapped value_fault are.are_given.found (none_mapped told_given (reported are.are_given.found) (sym are.are_given.told_is ∙ given)));
        circles = told_circles.none.0 (none_mapped told_directive_circle told_circles.found (sym told_circles.told_is ∙ circles));
      }

  none_if_right : AreRight document standard schema → told ≡ []
  none_if_right h =
      let uses : are.are_plain.uses ≡ [] = are.are_plain.are_uses ∙ ap (map told_use) ((iff_right document standard).1 h.directives) in
      let told_circles = are.are_plain.are_circles in
      let circles : are.are_plain.circles ≡ [] = told_circles.told_is ∙ ap (map told_directive_circle) (told_circles.none.1 h.circles) in
      let given : are.given ≡ [] = are.are_given.told_is ∙ ap (λ z. map told_given (reported z)) (are.are_given.none.1 h.values) in
      are.all ∙ ap (λ z. z ++ are.given) (are.are_plain.all ∙ ap (λ z. z ++ are.are_plain.circles) uses ∙ circles) ∙ given

pub iff_valid : (document standard : List TypeSystemDefinition) (schema : SourceSchema) (told : List LocatedFault) → TellsFaults document standard schema told
    → (told ≡ []) ↔ IsValidText document standard schema
iff_valid document standard schema told tells =
    let first = tells.of_schema in
    let second = tells.of_directives in (
      λ e.
          let all : first ++ second ≡ [] = none_before _ _ tells.all (ap told_values e) in
          let right = right_if_none document standard schema second tells.are_of_directives (right_none first second all) in
          record {
            valid = valid_if_none document schema first tells.are_of_schema (left_none first second all);
            directives = right.directives;
            values = right.values;
            circles = right.circles;
          },
      λ v.
          let one = none_if_valid document schema first tells.are_of_schema v.valid in
          let two = none_if_right document standard schema second tells.are_of_directives (record { directives = v.directives; values = v.values; circles = v.circles }) in
          none_mapped told_value told (none_moved _ _ tells.all (ap (λ z. z ++ second) one ∙ two)),
    )
