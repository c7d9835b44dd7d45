-- What is told of a schema's faults, as a loop goes on.
use Rattle.std.proofs.Common.{◌≡◌, ◌∙◌, ℕ, ◌+◌, ◌<◌, ◌≤◌, arith, List, [], ◌∷◌, ◌++◌, append_assoc, length, length-append, get_or, take, refl, sym, subst, ap, inl, inr}
use Rattle.std.specs.List.{AllZip}
use Rattle.std.proofs.lemmas.List.{append-nil, take_more}
use Rattle.std.proofs.lemmas.Slice.Zip.{all_zipped_more}
use Rattle.graphql_reader.specs.declared.type_system.TypeSystemDefinition.{TypeSystemDefinition}
use Rattle.language_types.specs.declared.position.SourcePosition.{SourcePosition}
use Rattle.lint_sources.specs.declared.faults.Fault.{Fault}
use Rattle.lint_sources.specs.declared.sources.Joined.{Joined}
use Rattle.lint_sources.specs.declared.sources.Source.{Source}
use Rattle.lint_sources.specs.Places.{place_in}
use Rattle.lint_schema.specs.Judged.{AddsLocated, AddsMendedFaults, AddsRest, AddsTypeSystemFaults, IsToldLocated, IsTouchedBy}
use Rattle.lint_schema.specs.Told.{AddsFault, HasAllFurther, HasFurther}
use Rattle.sdl_faults.specs.Schema.{SourceSchema}
use Rattle.sdl_faults.specs.Valid.{IsValidSchema}
use Rattle.language_types.specs.Names.{is_among}
use Rattle.sdl_index.specs.declared.error.Faults.{Faults}
use Rattle.sdl_index.specs.declared.error.PlacedFault.{PlacedFault}
use Rattle.sdl_index.specs.declared.error.SchemaReadError.{SchemaReadError}
use Rattle.sdl_index.specs.declared.error.SchemaReadError.TheVariants as read
use Rattle.sdl_faults.specs.declared.located.LocatedFault.{LocatedFault}
use Rattle.sdl_mending.specs.declared.mended.Mended.{Mended}
use Rattle.sdl_mending.specs.declared.touched.Touched.{Touched}
use Rattle.sdl_mending.specs.Touched.{has_type, touched_types}

-- one more fault is told
pub located_more : (sources : List Source) (joined : Joined) (found : List LocatedFault) (k : ℕ) (located : LocatedFault) (old before new : List Fault)
    → k < length found → located ≡ get_or found k located → AddsFault (IsToldLocated sources joined located) before new
    → AddsLocated sources joined (take k found) old before → AddsLocated sources joined (take (k + 1) found) old new
located_more sources joined found k located old before new here is added h =
    let next : take (k + 1) found ≡ take k found ++ located ∷ [] = take_more found k located here ∙ ap (λ p. take k found ++ p ∷ []) (sym is) in
    record {
      more = h.more ++ added.fault ∷ [];
      told = subst (λ ps. AllZip (IsToldLocated sources joined) ps (h.more ++ added.fault ∷ [])) (sym next)
          (all_zipped_more (IsToldLocated sources joined) (take k found) h.more located added.fault h.told added.told);
      all = added.all ∙ ap (λ xs. xs ++ added.fault ∷ []) h.all ∙ append_assoc old h.more (added.fault ∷ []);
    }

further_end : (sources : List Source) (joined : Joined) (ps : List SourcePosition) (p : SourcePosition) (old before new : Fault) → HasAllFurther sources joined ps old before
    → HasFurther sources (place_in joined p) before new → HasAllFurther sources joined (ps ++ p ∷ []) old new
further_end sources joined [] p old before new is more = (new, subst (λ f. HasFurther sources (place_in joined p) f new) is more, refl)
further_end sources joined (q ∷ ps) p old before new (between, first, rest) more = (between, first, further_end sources joined ps p between before new rest more)

-- one further place more
pub further_more : (sources : List Source) (joined : Joined) (others : List SourcePosition) (k : ℕ) (p d : SourcePosition) (old before new : Fault)
    → k < length others → p ≡ get_or others k d → HasAllFurther sources joined (take k others) old before
    → HasFurther sources (place_in joined p) before new → HasAllFurther sources joined (take (k + 1) others) old new
further_more sources joined others k p d old before new here is h more =
    let next : take (k + 1) others ≡ take k others ++ p ∷ [] = take_more others k d here ∙ ap (λ q. take k others ++ q ∷ []) (sym is) in
    subst (λ ps. HasAllFurther sources joined ps old new) (sym next) (further_end sources joined (take k others) p old before new h more)

no_more : {X : Type 0} (xs : List X) → length xs ≤ 0 → xs ≡ []
no_more [] h = refl
no_more (x ∷ xs) h = absurd (omega (arith, h))

zipped_none : {A B : Type 0} (R : A → B → Type 0) (xs : List A) (ys : List B) → AllZip R xs ys → ys ≡ [] → xs ≡ []
zipped_none R [] ys h e = refl
zipped_none R (x ∷ xs) [] h e = absurd h
zipped_none R (x ∷ xs) (y ∷ ys) h e = cc

-- what was there stays
pub more_stay : (old new more : List Fault) → new ≡ old ++ more → 0 < length old → 0 < length new
more_stay old new more all some = omega (arith, some, ap length all, length-append old more)

-- what is left of definitions was told
pub left_told : (sources : List Source) (joined : Joined) (document standard : List TypeSystemDefinition) (error : SchemaReadError) (faults : Faults)
    (reasons : List PlacedFault) (touched : Touched) (mended : Mended) (old new : List Fault)
    → error ≡ read.Faults faults → reasons ≡ faults.list.items → ((name : List ℕ) → has_type touched name ≡ is_among (touched_types document reasons) name)
    → mended.touched ≡ touched → AddsMendedFaults sources joined document standard mended old new → AddsRest sources joined document standard error old new
left_told sources joined document standard error faults reasons touched mended old new is all by same adds =
    let touches : IsTouchedBy document (read.Faults faults) mended.touched =
    λ name. ap (λ t. has_type t name) same ∙ by name ∙ ap (λ rs. is_among (touched_types document rs) name) all in
    inl (mended, subst (λ e. IsTouchedBy document e mended.touched) (sym is) touches, adds)

-- also where definitions are no schema, whatever else is wrong with them
pub rest_stays : (sources : List Source) (joined : Joined) (document standard : List TypeSystemDefinition) (error : SchemaReadError) (old new : List Fault)
    → AddsRest sources joined document standard error old new → 0 < length old → 0 < length new
rest_stays sources joined document standard error old new (inl h) some = more_stay old new h.2.adds.more h.2.adds.all some
rest_stays sources joined document standard error old new (inr h) some = more_stay old new h.adds.more h.adds.all some

-- where nothing was added
none_added : (old more new : List Fault) → new ≡ old ++ more → length new ≤ length old → more ≡ []
none_added old more new all h = no_more more (omega (arith, h, ap length all, length-append old more))

-- then the schema is a valid type system
pub none_judged : (sources : List Source) (joined : Joined) (document standard : List TypeSystemDefinition) (schema : SourceSchema) (old new : List Fault)
    → AddsTypeSystemFaults sources joined document standard schema old new → length new ≤ length old → (new ≡ old) × IsValidSchema schema
none_judged sources joined document standard schema old new h le =
    let adds = h.adds in
    let none : adds.more ≡ [] = none_added old adds.more new adds.all le in
    let found : h.found ≡ [] = zipped_none (IsToldLocated sources joined) h.found adds.more adds.told none in
    (adds.all ∙ ap (λ z. old ++ z) none ∙ append-nil old, (h.valid.0 found).valid)
