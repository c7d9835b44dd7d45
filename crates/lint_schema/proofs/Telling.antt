-- What is told of faults, as a loop goes on, and that something is told.
use Rattle.std.proofs.Common.{◌≡◌, ◌∙◌, ℕ, ◌+◌, ◌<◌, arith, List, [], ◌∷◌, ◌++◌, Option, None, append_assoc, length, get_or, inl, inr, take, sym, subst, ap}
use Rattle.std.specs.List.{AllZip}
use Rattle.std.proofs.lemmas.List.{take_more}
use Rattle.std.proofs.lemmas.Slice.Zip.{all_zipped_more}
use Rattle.lint_sources.specs.declared.faults.Fault.{Fault}
use Rattle.lint_sources.specs.declared.sources.Joined.{Joined}
use Rattle.lint_sources.specs.declared.sources.Source.{Source}
use Rattle.lint_sources.specs.Places.{place_in}
use Rattle.lint_sources.specs.declared.sources.Place.{Place}
use Rattle.lint_sources.specs.Faults.{IsFault}
use Rattle.lint_sources.specs.Sources.{path_in}
use Rattle.lint_schema.specs.Told.{AddsFault, AddsFaults, AddsFaultsOf, AreToldAt, IsToldAt, IsToldInLine}
use Rattle.sdl_index.specs.declared.error.PlacedFault.{PlacedFault}
use Rattle.sdl_index.specs.declared.error.SchemaReadError.{SchemaReadError}
use Rattle.sdl_index.specs.declared.error.SchemaReadError.TheVariants as read

-- a fault is told with its place, or without
pub told_in_line : (sources : List Source) (place : Place) (said : Option (List ℕ)) (old new : List Fault) → AddsFault (IsToldInLine sources place said) old new → AddsFault (IsToldAt sources place said) old new
told_in_line sources place said old new h = record { fault = h.fault; told = inl h.told; all = h.all }

pub told_whole : (sources : List Source) (place : Place) (said : Option (List ℕ)) (path : List ℕ) (old new : List Fault)
    → path ≡ path_in sources place.file → AddsFault (IsFault path [] None said) old new → AddsFault (IsToldAt sources place said) old new
told_whole sources place said path old new is h = record { fault = h.fault; told = inr (subst (λ p. IsFault p [] None said h.fault) is h.told); all = h.all }

-- one more fault is told
pub told_more : (sources : List Source) (joined : Joined) (found : List PlacedFault) (k : ℕ) (placed : PlacedFault) (old before new : List Fault)
    → k < length found → placed ≡ get_or found k placed → AddsFault (IsToldAt sources (place_in joined placed.position) None) before new
    → AddsFaults sources joined (take k found) old before → AddsFaults sources joined (take (k + 1) found) old new
told_more sources joined found k placed old before new here is added h =
    let next : take (k + 1) found ≡ take k found ++ placed ∷ [] = take_more found k placed here ∙ ap (λ p. take k found ++ p ∷ []) (sym is) in
    record {
      more = h.more ++ added.fault ∷ [];
      told = subst (λ ps. AreToldAt sources joined ps (h.more ++ added.fault ∷ [])) (sym next)
          (all_zipped_more (λ p f. IsToldAt sources (place_in joined p.position) None f) (take k found) h.more placed added.fault h.told added.told);
      all = added.all ∙ ap (λ xs. xs ++ added.fault ∷ []) h.all ∙ append_assoc old h.more (added.fault ∷ []);
    }

some_behind : {X : Type 0} (xs ys : List X) → 0 < length ys → 0 < length (xs ++ ys)
some_behind [] ys h = h
some_behind (x ∷ xs) ys h = omega arith

zipped_some : {A B : Type 0} (R : A → B → Type 0) (xs : List A) (ys : List B) → 0 < length xs → AllZip R xs ys → 0 < length ys
zipped_some R [] ys h k = absurd (omega (arith, h))
zipped_some R (x ∷ xs) [] h k = absurd k
zipped_some R (x ∷ xs) (y ∷ ys) h k = omega arith

-- an error has a fault at least
pub told_some : (sources : List Source) (joined : Joined) (error : SchemaReadError) (old new : List Fault) → AddsFaultsOf sources joined error old new → 0 < length new
told_some sources joined (read.Syntax error) old new h = subst (λ xs. 0 < length xs) (sym h.all) (some_behind old (h.fault ∷ []) (omega arith))
told_some sources joined (read.Faults found) old new h =
    let more : 0 < length h.1.more = zipped_some (λ p f. IsToldAt sources (place_in joined p.position) None f) found.list.items h.1.more h.0 h.1.told in
    subst (λ xs. 0 < length xs) (sym h.1.all) (some_behind old h.1.more more)
told_some sources joined read.OutOfMemory old new h = absurd h
