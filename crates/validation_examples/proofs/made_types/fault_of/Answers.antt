use Rattle.std.proofs.Common.{◌≡◌, ◌∙◌, ◌||◌, Bool, true, false, List, [], ◌∷◌, Option, Some, None, ap, cond, refl, sym}
use Rattle.std.specs.Prelude.{find}
use Rattle.std.specs.List.{list_any}
use Rattle.language_types.specs.Types.{shape}
use Rattle.schema_validation.specs.Accepted.{is_listed, is_named}
use Rattle.schema.specs.Catalog.{type_in}
use Rattle.validation_examples.proofs.made_types.fault_of.Goals as goal

-- where none passes a test, none is found by it
none_step : {A : Type 0} (b rest : Bool) (x : A) (found : Option A) → (b || rest) ≡ false → (rest ≡ false → found ≡ None) → cond b (Some x) found ≡ None
none_step true rest x found e h = cc
none_step false rest x found e h = h e

none_found : {A : Type 0} (test : A → Bool) (xs : List A) → list_any test xs ≡ false → find test xs ≡ None
none_found test [] e = refl
none_found test (x ∷ xs) e = none_step (test x) (list_any test xs) x (find test xs) e (none_found test xs)

pub validate_literal_value-requires : goal.validate_literal_value-requires
validate_literal_value-requires g c = record { known = (_, c.in_ok-made.ensures.meta) }

pub returns-then-not-is_known : goal.returns-then-not-is_known
returns-then-not-is_known g c =
    let schema = c.args.schema.now in
    let name : c.innermost_name.result.now ≡ (shape c.args.wanted.now).name = c.innermost_name.ensures ∙ ap (λ t. t.name) c.as_borrowed-named.ensures in
    let unknown : is_listed schema.types (shape c.args.wanted.now).name ≡ false = ap (is_listed schema.types) (sym name) ∙ sym c.is_known.ensures ∙ c.if-not-is_known.true in
    let none : type_in (shape c.args.wanted.now).name schema ≡ None = none_found (is_named (shape c.args.wanted.now).name) schema.types unknown in
    rw none c.in_ok-from_str.ensures.ok
