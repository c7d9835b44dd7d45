-- What a list and an object stand for, in one pass over what they hold.
use Rattle.std.proofs.Common.{◌≡◌, ◌∙◌, List, [], ◌∷◌, map, Vec, String, refl, ap, sym}
use Rattle.std.specs.declared.alloc.Global.{Global}
use Rattle.language_types.specs.declared.position.Span.{Span}
use Rattle.language_types.specs.declared.position.Spanning.{Spanning}
use Rattle.language_values.specs.declared.value.InputValue.{InputValue, fold-roll-InputValue}
use Rattle.language_values.specs.declared.value.InputValue.TheVariants as v
use Rattle.language_values.specs.declared.value.InputValue.TheOpen.{InputValue-F}
use Rattle.sdl_scalars.specs.declared.scalar.SourceScalar.{SourceScalar}
use Rattle.value_reader.specs.Machine.{items_of, fields_of}
use Rattle.value_reader.specs.Seen.{Spanless, spanned, entry_spanned, value_layer, content_seen, values_seen, entries_seen}
use Rattle.value_reader.specs.Values.{list, object}

map_twice : {A B C : Type 0} (f : B → C) (h : A → B) (xs : List A) → map f (map h xs) ≡ map (λ x. f (h x)) xs
map_twice f h [] = refl
map_twice f h (x ∷ xs) = ap (λ ys. f (h x) ∷ ys) (map_twice f h xs)

pub list_seen : (vs : Vec (Spanning (InputValue SourceScalar) Span) Global) (span : Span) → content_seen (v.List vs) span ≡ list (items_of (values_seen vs)) span
list_seen vs span =
    ap (λ x. content_seen x span) (sym (v.rolls-List vs))
    ∙ ap (λ (f : Spanless). f span) (fold-roll-InputValue SourceScalar Spanless value_layer (InputValue-F.List vs))
    ∙ ap (λ xs. list (items_of xs) span) (map_twice spanned _ vs.items)

pub object_seen : (es : Vec (Spanning (String Global) Span × Spanning (InputValue SourceScalar) Span) Global) (span : Span) → content_seen (v.Object es) span ≡ object (fields_of (entries_seen es)) span
object_seen es span =
    ap (λ x. content_seen x span) (sym (v.rolls-Object es))
    ∙ ap (λ (f : Spanless). f span) (fold-roll-InputValue SourceScalar Spanless value_layer (InputValue-F.Object es))
    ∙ ap (λ xs. object (fields_of xs) span) (map_twice entry_spanned _ es.items)
