-- The metadata and the modifiers of a type, level by level.
use Rattle.std.proofs.Common.{◌≡◌, ℕ, ◌-◌, List, [], ◌∷◌, ◌++◌, length, length-append, Option, Some, Bor, option_map, reverse, refl, ap, sym, ◌∙◌, arith}
use Rattle.std.specs.Prelude.{slice_get}
use Rattle.std.proofs.lemmas.List.{reverse-append, reverse-reverse}
use Rattle.std.specs.Prelude.{Box}
use Rattle.std.specs.declared.alloc.Global.{Global}
use Rattle.language_types.specs.declared.types.TypeModifier.{TypeModifier}
use Rattle.language_types.specs.declared.types.TypeModifier.TheVariants as m
use Rattle.language_types.specs.Types.{outermost}
use Rattle.meta.specs.declared.kinds.MetaTypeOf.{MetaTypeOf}
use Rattle.schema.specs.declared.model.types.TypeTypeOf.{TypeTypeOf}
use Rattle.schema.specs.declared.model.types.TypeTypeOf.TheVariants as v
use Rattle.schema.specs.declared.model.types.TypeTypeOf.TheFolds.{fold-roll-TypeTypeOf}
use Rattle.schema.specs.declared.model.types.TypeTypeOf.TheOpen.{TypeTypeOf-F}
use Rattle.schema.specs.Wrapped.{WrappedMeta, modifiers_of_items, plain_meta, wrap_meta, wrapped_layer, wrapped_of, items_of}

module _ {S C : Type 0} where
  pub wrapped-Concrete : (t : TypeTypeOf S C) (r : Bor (MetaTypeOf S C)) → t ≡ v.Concrete r → wrapped_of t ≡ plain_meta r.now
  wrapped-Concrete t r e = ap wrapped_of e ∙ ap wrapped_of (sym (v.rolls-Concrete r)) ∙ fold-roll-TypeTypeOf S C (WrappedMeta S C) wrapped_layer (TypeTypeOf-F.Concrete r)

  pub wrapped-NonNull : (t : TypeTypeOf S C) (b : Box (TypeTypeOf S C) Global) → t ≡ v.NonNull b → wrapped_of t ≡ wrap_meta m.NonNull (wrapped_of b.value)
  wrapped-NonNull t b e = ap wrapped_of e ∙ ap wrapped_of (sym (v.rolls-NonNull b)) ∙ fold-roll-TypeTypeOf S C (WrappedMeta S C) wrapped_layer (TypeTypeOf-F.NonNull b)

  pub wrapped-List : (t : TypeTypeOf S C) (b : Box (TypeTypeOf S C) Global) (size : Option ℕ) → t ≡ v.List b size → wrapped_of t ≡ wrap_meta (m.List size) (wrapped_of b.value)
  wrapped-List t b size e = ap wrapped_of e ∙ ap wrapped_of (sym (v.rolls-List b size)) ∙ fold-roll-TypeTypeOf S C (WrappedMeta S C) wrapped_layer (TypeTypeOf-F.List b size)

  pub items-NonNull : (w : WrappedMeta S C) → items_of (wrap_meta m.NonNull w) ≡ items_of w
  items-NonNull w = ap (λ ms. option_map (λ ns. record { meta = w.meta; modifiers = reverse ns }) (modifiers_of_items ms)) (reverse-append w.modifiers (m.NonNull ∷ []))

  pub items-List : (w : WrappedMeta S C) (size : Option ℕ) → items_of (wrap_meta (m.List size) w) ≡ Some w
  items-List w size =
      ap (λ ms. option_map (λ ns. record { meta = w.meta; modifiers = reverse ns }) (modifiers_of_items ms)) (reverse-append w.modifiers (m.List size ∷ []))
      ∙ ap (λ ns. Some (record { meta = w.meta; modifiers = ns })) (reverse-reverse w.modifiers)

push-get : (ms : List TypeModifier) (x : TypeModifier) → slice_get (ms ++ x ∷ []) (length ms) ≡ Some x
push-get [] x = refl
push-get (m ∷ ms) x = push-get ms x

pub outermost-push : (ms : List TypeModifier) (x : TypeModifier) → outermost (ms ++ x ∷ []) ≡ Some x
outermost-push ms x =
    let last : length (ms ++ x ∷ []) - 1 ≡ length ms = omega (arith, length-append ms (x ∷ [])) in
    ap (slice_get (ms ++ x ∷ [])) last ∙ push-get ms x
