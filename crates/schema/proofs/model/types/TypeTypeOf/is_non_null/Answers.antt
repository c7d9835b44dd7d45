use Rattle.std.proofs.Common.{◌≡◌, Some, refl, ap, ◌∙◌}
use Rattle.language_types.specs.declared.types.TypeModifier.TheVariants as m
use Rattle.language_types.specs.Types.{outermost}
use Rattle.schema.specs.Wrapped.{wrapped_of}
use Rattle.schema.proofs.WrappedLemmas.{wrapped-NonNull, wrapped-List, outermost-push}
use Rattle.schema.proofs.model.types.TypeTypeOf.is_non_null.Goals as goal

pub returns-in-NonNull : goal.returns-in-NonNull
returns-in-NonNull g c =
    let b = c.in-NonNull.field-0 in
    (λ h. ap (λ w. outermost w.modifiers) (wrapped-NonNull c.args.self.now b c.in-NonNull.is) ∙ outermost-push (wrapped_of b.value).modifiers m.NonNull, λ h. refl)

pub returns-in-List : goal.returns-in-List
returns-in-List g c =
    let b = c.in-List.field-0 in
    let list : outermost (wrapped_of c.args.self.now).modifiers ≡ Some (m.List c.in-List.field-1) = ap (λ w. outermost w.modifiers) (wrapped-List c.args.self.now b c.in-List.field-1 c.in-List.is) ∙ outermost-push (wrapped_of b.value).modifiers (m.List c.in-List.field-1) in
    (λ h. cc, λ h. cc)
