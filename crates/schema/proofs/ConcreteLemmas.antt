-- The metadata of a type without modifiers.
use Rattle.std.proofs.Common.{◌≡◌, Some, Option, option_map, Bor, sym, ap, ◌∙◌}
use Rattle.meta.specs.declared.kinds.MetaTypeOf.{MetaTypeOf}
use Rattle.schema.specs.declared.model.types.TypeTypeOf.{out-roll-TypeTypeOf}
use Rattle.schema.specs.declared.model.types.TypeTypeOf.TheVariants as v
use Rattle.schema.specs.declared.model.types.TypeTypeOf.TheOpen.{TypeTypeOf-F}
use Rattle.schema.specs.Concrete.{concrete_of, concrete_layer}

pub concrete_of-Concrete : {S C : Type 0} (r : Bor (MetaTypeOf S C)) → concrete_of (v.Concrete r) ≡ Some r.now
concrete_of-Concrete {S} {C} r = ap concrete_of (sym (v.rolls-Concrete r)) ∙ ap concrete_layer (out-roll-TypeTypeOf S C (TypeTypeOf-F.Concrete r))

-- at metadata that was found
pub concrete-found : {S C : Type 0} (r : Bor (MetaTypeOf S C)) (o : Option (MetaTypeOf S C)) → Some r.now ≡ o → Some (concrete_of (v.Concrete r)) ≡ option_map (λ t. Some t) o
concrete-found r o e = ap (λ x. Some x) (concrete_of-Concrete r) ∙ ap (option_map (λ t. Some t)) e
