use Rattle.std.proofs.Common.{◌≡◌, false, ap, refl, sym}
use Rattle.meta.specs.declared.enums.EnumMetaOf.{EnumMetaOf}
use Rattle.meta.specs.declared.kinds.MetaTypeOf.{MetaTypeOf}
use Rattle.meta.specs.declared.kinds.MetaTypeOf.TheVariants as k
use Rattle.literals.specs.Judged.{is_enum_meta}
use Rattle.literals.proofs.judged.is_enum.Goals as goal

other_kind : {S C : Type 0} (meta : MetaTypeOf S C) → ((x : EnumMetaOf C) → meta ≡ k.Enum x → ⊥) → false ≡ is_enum_meta meta
other_kind (k.Enum x) none = absurd (none x refl)
other_kind _ none = refl

pub returns-in-Enum : goal.returns-in-Enum
returns-in-Enum g c = sym (ap is_enum_meta c.in-Enum.is)

pub returns-in_default : goal.returns-in_default
returns-in_default g c = other_kind c.args.meta.now c.in_default.not-Enum
