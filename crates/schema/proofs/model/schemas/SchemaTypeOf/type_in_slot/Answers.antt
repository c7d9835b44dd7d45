use Rattle.std.proofs.Common.{◌≡◌, ap, sym, string_bytes, ◌∙◌}
use Rattle.std.specs.Map.{lookup}
use Rattle.std.specs.Str.{bytes_eq}
use Rattle.std.proofs.lemmas.Slice.Eq.{bytes_eq-Decides}
use Rattle.meta.specs.Kinds.{name_of_meta}
use Rattle.schema_validation.proofs.KeyedLemmas.{lookup-find}
use Rattle.schema.proofs.model.schemas.SchemaTypeOf.type_in_slot.Goals as goal

-- the look-up of the name is that of the key, which has its bytes
pub returns-then-eq : goal.returns-then-eq
returns-then-eq g c =
    let entries = c.self.inside.types.entries in
    let name = c.args.name.now in
    let key = string_bytes c.in_ok-key.key.now in
    let same : key ≡ name = (bytes_eq-Decides key name).0 (ap (λ k. bytes_eq k name) (sym c.as_str.ensures.value) ∙ sym c.if-eq.ensures) in
    rw (← c.self.view_is) (sym (lookup-find name_of_meta name entries c.self.inside.keyed) ∙ ap (λ n. lookup (λ k. bytes_eq n (string_bytes k)) entries) (sym same) ∙ c.in_ok-key.ensures.value)
