use Rattle.std.proofs.Common.{◌≡◌, ◌++◌, ◌∷◌, ap, sym, ◌∙◌, refl}
use Rattle.std.specs.Prelude.{is_some}
use Rattle.schema_validation.specs.Named.{are_named, are_distinct}
use Rattle.schema_validation.proofs.KeyedLemmas.{list_all-middle, lookup-distinct}
use Rattle.schema_validation.proofs.keyed.map_by_name.Goals as goal

pub new_key-requires-clause-named : goal.new_key-requires-clause-named
new_key-requires-clause-named g c =
    let whole : c.loop-entry.yielded ++ (c.in-Some.entry ∷ c.next.new.self.rest.items) ≡ c.args.entries.items = ap (λ w. c.loop-entry.yielded ++ w) (sym c.in-Some.ensures.steps.0) ∙ c.loop-entry.invariant.4 in
    list_all-middle (λ t. is_some (g.T.Keyed.key_of t)) c.loop-entry.yielded c.in-Some.entry c.next.new.self.rest.items (ap (are_named g.T.Keyed.key_of) whole ∙ c.requires.named)

pub new_key-requires-clause-new : goal.new_key-requires-clause-new
new_key-requires-clause-new g c =
    let whole : c.loop-entry.yielded ++ (c.in-Some.entry ∷ c.next.new.self.rest.items) ≡ c.args.entries.items = ap (λ w. c.loop-entry.yielded ++ w) (sym c.in-Some.ensures.steps.0) ∙ c.loop-entry.invariant.4 in
    lookup-distinct g.T.Keyed.key_of c.in-Some.entry c.loop-entry.map.entries c.loop-entry.yielded c.next.new.self.rest.items (g.T.Keyed.key_of c.in-Some.entry) refl c.loop-entry.invariant.2 c.loop-entry.invariant.3 (ap (are_distinct g.T.Keyed.key_of) whole ∙ c.requires.distinct)
