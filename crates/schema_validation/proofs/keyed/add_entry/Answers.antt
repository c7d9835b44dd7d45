use Rattle.std.proofs.Common.{◌≡◌, [], ◌∷◌, ◌++◌, ◌∙◌}
use Rattle.std.specs.String.{string_eq}
use Rattle.indexmap.proofs.CallerLemmas.{insert_entry-new}
use Rattle.schema_validation.proofs.KeyedLemmas.{values-push, keyed-push}
use Rattle.schema_validation.proofs.keyed.add_entry.Goals as goal

pub returns-in-Ok-clause-listed : goal.returns-in-Ok-clause-listed
returns-in-Ok-clause-listed g c =
    let grown : c.insert.new.self.entries ≡ c.args.map.now.entries ++ (c.args.key, c.args.entry) ∷ [] = c.in-Ok.ensures.entries ∙ insert_entry-new string_eq c.args.map.now c.args.key c.args.entry c.requires.new in
    rw grown (values-push c.args.key c.args.entry c.args.map.now.entries)

pub returns-in-Ok-clause-keyed : goal.returns-in-Ok-clause-keyed
returns-in-Ok-clause-keyed g c =
    let grown : c.insert.new.self.entries ≡ c.args.map.now.entries ++ (c.args.key, c.args.entry) ∷ [] = c.in-Ok.ensures.entries ∙ insert_entry-new string_eq c.args.map.now c.args.key c.args.entry c.requires.new in
    λ h. rw grown (keyed-push g.T.Keyed.key_of c.args.key c.args.entry c.args.map.now.entries c.requires.named h)
