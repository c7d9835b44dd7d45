use Rattle.std.proofs.Common.{◌∙◌, sym, map, string_bytes}
use Rattle.std.specs.List.{flat_map}
use Rattle.schema_validation.specs.Names.{field_names}
use Rattle.schema_validation.proofs.Finds.{find-append-Some, find-append-None}
use Rattle.schema_validation.proofs.first.first_name_of_composite.Goals as goal

pub returns-in-Some : goal.returns-in-Some
returns-in-Some g c =
    find-append-Some (g.T.NameTest.fails_at c.args.test.now) (flat_map field_names c.args.fields.now) (map string_bytes c.args.interfaces.now) c.in-Some.name.now c.in-Some.ensures

pub returns : goal.returns
returns g c =
    c.first_text.ensures ∙ sym (find-append-None (g.T.NameTest.fails_at c.args.test.now) (flat_map field_names c.args.fields.now) (map string_bytes c.args.interfaces.now) c.in_default.ensures)
