use Rattle.std.proofs.Common.{◌∙◌}
use Rattle.schema_validation.proofs.ExtendLemmas.{pushed-two}
use Rattle.schema_validation.proofs.extend.extend_object.Goals as goal

pub returns-clause-added : goal.returns-clause-added
returns-clause-added g c =
    let f = c.in_ok-schema_field.schema_field in
    let h = c.in_ok-type_field.type_field in
    let once = c.in_ok-extended.ensures in
    let twice = c.in_ok-whole.ensures in
    let grown = pushed-two c.args.object.fields.items c.in_ok-extended.extended.fields.items c.in_ok-whole.whole.fields.items f h once.fields twice.fields in
    record {
      name = twice.name ∙ once.name;
      description = twice.description ∙ once.description;
      interfaces = twice.interfaces ∙ once.interfaces;
      fields = (f, h, grown, c.in_ok-schema_field.ensures, c.in_ok-type_field.ensures);
    }
