use Rattle.std.proofs.Common.{◌∙◌, ◌++◌, ◌∷◌, [], ap, refl}
use Rattle.lint_sources.proofs.faults.Fault.new.Goals as goal

-- the file is the only source
pub returns : goal.returns
returns g c =
    let source = c.in_ok-source_of.field-0 in
    record {
      source = source;
      is_source = c.in_ok-source_of.ensures;
      sources_are = c.in_ok-push.ensures.items ∙ ap (λ sources. sources ++ source ∷ []) c.new-sources.ensures.items;
      message_is = c.in_ok-message.ensures.ok;
      places_are = c.in_ok-places.ensures;
      file_is = refl;
    }
