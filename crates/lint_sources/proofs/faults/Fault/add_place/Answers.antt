use Rattle.std.proofs.Common.{◌∙◌, ◌++◌, ◌∷◌, [], ap, refl}
use Rattle.lint_sources.proofs.faults.Fault.add_place.Goals as goal

-- the new source has the number of sources that there were
pub returns : goal.returns
returns c =
    let fault = c.args.self.now in
    let file = c.len-file.ensures ∙ fault.sources.ok.0 in
    record {
      source = c.in_ok-source.source;
      is_source = c.in_ok-source.ensures;
      sources_are = c.in_ok-push.ensures.items;
      places_are = c.in_ok-push-2.ensures.items ∙ ap (λ n. fault.issue.places.items ++ record { file = n; position = c.args.position } ∷ []) file;
      message_is = refl;
      file_is = refl;
    }
