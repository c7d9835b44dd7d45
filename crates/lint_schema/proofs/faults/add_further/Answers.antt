use Rattle.std.proofs.Common.{inl, inr, refl, subst}
use Rattle.std.proofs.lemmas.Result.{on_ok_weaker}
use Rattle.lint_sources.specs.Faults.{HasPlaceMore}
use Rattle.lint_sources.specs.ShownLines.{IsLineOf}
use Rattle.lint_schema.proofs.faults.add_further.Goals as goal

-- no place in an introspection result
pub returns-then-is_object_text : goal.returns-then-is_object_text
returns-then-is_object_text c = inr refl

pub returns : goal.returns
returns c =
    let line = c.line_of-line.result.now in
    on_ok_weaker c.add_place.result
    (λ h. inl (record {
      line = line;
      is_line = subst (λ text. IsLineOf text c.args.place.position line) c.text_of-text.ensures c.line_of-line.ensures;
      position = c.in_line.result;
      in_line = c.in_line.ensures;
      has = subst (λ path. HasPlaceMore path line c.in_line.result c.args.fault.now c.add_place.new.self) c.path_of-path.ensures h;
    }))
    c.add_place.ensures
