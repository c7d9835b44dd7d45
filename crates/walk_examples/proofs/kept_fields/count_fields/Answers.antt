use Rattle.std.proofs.Common.{ap, sym, ◌∙◌, length}
use Rattle.std.proofs.lemmas.List.{length-map}
use Rattle.walk_examples.proofs.kept_fields.count_fields.Goals as goal

pub returns : goal.returns
returns g c =
    λ known. let (es, (fs, gs, kept, none, both), e) = c.in_ok-visit_rules.ensures.appended known in
    c.len.ensures ∙ c.newest.result.now.fields.ok.0 ∙ ap (λ a. length a.fields.items) c.newest.ensures ∙ sym (length-map _ (λ f. f.now)) ∙ ap length kept.0
