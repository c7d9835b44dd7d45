use Rattle.std.proofs.Common.{◌≡◌, ◌∙◌, ap, sym, subst}
use Rattle.std.specs.Prelude.{IfOk}
use Rattle.language_values.specs.EqualSteps.{answer_of, answer_after}
use Rattle.language_values.proofs.value.compare_part.Goals as goal

pub returns-in-Entries : goal.returns-in-Entries
returns-in-Entries g c =
    let E = g.S.PartialEq.eq in
    subst (λ z. IfOk c.compare_entries.result (λ d. answer_after E c.compare_entries.new.waiting.items (answer_of E d) ≡ answer_after E c.args.waiting.now.items (answer_of E z))) (sym c.in-Entries.is) c.compare_entries.ensures

pub returns-in-Items : goal.returns-in-Items
returns-in-Items g c =
    let E = g.S.PartialEq.eq in
    subst (λ z. IfOk c.compare_items.result (λ d. answer_after E c.compare_items.new.waiting.items (answer_of E d) ≡ answer_after E
    c.args.waiting.now.items (answer_of E z))) (sym c.in-Items.is) c.compare_items.ensures

pub returns-in-Candidates : goal.returns-in-Candidates
returns-in-Candidates g c =
    let E = g.S.PartialEq.eq in
    subst (λ z. IfOk c.compare_candidates.result
    (λ d. answer_after E c.compare_candidates.new.waiting.items (answer_of E d) ≡ answer_after E c.args.waiting.now.items
    (answer_of E z))) (sym c.in-Candidates.is) c.compare_candidates.ensures

pub returns-in-Answer : goal.returns-in-Answer
returns-in-Answer g c =
    let E = g.S.PartialEq.eq in
    c.take_on_next.ensures ∙ sym (ap (λ z. answer_after E c.args.waiting.now.items (answer_of E z)) c.in-Answer.is)

pub returns-in-Values : goal.returns-in-Values
returns-in-Values g c =
    let E = g.S.PartialEq.eq in
    ap (answer_after E c.args.waiting.now.items) (c.compare_values.ensures ∙ sym (ap (answer_of E) c.in-Values.is))
