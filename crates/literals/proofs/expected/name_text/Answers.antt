use Rattle.std.proofs.Common.{◌≡◌, [], List, ℕ, Option, None, Some, Bor, ap, refl, ◌∙◌, option_copied}
use Rattle.std.specs.Option.{unwrap_or}
use Rattle.literals.proofs.expected.name_text.Goals as goal

text_of : (o : Option (Bor (List ℕ))) (d : Bor (List ℕ)) → d.now ≡ [] → (unwrap_or o d).now ≡ unwrap_or (option_copied o) []
text_of None d e = e
text_of (Some x) d e = refl

pub returns : goal.returns
returns g c = ap (λ b. b.now) c.unwrap_or.ensures ∙ text_of c.name.result _ refl ∙ ap (λ o. unwrap_or o []) c.name.ensures
