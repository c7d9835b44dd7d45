use Rattle.std.proofs.Common.{◌≡◌, ◌∙◌, ◌∷◌, [], List, length, refl, sym, arith}
use Rattle.rules_support.proofs.Kept.{empty_noted, none_noted}
use Rattle.rules_support.proofs.first_places.FirstPlaces.make_room.Goals as goal

is_empty : {X : Type 0} (xs : List X) → length xs ≡ 0 → xs ≡ []
is_empty [] e = refl
is_empty (x ∷ xs) e = absurd (omega (arith, e))

pub returns-in_ok-self-clause-kept : goal.returns-in_ok-self-clause-kept
returns-in_ok-self-clause-kept c =
    none_noted _ c.in_ok-self.ensures.none
    ∙ sym (empty_noted c.args.self.now (is_empty _ (sym c.len.ensures ∙ c.if-len-eq0.true)))
