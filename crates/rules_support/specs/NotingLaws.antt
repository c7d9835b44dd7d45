-- A rule that notes names reports those that stand again. In specs/, since ghost members of an impl cite nothing else.
use Rattle.std.proofs.Common.{◌≡◌, ℕ, List, [], ◌∷◌, ◌++◌, Option, None, Some, cond, true, false, refl, ap, sym, ◌∙◌}
use Rattle.std.proofs.Common.{subst, IsPermutation}
use mathlib.Core.Path.{fun_ext}
use Rattle.std.proofs.lemmas.List.{append-nil}
use Rattle.std.specs.Str.{bytes_eq}
use Rattle.std.specs.List.{flat_map}
use Rattle.events.specs.Node.{Node}
use Rattle.events.specs.Occurrence.{Occurrence, occurrences}
use Rattle.walk.specs.Entering.{found_keeping}
use Rattle.walk.specs.Rule.{AllowsFrom, always, exactly}
use Rattle.walk.proofs.Entering.{keeping_keeps}
use Rattle.rules_support.specs.Names.{Named, Places}
use Rattle.rules_support.specs.Repeats.{first_place, repeats_after}
use Rattle.rules_support.specs.Noting.{noted, noted_if, nothing_noted, or_else, to_list, repeat_if, repeated}
use Rattle.rules_support.specs.Noting.{noting_step, NothingNoted}

-- to note one more name is to have one more at the end
pub first_place-more : (earlier : List Named) (n : Named) (name : List ℕ)
    → noted (first_place earlier) n name ≡ first_place (earlier ++ n ∷ []) name
first_place-more [] n name = refl
first_place-more (m ∷ earlier) n name =
    elim (bytes_eq m.0 name) as (λ b. or_else (cond b (Some m.1) (first_place earlier name))
    (cond (bytes_eq n.0 name) (Some n.1) None) ≡ cond b (Some m.1) (first_place (earlier ++ n ∷ []) name))
    [ true ↦ refl | false ↦ first_place-more earlier n name ]

noted-first : (earlier : List Named) (o : Option Named) → noted_if o (first_place earlier) ≡ first_place (earlier ++ to_list o)
noted-first earlier None = ap first_place (sym (append-nil earlier))
noted-first earlier (Some n) = fun_ext (first_place-more earlier n)

repeats-more : (message : List ℕ → List ℕ) (earlier : List Named) (o : Option Named) (rest : List Named)
    → repeat_if message o (first_place earlier) ++ repeats_after message (earlier ++ to_list o) rest
    ≡ repeats_after message earlier (to_list o ++ rest)
repeats-more message earlier None rest = ap (λ z. repeats_after message z rest) (append-nil earlier)
repeats-more message earlier (Some n) rest = refl

module _ {S C : Type 0} (message : List ℕ → List ℕ) (name : Node S → Option Named) where
  abbrev names : List (Occurrence S C) → List Named
  names os = flat_map (λ (o : Occurrence S C). to_list (name o.node)) os

  found_repeats : (os : List (Occurrence S C)) (earlier : List Named)
      → found_keeping (λ (o : Occurrence S C). noted_if (name o.node))
      (λ (o : Occurrence S C). repeat_if message (name o.node)) (first_place earlier) os
      ≡ repeats_after message earlier (names os)
  found_repeats [] earlier = refl
  found_repeats (o ∷ os) earlier =
      ap (λ k. repeat_if message (name o.node) (first_place earlier)
      ++ found_keeping (λ (p : Occurrence S C). noted_if (name p.node))
      (λ (p : Occurrence S C). repeat_if message (name p.node)) k os) (noted-first earlier (name o.node))
      ∙ ap (λ z. repeat_if message (name o.node) (first_place earlier) ++ z) (found_repeats os (earlier ++ to_list (name o.node)))
      ∙ repeats-more message earlier (name o.node) (names os)

-- each run from a fresh value reports exactly the names that stand again
pub noting_keeps : {S C V : Type 0} (message : List ℕ → List ℕ) (places : V → Places) (name : Node S → Option Named)
    → AllowsFrom (noting_step {S = S} {C = C} places message name) (NothingNoted places)
    (always (exactly (repeated message name)))
noting_keeps {S} {C} message places name start fresh schema t doc end es r =
    subst (λ z. IsPermutation z es) (found_repeats {S = S} {C = C} message name (occurrences schema t doc) [])
    (keeping_keeps places (λ scope o. noted_if (name o.node))
    (λ scope o. repeat_if message (name o.node)) nothing_noted start fresh schema t doc end es r)
