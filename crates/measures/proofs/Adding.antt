-- The measures that are left, as selections are taken from the sets that wait.
use Rattle.std.proofs.Common.{◌≡◌, ◌+◌, ◌*◌, ◌<◌, ◌≤◌, ℕ, List, [], ◌∷◌, ◌++◌, length, map, sym, ap, ◌∙◌, refl, arith}
use Rattle.std.specs.Prelude.{min}
use Rattle.std.specs.Option.{option_map_or}
use Rattle.std.proofs.lemmas.List.{map-append, length-append}
use Rattle.std.proofs.lemmas.List.Sums.{sum_by_push, sum_by-cons}
use Rattle.language_types.specs.declared.position.Span.{Span}
use Rattle.language_types.specs.declared.position.Spanning.{Spanning}
use Rattle.language.specs.declared.tree.Field.{Field, out-Field}
use Rattle.language.specs.declared.tree.FragmentSpread.{FragmentSpread}
use Rattle.language.specs.declared.tree.InlineFragment.{InlineFragment, out-InlineFragment}
use Rattle.language.specs.declared.tree.Selection.{Selection}
use Rattle.language.specs.declared.tree.Selection.TheVariants as v
use Rattle.language.specs.SelectionsInside.{selections_inside, all_inside}
use Rattle.measures.specs.declared.levels.Level.{Level}
use Rattle.measures.specs.declared.measure.Measures.{Measures}
use Rattle.measures.specs.declared.walk.Part.{Part}
use Rattle.measures.specs.Levels.{root, at_level, below_field, own_field, level_at_most}
use Rattle.measures.specs.Measure.{nothing, together, all_together, at_most, directive_count, only_directives, with_directives}
use Rattle.measures.specs.Walk.{part_measures, waiting_measures, waiting_inside}
use Rattle.measures.specs.Written.{alias_count, measures_of, set_measures}
use Rattle.measures.proofs.Algebra.{together-comm, together-assoc, together-nothing, together-swap, all_together-push, at_most-together, at_most-second, at_level-root, at_level-together, at_level-most, at_level-field, at_level-directives}
use Rattle.measures.proofs.Equations.{measures_of-Field, measures_of-Spread, measures_of-Inline}

-- One selection more is counted, and one less is left.
pub counted_next : (bound count next inside left all : ℕ) → next ≡ min (count + 1) bound → left + 1 ≡ inside → min (count + inside) bound ≡ all → min (next + left) bound ≡ all
counted_next bound count next inside left all e h i = omega arith

pub capped_low : (bound n next : ℕ) → next ≡ min n bound → min next bound ≡ next
capped_low bound n next e = omega arith

-- A sum that is capped goes on with what a set adds that waits.
module _ (bound : ℕ) where
  pub set_waits : (sum own left exact all rest : Measures) → at_most bound left ≡ at_most bound exact → together own exact ≡ all
      → at_most bound (together (at_most bound (together sum own)) (together left rest)) ≡ at_most bound (together sum (together all rest))
  set_waits sum own left exact all rest e h =
      at_most-together bound (together sum own) (together left rest)
      ∙ ap (at_most bound) (together-swap (together sum own) left rest)
      ∙ sym (at_most-together bound left (together (together sum own) rest))
      ∙ ap (λ z. at_most bound (together z (together (together sum own) rest))) e
      ∙ at_most-together bound exact (together (together sum own) rest)
      ∙ ap (at_most bound) (
      ap (together exact) (together-assoc sum own rest)
      ∙ together-swap exact sum (together own rest)
      ∙ ap (together sum) (together-swap exact own rest ∙ sym (together-assoc own exact rest) ∙ ap (λ z. together z rest) h)
      )

  -- and with what is added at once
  pub copy_added : (sum own copy all rest : Measures) → together own copy ≡ all
      → at_most bound (together (at_most bound (together (at_most bound (together sum own)) (at_most bound copy))) rest) ≡ at_most bound (together sum (together all rest))
  copy_added sum own copy all rest h =
      at_most-together bound (together (at_most bound (together sum own)) (at_most bound copy)) rest
      ∙ ap (at_most bound) (together-assoc (at_most bound (together sum own)) (at_most bound copy) rest)
      ∙ at_most-together bound (together sum own) (together (at_most bound copy) rest)
      ∙ ap (at_most bound) (together-swap (together sum own) (at_most bound copy) rest)
      ∙ at_most-together bound copy (together (together sum own) rest)
      ∙ ap (at_most bound) (
      ap (together copy) (together-assoc sum own rest)
      ∙ together-swap copy sum (together own rest)
      ∙ ap (together sum) (together-swap copy own rest ∙ sym (together-assoc own copy rest) ∙ ap (λ z. together z rest) h)
      )

module _ {S : Type 0} where
  pub measures_push : (fragment : List ℕ → Measures) (ps : List (Part S)) (p : Part S) → waiting_measures fragment (ps ++ p ∷ []) ≡ together (part_measures fragment p) (waiting_measures fragment ps)
  measures_push fragment ps p = ap all_together (map-append (part_measures fragment) ps (p ∷ [])) ∙ all_together-push (map (part_measures fragment) ps) (part_measures fragment p)

  pub inside_push : (ps : List (Part S)) (p : Part S) → waiting_inside (ps ++ p ∷ []) ≡ waiting_inside ps + all_inside p.set.now
  inside_push ps p = sum_by_push (λ q. all_inside q.set.now) ps p

  -- at the beginning, all is left
  pub begun : (bound : ℕ) (fragment : List ℕ → Measures) (set : List (Selection S)) (old new : List (Part S)) (p : Part S) (sum : Measures)
      → sum ≡ nothing → old ≡ [] → new ≡ old ++ p ∷ [] → p.set.now ≡ set → p.level ≡ root
      → at_most bound (together sum (waiting_measures fragment new)) ≡ at_most bound (set_measures fragment set)
  begun bound fragment set old new p sum is none e k l =
      ap (at_most bound) (
      ap (λ z. together z (waiting_measures fragment new)) is
      ∙ together-comm nothing (waiting_measures fragment new)
      ∙ together-nothing (waiting_measures fragment new)
      ∙ ap (waiting_measures fragment) e
      ∙ measures_push fragment old p
      ∙ ap (λ z. together (part_measures fragment p) (waiting_measures fragment z)) none
      ∙ together-nothing (part_measures fragment p)
      ∙ ap (λ z. at_level z (set_measures fragment p.set.now)) l
      ∙ at_level-root (set_measures fragment p.set.now)
      ∙ ap (set_measures fragment) k
      )

  pub begun_inside : (set : List (Selection S)) (old new : List (Part S)) (p : Part S) → old ≡ [] → new ≡ old ++ p ∷ [] → p.set.now ≡ set → waiting_inside new ≡ all_inside set
  begun_inside set old new p none e k = omega (arith, ap waiting_inside e, inside_push old p, ap waiting_inside none, ap all_inside k)

  -- at the end, all was added
  pub ended : (bound : ℕ) (fragment : List ℕ → Measures) (ws : List (Part S)) (sum all : Measures) → ws ≡ [] → at_most bound sum ≡ sum
      → at_most bound (together sum (waiting_measures fragment ws)) ≡ all → sum ≡ all
  ended bound fragment ws sum all none small i =
      sym small ∙ ap (at_most bound) (sym (together-nothing sum)) ∙ ap (λ z. at_most bound (together sum (waiting_measures fragment z))) (sym none) ∙ i

  -- a set that is put on the list
  pub waits : (bound : ℕ) (fragment : List ℕ → Measures) (set : List (Selection S)) (level : Level) (old new : List (Part S)) (p : Part S) (sum own now all : Measures)
      → new ≡ old ++ p ∷ [] → p.set.now ≡ set → at_most bound (at_level p.level (set_measures fragment set)) ≡ at_most bound (at_level level (set_measures fragment set))
      → together own (at_level level (set_measures fragment set)) ≡ all → now ≡ at_most bound (together sum own)
      → at_most bound (together now (waiting_measures fragment new)) ≡ at_most bound (together sum (together all (waiting_measures fragment old)))
  waits bound fragment set level old new p sum own now all e k l h is =
      ap (λ z. at_most bound (together now z)) (ap (waiting_measures fragment) e ∙ measures_push fragment old p)
      ∙ ap (λ z. at_most bound (together z (together (part_measures fragment p) (waiting_measures fragment old)))) is
      ∙ set_waits bound sum own (part_measures fragment p) (at_level level (set_measures fragment set)) all (waiting_measures fragment old)
      (ap (λ z. at_most bound (at_level p.level (set_measures fragment z))) k ∙ l) h

  pub field_waits : (bound : ℕ) (fragment : List ℕ → Measures) (s : Selection S) (f : Spanning (Field S) Span) (level : Level) (old new : List (Part S)) (p : Part S) (sum own now : Measures)
      → s ≡ v.Field f → new ≡ old ++ p ∷ [] → p.set.now ≡ option_map_or (λ w. w.items) (out-Field S f.item).selection_set []
      → p.level ≡ level_at_most bound (below_field level (out-Field S f.item).name.item.now)
      → own ≡ own_field level (alias_count (out-Field S f.item).alias) (directive_count (out-Field S f.item).directives)
      → now ≡ at_most bound (together sum own)
      → at_most bound (together now (waiting_measures fragment new)) ≡ at_most bound (together sum (together (at_level level (measures_of fragment s)) (waiting_measures fragment old)))
  field_waits bound fragment s f level old new p sum own now is e k l o h =
      let name = (out-Field S f.item).name.item.now in
      let set = option_map_or (λ w. w.items) (out-Field S f.item).selection_set [] in
      waits bound fragment set (below_field level name) old new p sum own now (at_level level (measures_of fragment s)) e k
      (ap (λ z. at_most bound (at_level z (set_measures fragment set))) l ∙ at_level-most bound (below_field level name) (set_measures fragment set))
      (ap (λ z. together z (at_level (below_field level name) (set_measures fragment set))) o
      ∙ at_level-field level name (alias_count (out-Field S f.item).alias) (directive_count (out-Field S f.item).directives) (set_measures fragment set)
      ∙ ap (at_level level) (sym (measures_of-Field fragment s f is))) h

  pub inline_waits : (bound : ℕ) (fragment : List ℕ → Measures) (s : Selection S) (f : Spanning (InlineFragment S) Span) (level : Level) (old new : List (Part S)) (p : Part S) (sum own now : Measures)
      → s ≡ v.InlineFragment f → new ≡ old ++ p ∷ [] → p.set.now ≡ (out-InlineFragment S f.item).selection_set.items → p.level ≡ level
      → own ≡ only_directives (directive_count (out-InlineFragment S f.item).directives) → now ≡ at_most bound (together sum own)
      → at_most bound (together now (waiting_measures fragment new)) ≡ at_most bound (together sum (together (at_level level (measures_of fragment s)) (waiting_measures fragment old)))
  inline_waits bound fragment s f level old new p sum own now is e k l o h =
      let set = (out-InlineFragment S f.item).selection_set.items in
      waits bound fragment set level old new p sum own now (at_level level (measures_of fragment s)) e k
      (ap (λ z. at_most bound (at_level z (set_measures fragment set))) l)
      (ap (λ z. together z (at_level level (set_measures fragment set))) o
      ∙ at_level-directives level (directive_count (out-InlineFragment S f.item).directives) (set_measures fragment set)
      ∙ ap (at_level level) (sym (measures_of-Inline fragment s f is))) h

  pub spread_added : (bound : ℕ) (fragment : List ℕ → Measures) (s : Selection S) (f : Spanning (FragmentSpread S) Span) (level : Level) (ps : List (Part S)) (sum own mid of copy now : Measures)
      → s ≡ v.FragmentSpread f → own ≡ only_directives (directive_count f.item.directives) → mid ≡ at_most bound (together sum own)
      → of ≡ fragment f.item.name.item.now → copy ≡ at_most bound (at_level level of) → now ≡ at_most bound (together mid copy)
      → at_most bound (together now (waiting_measures fragment ps)) ≡ at_most bound (together sum (together (at_level level (measures_of fragment s)) (waiting_measures fragment ps)))
  spread_added bound fragment s f level ps sum own mid of copy now is o h t k j =
      ap (λ z. at_most bound (together z (waiting_measures fragment ps))) (j ∙ ap (λ z. at_most bound (together z copy)) h ∙ ap (λ z. at_most bound (together (at_most bound (together sum own)) z)) k)
      ∙ copy_added bound sum own (at_level level of) (at_level level (measures_of fragment s)) (waiting_measures fragment ps)
      (ap (λ z. together z (at_level level of)) o
      ∙ at_level-directives level (directive_count f.item.directives) of
      ∙ ap (at_level level) (ap (with_directives (directive_count f.item.directives)) t ∙ sym (measures_of-Spread fragment s f is)))

  pub waits_inside : (set : List (Selection S)) (old new : List (Part S)) (p : Part S) (n : ℕ) → new ≡ old ++ p ∷ [] → p.set.now ≡ set → n ≡ 1 + all_inside set
      → waiting_inside new + 1 ≡ waiting_inside old + n
  waits_inside set old new p n e k h = omega (arith, ap waiting_inside e, inside_push old p, ap all_inside k, h)

  -- a set that is taken off the list has its first selection, and the others go back
  pub taken : (bound : ℕ) (fragment : List ℕ → Measures) (ws rest back new : List (Part S)) (p q : Part S) (s : Selection S) (sum now all : Measures)
      → p.set.now ≡ s ∷ q.set.now → q.level ≡ p.level → ws ≡ rest ++ p ∷ [] → back ≡ rest ++ q ∷ []
      → at_most bound (together now (waiting_measures fragment new)) ≡ at_most bound (together sum (together (at_level p.level (measures_of fragment s)) (waiting_measures fragment back)))
      → at_most bound (together sum (waiting_measures fragment ws)) ≡ all
      → at_most bound (together now (waiting_measures fragment new)) ≡ all
  taken bound fragment ws rest back new p q s sum now all e l h k j i =
      j
      ∙ ap (λ z. at_most bound (together sum z)) (
      ap (together (at_level p.level (measures_of fragment s))) (ap (waiting_measures fragment) k ∙ measures_push fragment rest q ∙ ap (λ z. together (at_level z (set_measures fragment q.set.now)) (waiting_measures fragment rest)) l)
      ∙ sym (together-assoc (at_level p.level (measures_of fragment s)) (at_level p.level (set_measures fragment q.set.now)) (waiting_measures fragment rest))
      ∙ ap (λ z. together z (waiting_measures fragment rest)) (sym (at_level-together p.level (measures_of fragment s) (set_measures fragment q.set.now)) ∙ ap (λ z. at_level p.level (set_measures fragment z)) (sym e))
      ∙ sym (measures_push fragment rest p)
      ∙ ap (waiting_measures fragment) (sym h)
      )
      ∙ i

  -- what is inside the sets that wait, one selection less
  pub taken_inside : (ws rest back new : List (Part S)) (p q : Part S) (s : Selection S) → p.set.now ≡ s ∷ q.set.now → ws ≡ rest ++ p ∷ [] → back ≡ rest ++ q ∷ []
      → waiting_inside new + 1 ≡ waiting_inside back + selections_inside s → waiting_inside new + 1 ≡ waiting_inside ws
  taken_inside ws rest back new p q s e h k j =
      omega (arith, j, ap waiting_inside h, inside_push rest p, ap waiting_inside k, inside_push rest q, ap all_inside e, sum_by-cons selections_inside s q.set.now)

  pub taken_less : (ws rest back new : List (Part S)) (p q : Part S) → ws ≡ rest ++ p ∷ [] → back ≡ rest ++ q ∷ [] → length new ≤ length back + 1
      → waiting_inside new + 1 ≡ waiting_inside ws → 2 * waiting_inside new + length new < 2 * waiting_inside ws + length ws
  taken_less ws rest back new p q h k l j =
      omega (arith, j, l, ap length h, ap length k, length-append rest (p ∷ []), length-append rest (q ∷ []))

  -- an empty set adds no more than its level
  pub dropped : (bound : ℕ) (fragment : List ℕ → Measures) (ws rest : List (Part S)) (p : Part S) (sum now all : Measures)
      → p.set.now ≡ [] → ws ≡ rest ++ p ∷ [] → now ≡ at_most bound (together sum (at_most bound (at_level p.level nothing)))
      → at_most bound (together sum (waiting_measures fragment ws)) ≡ all
      → at_most bound (together now (waiting_measures fragment rest)) ≡ all
  dropped bound fragment ws rest p sum now all e h is i =
      ap (λ z. at_most bound (together z (waiting_measures fragment rest))) (is ∙ at_most-second bound sum (at_level p.level nothing))
      ∙ at_most-together bound (together sum (at_level p.level nothing)) (waiting_measures fragment rest)
      ∙ ap (at_most bound) (together-assoc sum (at_level p.level nothing) (waiting_measures fragment rest))
      ∙ ap (λ z. at_most bound (together sum z)) (ap (λ z. together (at_level p.level (set_measures fragment z)) (waiting_measures fragment rest)) (sym e) ∙ sym (measures_push fragment rest p) ∙ ap (waiting_measures fragment) (sym h))
      ∙ i

  pub dropped_inside : (ws rest : List (Part S)) (p : Part S) → p.set.now ≡ [] → ws ≡ rest ++ p ∷ [] → waiting_inside rest ≡ waiting_inside ws
  dropped_inside ws rest p e h = omega (arith, ap waiting_inside h, inside_push rest p, ap all_inside e)

  pub dropped_less : (ws rest : List (Part S)) (p : Part S) → p.set.now ≡ [] → ws ≡ rest ++ p ∷ [] → 2 * waiting_inside rest + length rest < 2 * waiting_inside ws + length ws
  dropped_less ws rest p e h = omega (arith, dropped_inside ws rest p e h, ap length h, length-append rest (p ∷ []))
