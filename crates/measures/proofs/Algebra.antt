-- The laws of measures that are added up.
use Rattle.std.proofs.Common.{◌≡◌, ℕ, ◌+◌, Bool, true, false, cond, List, [], ◌∷◌, ◌++◌, map, refl, sym, ap, ◌∙◌, arith}
use Rattle.std.specs.Prelude.{min, max, ◌||◌}
use Rattle.measures.specs.declared.measure.Measures.{Measures}
use Rattle.measures.specs.declared.levels.Level.{Level}
use Rattle.measures.specs.Measure.{nothing, together, all_together, at_most, with_directives, only_directives}
use Rattle.measures.specs.Names.{is_entry, is_listing}
use Rattle.measures.specs.Levels.{root, at_level, own_field, below_field, level_at_most}
use Rattle.measures.specs.Written.{field_measures}

-- measures are the same if each number is
pub same : {d d' f f' r r' a a' x x' i i' l l' : ℕ} → d ≡ d' → f ≡ f' → r ≡ r' → a ≡ a' → x ≡ x' → i ≡ i' → l ≡ l'
    → ◌≡◌ {A = Measures} record { depth = d; fields = f; root_fields = r; aliases = a; directives = x; introspection_depth = i; listed_depth = l }
    record { depth = d'; fields = f'; root_fields = r'; aliases = a'; directives = x'; introspection_depth = i'; listed_depth = l' }
same d f r a x i l = cc

pub together-comm : (a b : Measures) → together a b ≡ together b a
unfolding together
together-comm a b = same (omega arith) (omega arith) (omega arith) (omega arith) (omega arith) (omega arith) (omega arith)

pub together-assoc : (a b c : Measures) → together (together a b) c ≡ together a (together b c)
unfolding together
together-assoc a b c = same (omega arith) (omega arith) (omega arith) (omega arith) (omega arith) (omega arith) (omega arith)

pub together-nothing : (a : Measures) → together a nothing ≡ a
unfolding together
together-nothing a = same (omega arith) (omega arith) (omega arith) (omega arith) (omega arith) (omega arith) (omega arith)

-- one of many comes first
pub together-swap : (a b c : Measures) → together a (together b c) ≡ together b (together a c)
together-swap a b c = sym (together-assoc a b c) ∙ ap (λ z. together z c) (together-comm a b) ∙ together-assoc b a c

pub all_together-push : (ms : List Measures) (m : Measures) → all_together (ms ++ m ∷ []) ≡ together m (all_together ms)
all_together-push [] m = refl
all_together-push (n ∷ ms) m = ap (together n) (all_together-push ms m) ∙ together-swap n m (all_together ms)

module _ (bound : ℕ) where
  pub at_most-together : (a b : Measures) → at_most bound (together (at_most bound a) b) ≡ at_most bound (together a b)
  unfolding together at_most
  at_most-together a b = same (omega arith) (omega arith) (omega arith) (omega arith) (omega arith) (omega arith) (omega arith)

  pub at_most-twice : (a : Measures) → at_most bound (at_most bound a) ≡ at_most bound a
  unfolding at_most
  at_most-twice a = same (omega arith) (omega arith) (omega arith) (omega arith) (omega arith) (omega arith) (omega arith)

  pub at_most-second : (a b : Measures) → at_most bound (together a (at_most bound b)) ≡ at_most bound (together a b)
  at_most-second a b =
      ap (at_most bound) (together-comm a (at_most bound b)) ∙ at_most-together b a ∙ ap (at_most bound) (together-comm b a)

  pub at_most-nothing : at_most bound nothing ≡ nothing
  unfolding at_most
  at_most-nothing = same (omega arith) (omega arith) (omega arith) (omega arith) (omega arith) (omega arith) (omega arith)

  -- sums of measures that are the same up to the bound
  pub joins : (a b c d : Measures) → at_most bound a ≡ at_most bound b → at_most bound c ≡ at_most bound d
      → at_most bound (together a c) ≡ at_most bound (together b d)
  joins a b c d p q =
      sym (at_most-together a c) ∙ ap (λ z. at_most bound (together z c)) p ∙ at_most-together b c
      ∙ sym (at_most-second b c) ∙ ap (λ z. at_most bound (together b z)) q ∙ at_most-second b d

  pub opens : (n : ℕ) (a b : Measures) → at_most bound a ≡ at_most bound b
      → at_most bound (with_directives n a) ≡ at_most bound (with_directives n b)
  unfolding at_most with_directives
  opens n a b e = sym (inside a) ∙ ap (λ z. at_most bound (with_directives n z)) e ∙ inside b
    where
      inside : (m : Measures) → at_most bound (with_directives n (at_most bound m)) ≡ at_most bound (with_directives n m)
      inside m = same (omega arith) (omega arith) (omega arith) (omega arith) (omega arith) (omega arith) (omega arith)

  pub contains : (name : List ℕ) (n k : ℕ) (a b : Measures) → at_most bound a ≡ at_most bound b
      → at_most bound (field_measures name n k a) ≡ at_most bound (field_measures name n k b)
  unfolding at_most field_measures
  contains name n k a b e = sym (inside a) ∙ ap (λ z. at_most bound (field_measures name n k z)) e ∙ inside b
    where
      chosen : (t : Bool) (x y : ℕ) → min (cond t (min x bound) (min y bound)) bound ≡ min (cond t x y) bound
      chosen true x y = omega arith
      chosen false x y = omega arith

      inside : (m : Measures) → at_most bound (field_measures name n k (at_most bound m)) ≡ at_most bound (field_measures name n k m)
      inside m = same (omega arith) (omega arith) (omega arith) (omega arith) (omega arith) (chosen (is_entry name) m.listed_depth m.introspection_depth) (omega arith)

  -- a level that is capped serves as well
  pub at_level-most : (level : Level) (m : Measures) → at_most bound (at_level (level_at_most bound level) m) ≡ at_most bound (at_level level m)
  unfolding at_most at_level level_at_most
  at_level-most level m = same (omega arith) refl refl refl refl (chosen level.is_entered) (omega arith)
    where
      chosen : (t : Bool) → min (cond t (min level.entered bound + m.listed_depth) m.introspection_depth) bound ≡ min (cond t (level.entered + m.listed_depth) m.introspection_depth) bound
      chosen true = omega arith
      chosen false = refl

pub at_level-root : (m : Measures) → at_level root m ≡ m
unfolding at_level
at_level-root m = same (omega arith) refl refl refl refl refl (omega arith)

pub at_level-together : (level : Level) (a b : Measures) → at_level level (together a b) ≡ together (at_level level a) (at_level level b)
unfolding together at_level
at_level-together level a b = same (omega arith) refl (split level.is_root a.root_fields b.root_fields) refl refl (deepest level.is_entered) (omega arith)
  where
    split : (t : Bool) (x y : ℕ) → cond t (x + y) 0 ≡ cond t x 0 + cond t y 0
    split true x y = refl
    split false x y = omega arith

    deepest : (t : Bool) → cond t (level.entered + max a.listed_depth b.listed_depth) (max a.introspection_depth b.introspection_depth)
        ≡ max (cond t (level.entered + a.listed_depth) a.introspection_depth) (cond t (level.entered + b.listed_depth) b.introspection_depth)
    deepest true = omega arith
    deepest false = refl

pub at_level-directives : (level : Level) (n : ℕ) (m : Measures) → together (only_directives n) (at_level level m) ≡ at_level level (with_directives n m)
unfolding together at_level only_directives with_directives
at_level-directives level n m = same (omega arith) (omega arith) (omega arith) (omega arith) refl (omega arith) (omega arith)

pub at_level-field : (level : Level) (name : List ℕ) (n k : ℕ) (inner : Measures)
    → together (own_field level n k) (at_level (below_field level name) inner) ≡ at_level level (field_measures name n k inner)
unfolding together at_level own_field below_field field_measures
at_level-field level name n k inner =
    same (omega arith) refl (omega arith) refl refl (deepest level.is_entered (is_entry name)) (omega arith)
  where
    deepest : (t e : Bool) → max 0 (cond (t || e) (cond t (level.entered + cond (is_listing name) 1 0) 0 + inner.listed_depth) inner.introspection_depth)
        ≡ cond t (level.entered + (cond (is_listing name) 1 0 + inner.listed_depth)) (cond e inner.listed_depth inner.introspection_depth)
    deepest true true = omega arith
    deepest true false = omega arith
    deepest false true = omega arith
    deepest false false = omega arith
