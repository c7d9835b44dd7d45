-- Where one of two fields is plain there is nothing to find between them.
use Rattle.std.proofs.Common.{◌≡◌, ◌⊎◌, ℕ, arith, max, subst, Bool, false, inl, inr, refl, sym}
use Rattle.std.specs.List.{All, Contains}
use Rattle.std.proofs.lemmas.Bool.{cases_lt}
use Rattle.std.proofs.lemmas.List.Elements.{All-contains}
use Rattle.merge_sets.specs.declared.node.Entry.{Entry}
use Rattle.merge_sets.specs.World.{World, own_of, spreads_of, set_of, conflict_of, exclusive_of, Same}
use Rattle.merge_sets.specs.Plain.{Occurs, IsPlain, plain, IsPlainBelow, IsPlainField, IsOnePlain}
use Rattle.merge_sets.specs.Merging.{Stands, own, spread, below, Merges, merges, MergeEither, MergeWritten}
use Rattle.merge_sets.specs.Clear.{IsClearBelow}

module _ (w : World) where
  pub stands_occur : {s : ℕ} {a : Entry} → Stands w s a → Occurs w a
  stands_occur {s} (own p) = (s, p)
  stands_occur (spread v p) = stands_occur p

  own_plain : {s : ℕ} {a : Entry} → IsPlain w s → Contains (own_of w s) a → IsPlainField w a
  own_plain {s} {a} (plain names sets spreads) p = record { name = names a p; below = λ t e. sets a t p e }

  spread_plain : {s f : ℕ} → IsPlain w s → Contains (spreads_of w s) f → IsPlain w (set_of w f)
  spread_plain {s} {f} (plain names sets spreads) v = spreads f v

  pub stands_plain : {s : ℕ} {a : Entry} → IsPlain w s → Stands w s a → IsPlainField w a
  stands_plain h (own p) = own_plain h p
  stands_plain h (spread v p) = stands_plain (spread_plain h v) p

  pub plain_set : {s : ℕ} → All (IsPlainField w) (own_of w s) → All (λ f. IsPlain w (set_of w f)) (spreads_of w s) → IsPlain w s
  plain_set {s} fields spreads = plain
      (λ a p. (All-contains (IsPlainField w) (own_of w s) a fields p).name)
      (λ a t p e. (All-contains (IsPlainField w) (own_of w s) a fields p).below t e)
      (λ f v. All-contains (λ g. IsPlain w (set_of w g)) (spreads_of w s) f spreads v)

  pub none_fails : {a b : Entry} (e : Bool) → Same a b → Occurs w a → Occurs w b → IsPlainField w a ⊎ IsPlainField w b → conflict_of w e a b ≡ false
  none_fails {a} {b} e same p q (inl h) = h.name e a b p q refl (sym same)
  none_fails {a} {b} e same p q (inr h) = h.name e a b p q same refl

  -- a field of a plain set merges with each field of its response name, and so does each with it
  plain_left : {x : Bool} {s : ℕ} {c d : Entry} → IsPlain w s → Stands w s c → Occurs w d → Same c d → Merges w x c d
  plain_left {x} {s} {c} {d} (plain names sets spreads) (own p) q same =
      merges {a = c} {b = d} (names c p x c d (s, p) q refl (sym same)) (λ c' d' f. elim f [ below {s = u} sa tb p' q' same' ↦ plain_left {x = exclusive_of w x c d} (sets c u p sa) p' (stands_occur q') same' ])
  plain_left (plain names sets spreads) (spread {f = f} v p) q same = plain_left (spreads f v) p q same

  plain_right : {x : Bool} {t : ℕ} {c d : Entry} → IsPlain w t → Occurs w c → Stands w t d → Same c d → Merges w x c d
  plain_right {x} {t} {c} {d} (plain names sets spreads) q (own p) same =
      merges {a = c} {b = d} (names d p x c d q (t, p) same refl) (λ c' d' f. elim f [ below {t = u} sa tb p' q' same' ↦ plain_right {x = exclusive_of w x c d} (sets d u p tb) (stands_occur p') q' same' ])
  plain_right (plain names sets spreads) q (spread {f = f} v p) same = plain_right (spreads f v) q p same

  pub sets_merge : {x : Bool} {s t : ℕ} {a b : Entry} → IsPlain w s ⊎ IsPlain w t → Stands w s a → Stands w t b → Same a b → Merges w x a b
  sets_merge (inl h) p q same = plain_left h p (stands_occur q) same
  sets_merge (inr h) p q same = plain_right h (stands_occur p) q same

  pub one_merges : (f g : ℕ) → IsOnePlain w f g → MergeWritten w f g
  one_merges f g one e a b p q same = sets_merge one p q same

  -- a plain fragment, and one that has a smaller number
  pub plain_either : (f i j : ℕ) → max i j ≡ f → IsPlain w (set_of w f) → MergeEither w i j
  plain_either f i j is h = inl (one_merges i j (elim (cases_lt j i) [
    | inl more ↦ inl (subst (λ (k : ℕ). IsPlain w (set_of w k)) (omega (arith, more, is)) h)
    | inr le ↦ inr (subst (λ (k : ℕ). IsPlain w (set_of w k)) (omega (arith, le, is)) h)
  ]))

  pub below_merges : {e : Bool} {a b : Entry} → IsPlainBelow w a → IsClearBelow w e a b
  below_merges h c d (below {s = s} sa tb p q same) = plain_left (h s sa) p (stands_occur q) same

  pub sets_quiet : {s t : ℕ} {a b : Entry} (e : Bool) → IsPlain w s ⊎ IsPlain w t → Stands w s a → Stands w t b → Same a b → conflict_of w e a b ≡ false
  sets_quiet e (inl h) p q same = none_fails e same (stands_occur p) (stands_occur q) (inl (stands_plain h p))
  sets_quiet e (inr h) p q same = none_fails e same (stands_occur p) (stands_occur q) (inr (stands_plain h q))
