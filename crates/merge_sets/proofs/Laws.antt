-- The judgement of two fields, under both flags and in both orders.
use Rattle.std.proofs.Common.{Option, None, Some, Bool, false, true, ◌≡◌, ◌<◌, ℕ, arith, inl, inr, refl, sym, subst, ◌∙◌}
use Rattle.std.specs.Bool.{OnTrue}
use Rattle.std.specs.Option.{is_some}
use Rattle.merge_sets.specs.declared.node.Entry.{Entry}
use Rattle.merge_sets.specs.Budget.{Asks}
use Rattle.merge_sets.specs.Judgement.{Lawful}
use Rattle.merge_sets.specs.World.{World, conflict_of, exclusive_of}

pub data Le : Bool → Bool → Type 0 where
  least : {e : Bool} → Le false e
  even : {e : Bool} → Le e e

pub up : {e' e : Bool} → Le e' false → Le e' e
up least = least
up even = least

pub both : {a b c : Bool} → Le a b → Le b c → Le a c
both least k = least
both even k = k

pub on_true_weaker : {P Q : Type 0} (b : Bool) → (P → Q) → OnTrue b P → OnTrue b Q
on_true_weaker true f h = f h
on_true_weaker false f h = h

-- what is asked is taken off, where there is something to take it from
pub asked_one : (b : Bool) (old new : ℕ) → Asks 1 (b ≡ false) old new → (b ≡ false → old < 1) → 0 < old → new < old
asked_one b old new (inl asked) fewer some = omega (arith, asked)
asked_one b old new (inr untold) fewer some = absurd (omega (arith, fewer untold.0, some))

pub both_flags : (P : Bool → Type 0) (e : Bool) → P true → P false → P e
both_flags P true p q = p
both_flags P false p q = q

pub clash : (b : Bool) → b ≡ true → b ≡ false → ⊥
clash b p q = cc

pub same_some : {X : Type 0} (s t : X) (x : Option X) → x ≡ Some s → x ≡ Some t → s ≡ t
same_some s t x h k = cc

pub clash_some : {X : Type 0} (t : X) (x : Option X) → x ≡ Some t → x ≡ Rattle.std.proofs.Common.None → ⊥
clash_some t x h n = cc

pub is_leaf : {X : Type 0} (o : Option X) → is_some o ≡ false → o ≡ None
is_leaf None h = refl
is_leaf (Some x) h = cc

le_from : (x y : Bool) → (x ≡ true → y ≡ true) → Le x y
le_from false y h = least
le_from true y h = subst (λ z. Le true z) (sym (h refl)) even

pub not_true : (b : Bool) → (b ≡ true → ⊥) → b ≡ false
not_true false h = refl
not_true true h = absurd (h refl)

module _ (w : World) (laws : Lawful w.judgement) where
  pub exclusive_up : (e' e : Bool) (a b : Entry) → Le e' e → Le (exclusive_of w e' a b) (exclusive_of w e a b)
  exclusive_up e' e a b even = even
  exclusive_up e' false a b least = even
  exclusive_up e' true a b least = le_from _ _ (laws.exclusive_kept a.field b.field)

  pub conflict_up : (e' e : Bool) (a b : Entry) → Le e' e → conflict_of w e' a b ≡ false → conflict_of w e a b ≡ false
  conflict_up e' e a b even h = h
  conflict_up e' false a b least h = h
  conflict_up e' true a b least h = not_true _ (λ t. clash (conflict_of w false a b) (laws.conflict_kept a.field b.field t) h)

  pub exclusive_flip : (e : Bool) (a b : Entry) → exclusive_of w e b a ≡ exclusive_of w e a b
  exclusive_flip e a b = laws.exclusive_flip e a.field b.field

  pub conflict_flip : (e : Bool) (a b : Entry) → conflict_of w e b a ≡ false → conflict_of w e a b ≡ false
  conflict_flip e a b n = sym (laws.conflict_flip e a.field b.field) ∙ n

  pub conflict_self : (e : Bool) (a : Entry) → conflict_of w e a a ≡ false
  conflict_self e a = laws.conflict_self e a.field
