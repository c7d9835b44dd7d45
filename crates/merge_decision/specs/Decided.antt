-- What is known of unions while they are looked at.
use Rattle.std.specs.Prelude.{ℕ, ◌<◌, ◌≤◌, ◌≡◌, List, [], ◌∷◌, Bool, Some, false, length, get_or, take, true}
use Rattle.std.specs.List.{All, Contains}
use Rattle.bit_matrix.specs.Set.{has}
use Rattle.merge_sets.specs.declared.node.Entry.{Entry}
use Rattle.merge_sets.specs.Merging.{Stands}
use Rattle.merge_sets.specs.World.{World, conflict_of, exclusive_of, Same}
use Rattle.merge_certificates.specs.declared.unions.Union.{Union}
use Rattle.merge_certificates.specs.Quiet.{IsFrom}
use Rattle.merge_certificates.specs.Unions.{UnionsKept}
use Rattle.merge_decision.specs.Held.{IsHeld}
use Rattle.merge_decision.specs.declared.work.Work.{Work}

-- A union of these sets and this flag.
pub record IsThere (unions : List Union) (flag : Bool) (sets : List ℕ) : Type 0 where
  pub union : Union
  pub there : Contains unions union
  pub flagged : union.flag ≡ flag
  pub same : union.sets.items ≡ sets

-- Each union is still at its place.
abbrev pub AreInPlace : List Union → List Union → Type 0
AreInPlace old new = (k : ℕ) (u : Union) → k < length old → get_or old k u ≡ u → (k < length new) × (get_or new k u ≡ u)

module _ (w : World) where
  -- One union, of this flag or a lower one, holds all of some sets.
  pub record Holds (unions : List Union) (flag : Bool) (sets : List ℕ) : Type 0 where
    pub union : Union
    pub there : Contains unions union
    pub from : IsFrom union.flag flag
    pub held : (t : ℕ) → Contains sets t → IsHeld w union.sets.items t

  -- The two fields don't fail by themselves, and one union holds the sets below them.
  pub record IsSettled (unions : List Union) (e : Bool) (a b : Entry) : Type 0 where
    pub agree : conflict_of w e a b ≡ false
    pub below : (s t : ℕ) → a.below ≡ Some s → b.below ≡ Some t → Holds unions (exclusive_of w e a b) (s ∷ t ∷ [])

  -- So it is with each two of one response name, under each flag from x on.
  abbrev pub AreSettled : List Union → Bool → List Entry → Type 0
  AreSettled unions x fields =
      (e : Bool) (a b : Entry) → IsFrom x e → Contains fields a → Contains fields b → Same a b → IsSettled unions e a b

  -- So it is with each two that stand in the sets of a union.
  abbrev pub IsDone : List Union → Union → Type 0
  IsDone unions u =
      (e : Bool) (s t : ℕ) (a b : Entry) → IsFrom u.flag e → Contains u.sets.items s → Contains u.sets.items t
      → Stands w s a → Stands w t b → Same a b → IsSettled unions e a b

  -- The first unions are done, and each set that is noted is held without the flag.
  pub record IsSound (work : Work) : Type 0 where
    pub within : work.done ≤ length work.unions.items
    pub done : All (IsDone work.unions.items) (take work.done work.unions.items)
    pub held : (t : ℕ) → has work.held t ≡ true → Holds work.unions.items false (t ∷ [])

  -- All unions are.
  pub record IsWhole (work : Work) : Type 0 where
    pub sound : IsSound work
    pub all : length work.unions.items ≤ work.done

  -- Some unions were added.
  pub record Grows (old new : Work) : Type 0 where
    pub placed : AreInPlace old.unions.items new.unions.items
    pub done : new.done ≡ old.done
    pub sound : IsSound old → IsSound new
    pub spent : new.budget ≤ old.budget

  -- Among them one that holds some sets.
  pub record Adds (flag : Bool) (sets : List ℕ) (old new : Work) : Type 0 where
    pub grows : Grows old new
    pub holds : IsSound old → Holds new.unions.items flag sets

  -- Among them all of these.
  pub record AddsAll (unions : List Union) (old new : Work) : Type 0 where
    pub grows : Grows old new
    pub holds : IsSound old → All (λ u. Holds new.unions.items u.flag u.sets.items) unions

  -- Some fields are settled now.
  pub record Settles (x : Bool) (fields : List Entry) (old new : Work) : Type 0 where
    pub grows : Grows old new
    pub settled : IsSound old → AreSettled new.unions.items x fields

  -- Some unions are done now.
  pub record Keeps (old new : Work) : Type 0 where
    pub kept : UnionsKept old.unions.items new.unions.items
    pub sound : IsSound old → IsSound new

  -- Each set from a number on is held without the flag.
  abbrev pub HeldFrom : List Union → ℕ → Type 0
  HeldFrom unions n = (s : ℕ) → n ≤ s → s < length w.sets → Holds unions false (s ∷ [])
