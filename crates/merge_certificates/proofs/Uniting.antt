-- Unions in which the sets below each two of some fields are.
use Rattle.std.proofs.Common.{◌≡◌, ℕ, List, [], Bool, true, false, inl, inr, ◌⊎◌, refl, subst, sym, ◌∙◌}
use Rattle.std.specs.Bool.{OnTrue}
use Rattle.std.specs.List.{All, Contains}
use Rattle.std.proofs.lemmas.Bool.{cases_eq}
use Rattle.std.proofs.lemmas.List.Elements.{All-contains}
use Rattle.merge_sets.specs.declared.node.Entry.{Entry}
use Rattle.merge_certificates.specs.declared.unions.Union.{Union}
use Rattle.merge_sets.specs.Judgement.{ExclusiveStays, ObjectsApart}
use Rattle.merge_sets.specs.Names.{named}
use Rattle.merge_certificates.specs.Quiet.{HoldBelow, HoldsBelow, IsFrom}
use Rattle.merge_certificates.specs.Unions.{AllJoined, AllJoinedFlat, AreJoined, HasUnion, HaveUnions, UnionsKept, under_object}
use Rattle.merge_sets.specs.World.{World, exclusive_of}
use Rattle.merge_sets.proofs.Laws.{clash}
use Rattle.merge_sets.proofs.OneName.{named_in}

pub union_kept : (old new : List Union) (flag : Bool) (fields : List Entry) (more : List ℕ) → UnionsKept old new → HasUnion old flag fields more
    → HasUnion new flag fields more
union_kept old new flag fields more kept u = record {
  union = u.union;
  there = kept u.union u.there;
  flagged = u.flagged;
  below = u.below;
  besides = u.besides;
}

-- the union of the fields in an object type, or of the sets below those in none
pub union_in : (unions : List Union) (own group : List Entry) (common : List ℕ) (object : ℕ) → HoldBelow common (named 0 own)
    → (((object ≡ 0) × (group ≡ [])) ⊎ (group ≡ named object own)) → HasUnion unions false group common → HasUnion unions false (named object own) common
union_in unions own group common object hold is u = elim is [
  | inl none ↦ record {
    union = u.union;
    there = u.there;
    flagged = u.flagged;
    below = subst (λ (n : ℕ). HoldBelow u.union.sets.items (named n own)) (sym none.0) (λ k d l t p. u.besides t (hold k d l t p));
    besides = u.besides;
  }
  | inr of ↦ subst (λ zs. HasUnion unions false zs common) of u
]

joined_kept : (old new : List Union) (e : Bool) (a b : Entry) → UnionsKept old new → AreJoined old e a b → AreJoined new e a b
joined_kept old new e a b kept u = record {
  union = u.union;
  there = kept u.union u.there;
  from = u.from;
  left = u.left;
  right = u.right;
}

-- a union without the flag serves under each
unflagged : (flag e : Bool) → flag ≡ false → IsFrom flag e
unflagged flag e none is = absurd (clash flag is none)

-- one union of all
joined_in : (unions : List Union) (flag : Bool) (fields : List Entry) (more : List ℕ) → HasUnion unions flag fields more
    → (e : Bool) (a b : Entry) → IsFrom flag e → Contains fields a → Contains fields b → AreJoined unions e a b
joined_in unions flag fields more u e a b from p q = record {
  union = u.union;
  there = u.there;
  from = λ is. from (sym u.flagged ∙ is);
  left = All-contains (HoldsBelow u.union.sets.items) fields a u.below p;
  right = All-contains (HoldsBelow u.union.sets.items) fields b u.below q;
}

module _ (w : World) where
  -- one for each object type: two fields that aren't exclusive stand in one type, or one of them stands in none
  pub flat_joined : (object : ℕ → ℕ) → ObjectsApart w.judgement object → (fields own : List Entry) (common : List ℕ) (unions : List Union)
      → All (λ a. Contains own (under_object object a)) fields → HoldBelow common (named 0 own) → HaveUnions unions own common
      → AllJoinedFlat w fields unions
  flat_joined object law fields own common unions all hold have a b p q flat =
      let a' = under_object object a in
      let b' = under_object object b in
      let p' : Contains own a' = All-contains (λ (y : Entry). Contains own (under_object object y)) fields a all p in
      let q' : Contains own b' = All-contains (λ (y : Entry). Contains own (under_object object y)) fields b all q in
      let u = have a' p' in
      let v = have b' q' in
      let a_in : HoldsBelow u.union.sets.items a' = All-contains (HoldsBelow u.union.sets.items) (named (object a.field) own) a' u.below (named_in (object a.field) own a' p' refl) in
      let b_in : HoldsBelow v.union.sets.items b' = All-contains (HoldsBelow v.union.sets.items) (named (object b.field) own) b' v.below (named_in (object b.field) own b' q' refl) in
      elim (cases_eq (object a.field) (object b.field)) [
        | inl same ↦ record {
          union = v.union;
          there = v.there;
          from = unflagged v.union.flag false v.flagged;
          left = All-contains (HoldsBelow v.union.sets.items) (named (object b.field) own) a' v.below (named_in (object b.field) own a' p' same);
          right = b_in;
        }
        | inr apart ↦ elim (cases_eq (object a.field) 0) [
          | inl none ↦ record {
            union = v.union;
            there = v.there;
            from = unflagged v.union.flag false v.flagged;
            left = λ t r. v.besides t (All-contains (HoldsBelow common) (named 0 own) a' hold (named_in 0 own a' p' none) t r);
            right = b_in;
          }
          | inr some ↦ elim (cases_eq (object b.field) 0) [
            | inl none ↦ record {
              union = u.union;
              there = u.there;
              from = unflagged u.union.flag false u.flagged;
              left = a_in;
              right = λ t r. u.besides t (All-contains (HoldsBelow common) (named 0 own) b' hold (named_in 0 own b' q' none) t r);
            }
            | inr more ↦ absurd (clash (exclusive_of w false a b) (law a.field b.field some more apart) flat)
          ]
        ]
      ]

  -- those that aren't exclusive are joined, and all are under the flag
  joined_case : ExclusiveStays w.judgement → (fields : List Entry) (old new : List Union) → UnionsKept old new → AllJoinedFlat w fields old
      → HasUnion new true fields [] → (e : Bool) (a b : Entry) → Contains fields a → Contains fields b → (f : Bool) → exclusive_of w e a b ≡ f
      → AreJoined new f a b
  joined_case stays fields old new kept flat u e a b p q true is = joined_in new true fields [] u true a b (λ h. refl) p q
  joined_case stays fields old new kept flat u false a b p q false is = joined_kept old new false a b kept (flat a b p q is)
  joined_case stays fields old new kept flat u true a b p q false is = absurd (clash (exclusive_of w true a b) (stays a.field b.field) is)

  pub all_joined : ExclusiveStays w.judgement → (x flag : Bool) (fields : List Entry) (old new : List Union) → UnionsKept old new
      → OnTrue flag (AllJoinedFlat w fields old) → HasUnion new flag fields [] → AllJoined w x fields new
  all_joined stays x true fields old new kept flat u e a b from p q = joined_case stays fields old new kept flat u e a b p q (exclusive_of w e a b) refl
  all_joined stays x false fields old new kept flat u e a b from p q = joined_in new false fields [] u (exclusive_of w e a b) a b (unflagged false _ refl) p q

  -- one union of the flag from which the fields stand
  pub joined_whole : ExclusiveStays w.judgement → (x : Bool) (fields : List Entry) (new : List Union) → HasUnion new x fields [] → AllJoined w x fields new
  joined_whole stays x fields new u e a b from p q = joined_in new x fields [] u (exclusive_of w e a b) a b (λ is. below e a b (from is)) p q
    where
      below : (e : Bool) (a b : Entry) → e ≡ true → exclusive_of w e a b ≡ true
      below true a b is = stays a.field b.field
      below false a b is = absurd (clash false is refl)
