-- What is known of sets below fields says it of the sets in which the fields stand.
use Rattle.std.proofs.Common.{◌≡◌, ℕ, List, [], ◌∷◌, ◌++◌, Bool, false, inl, inr, ◌⊎◌, get_or, ap, refl, sym, subst, ◌∙◌}
use Rattle.std.specs.List.{All, Contains}
use Rattle.std.proofs.lemmas.List.Elements.{All-contains, All-push, Contains-get_or}
use Rattle.bit_matrix.specs.Set.{has}
use Rattle.bit_matrix.specs.declared.set.BitSet.{BitSet}
use Rattle.merge_sets.specs.declared.node.Entry.{Entry}
use Rattle.merge_certificates.specs.declared.unions.Union.{Union}
use Rattle.merge_sets.specs.Judgement.{NoneConflict}
use Rattle.merge_sets.specs.Merging.{Stands, own, spread, below, Merges, merges}
use Rattle.merge_sets.specs.Names.{named, AreListed}
use Rattle.merge_sets.specs.Opening.{Opens}
use Rattle.merge_certificates.specs.Quiet.{AllMergeBut, AllQuiet, AllQuietBut, AreQuiet, AreQuietBut, AreWrittenOut, HoldAll, IsFrom, Covers, MergesBut, merges_but}
use Rattle.merge_certificates.specs.Unions.{AllJoined, UnionsKept}
use Rattle.merge_sets.specs.Clear.{AreClearBelow}
use Rattle.merge_sets.specs.World.{World, own_of, spreads_of, set_of, conflict_of, exclusive_of}
use Rattle.merge_sets.proofs.Laws.{clash, not_true}
use Rattle.merge_sets.proofs.OneName.{listed_in, named_in}

module _ (w : World) where
  -- what stands in sets that are written out is an own field of one of them
  stands_in : (some sets : List ℕ) (fields : List Entry) → AreWrittenOut w some sets → All (λ s. (a : Entry) → Contains (own_of w s) a → Contains fields a) sets
      → (s : ℕ) (a : Entry) → Contains sets s → Stands w s a → Contains fields a
  stands_in some sets fields out owns s a i (own p) = All-contains (λ t. (b : Entry) → Contains (own_of w t) b → Contains fields b) sets s owns i a p
  stands_in some sets fields out owns s a i (spread {f = f} v p) = stands_in some sets fields out owns (set_of w f) a (out.closed s f i v) p

  pub written_holds : (some sets : List ℕ) (fields : List Entry) → AreWrittenOut w some sets → All (λ s. (a : Entry) → Contains (own_of w s) a → Contains fields a) sets
      → HoldAll w some fields
  written_holds some sets fields out owns s a i p = stands_in some sets fields out owns s a (All-contains (λ t. Contains sets t) some s out.first i) p

  -- the sets of all fragments that some sets reach
  pub opened_out : (some starts order sets : List ℕ) → All (λ s. All (λ f. Contains starts f) (spreads_of w s)) some → Opens w starts order
      → ((s : ℕ) → Contains some s → Contains sets s) → All (λ f. Contains sets (set_of w f)) order
      → ((s : ℕ) → Contains sets s → Contains some s ⊎ ((f : ℕ) × Contains order f × (s ≡ set_of w f))) → AreWrittenOut w some sets
  opened_out some starts order sets spreads opens kept added only = record {
    first = λ k d l. kept (get_or some k d) (Contains-get_or some k d l);
    closed = λ s f i v. All-contains (λ h. Contains sets (set_of w h)) order f added (elim (only s i) [
      | inl at ↦ All-contains (λ g. Contains order g) starts f opens.first (All-contains (λ h. Contains starts h) (spreads_of w s) f (All-contains (λ t. All (λ h. Contains starts h) (spreads_of w t)) some s spreads at) v)
      | inr of ↦ opens.followed of.0 f of.1 (subst (λ (t : ℕ). Contains (spreads_of w t) f) of.2 v)
    ]);
  }

-- what isn't covered isn't in the set
pub uncovered : (apart : ℕ → Bool) (names : BitSet) (n : ℕ) → Covers apart names → apart n ≡ false → has names n ≡ false
uncovered apart names n covers is = not_true (has names n) (λ h. clash (apart n) (covers n h) is)

module _ (w : World) where
  none_but : {e : Bool} {a b : Entry} → MergesBut w (λ n. false) e a b → Merges w e a b
  none_but {a = a} {b = b} (merges_but ok rest) = merges {a = a} {b = b} (ok refl) (λ c d f. none_but (rest c d f))

module _ (w : World) (x : Bool) where
  -- what stands below fields, if the unions of the sets below them are quiet
  pub fields_below : (fields : List Entry) (unions : List Union) → AllJoined w x fields unions → AllQuiet w unions → AreClearBelow w x fields fields
  fields_below fields unions joined quiet a b p q c d f = elim f [
    | below {s = s} {t = t} sa tb i j is ↦
        let u = joined x a b (λ h. h) p q in
        All-contains (λ (z : Union). AreQuiet w z.flag z.sets.items) unions u.union quiet u.there (exclusive_of w x a b) s t c d u.from
        (u.left s sa) (u.right t tb) i j is
  ]

module _ (w : World) (apart : ℕ → Bool) where
  pub unions_kept : (vs us : List Union) → UnionsKept vs us → AllQuietBut w apart us → AllQuietBut w apart vs
  unions_kept vs us kept all = λ k d l.
      All-contains (λ (u : Union). AreQuietBut w apart u.flag u.sets.items) us (get_or vs k d) all (kept (get_or vs k d) (Contains-get_or vs k d l))

  pub quiet_popped : (vs us : List Union) (v : Union) → us ≡ vs ++ v ∷ [] → AllQuietBut w apart vs → AreQuietBut w apart v.flag v.sets.items → AllQuietBut w apart us
  quiet_popped vs us v is all one = subst (λ zs. AllQuietBut w apart zs) (sym is) (All-push (λ (z : Union). AreQuietBut w apart z.flag z.sets.items) vs v all one)

-- where no name is set apart all merges
pub quiet_whole : (w : World) (unions : List Union) → AllQuietBut w (λ n. false) unions → AllQuiet w unions
quiet_whole w unions quiet = λ k d l e s t a b from i j p q same. none_but w (quiet k d l e s t a b from i j p q same)

module _ (w : World) (apart : ℕ → Bool) (x : Bool) where
  pub sets_merged : (sets : List ℕ) (fields : List Entry) → HoldAll w sets fields → AllMergeBut w apart x fields → AreQuietBut w apart x sets
  sets_merged sets fields hold all e s t a b from i j p q same = all e a b from (hold s a i p) (hold t b j q) same

  pub groups_merged : (firsts fields : List Entry) → AreListed firsts fields → All (λ (f : Entry). AllMergeBut w apart x (named f.response fields)) firsts
      → AllMergeBut w apart x fields
  groups_merged firsts fields listed all e a b from p q same =
      let (f, there, is) = listed_in firsts fields a listed p in
      All-contains (λ (y : Entry). AllMergeBut w apart x (named y.response fields)) firsts f all there e a b from
      (named_in f.response fields a p is) (named_in f.response fields b q (sym same ∙ is)) same

  -- the fields of one name, which is set apart or of which no two fail
  pub group_merged : (name : ℕ) (group : List Entry) (unions : List Union) → All (λ (a : Entry). a.response ≡ name) group
      → (apart name ≡ false → (e : Bool) → IsFrom x e → NoneConflict w.judgement e group group) → AllJoined w x group unions
      → AllQuietBut w apart unions → AllMergeBut w apart x group
  group_merged name group unions named none joined quiet e a b from p q same = merges_but {a = a} {b = b}
      (λ is.
      let at = none (sym (ap apart (All-contains (λ (y : Entry). y.response ≡ name) group a named p)) ∙ is) e from in
      All-contains (λ (y : Entry). conflict_of w e a y ≡ false) group b (All-contains (λ (z : Entry). All (λ (y : Entry). conflict_of w e z y ≡ false) group) group a at p) q)
      (λ c d f. elim f [
        | below {s = s} {t = t} sa tb i j is ↦
            let u = joined e a b from p q in
            All-contains (λ (z : Union). AreQuietBut w apart z.flag z.sets.items) unions u.union quiet u.there (exclusive_of w e a b) s t c d u.from
            (u.left s sa) (u.right t tb) i j is
      ])
