-- Unions that are looked at one after the other, and what follows once all are done.
use Rattle.std.proofs.Common.{refl, zero, suc, ℕ, ◌+◌, ◌<◌, ◌≤◌, ◌≡◌, ◌⊎◌, ◌++◌, ◌∷◌, [], List, None, Some, Bool, true, false, inl, inr, subst, sym, ap, ◌∙◌, arith, length, length-append, take, get_or, slice_get}
use Rattle.std.specs.Bool.{OnTrue}
use Rattle.std.specs.List.{All, Contains}
use Rattle.std.specs.Option.{option_map_or}
use Rattle.std.proofs.lemmas.Bool.{cases_lt}
use Rattle.std.proofs.lemmas.List.{take_all, take-append-le, get_or_append_left}
use Rattle.std.proofs.lemmas.List.Elements.{All-contains, All-more, All-weaker, Contains-get_or, Contains-push, Contains-append_left, Contains-push_cases}
use Rattle.std.proofs.lemmas.Option.{get_or_from_slice_get}
use Rattle.bit_matrix.specs.Set.{has}
use Rattle.merge_sets.specs.declared.node.Entry.{Entry}
use Rattle.merge_sets.specs.Clear.{AreLeaves}
use Rattle.merge_sets.specs.Graph.{Falling, height}
use Rattle.merge_sets.specs.Judgement.{ExclusiveStays, NoneConflict}
use Rattle.merge_sets.specs.Merging.{Stands, own, spread, Below, below, Merges, merges}
use Rattle.merge_sets.specs.Names.{named, AreListed}
use Rattle.merge_sets.specs.World.{World, own_of, spreads_of, set_of, conflict_of, exclusive_of}
use Rattle.merge_certificates.specs.declared.unions.Union.{Union}
use Rattle.merge_certificates.specs.Quiet.{AreQuiet, HoldAll, IsFrom}
use Rattle.merge_certificates.specs.Unions.{AllJoined, UnionsKept}
use Rattle.merge_sets.proofs.Laws.{clash, clash_some, same_some}
use Rattle.merge_sets.proofs.NoSet.{no_own, no_spreads}
use Rattle.merge_sets.proofs.OneName.{listed_in, named_in}
use Rattle.merge_decision.specs.Decided.{Adds, AddsAll, AreSettled, Grows, HeldFrom, Holds, IsDone, IsSettled, IsSound, IsThere, IsWhole, Keeps, Settles}
use Rattle.merge_decision.specs.Held.{IsHeld, IsWithin}
use Rattle.merge_decision.specs.declared.work.Work.{Work}

pub on_both : {P Q R : Type 0} (b : Bool) → (P → Q → R) → OnTrue b P → OnTrue b Q → OnTrue b R
on_both true f p q = f p q
on_both false f p q = p

none_in : {X P : Type 0} (a : X) → Contains [] a → P
none_in a c = absurd (omega (arith, c.1))

pub only_one : {X : Type 0} (s t : X) → Contains (s ∷ []) t → s ≡ t
only_one s t c = elim (Contains-push_cases [] s t c) [ inl none ↦ none_in t none | inr is ↦ is ]

one_of_two : {X : Type 0} (P : X → Type 0) (s t r : X) → P s → P t → Contains (s ∷ t ∷ []) r → P r
one_of_two P s t r p q c = elim (Contains-push_cases (s ∷ []) t r c) [
  | inl first ↦ subst P (only_one s r first) p
  | inr is ↦ subst P is q
]

first_of_two : {X : Type 0} (s t : X) → Contains (s ∷ t ∷ []) s
first_of_two s t = Contains-append_left (s ∷ []) (t ∷ []) s (Contains-push [] s)

second_of_two : {X : Type 0} (s t : X) → Contains (s ∷ t ∷ []) t
second_of_two s t = Contains-push (s ∷ []) t

-- all of a list that has one item at most
pub only_first : {X : Type 0} (xs : List X) (x a : X) → length xs ≤ 1 → slice_get xs 0 ≡ Some x → Contains xs a → x ≡ a
only_first xs x a few first c =
    let at : c.0 ≡ 0 = omega (arith, few, c.1) in
    sym (get_or_from_slice_get xs 0 x a first) ∙ ap (λ (k : ℕ). get_or xs k a) (sym at) ∙ c.2

module _ (w : World) where
  holds_kept : (vs us : List Union) (flag : Bool) (sets : List ℕ) → UnionsKept vs us → Holds w vs flag sets → Holds w us flag sets
  holds_kept vs us flag sets kept h = record { union = h.union; there = kept h.union h.there; from = h.from; held = h.held }

  pub settled_kept : (vs us : List Union) (x : Bool) (fields : List Entry) → UnionsKept vs us → AreSettled w vs x fields → AreSettled w us x fields
  settled_kept vs us x fields kept settled e a b from p q same =
      let one = settled e a b from p q same in
      record { agree = one.agree; below = λ s t sa tb. holds_kept vs us (exclusive_of w e a b) (s ∷ t ∷ []) kept (one.below s t sa tb) }

  done_kept : (vs us : List Union) (u : Union) → UnionsKept vs us → IsDone w vs u → IsDone w us u
  done_kept vs us u kept done e s t a b from i j p q same =
      let one = done e s t a b from i j p q same in
      record { agree = one.agree; below = λ y z sa tb. holds_kept vs us (exclusive_of w e a b) (y ∷ z ∷ []) kept (one.below y z sa tb) }

  pub grown_kept : (old new : Work) → Grows w old new → UnionsKept old.unions.items new.unions.items
  grown_kept old new g u c = let i = g.placed c.0 u c.1 c.2 in (c.0, i.0, i.1)

  pub grows_same : (v : Work) → Grows w v v
  grows_same v = record { placed = λ k u l at. (l, at); done = refl; sound = λ s. s; spent = omega arith }

  pub grows_then : (a b c : Work) → Grows w a b → Grows w b c → Grows w a c
  grows_then a b c g h = record {
    placed = λ k u l at. let i = g.placed k u l at in h.placed k u i.0 i.1;
    done = h.done ∙ g.done;
    sound = λ s. h.sound (g.sound s);
    spent = omega (arith, g.spent, h.spent);
  }

  -- the same unions, and perhaps more sets that they hold
  pub grows_by : (old new : Work) → new.unions ≡ old.unions → new.done ≡ old.done
      → ((t : ℕ) → has new.held t ≡ true → (has old.held t ≡ true) ⊎ Holds w old.unions.items false (t ∷ []))
      → new.budget ≤ old.budget → Grows w old new
  grows_by old new unions done held spent =
      let is : new.unions.items ≡ old.unions.items = ap (λ v. v.items) unions in
      record {
        placed = λ k u l at. subst (λ us. (k < length us) × (get_or us k u ≡ u)) (sym is) (l, at);
        done = done;
        sound = λ s. record {
          within = omega (arith, ap length is, done, s.within);
          done = subst (λ us. All (IsDone w us) (take new.done us)) (sym is)
              (subst (λ (n : ℕ). All (IsDone w old.unions.items) (take n old.unions.items)) (sym done) s.done);
          held = λ t h. subst (λ us. Holds w us false (t ∷ [])) (sym is) (elim (held t h) [ inl before ↦ s.held t before | inr now ↦ now ]);
        };
        spent = spent;
      }

  pub adds_there : (v : Work) (flag : Bool) (sets : List ℕ) → IsThere v.unions.items flag sets → Adds w flag sets v v
  adds_there v flag sets i = record {
    grows = grows_same v;
    holds = λ s. record {
      union = i.union;
      there = i.there;
      from = λ is. sym i.flagged ∙ is;
      held = λ t p a q. (t, subst (λ zs. Contains zs t) (sym i.same) p, q);
    };
  }

  pub adds_new : (old new : Work) (u : Union) → new.unions.items ≡ old.unions.items ++ u ∷ [] → new.done ≡ old.done → new.budget ≡ old.budget
      → ((t : ℕ) → has new.held t ≡ true → (has old.held t ≡ true) ⊎ ((u.flag ≡ false) × Contains u.sets.items t))
      → Adds w u.flag u.sets.items old new
  adds_new old new u is done budget held =
      let kept : UnionsKept old.unions.items new.unions.items = λ v h. subst (λ us. Contains us v) (sym is) (Contains-append_left old.unions.items (u ∷ []) v h) in
      let here : Contains new.unions.items u = subst (λ us. Contains us u) (sym is) (Contains-push old.unions.items u) in
      record {
        grows = record {
          placed = λ k v l at. subst (λ us. (k < length us) × (get_or us k v ≡ v)) (sym is)
              (omega (arith, l, length-append old.unions.items (u ∷ [])), get_or_append_left old.unions.items (u ∷ []) v k l ∙ at);
          done = done;
          sound = λ s. record {
            within = omega (arith, ap length is, length-append old.unions.items (u ∷ []), done, s.within);
            done = subst (λ us. All (IsDone w new.unions.items) us) (sym (taken s.within))
                (All-weaker (IsDone w old.unions.items) (IsDone w new.unions.items) (λ v d. done_kept old.unions.items new.unions.items v kept d) (take old.done old.unions.items) s.done);
            held = λ t h. elim (held t h) [
              | inl before ↦ holds_kept old.unions.items new.unions.items false (t ∷ []) kept (s.held t before)
              | inr now ↦ record {
                union = u;
                there = here;
                from = λ flagged. absurd (clash u.flag flagged now.0);
                held = λ r p a q. (r, subst (λ (z : ℕ). Contains u.sets.items z) (only_one t r p) now.1, q);
              }
            ];
          };
          spent = omega (arith, budget);
        };
        holds = λ s. record { union = u; there = here; from = λ flagged. flagged; held = λ t p a q. (t, p, q) };
      }
    where
      taken : old.done ≤ length old.unions.items → take new.done new.unions.items ≡ take old.done old.unions.items
      taken within = ap (λ (n : ℕ). take n new.unions.items) done ∙ ap (λ us. take old.done us) is ∙ take-append-le old.done old.unions.items (u ∷ []) within

  pub adds_held : (v : Work) (flag : Bool) (s inner : ℕ) → IsWithin w s inner → has v.held inner ≡ true → Adds w flag (s ∷ []) v v
  adds_held v flag s inner within is = record {
    grows = grows_same v;
    holds = λ sound.
        let h = sound.held inner is in
        record {
          union = h.union;
          there = h.there;
          from = λ flagged. absurd (clash false (h.from flagged) refl);
          held = λ t p a q. h.held inner (Contains-push [] inner) a (within a (subst (λ (z : ℕ). Stands w z a) (sym (only_one s t p)) q));
        };
  }

  pub adds_within : (old new : Work) (flag : Bool) (s inner : ℕ) → IsWithin w s inner → Adds w flag (inner ∷ []) old new → Adds w flag (s ∷ []) old new
  adds_within old new flag s inner within added = record {
    grows = added.grows;
    holds = λ sound.
        let h = added.holds sound in
        record {
          union = h.union;
          there = h.there;
          from = h.from;
          held = λ t p a q. h.held inner (Contains-push [] inner) a (within a (subst (λ (z : ℕ). Stands w z a) (sym (only_one s t p)) q));
        };
  }

  -- one more of some unions was added
  pub adds_next : (fresh rest more : List Union) (u : Union) (start old new : Work) → more ≡ rest ++ u ∷ []
      → Grows w start old → Adds w u.flag u.sets.items old new
      → (IsSound w start → (v : Union) → Contains fresh v → Contains more v ⊎ Holds w old.unions.items v.flag v.sets.items)
      → IsSound w start → (v : Union) → Contains fresh v → Contains rest v ⊎ Holds w new.unions.items v.flag v.sets.items
  adds_next fresh rest more u start old new is grown added before sound v c = elim (before sound v c) [
    | inl waits ↦ elim (Contains-push_cases rest u v (subst (λ us. Contains us v) is waits)) [
      | inl still ↦ inl still
      | inr same ↦ inr (subst (λ (z : Union). Holds w new.unions.items z.flag z.sets.items) same (added.holds (grown.sound sound)))
    ]
    | inr held ↦ inr (holds_kept old.unions.items new.unions.items v.flag v.sets.items (grown_kept old new added.grows) held)
  ]

  pub adds_end : (fresh rest : List Union) (start new : Work) → rest ≡ [] → Grows w start new
      → (IsSound w start → (v : Union) → Contains fresh v → Contains rest v ⊎ Holds w new.unions.items v.flag v.sets.items) → AddsAll w fresh start new
  adds_end fresh rest start new none grown told = record {
    grows = grown;
    holds = λ sound k d l. elim (told sound (get_or fresh k d) (Contains-get_or fresh k d l)) [
      | inl waits ↦ none_in (get_or fresh k d) (subst (λ us. Contains us (get_or fresh k d)) none waits)
      | inr held ↦ held
    ];
  }

  agreed : (x e : Bool) (fields : List Entry) (a b : Entry) → ((f : Bool) → IsFrom x f → NoneConflict w.judgement f fields fields)
      → IsFrom x e → Contains fields a → Contains fields b → conflict_of w e a b ≡ false
  agreed x e fields a b none from p q =
      All-contains (λ (y : Entry). conflict_of w e a y ≡ false) fields b
      (All-contains (λ (z : Entry). All (λ (y : Entry). conflict_of w e z y ≡ false) fields) fields a (none e from) p) q

  -- many fields, of which no two fail
  pub settled_many : (unions fresh : List Union) (x : Bool) (fields : List Entry)
      → ((e : Bool) → IsFrom x e → NoneConflict w.judgement e fields fields) → AllJoined w x fields fresh
      → All (λ u. Holds w unions u.flag u.sets.items) fresh → AreSettled w unions x fields
  settled_many unions fresh x fields none joined all e a b from p q same = record {
    agree = agreed x e fields a b none from p q;
    below = λ s t sa tb.
        let j = joined e a b from p q in
        let h = All-contains (λ (u : Union). Holds w unions u.flag u.sets.items) fresh j.union all j.there in
        record {
          union = h.union;
          there = h.there;
          from = λ flagged. j.from (h.from flagged);
          held = λ r c. h.held r (one_of_two (λ (z : ℕ). Contains j.union.sets.items z) s t r (j.left s sa) (j.right t tb) c);
        };
  }

  pub settled_leaves : (unions : List Union) (x : Bool) (fields : List Entry)
      → ((e : Bool) → IsFrom x e → NoneConflict w.judgement e fields fields) → AreLeaves fields → AreSettled w unions x fields
  settled_leaves unions x fields none leaves e a b from p q same = record {
    agree = agreed x e fields a b none from p q;
    below = λ s t sa tb. absurd (clash_some s a.below sa (All-contains (λ (y : Entry). y.below ≡ None) fields a leaves p));
  }

  -- one field, with itself
  pub settled_one : ExclusiveStays w.judgement → (unions : List Union) (x : Bool) (field : Entry) (fields : List Entry)
      → ((a : Entry) → Contains fields a → field ≡ a) → ((e : Bool) → IsFrom x e → NoneConflict w.judgement e fields fields)
      → ((s : ℕ) → field.below ≡ Some s → Holds w unions x (s ∷ [])) → AreSettled w unions x fields
  settled_one stays unions x field fields only none have e a b from p q same =
      let is = only a p in
      let also = only b q in
      record {
        agree = agreed x e fields a b none from p q;
        below = λ s t sa tb.
            let at : field.below ≡ Some s = subst (λ (y : Entry). y.below ≡ Some s) (sym is) sa in
            let other : field.below ≡ Some t = subst (λ (y : Entry). y.below ≡ Some t) (sym also) tb in
            let h = have s at in
            record {
              union = h.union;
              there = h.there;
              from = λ flagged. subst (λ (f : Bool). exclusive_of w f a b ≡ true) (sym (from (h.from flagged))) (stays a.field b.field);
              held = λ r c. h.held r (one_of_two (λ (z : ℕ). Contains (s ∷ []) z) s t r (Contains-push [] s)
                  (subst (λ (z : ℕ). Contains (s ∷ []) z) (same_some s t field.below at other) (Contains-push [] s)) c);
            };
      }

  pub settles_same : (v : Work) (x : Bool) (fields : List Entry) → AreSettled w v.unions.items x fields → Settles w x fields v v
  settles_same v x fields settled = record { grows = grows_same v; settled = λ sound. settled }

  pub none_settled : (unions : List Union) (x : Bool) (fields : List Entry) → fields ≡ [] → AreSettled w unions x fields
  none_settled unions x fields none e a b from p q same = none_in a (subst (λ zs. Contains zs a) none p)

  -- all fields, by their response names
  pub settled_groups : (unions : List Union) (x : Bool) (firsts fields : List Entry) → AreListed firsts fields
      → All (λ (f : Entry). AreSettled w unions x (named f.response fields)) firsts → AreSettled w unions x fields
  settled_groups unions x firsts fields listed all e a b from p q same =
      let (f, there, is) = listed_in firsts fields a listed p in
      All-contains (λ (y : Entry). AreSettled w unions x (named y.response fields)) firsts f all there e a b from
      (named_in f.response fields a p is) (named_in f.response fields b q (sym same ∙ is)) same

  pub groups_more : (vs us : List Union) (x : Bool) (firsts fields : List Entry) (k : ℕ) (d : Entry) → k < length firsts → UnionsKept vs us
      → All (λ (f : Entry). AreSettled w vs x (named f.response fields)) (take k firsts) → AreSettled w us x (named (get_or firsts k d).response fields)
      → All (λ (f : Entry). AreSettled w us x (named f.response fields)) (take (k + 1) firsts)
  groups_more vs us x firsts fields k d l kept before one = All-more (λ (f : Entry). AreSettled w us x (named f.response fields)) firsts k d l
      (All-weaker (λ (f : Entry). AreSettled w vs x (named f.response fields)) (λ (f : Entry). AreSettled w us x (named f.response fields))
      (λ f h. settled_kept vs us x (named f.response fields) kept h) (take k firsts) before) one

  -- the next union is done
  pub keeps_next : (old new : Work) (u : Union) (fields : List Entry) → old.done < length old.unions.items → get_or old.unions.items old.done u ≡ u
      → HoldAll w u.sets.items fields → Settles w u.flag fields old new → Keeps w old (record new { done = new.done + 1 })
  keeps_next old new u fields inside at hold settles =
      let kept = grown_kept old new settles.grows in
      record {
        kept = kept;
        sound = λ s.
            let t = settles.grows.sound s in
            let settled = settles.settled s in
            let there = settles.grows.placed old.done u inside at in
            let longer : new.done < length new.unions.items = omega (arith, there.0, settles.grows.done) in
            let here : get_or new.unions.items new.done u ≡ u = ap (λ (n : ℕ). get_or new.unions.items n u) settles.grows.done ∙ there.1 in
            record {
              within = omega (arith, longer);
              done = All-more (IsDone w new.unions.items) new.unions.items new.done u longer t.done
                  (subst (λ (z : Union). IsDone w new.unions.items z) (sym here) (λ e i j a b from p q f g same. settled e a b from (hold i a p f) (hold j b q g) same));
              held = t.held;
            };
      }

  pub settles_after : (old mid new : Work) (x : Bool) (fields : List Entry) → Grows w old mid → Settles w x fields mid new → Settles w x fields old new
  settles_after old mid new x fields g h = record { grows = grows_then old mid new g h.grows; settled = λ s. h.settled (g.sound s) }

  -- the sets of the next union are noted
  pub notes_next : (old mid : Work) (u : Union) (written : List ℕ) → mid.unions ≡ old.unions → mid.done ≡ old.done → mid.budget ≤ old.budget
      → old.done < length old.unions.items → get_or old.unions.items old.done u ≡ u → All (IsHeld w u.sets.items) written
      → ((t : ℕ) → has mid.held t ≡ true → (has old.held t ≡ true) ⊎ ((u.flag ≡ false) × Contains written t)) → Grows w old mid
  notes_next old mid u written unions done spent inside at held noted = grows_by old mid unions done
      (λ t h. elim (noted t h) [
        | inl before ↦ inl before
        | inr now ↦ inr (record {
          union = u;
          there = (old.done, inside, at);
          from = λ flagged. absurd (clash u.flag flagged now.0);
          held = λ r p. subst (λ (z : ℕ). IsHeld w u.sets.items z) (only_one t r p) (All-contains (IsHeld w u.sets.items) written t held now.1);
        })
      ]) spent

  module _ (falling : Falling w.sets w.fragments) where
    height_stands : {s : ℕ} {a : Entry} → Stands w s a → height a ≤ s
    height_stands {s} {a} (own p) = All-contains (λ (x : Entry). height x ≤ s) (own_of w s) a (falling s).0 p
    height_stands {s} {a} (spread {f = f} v p) =
        let less = All-contains (λ f. (f < length w.fragments) × (set_of w f < s)) (spreads_of w s) f (falling s).1 v in
        omega (arith, less.1, height_stands p)

    lower : (a b c d : Entry) → Below w a b c d → height c < height a
    lower a b c d (below {s = s} sa tb p q same) = subst (λ o. height c < option_map_or (λ x. suc x) o 0) (sym sa) (omega (arith, height_stands p))

    module _ (unions : List Union) (all : All (IsDone w unions) unions) where
      settled_in : (e : Bool) (s t : ℕ) (a b : Entry) → Holds w unions e (s ∷ t ∷ []) → Stands w s a → Stands w t b → a.response ≡ b.response → IsSettled w unions e a b
      settled_in e s t a b h p q same =
          let u = h.held s (first_of_two s t) a p in
          let v = h.held t (second_of_two s t) b q in
          All-contains (IsDone w unions) unions h.union all h.there e u.0 v.0 a b h.from u.1 v.1 u.2 v.2 same

      merged : (n : ℕ) {e : Bool} {a b : Entry} → height a < n → IsSettled w unions e a b → Merges w e a b
      merged zero l s = absurd (omega (arith, l))
      merged (suc n) {e} {a} {b} l s = merges {e = e} {a = a} {b = b} s.agree (λ c d f.
          let less : height c < n = omega (arith, l, lower a b c d f) in
          elim f [ below {s = i} {t = j} sa tb p q same ↦ merged n less (settled_in (exclusive_of w e a b) i j c d (s.below i j sa tb) p q same) ])

      pub held_quiet : (s : ℕ) → Holds w unions false (s ∷ []) → AreQuiet w false (s ∷ [])
      held_quiet s h e i j a b from pi pj p q same =
          let u = h.held i pi a p in
          let v = h.held j pj b q in
          merged (suc (height a)) (omega arith)
          (All-contains (IsDone w unions) unions h.union all h.there e u.0 v.0 a b (λ flagged. absurd (clash false (h.from flagged) refl)) u.1 v.1 u.2 v.2 same)

      absent : (s : ℕ) {a : Entry} → length w.sets ≤ s → Stands w s a → ⊥
      absent s past (own p) = omega (arith, no_own w s past, p.1)
      absent s past (spread v p) = omega (arith, no_spreads w s past, v.1)

      pub all_quiet : HeldFrom w unions 0 → (s : ℕ) → AreQuiet w false (s ∷ [])
      all_quiet have s = elim (cases_lt s (length w.sets)) [
        | inl l ↦ held_quiet s (have s (omega arith) l)
        | inr past ↦ λ e i j a b from pi pj p q same. absurd (absent s past (subst (λ (z : ℕ). Stands w z a) (sym (only_one s i pi)) p))
      ]

  pub whole_done : (v : Work) → IsWhole w v → All (IsDone w v.unions.items) v.unions.items
  whole_done v whole = subst (λ us. All (IsDone w v.unions.items) us) (take_more v.unions.items v.done whole.all) whole.sound.done
    where
      take_more : (us : List Union) (n : ℕ) → length us ≤ n → take n us ≡ us
      take_more us n l = take_all n us l

  pub keeps_then : (a b c : Work) → Keeps w a b → Keeps w b c → Keeps w a c
  keeps_then a b c g h = record { kept = λ u i. h.kept u (g.kept u i); sound = λ s. h.sound (g.sound s) }

  pub keeps_grown : (a b c : Work) → Grows w a b → Keeps w b c → Keeps w a c
  keeps_grown a b c g h = record { kept = λ u i. h.kept u (grown_kept a b g u i); sound = λ s. h.sound (g.sound s) }

  pub holds_later : (a b : Work) (sets : List ℕ) → Keeps w a b → Holds w a.unions.items false sets → Holds w b.unions.items false sets
  holds_later a b sets keeps h = holds_kept a.unions.items b.unions.items false sets keeps.kept h

  pub held_next : (a b : Work) (s : ℕ) → Keeps w a b → HeldFrom w a.unions.items (s + 1) → Holds w b.unions.items false (s ∷ []) → HeldFrom w b.unions.items s
  held_next a b s keeps before one t from l = elim (cases_lt s t) [
    | inl more ↦ holds_later a b (t ∷ []) keeps (before t (omega (arith, more)) l)
    | inr same ↦ subst (λ (z : ℕ). Holds w b.unions.items false (z ∷ [])) (is same) one
  ]
    where
      is : t ≤ s → s ≡ t
      is same = omega (arith, same, from)
