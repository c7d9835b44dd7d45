-- Lists of faults that are empty if and only if something holds.
use Rattle.std.proofs.Common.{◌≡◌, ◌↔◌, ℕ, List, [], ◌∷◌, ◌++◌, Bool, true, false, not, ◌&&◌, ◌||◌, ap, refl, ◌∙◌, subst}
use Rattle.std.specs.Prelude.{⊤, if◌then◌else◌}
use Rattle.std.specs.List.{All, flat_map}
use Rattle.std.specs.Str.{bytes_eq}
use Rattle.std.proofs.lemmas.List.Elements.{All-cons, All-head, All-nil, All-tail}
use Rattle.language_values.proofs.Members.{bytes_eq-same}
use Rattle.language_types.specs.Names.{is_among}
use Rattle.type_system_interfaces.specs.Entries.{each_entry}
use Rattle.type_system_report.specs.Fault.{CoordinateValue, FaultValue, KindValue, fault_if}
use Rattle.type_system_validity.specs.Members.{AreDistinct}

-- there is no fault if and only if this holds
abbrev pub NoneIff : List FaultValue → Type 0 → Type 0
NoneIff fs P = (fs ≡ []) ↔ P

pub left_none : {X : Type 0} (xs ys : List X) → xs ++ ys ≡ [] → xs ≡ []
left_none [] ys e = refl
left_none (x ∷ xs) ys e = cc

pub right_none : {X : Type 0} (xs ys : List X) → xs ++ ys ≡ [] → ys ≡ []
right_none [] ys e = e
right_none (x ∷ xs) ys e = cc

pub both_none : {X : Type 0} (xs ys : List X) → xs ≡ [] → ys ≡ [] → xs ++ ys ≡ []
both_none xs ys e f = ap (λ z. z ++ ys) e ∙ f

pub iff_nothing : NoneIff [] ⊤
iff_nothing = (λ e. tt, λ h. refl)

pub some_fault : (f : FaultValue) (fs : List FaultValue) → NoneIff (f ∷ fs) ⊥
some_fault f fs = (λ e. cc, λ h. absurd h)

pub iff_if : (b : Bool) (at : CoordinateValue) (kind : KindValue) → NoneIff (fault_if b at kind) (b ≡ false)
iff_if false at kind = (λ e. refl, λ e. refl)
iff_if true at kind = (λ e. absurd cc, λ e. absurd cc)

pub iff_unless : (b : Bool) (at : CoordinateValue) (kind : KindValue) → NoneIff (fault_if (not b) at kind) (b ≡ true)
iff_unless true at kind = (λ e. refl, λ e. refl)
iff_unless false at kind = (λ e. absurd cc, λ e. absurd cc)

-- a fault where both hold
pub iff_if_both : (b c : Bool) (at : CoordinateValue) (kind : KindValue) → NoneIff (fault_if (b && c) at kind) (c ≡ true → b ≡ false)
iff_if_both false c at kind = (λ e. λ h. refl, λ h. refl)
iff_if_both true false at kind = (λ e. λ h. absurd cc, λ h. refl)
iff_if_both true true at kind = (λ e. absurd cc, λ h. absurd (let bad : true ≡ false = h refl in cc))

pub iff_if_first : (b c : Bool) (at : CoordinateValue) (kind : KindValue) → NoneIff (fault_if (b && c) at kind) (b ≡ true → c ≡ false)
iff_if_first false c at kind = (λ e. λ h. absurd cc, λ h. refl)
iff_if_first true c at kind = ((λ e. λ h. (iff_if c at kind).0 e), λ h. (iff_if c at kind).1 (h refl))

-- faults that are looked for where this is false
pub iff_unless_skipped : (b : Bool) (fs : List FaultValue) (P : Type 0) → NoneIff fs P → NoneIff (if b then [] else fs) (b ≡ false → P)
iff_unless_skipped true fs P p = (λ e. λ h. absurd cc, λ h. refl)
iff_unless_skipped false fs P p = (λ e. λ h. p.0 e, λ h. p.1 (h refl))

pub iff_both : (xs ys : List FaultValue) (P Q : Type 0) → NoneIff xs P → NoneIff ys Q → NoneIff (xs ++ ys) (P × Q)
iff_both xs ys P Q p q =
    (λ e. (p.0 (left_none xs ys e), q.0 (right_none xs ys e)), λ h. both_none xs ys (p.1 h.0) (q.1 h.1))

pub iff_each : {T : Type 0} (f : T → List FaultValue) (P : T → Type 0) → ((t : T) → NoneIff (f t) (P t)) → (ts : List T) → NoneIff (flat_map f ts) (All P ts)
iff_each f P at [] = (λ e. All-nil P, λ h. refl)
iff_each f P at (t ∷ ts) =
    let rest = iff_each f P at ts in (
      λ e. All-cons P t ts ((at t).0 (left_none (f t) (flat_map f ts) e)) (rest.0 (right_none (f t) (flat_map f ts) e)),
      λ h. both_none (f t) (flat_map f ts) ((at t).1 (All-head P t ts h)) (rest.1 (All-tail P t ts h)),
    )

-- what holds of all holds of a name that is among them
among_head : (P : List ℕ → Type 0) (m : List ℕ) (ns : List (List ℕ)) (n : List ℕ) (b : Bool) → bytes_eq m n ≡ b → (b || is_among ns n) ≡ true → P m → (is_among ns n ≡ true → P n) → P n
among_head P m ns n true same is h rest = subst P (bytes_eq-same m n same) h
among_head P m ns n false same is h rest = rest is

among_all : (P : List ℕ → Type 0) (ns : List (List ℕ)) (n : List ℕ) → is_among ns n ≡ true → All P ns → P n
among_all P [] n is h = absurd cc
among_all P (m ∷ ns) n is h =
    among_head P m ns n (bytes_eq m n) refl is (All-head P m ns h) (λ e. among_all P ns n e (All-tail P m ns h))

-- entries, of which each is looked at by itself
pub iff_entries : (f : List ℕ → List FaultValue) (P : List ℕ → Type 0) → ((n : List ℕ) → NoneIff (f n) (P n)) → (ns : List (List ℕ)) → NoneIff (each_entry (λ n others. f n) ns) (All P ns)
iff_entries f P at [] = (λ e. All-nil P, λ h. refl)
iff_entries f P at (n ∷ ns) =
    let more = each_entry (λ m others. f m) ns in
    let rest = iff_entries f P at ns in (
      λ e. All-cons P n ns ((at n).0 (left_none (f n) more e)) (rest.0 (right_none (f n) more e)),
      λ h. both_none (f n) more ((at n).1 (All-head P n ns h)) (rest.1 (All-tail P n ns h)),
    )

-- entries, of which none is looked at that stands again
last_entry : (f : List ℕ → List FaultValue) (P : List ℕ → Type 0) → ((n : List ℕ) → NoneIff (f n) (P n)) → (n : List ℕ) (ns : List (List ℕ)) (more : List FaultValue) (b : Bool) → is_among ns n ≡ b
    → NoneIff more (All P ns) → NoneIff ((if b then [] else f n) ++ more) (All P (n ∷ ns))
last_entry f P at n ns more true is rest = (λ e. let h = rest.0 e in All-cons P n ns (among_all P ns n is h) h, λ h. rest.1 (All-tail P n ns h))
last_entry f P at n ns more false is rest =
    (λ e. All-cons P n ns ((at n).0 (left_none (f n) more e)) (rest.0 (right_none (f n) more e)), λ h. both_none (f n) more ((at n).1 (All-head P n ns h)) (rest.1 (All-tail P n ns h)))

pub iff_last_entries : (f : List ℕ → List FaultValue) (P : List ℕ → Type 0) → ((n : List ℕ) → NoneIff (f n) (P n)) → (ns : List (List ℕ)) → NoneIff (each_entry (λ n others. if is_among others n then [] else f n) ns) (All P ns)
iff_last_entries f P at [] = (λ e. All-nil P, λ h. refl)
iff_last_entries f P at (n ∷ ns) =
    last_entry f P at n ns (each_entry (λ m others. if is_among others m then [] else f m) ns) (is_among ns n) refl (iff_last_entries f P at ns)

-- entries that stand again
distinct_entry : (b : Bool) (at : CoordinateValue) (kind : KindValue) (ns : List (List ℕ)) (more : List FaultValue) (c : Bool) → NoneIff more (c ≡ true) → NoneIff (fault_if b at kind ++ more) ((not b && c) ≡ true)
distinct_entry true at kind ns more c rest = (λ e. absurd cc, λ h. absurd cc)
distinct_entry false at kind ns more c rest = (λ e. rest.0 e, λ h. rest.1 h)

pub iff_distinct : (at : CoordinateValue) (kind : List ℕ → KindValue) (ns : List (List ℕ)) → NoneIff (each_entry (λ n others. fault_if (is_among others n) at (kind n)) ns) (AreDistinct ns)
iff_distinct at kind [] = (λ e. refl, λ h. refl)
iff_distinct at kind (n ∷ ns) = distinct_entry (is_among ns n) at (kind n) ns _ _ (iff_distinct at kind ns)

-- two things that are found at each entry
part_entries : (f g : List ℕ → List (List ℕ) → List FaultValue) (ns : List (List ℕ)) → each_entry (λ n others. f n others ++ g n others) ns ≡ [] → (each_entry f ns ≡ []) × (each_entry g ns ≡ [])
part_entries f g [] e = (refl, refl)
part_entries f g (n ∷ ns) e =
    let more = each_entry (λ m others. f m others ++ g m others) ns in
    let here = left_none (f n ns ++ g n ns) more e in
    let (first, second) = part_entries f g ns (right_none (f n ns ++ g n ns) more e) in
    (both_none (f n ns) (each_entry f ns) (left_none (f n ns) (g n ns) here) first, both_none (g n ns) (each_entry g ns) (right_none (f n ns) (g n ns) here) second)

join_entries : (f g : List ℕ → List (List ℕ) → List FaultValue) (ns : List (List ℕ)) → each_entry f ns ≡ [] → each_entry g ns ≡ [] → each_entry (λ n others. f n others ++ g n others) ns ≡ []
join_entries f g [] e h = refl
join_entries f g (n ∷ ns) e h =
    both_none (f n ns ++ g n ns) (each_entry (λ m others. f m others ++ g m others) ns)
    (both_none (f n ns) (g n ns) (left_none (f n ns) (each_entry f ns) e) (left_none (g n ns) (each_entry g ns) h))
    (join_entries f g ns (right_none (f n ns) (each_entry f ns) e) (right_none (g n ns) (each_entry g ns) h))

pub iff_both_entries : (f g : List ℕ → List (List ℕ) → List FaultValue) (ns : List (List ℕ)) (P Q : Type 0) → NoneIff (each_entry f ns) P → NoneIff (each_entry g ns) Q → NoneIff (each_entry (λ n others. f n others ++ g n others) ns) (P × Q)
iff_both_entries f g ns P Q p q =
    (λ e. let (first, second) = part_entries f g ns e in (p.0 first, q.0 second), λ h. join_entries f g ns (p.1 h.0) (q.1 h.1))
