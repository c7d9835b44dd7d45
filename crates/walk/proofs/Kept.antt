-- What a context keeps of errors.
use Rattle.std.proofs.Common.{◌≡◌, ℕ, zero, suc, ◌+◌, ◌-◌, ◌<◌, ◌≤◌, Bool, true, false, not, cond, List, [], ◌∷◌, ◌++◌, length, take, drop, get_or}
use Rattle.std.proofs.Common.{refl, ap, sym, ◌∙◌, subst, arith, append_assoc}
use Rattle.std.proofs.lemmas.Bool.Decides.{nat_tests}
use Rattle.std.proofs.lemmas.List.{append-nil, drop_more, take_more}
use Rattle.std.proofs.lemmas.List.Sums.{sum_by-append, sum_by-cons}
use Rattle.std.specs.Prelude.{nat_lt}
use Rattle.walk.specs.ErrorValue.{ErrorValue, share, shares}
use Rattle.walk.specs.ContextState.{ContextState, HasRoom, fitting, has_place, with_errors}

has_more : (limit held : ℕ) → held < limit → has_place limit held ≡ true
has_more limit held less = grind (arith, nat_tests)

has_no_more : (limit held : ℕ) → (limit ≡ 0 → ⊥) → limit ≤ held → has_place limit held ≡ false
has_no_more limit held some full = grind (arith, nat_tests)

-- a limit keeps one error at least
pub first_place : (limit : ℕ) → has_place limit 0 ≡ true
first_place zero = refl
first_place (suc n) = let less : nat_lt 0 (suc n) ≡ true = grind (arith, nat_tests) in grind (arith, nat_tests)

full_fits_none : (limit held : ℕ) (es : List ErrorValue) → has_place limit held ≡ false → fitting limit held es ≡ []
full_fits_none limit held [] full = refl
full_fits_none limit held (e ∷ es) full = ap (λ b. cond b (e ∷ fitting limit (held + share e) es) []) full

pub fitting_all : (held : ℕ) (es : List ErrorValue) → fitting 0 held es ≡ es
fitting_all held [] = refl
fitting_all held (e ∷ es) = ap (λ xs. e ∷ xs) (fitting_all (held + share e) es)

-- an error and what is kept behind it, or nothing
abbrev Kept : ℕ → ℕ → ErrorValue → List ErrorValue → Bool → List ErrorValue
Kept limit held e es b = cond b (e ∷ fitting limit (held + share e) es) []

both_by : (limit held : ℕ) (e : ErrorValue) (es fs : List ErrorValue) (b : Bool) → has_place limit held ≡ b
    → fitting limit (held + share e) (es ++ fs) ≡ fitting limit (held + share e) es ++ fitting limit ((held + share e) + shares (fitting limit (held + share e) es)) fs
    → fitting limit held (e ∷ (es ++ fs)) ≡ fitting limit held (e ∷ es) ++ fitting limit (held + shares (fitting limit held (e ∷ es))) fs
both_by limit held e es fs true is more =
    let kept = fitting limit (held + share e) es in
    let cons = sum_by-cons share e kept in
    let same : (held + share e) + shares kept ≡ held + shares (e ∷ kept) = omega (arith, cons) in
    subst (λ b. Kept limit held e (es ++ fs) b ≡ Kept limit held e es b ++ fitting limit (held + shares (Kept limit held e es b)) fs) (sym is)
    (ap (λ xs. e ∷ xs) more ∙ ap (λ h. (e ∷ kept) ++ fitting limit h fs) same)
both_by limit held e es fs false is more =
    let same : held ≡ held + 0 = omega arith in
    subst (λ b. Kept limit held e (es ++ fs) b ≡ Kept limit held e es b ++ fitting limit (held + shares (Kept limit held e es b)) fs) (sym is)
    (sym (full_fits_none limit held fs is) ∙ ap (λ h. fitting limit h fs) same)

-- of two lists, one behind the other
fitting_both : (limit held : ℕ) (es fs : List ErrorValue)
    → fitting limit held (es ++ fs) ≡ fitting limit held es ++ fitting limit (held + shares (fitting limit held es)) fs
fitting_both limit held [] fs =
    let same : held ≡ held + 0 = omega arith in
    ap (λ h. fitting limit h fs) same
fitting_both limit held (e ∷ es) fs = both_by limit held e es fs (has_place limit held) refl (fitting_both limit (held + share e) es fs)

-- where there is room, nothing is kept of nothing alone
pub none_fits : (limit held : ℕ) (es : List ErrorValue) → has_place limit held ≡ true → fitting limit held es ≡ [] → es ≡ []
none_fits limit held [] room e = refl
none_fits limit held (x ∷ es) room e =
    let bad : x ∷ fitting limit (held + share x) es ≡ [] = sym (ap (Kept limit held x es) room) ∙ e in cc

-- so many errors are kept, and then as many as fit into what is left
abbrev pub Counted : ℕ → ℕ → List ErrorValue → ℕ → ℕ → Type 0
Counted limit held es count left =
    (taken : ℕ) × (left ≡ limit - taken) × (fitting limit held es ≡ take count es ++ fitting limit taken (drop count es))

pub counted_more : (limit held : ℕ) (es : List ErrorValue) (count left : ℕ) (d : ErrorValue) → count < length es → (left ≡ 0 → ⊥)
    → Counted limit held es count left → Counted limit held es (count + 1) (left - share (get_or es count d))
counted_more limit held es count left d lt some (taken, is, counted) =
    let e = get_or es count d in
    let place : has_place limit taken ≡ true = has_more limit taken (omega (arith, is, some)) in (
      taken + share e,
      omega (arith, is),
      counted
          ∙ ap (λ zs. take count es ++ fitting limit taken zs) (drop_more es count d lt)
          ∙ ap (λ zs. take count es ++ zs) (ap (Kept limit taken e (drop (count + 1) es)) place)
          ∙ sym (append_assoc (take count es) (e ∷ []) (fitting limit (taken + share e) (drop (count + 1) es)))
          ∙ ap (λ zs. zs ++ fitting limit (taken + share e) (drop (count + 1) es)) (sym (take_more es count d lt)),
    )

-- nothing is left
pub counted_full : (limit held : ℕ) (es : List ErrorValue) (count left : ℕ) → (limit ≡ 0 → ⊥) → left ≡ 0 → Counted limit held es count left
    → take count es ≡ fitting limit held es
counted_full limit held es count left some none (taken, is, counted) =
    let full = full_fits_none limit taken (drop count es) (has_no_more limit taken some (omega (arith, is, none))) in
    sym (counted ∙ ap (λ zs. take count es ++ zs) full ∙ append-nil (take count es))

is_not : (r b : Bool) → r ≡ not b → r ≡ true → b ≡ false
is_not r true e is = cc
is_not r false e is = refl

module _ {S C : Type 0} (w : ContextState S C) where
  pub with_none : w ≡ with_errors w []
  with_none = ap (λ zs. record w { errors = zs }) (sym (append-nil w.errors))

  pub with_more : (es fs : List ErrorValue) → with_errors (with_errors w es) fs ≡ with_errors w (es ++ fs)
  with_more es fs =
      let kept = fitting w.limit (shares w.errors) es in
      let more : ℕ → List ErrorValue = λ held. fitting w.limit held fs in
      ap (λ zs. record w { errors = zs })
      (ap (λ n. (w.errors ++ kept) ++ more n) (sum_by-append share w.errors kept)
      ∙ append_assoc w.errors kept (more (shares w.errors + shares kept))
      ∙ ap (λ zs. w.errors ++ zs) (sym (fitting_both w.limit (shares w.errors) es fs)))

  -- where there is room, something is kept of errors
  pub kept_none : (es : List ErrorValue) → HasRoom w → fitting w.limit (shares w.errors) es ≡ [] → es ≡ []
  kept_none es room e = none_fits w.limit (shares w.errors) es room e

  -- what has no error has room
  pub empty_has_room : w.errors ≡ [] → HasRoom w
  empty_has_room none = subst (λ es. has_place w.limit (shares es) ≡ true) (sym none) (first_place w.limit)

  pub keeps_one : (e : ErrorValue) → HasRoom w → record w { errors = w.errors ++ e ∷ [] } ≡ with_errors w (e ∷ [])
  keeps_one e room = ap (λ zs. record w { errors = w.errors ++ zs }) (sym (ap (Kept w.limit (shares w.errors) e []) room))

  -- a full context stays
  pub full_stays : (es : List ErrorValue) (full : Bool) → full ≡ not (has_place w.limit (shares w.errors)) → full ≡ true → w ≡ with_errors w es
  full_stays es full is now =
      let none = full_fits_none w.limit (shares w.errors) es (is_not full _ is now) in
      ap (λ zs. record w { errors = zs }) (sym (ap (λ zs. w.errors ++ zs) none ∙ append-nil w.errors))
