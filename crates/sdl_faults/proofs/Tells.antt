-- What is told of faults, as a loop goes on.
use Rattle.std.proofs.Common.{◌≡◌, ℕ, ◌+◌, ◌<◌, Bool, List, [], ◌∷◌, ◌++◌, Option, Some, append_assoc, filter, length, get_or, take, map, string_bytes, sym, subst, ap, ◌∙◌, refl}
use Rattle.std.proofs.lemmas.List.{take_more}
use Rattle.std.proofs.lemmas.List.Elements.{filter-append}
use Rattle.std.proofs.lemmas.List.Sorted.{IsPermutation-map}
use Rattle.std.specs.List.Sorted.{IsNonDecreasingBy, IsPermutation}
use Rattle.graphql_reader.specs.declared.type_system.TypeSystemDefinition.{TypeSystemDefinition}
use Rattle.language_types.specs.declared.position.SourcePosition.{SourcePosition}
use Rattle.sdl_mending.specs.declared.mended.Mended.{Mended}
use Rattle.sdl_faults.specs.Apart.{AreApartFaults, AreCompared, TellsRest}
use Rattle.sdl_faults.specs.declared.located.LocatedFault.{LocatedFault}
use Rattle.sdl_faults.specs.Schema.{AreCircles, AreDefaults, AreFaults, AreSchemaFaults, SourceSchema}
use Rattle.sdl_faults.specs.Text.{AreDirectiveFaults, AreGivenFaults, AreOwnFaults, ArePlainFaults, AreUses, TellsFaults, TellsPlainFaults}
use Rattle.sdl_faults.specs.Text as text
use Rattle.sdl_faults.specs.Told.{Adds, Tells, ToldFault, place_index, told_value, told_values}

mapped-append : {T A : Type 0} (f : T → A) (xs ys : List T) → map f (xs ++ ys) ≡ map f xs ++ map f ys
mapped-append f [] ys = refl
mapped-append f (x ∷ xs) ys = ap (λ zs. f x ∷ zs) (mapped-append f xs ys)

-- one more fault is told
pub tells_value : (position : Option SourcePosition) (others : List SourcePosition) (message : List ℕ) (old new : List LocatedFault)
    → Tells position others (Some message) old new → told_values new ≡ told_values old ++ record { position = position; others = others; message = message } ∷ []
tells_value position others message old new h =
    let of : Option SourcePosition → List SourcePosition → List ℕ → ToldFault = λ p o m. record { position = p; others = o; message = m } in
    let text = string_bytes h.fault.message in
    let value : told_value h.fault ≡ of position others message =
    ap (λ p. of p h.fault.others.items text) h.position_is ∙ ap (λ o. of position o text) h.others_are ∙ ap (of position others) h.message_is in
    ap told_values h.all ∙ mapped-append told_value old (h.fault ∷ []) ∙ ap (λ v. told_values old ++ v ∷ []) value

-- the same in a loop
pub tells_next : {T : Type 0} (f : T → ToldFault) (xs : List T) (i : ℕ) (x d : T) (start old new : List LocatedFault) → i < length xs → x ≡ get_or xs i d
    → told_values old ≡ told_values start ++ map f (take i xs) → told_values new ≡ told_values old ++ f x ∷ []
    → told_values new ≡ told_values start ++ map f (take (i + 1) xs)
tells_next f xs i x d start old new here is before more =
    let last : map f (take (i + 1) xs) ≡ map f (take i xs) ++ f x ∷ [] =
    ap (map f) (take_more xs i d here) ∙ mapped-append f (take i xs) (get_or xs i d ∷ []) ∙ ap (λ z. map f (take i xs) ++ f z ∷ []) (sym is) in
    more ∙ ap (λ z. z ++ f x ∷ []) before
    ∙ append_assoc (told_values start) (map f (take i xs)) (f x ∷ []) ∙ ap (λ zs. told_values start ++ zs) (sym last)

-- of the items that were seen those that pass a test, and the next if it does
pub kept_next : {T A : Type 0} (test : A → Bool) (f : T → A) (xs : List T) (i : ℕ) (x d : T) (r₁ r₂ : List A) → i < length xs → x ≡ get_or xs i d
    → r₁ ≡ filter test (map f (take i xs)) → r₂ ≡ r₁ ++ filter test (f x ∷ []) → r₂ ≡ filter test (map f (take (i + 1) xs))
kept_next test f xs i x d r₁ r₂ here is before more =
    let next : map f (take (i + 1) xs) ≡ map f (take i xs) ++ f x ∷ [] =
    ap (map f) (take_more xs i d here) ∙ mapped-append f (take i xs) (get_or xs i d ∷ []) ∙ ap (λ z. map f (take i xs) ++ f z ∷ []) (sym is) in
    more ∙ ap (λ z. z ++ filter test (f x ∷ [])) before ∙ sym (filter-append test (map f (take i xs)) (f x ∷ [])) ∙ ap (filter test) (sym next)

pub mapped-twice : {T U A : Type 0} (g : U → A) (f : T → U) (xs : List T) → map (λ x. g (f x)) xs ≡ map g (map f xs)
mapped-twice g f [] = refl
mapped-twice g f (x ∷ xs) = ap (λ zs. g (f x) ∷ zs) (mapped-twice g f xs)

-- three parts one behind the other
pub added_thrice : {P Q R : List ToldFault → Type 0} (old one two new : List LocatedFault) (p : Adds P old one) (q : Adds Q one two) (r : Adds R two new)
    → told_values new ≡ told_values old ++ ((p.more ++ q.more) ++ r.more)
added_thrice old one two new p q r =
    r.all ∙ ap (λ z. z ++ r.more) (q.all ∙ ap (λ z. z ++ q.more) p.all ∙ append_assoc (told_values old) p.more q.more) ∙ append_assoc (told_values old) (p.more ++ q.more) r.more

pub adds_schema : (document : List TypeSystemDefinition) (schema : SourceSchema) (old one two new : List LocatedFault)
    → Adds (AreFaults document schema) old one → Adds (AreCircles document schema) one two → Adds (AreDefaults document schema) two new
    → Adds (AreSchemaFaults document schema) old new
adds_schema document schema old one two new faults circles defaults = record {
  more = (faults.more ++ circles.more) ++ defaults.more;
  told = record {
    faults = faults.more;
    circles = circles.more;
    defaults = defaults.more;
    are_faults = faults.told;
    are_circles = circles.told;
    are_defaults = defaults.told;
    all = refl;
  };
  all = added_thrice old one two new faults circles defaults;
}

pub adds_plain : (document standard : List TypeSystemDefinition) (old one new : List LocatedFault)
    → Adds (AreUses document standard) old one → Adds (text.AreCircles document) one new → Adds (ArePlainFaults document standard) old new
adds_plain document standard old one new uses circles = record {
  more = uses.more ++ circles.more;
  told = record { uses = uses.more; circles = circles.more; are_uses = uses.told; are_circles = circles.told; all = refl };
  all = circles.all ∙ ap (λ z. z ++ circles.more) uses.all ∙ append_assoc (told_values old) uses.more circles.more;
}

pub adds_directives : (document standard : List TypeSystemDefinition) (schema : SourceSchema) (old one new : List LocatedFault)
    → Adds (ArePlainFaults document standard) old one → Adds (AreGivenFaults document standard schema) one new
    → Adds (AreDirectiveFaults document standard schema) old new
adds_directives document standard schema old one new plain given = record {
  more = plain.more ++ given.more;
  told = record { plain = plain.more; given = given.more; are_plain = plain.told; are_given = given.told; all = refl };
  all = given.all ∙ ap (λ z. z ++ given.more) plain.all ∙ append_assoc (told_values old) plain.more given.more;
}

pub adds_apart : (mended : Mended) (document standard : List TypeSystemDefinition) (old one two three new : List LocatedFault) → document ≡ mended.document.items
    → Adds (AreCompared mended) old one → Adds (AreCircles document mended.schema) one two → Adds (AreDefaults document mended.schema) two three
    → Adds (AreGivenFaults document standard mended.schema) three new → Adds (AreApartFaults mended standard) old new
adds_apart mended document standard old one two three new is compared circles defaults given = record {
  more = ((compared.more ++ circles.more) ++ defaults.more) ++ given.more;
  told = record {
    compared = compared.more;
    circles = circles.more;
    defaults = defaults.more;
    given = given.more;
    are_compared = compared.told;
    are_circles = subst (λ d. AreCircles d mended.schema circles.more) is circles.told;
    are_defaults = subst (λ d. AreDefaults d mended.schema defaults.more) is defaults.told;
    are_given = subst (λ d. AreGivenFaults d standard mended.schema given.more) is given.told;
    all = refl;
  };
  all = given.all ∙ ap (λ z. z ++ given.more) (added_thrice old one two three compared circles defaults)
      ∙ append_assoc (told_values old) ((compared.more ++ circles.more) ++ defaults.more) given.more;
}

-- what two parts told, in another order
told_both : {P Q : List ToldFault → Type 0} (none one two told : List LocatedFault) → none ≡ [] → (p : Adds P none one) (q : Adds Q one two) → IsPermutation two told
    → IsPermutation (p.more ++ q.more) (told_values told)
told_both none one two told empty p q moved =
    let all : told_values two ≡ p.more ++ q.more = q.all ∙ ap (λ z. z ++ q.more) (p.all ∙ ap (λ z. told_values z ++ p.more) empty) in
    subst (λ z. IsPermutation z (told_values told)) all (IsPermutation-map told_value two told moved)

pub tells_plain : (document standard : List TypeSystemDefinition) (none one two told : List LocatedFault) → none ≡ []
    → Adds (AreOwnFaults document) none one → Adds (ArePlainFaults document standard) one two
    → IsPermutation two told → IsNonDecreasingBy place_index told → TellsPlainFaults document standard told
tells_plain document standard none one two told empty first second moved sorted = record {
  own = first.more;
  of_directives = second.more;
  are_own = first.told;
  are_of_directives = second.told;
  all = told_both none one two told empty first second moved;
  in_order = sorted;
}

pub tells_all : (document standard : List TypeSystemDefinition) (schema : SourceSchema) (none one two told : List LocatedFault) → none ≡ []
    → Adds (AreSchemaFaults document schema) none one → Adds (AreDirectiveFaults document standard schema) one two
    → IsPermutation two told → IsNonDecreasingBy place_index told → TellsFaults document standard schema told
tells_all document standard schema none one two told empty first second moved sorted = record {
  of_schema = first.more;
  of_directives = second.more;
  are_of_schema = first.told;
  are_of_directives = second.told;
  all = told_both none one two told empty first second moved;
  in_order = sorted;
}

-- and what three parts told
told_thrice : {P Q R : List ToldFault → Type 0} (none one two three told : List LocatedFault) → none ≡ [] → (p : Adds P none one) (q : Adds Q one two) (r : Adds R two three)
    → IsPermutation three told → IsPermutation ((p.more ++ q.more) ++ r.more) (told_values told)
told_thrice none one two three told empty p q r moved =
    let all : told_values three ≡ (p.more ++ q.more) ++ r.more =
    added_thrice none one two three p q r ∙ ap (λ z. told_values z ++ ((p.more ++ q.more) ++ r.more)) empty in
    subst (λ z. IsPermutation z (told_values told)) all (IsPermutation-map told_value three told moved)

pub tells_rest : (document standard : List TypeSystemDefinition) (mended : Mended) (none one two three told : List LocatedFault) → none ≡ []
    → Adds (AreOwnFaults document) none one → Adds (ArePlainFaults document standard) one two → Adds (AreApartFaults mended standard) two three
    → IsPermutation three told → IsNonDecreasingBy place_index told → TellsRest document standard mended told
tells_rest document standard mended none one two three told empty first second third moved sorted = record {
  own = first.more;
  of_directives = second.more;
  apart = third.more;
  are_own = first.told;
  are_of_directives = second.told;
  are_apart = third.told;
  all = told_thrice none one two three told empty first second third moved;
  in_order = sorted;
}
