-- The text of a string, by its escapes, is the one that it stands for.
use Rattle.std.proofs.Common.{◌≡◌, ◌<◌, ℕ, zero, suc, Bool, true, false, if◌then◌else◌, List, [], ◌∷◌, ◌++◌, length, take, drop, Option, Some, None, option_map, Result, Ok, Err, refl, sym, ap, subst, ◌∙◌, arith, length-append}
use Rattle.std.proofs.lemmas.Bool.Decides.{nat_tests}
use Rattle.std.proofs.lemmas.List.{take-append-drop}
use Rattle.std.proofs.Math.Seq.{drop-append_seam}
use Rattle.std.specs.Char.{encode_utf8}
use Rattle.graphql_strings.specs.StringValues.{is_plain, IsEscape, IsStringValue, nothing, plain, escape}
use Rattle.graphql_strings.specs.Unescaping.{escape_at}
use Rattle.graphql_strings.proofs.EscapeLaws.{escape_front, escape_read}
use Rattle.value_reader.specs.Machine.{text_behind, text_from, string_text}

mapped_some : {A B : Type 0} (f : A → B) (o : Option A) (y : B) → option_map f o ≡ Some y → (x : A) × (o ≡ Some x) × (f x ≡ y)
mapped_some f None y e = cc
mapped_some f (Some x) y e = (x, refl, cc)

is_backslash : (c : ℕ) → is_plain c ≡ false → c ≡ 92
is_backslash c h = grind (arith, nat_tests)

-- ---- what is read is its text
abbrev Reads : ℕ → Type 0
Reads n = (raw text : List ℕ) → text_from n raw ≡ Some text → IsStringValue raw text

escape_text : (n : ℕ) (r : Result (ℕ × ℕ) ℕ) (cs text : List ℕ) → Reads n → escape_at (92 ∷ cs) ≡ r → text_behind (λ rest. text_from n rest) r (92 ∷ cs) ≡ Some text → IsStringValue (92 ∷ cs) text
escape_text n (Ok (c, m)) cs text reads e h =
    let found = escape_front cs c m e in
    let rest = mapped_some (λ v. encode_utf8 c ++ v) (text_from n (drop m (92 ∷ cs))) text h in
    let value = escape found.1 (reads (drop m (92 ∷ cs)) rest.0 rest.1) in
    subst (λ raw. IsStringValue raw text) (take-append-drop m (92 ∷ cs)) (subst (IsStringValue (take m (92 ∷ cs) ++ drop m (92 ∷ cs))) rest.2 value)
escape_text n (Err p) cs text reads e h = cc

first_text : (b : Bool) (n c : ℕ) (cs text : List ℕ) → Reads n → is_plain c ≡ b → (if b then option_map (λ v. c ∷ v) (text_from n cs) else text_behind (λ rest. text_from n rest) (escape_at (c ∷ cs)) (c ∷ cs)) ≡ Some text → IsStringValue (c ∷ cs) text
first_text true n c cs text reads b h =
    let rest = mapped_some (λ v. c ∷ v) (text_from n cs) text h in
    subst (IsStringValue (c ∷ cs)) rest.2 (plain b (reads cs rest.0 rest.1))
first_text false n c cs text reads b h =
    let slash = is_backslash c b in
    subst (λ d. IsStringValue (d ∷ cs) text) (sym slash)
    (escape_text n (escape_at (92 ∷ cs)) cs text reads refl (subst (λ d. text_behind (λ rest. text_from n rest) (escape_at (d ∷ cs)) (d ∷ cs) ≡ Some text) slash h))

text_reads : (n : ℕ) → Reads n
unfolding text_from
text_reads zero raw text h = cc
text_reads (suc n) [] text h = let same : [] ≡ text = cc in subst (IsStringValue []) same nothing
text_reads (suc n) (c ∷ cs) text h = first_text (is_plain c) n c cs text (text_reads n) refl h

pub string_reads : (raw text : List ℕ) → string_text raw ≡ Some text → IsStringValue raw text
string_reads raw text h = text_reads (suc (length raw)) raw text h

-- ---- its text is read
if_true : {A : Type 0} (b : Bool) (x y : A) → b ≡ true → (if b then x else y) ≡ x
if_true true x y h = refl
if_true false x y h = cc

if_false : {A : Type 0} (b : Bool) (x y : A) → b ≡ false → (if b then x else y) ≡ y
if_false true x y h = cc
if_false false x y h = refl

backslash_front : {e : List ℕ} {c : ℕ} → IsEscape e c → (d : List ℕ) × (e ≡ 92 ∷ d)
backslash_front (IsEscape.character {e} {c} h) = (e ∷ [], refl)
backslash_front (IsEscape.unicode {s} {u} h k) = (117 ∷ s, refl)
backslash_front (IsEscape.pair {s} {t} {u} {v} h k a b) = (117 ∷ (s ++ (92 ∷ 117 ∷ t)), refl)

plain_step : (n c : ℕ) (cs v : List ℕ) → is_plain c ≡ true → text_from n cs ≡ Some v → text_from (suc n) (c ∷ cs) ≡ Some (c ∷ v)
unfolding text_from
plain_step n c cs v b e = if_true (is_plain c) _ _ b ∙ ap (λ o. option_map (λ v. c ∷ v) o) e

escape_step : (n c : ℕ) (e d s v : List ℕ) → e ≡ 92 ∷ d → IsEscape e c → text_from n s ≡ Some v → text_from (suc n) (e ++ s) ≡ Some (encode_utf8 c ++ v)
unfolding text_from
escape_step n c e d s v front h k =
    let all : e ++ s ≡ 92 ∷ (d ++ s) = ap (λ x. x ++ s) front in
    let raw = 92 ∷ (d ++ s) in
    let at : escape_at raw ≡ Ok (c, length e) = ap escape_at (sym all) ∙ escape_read h s in
    let left : drop (length e) raw ≡ s = ap (drop (length e)) (sym all) ∙ drop-append_seam e s in
    ap (text_from (suc n)) all
    ∙ ap (λ r. text_behind (λ rest. text_from n rest) r raw) at
    ∙ ap (λ rest. option_map (λ v. encode_utf8 c ++ v) (text_from n rest)) left
    ∙ ap (λ o. option_map (λ v. encode_utf8 c ++ v) o) k

pub text_read : {raw text : List ℕ} → IsStringValue raw text → (n : ℕ) → length raw < n → text_from n raw ≡ Some text
unfolding text_from
text_read nothing (suc n) h = refl
text_read nothing zero h = absurd (omega arith)
text_read (plain {c} {s} {v} b r) zero h = absurd (omega arith)
text_read (plain {c} {s} {v} b r) (suc n) h = plain_step n c s v b (text_read r n (omega arith))
text_read (escape {e} {s} {v} {c} i r) zero h = absurd (omega arith)
text_read (escape {e} {s} {v} {c} i r) (suc n) h =
    let front = backslash_front i in
    let long : 0 < length e = subst (λ x. 0 < length x) (sym front.1) (omega arith) in
    escape_step n c e front.0 s v front.1 i (text_read r n (omega (arith, length-append e s)))

pub string_read : (raw text : List ℕ) → IsStringValue raw text → string_text raw ≡ Some text
string_read raw text h = text_read h (suc (length raw)) (omega arith)
