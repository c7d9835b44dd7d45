-- Laws of the values of strings: they are read from the front on, and in one way.
use Rattle.std.proofs.Common.{◌≡◌, ◌⊎◌, ◌<◌, ◌≤◌, ◌+◌, ◌-◌, inl, inr, ℕ, suc, List, [], ◌∷◌, ◌++◌, Bool, true, false, ◌&&◌, if◌then◌else◌, Err, length, take, drop, get_or, slice_range, refl, sym, ap, subst, ◌∙◌, arith, append_assoc, take-add, add-zero}
use Rattle.std.proofs.lemmas.Bool.Decides.{nat_tests}
use Rattle.std.proofs.lemmas.List.{append-nil, drop_at, take-append-drop, drop-drop, take_all, drop_all, length-drop, length-take-le, get_or-drop, get_or-take}
use Rattle.std.proofs.lemmas.Str.{IsCharBoundary-start, IsCharBoundary-after_ascii}
use Rattle.std.specs.Str.{IsUtf8, IsCharBoundary}
use Rattle.std.specs.Char.{encode_utf8}
use Rattle.std.specs.List.{list_all, prefix_len}
use Rattle.graphql_strings.specs.Characters.{at}
use Rattle.graphql_strings.specs.StringValues.{IsEscape, character, unicode, pair, is_plain, IsStringValue, nothing, plain, escape}
use Rattle.graphql_strings.specs.Unescaping.{escape_at}
use Rattle.graphql_strings.proofs.EscapeLaws.{found_at, same_char, same_length, escape_read, escape_front, ends_ascii}
use Rattle.graphql_strings.proofs.Runs.{run_all}

-- ---- what is built
pub joined : {s v : List ℕ} → IsStringValue s v → (t w : List ℕ) → IsStringValue t w → IsStringValue (s ++ t) (v ++ w)
joined nothing t w k = k
joined (plain h r) t w k = plain h (joined r t w k)
joined (escape {e} {s} {v} {c} h r) t w k = rw (append_assoc e s t, append_assoc (encode_utf8 c) v w) (escape h (joined r t w k))

plain_first : (a b : Bool) → (a && b) ≡ true → (a ≡ true) × (b ≡ true)
plain_first true b h = (refl, h)
plain_first false b h = cc

pub plain_run : (p : List ℕ) → list_all is_plain p ≡ true → IsStringValue p p
plain_run [] h = nothing
plain_run (c ∷ cs) h = let both = plain_first (is_plain c) (list_all is_plain cs) h in plain both.0 (plain_run cs both.1)

pub one_escape : (e : List ℕ) (c : ℕ) → IsEscape e c → IsStringValue e (encode_utf8 c)
one_escape e c h = rw (append-nil e, append-nil (encode_utf8 c)) at (escape h nothing)

-- ---- what is taken apart
abbrev PlainFront : List ℕ → List ℕ → Type 0
PlainFront t v = (c : ℕ) × (s : List ℕ) × (w : List ℕ) × (t ≡ c ∷ s) × (v ≡ c ∷ w) × (is_plain c ≡ true) × IsStringValue s w

abbrev EscapeFront : List ℕ → List ℕ → Type 0
EscapeFront t v = (e : List ℕ) × (s : List ℕ) × (w : List ℕ) × (c : ℕ) × (t ≡ e ++ s) × (v ≡ encode_utf8 c ++ w) × IsEscape e c × IsStringValue s w

front : {t v : List ℕ} → IsStringValue t v → ((t ≡ []) × (v ≡ [])) ⊎ PlainFront t v ⊎ EscapeFront t v
front nothing = inl (refl, refl)
front (plain {c} {s} {v} h r) = inr (inl (c, s, v, refl, refl, h, r))
front (escape {e} {s} {v} {c} h r) = inr (inr (e, s, v, c, refl, refl, h, r))

backslash_first : {e : List ℕ} {c : ℕ} → IsEscape e c → (d : List ℕ) × (e ≡ 92 ∷ d)
backslash_first (character {e} {c} h) = (e ∷ [], refl)
backslash_first (unicode {s} {u} h k) = (117 ∷ s, refl)
backslash_first (pair {s} {t} {u} {v} h k a b) = (117 ∷ (s ++ (92 ∷ 117 ∷ t)), refl)

not_plain : (c : ℕ) → c ≡ 92 → is_plain c ≡ true → ⊥
not_plain c e h = let no : is_plain c ≡ false = rw e refl in cc

plain_escape : (c : ℕ) (s t e d : List ℕ) → c ∷ s ≡ e ++ t → e ≡ 92 ∷ d → is_plain c ≡ true → ⊥
plain_escape c s t e d h k p = let all : c ∷ s ≡ 92 ∷ (d ++ t) = h ∙ ap (λ x. x ++ t) k in let same : c ≡ 92 = cc in not_plain c same p

abbrev pub Left : List ℕ → List ℕ → List ℕ → Type 0
Left p r v = (w : List ℕ) × (v ≡ p ++ w) × IsStringValue r w

-- the value of a text that begins with a run without backslashes
plain_more : (c : ℕ) (cs r v s w : List ℕ) (d : ℕ) → c ∷ (cs ++ r) ≡ d ∷ s → v ≡ d ∷ w → IsStringValue s w → ((u : List ℕ) → IsStringValue (cs ++ r) u → Left cs r u) → Left (c ∷ cs) r v
plain_more c cs r v s w d h k i next =
    let same : c ≡ d = cc in
    let rest : s ≡ cs ++ r = cc in
    let more = next w (subst (λ x. IsStringValue x w) rest i) in
    (more.0, k ∙ ap (λ x. x ∷ w) (sym same) ∙ ap (λ x. c ∷ x) more.1, more.2)

pub after_plain : (p r v : List ℕ) → list_all is_plain p ≡ true → IsStringValue (p ++ r) v → Left p r v
after_plain [] r v h i = (v, refl, i)
after_plain (c ∷ cs) r v h i =
    let both = plain_first (is_plain c) (list_all is_plain cs) h in
    elim (front i) [
      | inl none ↦ absurd (let no = none.0 in cc)
      | inr some ↦ elim some [
        | inl q ↦ plain_more c cs r v q.1 q.2 q.0 q.3 q.4 q.6 (λ u k. after_plain cs r u both.1 k)
        | inr q ↦ absurd (let first = backslash_first q.6 in plain_escape c (cs ++ r) q.1 q.0 first.0 q.4 first.1 both.0)
      ]
    ]

-- the value of a text that begins with an escape
escape_both : (t v : List ℕ) (c n : ℕ) → escape_at t ≡ found_at c n → EscapeFront t v → (w : List ℕ) × (v ≡ encode_utf8 c ++ w) × IsStringValue (drop n t) w
escape_both t v c n k (e, s, w, d, same, value, is, more) =
    let both : found_at d (length e) ≡ found_at c n = sym (escape_read is s) ∙ sym (ap escape_at same) ∙ k in
    let char = same_char d (length e) c n both in
    let long = same_length d (length e) c n both in
    let rest : drop n t ≡ s = ap (drop n) same ∙ drop_at e s n long in
    (w, value ∙ ap (λ x. encode_utf8 x ++ w) char, subst (λ r. IsStringValue r w) (sym rest) more)

backslash_cons : (t : List ℕ) → at t 0 ≡ 92 → (cs : List ℕ) × (t ≡ 92 ∷ cs)
backslash_cons [] h = cc
backslash_cons (c ∷ cs) h = (cs, ap (λ x. x ∷ cs) h)

escape_only : (t v : List ℕ) → at t 0 ≡ 92 → IsStringValue t v → EscapeFront t v
escape_only t v h i =
    let slash = backslash_cons t h in
    elim (front i) [
      | inl none ↦ absurd (let no : [] ≡ 92 ∷ slash.0 = sym none.0 ∙ slash.1 in cc)
      | inr some ↦ elim some [
        | inl q ↦ absurd (let no : q.0 ∷ q.1 ≡ 92 ∷ slash.0 = sym q.3 ∙ slash.1 in let same : q.0 ≡ 92 = cc in not_plain q.0 same q.5)
        | inr q ↦ q
      ]
    ]

nothing_only : (t v : List ℕ) → t ≡ [] → IsStringValue t v → v ≡ []
nothing_only t v h i =
    elim (front i) [
      | inl none ↦ none.1
      | inr some ↦ elim some [
        | inl q ↦ absurd (let no : q.0 ∷ q.1 ≡ [] = sym q.3 ∙ h in cc)
        | inr q ↦ absurd (let first = backslash_first q.6 in let no : 92 ∷ (first.0 ++ q.1) ≡ [] = sym (q.4 ∙ ap (λ x. x ++ q.1) first.1) ∙ h in cc)
      ]
    ]

-- ---- the loop: the bytes before `start` stand for `text`, and no value begins otherwise
pub record Unescaped (raw : List ℕ) (start : ℕ) (text : List ℕ) : Type 0 where
  pub within : start ≤ length raw
  pub boundary : IsCharBoundary raw start
  pub value : IsStringValue (take start raw) text
  pub only : (v : List ℕ) → IsStringValue raw v → Left text (drop start raw) v

pub unescaped_none : (raw : List ℕ) → IsUtf8 raw → Unescaped raw 0 []
unescaped_none raw u = record { within = omega arith; boundary = IsCharBoundary-start raw u; value = nothing; only = λ v i. (v, refl, i) }

-- one more piece
pieced : (text piece rest v : List ℕ) (now : List ℕ) → Left text now v → ((w : List ℕ) → IsStringValue now w → (u : List ℕ) × (w ≡ piece ++ u) × IsStringValue rest u) → Left (text ++ piece) rest v
pieced text piece rest v now h next =
    let more = next h.0 h.2 in
    (more.0, h.1 ∙ ap (λ x. text ++ x) more.1 ∙ sym (append_assoc text piece more.0), more.2)

pub unescaped_run : (raw text : List ℕ) (start n : ℕ) → Unescaped raw start text → n ≡ prefix_len is_plain (drop start raw) → IsCharBoundary raw (start + n) → Unescaped raw (start + n) (text ++ take n (drop start raw))
unescaped_run raw text start n h is b =
    let run = take n (drop start raw) in
    let rest = drop start raw in
    let all : list_all is_plain run ≡ true = subst (λ k. list_all is_plain (take k rest) ≡ true) (sym is) (run_all is_plain rest) in
    let cut : run ++ drop n rest ≡ rest = take-append-drop n rest in
    let further : drop n rest ≡ drop (start + n) raw = drop-drop n start raw in
    record {
      within = b.0;
      boundary = b;
      value = subst (λ s. IsStringValue s (text ++ run)) (sym (take-add start n raw)) (joined h.value run run (plain_run run all));
      only = λ v i. pieced text run (drop (start + n) raw) v rest (h.only v i) (λ w k. subst (λ r. Left run r w) further (after_plain run (drop n rest) w all (subst (λ s. IsStringValue s w) (sym cut) k)));
    }

found_escape : (t : List ℕ) (c n : ℕ) → at t 0 ≡ 92 → escape_at t ≡ found_at c n → (n ≤ length t) × IsEscape (take n t) c
found_escape t c n h k =
    let slash = backslash_cons t h in
    subst (λ s. (n ≤ length s) × IsEscape (take n s) c) (sym slash.1) (escape_front slash.0 c n (subst (λ s. escape_at s ≡ found_at c n) slash.1 k))

pub unescaped_escape : (raw text : List ℕ) (stop c n : ℕ) → IsUtf8 raw → Unescaped raw stop text → at (drop stop raw) 0 ≡ 92 → escape_at (drop stop raw) ≡ found_at c n → (0 < n) × Unescaped raw (stop + n) (text ++ encode_utf8 c)
unescaped_escape raw text stop c n u h slash k =
    let rest = drop stop raw in
    let found = found_escape rest c n slash k in
    let ends = ends_ascii found.1 in
    let long : length (take n rest) ≡ n = length-take-le n rest found.0 in
    let inside : stop + n ≤ length raw = omega (arith, found.0, length-drop stop raw, h.within) in
    let some : 0 < n = omega (arith, ends.0, long) in
    let last : get_or (take n rest) (n - 1) 0 < 128 = subst (λ m. get_or (take n rest) (m - 1) 0 < 128) long ends.1 in
    let place : stop + (n - 1) ≡ stop + n - 1 = omega (arith, some) in
    let there : get_or raw (stop + n - 1) 0 < 128 = subst (λ m. get_or raw m 0 < 128) place (subst (λ m. m < 128) (get_or-drop stop raw (n - 1) 0) (subst (λ m. m < 128) (get_or-take n rest (n - 1) 0 (omega (arith, some))) last)) in
    let after : stop + n - 1 + 1 ≡ stop + n = omega (arith, some) in
    let cut : drop n rest ≡ drop (stop + n) raw = drop-drop n stop raw in (
      some,
      record {
        within = inside;
        boundary = subst (IsCharBoundary raw) after (IsCharBoundary-after_ascii raw (stop + n - 1) u (omega (arith, inside, some)) there);
        value = subst (λ s. IsStringValue s (text ++ encode_utf8 c)) (sym (take-add stop n raw)) (joined h.value (take n rest) (encode_utf8 c) (one_escape (take n rest) c found.1));
        only = λ v i. pieced text (encode_utf8 c) (drop (stop + n) raw) v rest (h.only v i) (λ w m. subst (λ r. Left (encode_utf8 c) r w) cut (escape_both rest w c n k (escape_only rest w slash m)));
      },
    )

pub unescaped_all : (raw text : List ℕ) (stop : ℕ) → Unescaped raw stop text → stop ≡ length raw → IsStringValue raw text × ((v : List ℕ) → IsStringValue raw v → v ≡ text)
unescaped_all raw text stop h e =
    let long : length raw ≤ stop = omega (arith, e) in (
      subst (λ s. IsStringValue s text) (take_all stop raw long) h.value,
      λ v i. let l = h.only v i in l.1 ∙ ap (λ x. text ++ x) (nothing_only (drop stop raw) l.0 (drop_all stop raw long) l.2) ∙ append-nil text,
    )

pub unescaped_refused : (raw text : List ℕ) (stop p : ℕ) → Unescaped raw stop text → at (drop stop raw) 0 ≡ 92 → escape_at (drop stop raw) ≡ Err p → (v : List ℕ) → IsStringValue raw v → ⊥
unescaped_refused raw text stop p h slash k v i =
    let l = h.only v i in
    let q = escape_only (drop stop raw) l.0 slash l.2 in
    let no : Err p ≡ found_at q.3 (length q.0) = sym k ∙ ap escape_at q.4 ∙ escape_read q.6 q.1 in
    cc

-- where the plain bytes stop, a backslash stands, or the end
not_plain_byte : (c : ℕ) → is_plain c ≡ false → c ≡ 92
not_plain_byte c h = grind (arith, nat_tests)

stops_if : (b : Bool) (c : ℕ) (cs : List ℕ) (n : ℕ) → is_plain c ≡ b → (at cs n ≡ 92) ⊎ (length cs ≤ n) → (at (c ∷ cs) (if b then 1 + n else 0) ≡ 92) ⊎ (length (c ∷ cs) ≤ (if b then 1 + n else 0))
stops_if false c cs n h k = inl (not_plain_byte c h)
stops_if true c cs n h (inl k) = let next : suc n ≡ 1 + n = omega arith in inl (ap (at (c ∷ cs)) (sym next) ∙ k)
stops_if true c cs n h (inr k) = inr (omega arith)

stops : (s : List ℕ) → (at s (prefix_len is_plain s) ≡ 92) ⊎ (length s ≤ prefix_len is_plain s)
stops [] = inr (omega arith)
stops (c ∷ cs) = stops_if (is_plain c) c cs (prefix_len is_plain cs) refl (stops cs)

pub stops_at : (raw : List ℕ) (start n : ℕ) → start + n ≤ length raw → n ≡ prefix_len is_plain (drop start raw) → (start + n ≡ length raw → ⊥) → (start + n < length raw) × (get_or raw (start + n) 0 ≡ 92) × (at (drop (start + n) raw) 0 ≡ 92)
stops_at raw start n within is more =
    let inside : start + n < length raw = omega arith in
    let here : at (drop (start + n) raw) 0 ≡ get_or raw (start + n) 0 = get_or-drop (start + n) raw 0 0 ∙ ap (λ k. get_or raw k 0) (add-zero (start + n)) in
    let found : get_or raw (start + n) 0 ≡ 92 = elim (stops (drop start raw)) [
      | inl e ↦ sym (get_or-drop start raw n 0) ∙ ap (λ k. get_or (drop start raw) k 0) is ∙ e
      | inr l ↦ absurd (omega (arith, length-drop start raw))
    ] in
    (inside, found, here ∙ found)

pub stop_boundary : (raw : List ℕ) (start n : ℕ) → start + n ≤ length raw → n ≡ prefix_len is_plain (drop start raw) → IsCharBoundary raw (start + n)
stop_boundary raw start n within is =
    (within, λ lt big. let found = stops_at raw start n within is (λ e. omega arith) in absurd (omega (arith, found.1)))

-- ---- the same, as the loop has it: `ahead` is what is left of the bytes
pub run_is : (raw bytes ahead : List ℕ) (start n : ℕ) → bytes ≡ raw → ahead ≡ drop start bytes → n ≡ prefix_len is_plain ahead → n ≤ length ahead → start ≤ length raw → (start + n ≤ length raw) × (n ≡ prefix_len is_plain (drop start raw))
run_is raw bytes ahead start n same cut is le within =
    let left : ahead ≡ drop start raw = cut ∙ ap (drop start) same in
    (omega (arith, ap length left, length-drop start raw), is ∙ ap (prefix_len is_plain) left)

pub after_run : (raw text new run : List ℕ) (start n : ℕ) → Unescaped raw start text → (start + n ≤ length raw) × (n ≡ prefix_len is_plain (drop start raw)) → run ≡ slice_range raw start (start + n) → new ≡ text ++ run → Unescaped raw (start + n) new
after_run raw text new run start n h is cut e =
    let m : start + n - start ≡ n = omega arith in
    subst (Unescaped raw (start + n)) (sym (e ∙ ap (λ x. text ++ x) (cut ∙ ap (λ k. take k (drop start raw)) m))) (unescaped_run raw text start n h is.1 (stop_boundary raw start n is.0 is.1))

pub after_piece : (raw text new bytes ahead run : List ℕ) (start n : ℕ) → Unescaped raw start text → bytes ≡ raw → ahead ≡ drop start bytes → n ≡ prefix_len is_plain ahead → n ≤ length ahead → run ≡ slice_range raw start (start + n) → new ≡ text ++ run → Unescaped raw (start + n) new
after_piece raw text new bytes ahead run start n h same cut is le got e = after_run raw text new run start n h (run_is raw bytes ahead start n same cut is le h.within) got e

pub backslash_at : (raw bytes ahead behind : List ℕ) (start n : ℕ) → start ≤ length raw → bytes ≡ raw → ahead ≡ drop start bytes → n ≡ prefix_len is_plain ahead → n ≤ length ahead → (start + n ≡ length raw → ⊥) → behind ≡ drop (start + n) bytes → (at (drop (start + n) raw) 0 ≡ 92) × (behind ≡ drop (start + n) raw)
backslash_at raw bytes ahead behind start n within same cut is le more rest =
    let run = run_is raw bytes ahead start n same cut is le within in
    ((stops_at raw start n run.0 run.1 more).2, rest ∙ ap (drop (start + n)) same)
