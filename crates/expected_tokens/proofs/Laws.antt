-- What reading a longer text answers.
use Rattle.std.proofs.Common.{◌≡◌, ◌↔◌, ◌⊎◌, inl, inr, IsTrue, ℕ, Bool, true, false, List, [], ◌∷◌, ◌++◌, Option, None, refl}
use Rattle.std.proofs.Common.{sym, ap, subst, ◌∙◌, append_assoc, append-nil, suc, ◌+◌, ◌<◌, length, take, get_or, arith}
use Rattle.std.proofs.lemmas.List.Elements.{Contains-append_left, Contains-push, Contains-push_cases}
use Rattle.std.proofs.Math.Seq.{take-length, take-suc}
use Rattle.std.specs.List.{Contains}
use Rattle.expected_tokens.specs.Answers.{AreExpected, Chosen, nothing as none_chosen, taken, passed}
use Rattle.expected_tokens.specs.Answers.{IsAnswer, MayFollow, next_line, placed}
use Rattle.expected_tokens.specs.Samples.{listed, sample, token_of}
use Rattle.expected_tokens.specs.Stops.{AreDocument, Begun, IsFront, StopsAt}
use Rattle.expected_tokens.specs.declared.expected.Expected.{Expected}
use Rattle.expected_tokens.specs.declared.expected.Expected.TheVariants as expected
use Rattle.expected_tokens.specs.declared.stops.Stop.{Stop}
use Rattle.expected_tokens.proofs.Lines.{LastOrBefore, behind_line, last_or_before, moved, no_end}
use Rattle.expected_tokens.proofs.Samples.{IsWritten, written}
use Rattle.graphql_lexer.specs.Lexemes.{Lexeme, AreLexemes, Ends, Reads, nothing, token, is_last, last_at, origin}
use Rattle.graphql_lexer.specs.Lexical.{Token, punctuator, name, int, float, string, block_string, end, fault, IsToken}
use Rattle.graphql_lexer.specs.Places.{after_all}
use Rattle.graphql_lexer.specs.declared.cursor.Cursor.{Cursor}
use Rattle.graphql_lexer.proofs.Lists.{token_goes_on, tokens_are}
use Rattle.graphql_lexer.proofs.Unique.{only_tokens}
use Rattle.graphql_reader.specs.Documents.{SpellsDocument}
use Rattle.graphql_reader.specs.Faults.{GoesOn}

-- ---- where the longer text stops
-- what goes on so goes on with less
shorter : (limit : Option ℕ) (a b : List Lexeme) → GoesOn limit (a ++ b) → GoesOn limit a
shorter limit a b (ds, more, h) = (ds, b ++ more, subst (SpellsDocument limit ds) (append_assoc a b more) h)

-- The tokens of a text are w, and then it ends or has a fault. It stops there, or before, at a token.
abbrev Outcome : List Lexeme → Lexeme → List Lexeme → Lexeme → Type 0
Outcome w last b x = ((b ≡ w) × (x ≡ last)) ⊎ ((x.token ≡ end → ⊥) × (GoesOn None w → ⊥))

outcome_by : {q : Cursor} {text rest : List ℕ} (w b : List Lexeme) (last x : Lexeme) → Reads origin text w q rest
    → (GoesOn None (b ++ x ∷ []) → ⊥) → LastOrBefore w last b x → Outcome w last b x
outcome_by w b last x r stuck (inl (e, f)) = inl (sym e, sym f)
outcome_by w b last x r stuck (inr (m, e)) =
    inr (no_end r b m x e, λ g. stuck (shorter None (b ++ x ∷ []) m (subst (GoesOn None) (e ∙ sym (append_assoc b (x ∷ []) m)) g)))

outcome : (text rest : List ℕ) (w : List Lexeme) (t : Token) (q : Cursor) (stop : Stop) (s : StopsAt text stop)
    → Reads origin text w q rest → Ends t rest → Outcome w (last_at t q) s.before s.x
outcome text rest w t q stop s r ends =
    let are : AreLexemes text (w ++ last_at t q ∷ []) = (w, t, q, rest, refl, r, ends) in
    let whole = only_tokens text (w ++ last_at t q ∷ []) are in
    let cut = only_tokens text (s.before ++ s.x ∷ s.stops.more) s.stops.lexemes in
    let same : w ++ last_at t q ∷ [] ≡ s.before ++ s.x ∷ s.stops.more = whole ∙ sym cut in
    outcome_by w s.before (last_at t q) s.x r s.stops.stuck (last_or_before w s.before s.stops.more (last_at t q) s.x same)

goes_whole : (text : List ℕ) (w : List Lexeme) (q : Cursor) (stop : Stop) (s : StopsAt text stop)
    → Outcome w (last_at end q) s.before s.x → (IsTrue stop.is_end ↔ GoesOn None w)
goes_whole text w q stop s (inl (e, f)) = (λ is. subst (GoesOn None) e s.stops.begun, λ g. s.ended.1 (ap (λ (u : Lexeme). u.token) f))
goes_whole text w q stop s (inr (n, never)) = (λ is. absurd (n (s.ended.0 is)), λ g. absurd (never g))

goes_faulty : (text : List ℕ) (w : List Lexeme) (q : Cursor) (stop : Stop) (s : StopsAt text stop)
    → Outcome w (last_at fault q) s.before s.x → (IsTrue stop.is_end ↔ GoesOn None (w ++ last_at fault q ∷ []))
goes_faulty text w q stop s (inl (e, f)) = (
  λ is. let h : fault ≡ end = sym (ap (λ (u : Lexeme). u.token) f) ∙ s.ended.0 is in cc,
  λ g. let h : w ++ last_at fault q ∷ [] ≡ s.before ++ s.x ∷ [] = cc in absurd (s.stops.stuck (subst (GoesOn None) h g)),
)
goes_faulty text w q stop s (inr (n, never)) = (
  λ is. absurd (n (s.ended.0 is)),
  λ g. absurd (never (shorter None w (last_at fault q ∷ []) g)),
)

-- ---- any text
answer_by : (text front next rest : List ℕ) (t : Token) (ys : List Lexeme) (u : Cursor) (stop : Stop)
    (f : IsFront text front) → StopsAt (front ++ 10 ∷ next) stop → Reads (next_line f.place) next ys u rest
    → Ends t rest → IsAnswer text next stop.is_end
answer_by text front next rest (punctuator p) ys u stop f s r ends = absurd ends
answer_by text front next rest (name n) ys u stop f s r ends = absurd ends
answer_by text front next rest (int n) ys u stop f s r ends = absurd ends
answer_by text front next rest (float n) ys u stop f s r ends = absurd ends
answer_by text front next rest (string n) ys u stop f s r ends = absurd ends
answer_by text front next rest (block_string n) ys u stop f s r ends = absurd ends
answer_by text front next rest end ys u stop f s r ends =
    let all = behind_line front next rest f.before ys f.place u f.begun.reads r in
    let result = outcome (front ++ 10 ∷ next) rest (f.before ++ ys) end u stop s all ends in
    record {
      before = f.before;
      x = f.x;
      stops = f.stops;
      place = f.place;
      there = f.there;
      ts = ys;
      are = inl (u, subst (Reads (next_line f.place) next ys u) ends r);
      exact = goes_whole (front ++ 10 ∷ next) (f.before ++ ys) u stop s result;
    }
answer_by text front next rest fault ys u stop f s r ends =
    let all = behind_line front next rest f.before ys f.place u f.begun.reads r in
    let result = outcome (front ++ 10 ∷ next) rest (f.before ++ ys) fault u stop s all ends in
    let goes = goes_faulty (front ++ 10 ∷ next) (f.before ++ ys) u stop s result in
    record {
      before = f.before;
      x = f.x;
      stops = f.stops;
      place = f.place;
      there = f.there;
      ts = ys ++ last_at fault u ∷ [];
      are = inr (ys, u, rest, r, ends, refl);
      exact = subst (λ z. IsTrue stop.is_end ↔ GoesOn None z) (append_assoc f.before ys (last_at fault u ∷ [])) goes;
    }

pub answered : (text front next : List ℕ) (stop : Stop) → IsFront text front → StopsAt (front ++ 10 ∷ next) stop
    → IsAnswer text next stop.is_end
answered text front next stop f s =
    let (own, t, q, rest, e, r, ends) = tokens_are next in
    let m = moved r (next_line f.place) in
    answer_by text front next rest t m.xs m.place stop f s m.reads ends

-- ---- what may be expected
-- the answer for it
abbrev pub Told : Bool → List Lexeme → Cursor → Expected → Type 0
Told answer before p k = IsTrue answer ↔ MayFollow before (placed p k)

may_token : (before : List Lexeme) (x : Lexeme) → (x.token ≡ end → ⊥) → MayFollow before x → GoesOn None (before ++ x ∷ [])
may_token before x n (inl g) = g
may_token before x n (inr (e, d)) = absurd (n e)

read_sample : (k : Expected) (p : Cursor) → IsToken (token_of k) (sample k) []
    → Reads (next_line p) (sample k) (placed p k ∷ []) (after_all (next_line p) (sample k)) []
read_sample k p h =
    let u = after_all (next_line p) (sample k) in
    subst (λ z. Reads (next_line p) z (placed p k ∷ []) u []) (append-nil (sample k))
    (token (next_line p) u (token_of k) (sample k) [] [] [] h (nothing u []))

told_token : (k : Expected) (front : List ℕ) (before : List Lexeme) (p : Cursor) (stop : Stop)
    → IsToken (token_of k) (sample k) [] → Begun front before p → StopsAt (front ++ 10 ∷ sample k) stop
    → Told stop.is_end before p k
told_token k front before p stop h b s =
    let text = front ++ 10 ∷ sample k in
    let w = before ++ placed p k ∷ [] in
    let u = after_all (next_line p) (sample k) in
    let all = behind_line front (sample k) [] before (placed p k ∷ []) p u b.reads (read_sample k p h) in
    let (is, never) = goes_whole text w u stop s (outcome text [] w end u stop s all refl) in
    let other : token_of k ≡ end → ⊥ = λ e. let c : false ≡ true = sym (token_goes_on (token_of k) (sample k) [] h) ∙ ap is_last e in cc in
    (λ y. inl (is y), λ m. never (may_token before (placed p k) other m))

told_written : (k : Expected) (front : List ℕ) (before : List Lexeme) (p : Cursor) (stop : Stop) → IsWritten k
    → (k ≡ expected.End → ⊥) → Begun front before p → StopsAt (front ++ 10 ∷ sample k) stop
    → Told stop.is_end before p k
told_written k front before p stop (inl h) n b s = absurd (n h)
told_written k front before p stop (inr h) n b s = told_token k front before p stop h b s

pub told_any : (k : Expected) (front : List ℕ) (before : List Lexeme) (p : Cursor) (stop : Stop)
    → (k ≡ expected.End → ⊥) → Begun front before p → StopsAt (front ++ 10 ∷ sample k) stop
    → Told stop.is_end before p k
told_any k front before p stop n b s = told_written k front before p stop (written k) n b s

may_end : (text : List ℕ) (before : List Lexeme) (q : Cursor) (stop : Stop) (s : StopsAt text stop) → s.before ≡ before
    → s.x ≡ last_at end q → MayFollow before (last_at end q) → IsTrue stop.is_document
may_end text before q stop s e f (inl g) =
    let h : before ++ last_at end q ∷ [] ≡ s.before ++ s.x ∷ [] = cc in
    absurd (s.stops.stuck (subst (GoesOn None) h g))
may_end text before q stop s e f (inr (l, d)) = s.document.1 (ap (λ (u : Lexeme). u.token) f, subst AreDocument (sym e) d)

told_end_by : (text : List ℕ) (before : List Lexeme) (q : Cursor) (stop : Stop) (s : StopsAt text stop)
    → GoesOn None before → Outcome before (last_at end q) s.before s.x
    → (IsTrue stop.is_document ↔ MayFollow before (last_at end q))
told_end_by text before q stop s b (inl (e, f)) = (
  λ is. inr (refl, subst AreDocument e (s.document.0 is).1),
  λ m. may_end text before q stop s e f m,
)
told_end_by text before q stop s b (inr (n, never)) = absurd (never b)

pub told_end : (front : List ℕ) (before : List Lexeme) (p : Cursor) (stop : Stop) → Begun front before p
    → StopsAt (front ++ 10 ∷ []) stop → Told stop.is_document before p expected.End
told_end front before p stop b s =
    let text = front ++ 10 ∷ [] in
    let q = next_line p in
    let all = behind_line front [] [] before [] p q b.reads (nothing q []) in
    let r : Reads origin text before q [] = subst (λ w. Reads origin text w q []) (append-nil before) all in
    told_end_by text before q stop s b.goes_on (outcome text [] before end q stop s r refl)

-- ---- all of them
-- of these, those are found that may follow
abbrev pub Sifted : List Expected → List Expected → List Lexeme → Cursor → Type 0
Sifted all found before p = (k : Expected) → (Contains found k ↔ (Contains all k × MayFollow before (placed p k)))

none_in : (k : Expected) → Contains [] k → ⊥
none_in k (i, less, e) = absurd (omega arith)

pub sifted_none : (before : List Lexeme) (p : Cursor) → Sifted [] [] before p
sifted_none before p k = (λ h. absurd (none_in k h), λ (h, m). absurd (none_in k h))

found_yes : (all found : List Expected) (before : List Lexeme) (p : Cursor) (x k : Expected) → Sifted all found before p
    → MayFollow before (placed p x) → Contains found k ⊎ (x ≡ k)
    → Contains (all ++ x ∷ []) k × MayFollow before (placed p k)
found_yes all found before p x k s m (inl h) = (Contains-append_left all (x ∷ []) k ((s k).0 h).0, ((s k).0 h).1)
found_yes all found before p x k s m (inr h) =
    subst (λ z. Contains (all ++ x ∷ []) z × MayFollow before (placed p z)) h (Contains-push all x, m)

kept_yes : (all found : List Expected) (before : List Lexeme) (p : Cursor) (x k : Expected) → Sifted all found before p
    → MayFollow before (placed p k) → Contains all k ⊎ (x ≡ k) → Contains (found ++ x ∷ []) k
kept_yes all found before p x k s m (inl h) = Contains-append_left found (x ∷ []) k ((s k).1 (h, m))
kept_yes all found before p x k s m (inr h) = subst (Contains (found ++ x ∷ [])) h (Contains-push found x)

pub sifted_yes : (all found : List Expected) (before : List Lexeme) (p : Cursor) (x : Expected)
    → Sifted all found before p → MayFollow before (placed p x) → Sifted (all ++ x ∷ []) (found ++ x ∷ []) before p
sifted_yes all found before p x s m k = (
  λ h. found_yes all found before p x k s m (Contains-push_cases found x k h),
  λ (h, n). kept_yes all found before p x k s n (Contains-push_cases all x k h),
)

kept_no : (all found : List Expected) (before : List Lexeme) (p : Cursor) (x k : Expected) → Sifted all found before p
    → (MayFollow before (placed p x) → ⊥) → MayFollow before (placed p k) → Contains all k ⊎ (x ≡ k) → Contains found k
kept_no all found before p x k s never m (inl h) = (s k).1 (h, m)
kept_no all found before p x k s never m (inr h) = absurd (never (subst (λ z. MayFollow before (placed p z)) (sym h) m))

pub sifted_no : (all found : List Expected) (before : List Lexeme) (p : Cursor) (x : Expected)
    → Sifted all found before p → (MayFollow before (placed p x) → ⊥) → Sifted (all ++ x ∷ []) found before p
sifted_no all found before p x s never k = (
  λ h. (Contains-append_left all (x ∷ []) k ((s k).0 h).0, ((s k).0 h).1),
  λ (h, m). kept_no all found before p x k s never m (Contains-push_cases all x k h),
)

more : (all : List Expected) (n : ℕ) (d : Expected) → n < length all → take (n + 1) all ≡ take n all ++ get_or all n d ∷ []
more all n d h = let e : n + 1 ≡ suc n = omega arith in ap (λ k. take k all) e ∙ take-suc all n d h

pub step_yes : (all found grown : List Expected) (n : ℕ) (d : Expected) (before : List Lexeme) (p : Cursor)
    → n < length all → grown ≡ found ++ get_or all n d ∷ [] → MayFollow before (placed p (get_or all n d))
    → Sifted (take n all) found before p → Sifted (take (n + 1) all) grown before p
step_yes all found grown n d before p h e m s =
    let x = get_or all n d in
    let r : Sifted (take n all ++ x ∷ []) (found ++ x ∷ []) before p = sifted_yes (take n all) found before p x s m in
    let t : Sifted (take n all ++ x ∷ []) grown before p = subst (λ z. Sifted (take n all ++ x ∷ []) z before p) (sym e) r in
    subst (λ z. Sifted z grown before p) (sym (more all n d h)) t

pub step_no : (all found grown : List Expected) (n : ℕ) (d : Expected) (before : List Lexeme) (p : Cursor)
    → n < length all → grown ≡ found → (MayFollow before (placed p (get_or all n d)) → ⊥)
    → Sifted (take n all) found before p → Sifted (take (n + 1) all) grown before p
step_no all found grown n d before p h e m s =
    let x = get_or all n d in
    let r : Sifted (take n all ++ x ∷ []) found before p = sifted_no (take n all) found before p x s m in
    let t : Sifted (take n all ++ x ∷ []) grown before p = subst (λ z. Sifted (take n all ++ x ∷ []) z before p) (sym e) r in
    subst (λ z. Sifted z grown before p) (sym (more all n d h)) t

chosen_taken : {all found : List Expected} (x : Expected) → Chosen all found → Chosen (all ++ x ∷ []) (found ++ x ∷ [])
chosen_taken x none_chosen = taken x none_chosen
chosen_taken x (taken k h) = taken k (chosen_taken x h)
chosen_taken x (passed k h) = passed k (chosen_taken x h)

chosen_passed : {all found : List Expected} (x : Expected) → Chosen all found → Chosen (all ++ x ∷ []) found
chosen_passed x none_chosen = passed x none_chosen
chosen_passed x (taken k h) = taken k (chosen_passed x h)
chosen_passed x (passed k h) = passed k (chosen_passed x h)

pub order_yes : (all found grown : List Expected) (n : ℕ) (d : Expected) → n < length all
    → grown ≡ found ++ get_or all n d ∷ [] → Chosen (take n all) found → Chosen (take (n + 1) all) grown
order_yes all found grown n d h e c =
    let x = get_or all n d in
    let r : Chosen (take n all ++ x ∷ []) (found ++ x ∷ []) = chosen_taken x c in
    let t : Chosen (take n all ++ x ∷ []) grown = subst (Chosen (take n all ++ x ∷ [])) (sym e) r in
    subst (λ z. Chosen z grown) (sym (more all n d h)) t

pub order_no : (all found grown : List Expected) (n : ℕ) (d : Expected) → n < length all → grown ≡ found
    → Chosen (take n all) found → Chosen (take (n + 1) all) grown
order_no all found grown n d h e c =
    let x = get_or all n d in
    let r : Chosen (take n all ++ x ∷ []) found = chosen_passed x c in
    let t : Chosen (take n all ++ x ∷ []) grown = subst (Chosen (take n all ++ x ∷ [])) (sym e) r in
    subst (λ z. Chosen z grown) (sym (more all n d h)) t

pub none_yet : (found : List Expected) → found ≡ [] → Chosen [] found
none_yet found e = subst (Chosen []) (sym e) none_chosen

pub all_sifted : (text front : List ℕ) (all found : List Expected) (n : ℕ) → n ≡ length all
    → ((x : Expected) → Contains all x) → all ≡ listed → Chosen (take n all) found → IsFront text front
    → ((before : List Lexeme) (p : Cursor) → Begun front before p → Sifted (take n all) found before p)
    → AreExpected text found
all_sifted text front all found n h every same c f s = record {
  before = f.before;
  x = f.x;
  stops = f.stops;
  place = f.place;
  there = f.there;
  exact = λ k. (
    λ c. ((s f.before f.place f.begun k).0 c).1,
    λ m. (s f.before f.place f.begun k).1 (subst (λ z. Contains z k) (sym (ap (λ j. take j all) h ∙ take-length all)) (every k), m),
  );
  order = subst (λ z. Chosen z found) (ap (λ j. take j all) h ∙ take-length all ∙ same) c;
}
