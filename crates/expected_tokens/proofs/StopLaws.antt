-- Where reading stops.
use Rattle.std.proofs.Common.{◌≡◌, ◌≤◌, ◌↔◌, IsTrue, ℕ, true, false, List, [], ◌∷◌, ◌++◌, length, take, None}
use Rattle.std.proofs.Common.{refl, sym, ap, subst, ◌∙◌, append_assoc, append-nil, length-append, arith}
use Rattle.std.proofs.Math.Seq.{take-append_seam}
use Rattle.expected_tokens.specs.Stops.{IsFront, Stops, StopsAt}
use Rattle.expected_tokens.specs.declared.stops.Stop.{Stop}
use Rattle.expected_tokens.proofs.Lines.{Before, before_lexeme, read}
use Rattle.graphql_lexer.specs.Ahead.{ahead_of, behind, left}
use Rattle.graphql_lexer.specs.Lexemes.{Lexeme, AreLexemes, origin}
use Rattle.graphql_lexer.specs.Lexical.{end}
use Rattle.graphql_lexer.specs.declared.error.ReadError.TheVariants.{Syntax}
use Rattle.graphql_lexer.specs.declared.error.SyntaxError.{SyntaxError}
use Rattle.graphql_lexer.specs.declared.tokens.Tokens.{Tokens}
use Rattle.graphql_reader.specs.Documents.{Definition, SpellsDocument}
use Rattle.graphql_reader.specs.Languages.{ADocument, AtEnd, IsFault, Stuck}
use Rattle.graphql_reader.specs.Passed.{Reads}
use Rattle.graphql_reader.proofs.DocumentOnlyLaws.{end_stops}
use Rattle.language_types.specs.Position.{index_of}

-- what `stop_at` says of the token ahead
abbrev pub Tells : Stop → Tokens → Type 0
Tells stop b = (stop.index ≡ index_of (ahead_of b).start) × (IsTrue stop.is_end ↔ ((ahead_of b).token ≡ end))

pub stops_document : (text : List ℕ) (a b : Tokens) (ds : List Definition) (stop : Stop) → AreLexemes text (left a)
    → Reads (SpellsDocument None ds) a b → (ahead_of b).token ≡ end → Tells stop b → stop.is_document ≡ true
    → StopsAt text stop
stops_document text a b ds stop are (ts, took, h) ended tells is =
    record {
      before = ts;
      x = ahead_of b;
      stops = record {
        more = behind b;
        lexemes = subst (AreLexemes text) took.0 are;
        begun = (ds, [], subst (SpellsDocument None ds) (sym (append-nil ts)) h);
        stuck = λ (es, more, k). end_stops None ds es ts more (ahead_of b) ended h k;
      };
      index = tells.0;
      ended = tells.1;
      document = (λ is. (ended, (ds, h)), λ so. is);
    }

pub stops_fault : (text : List ℕ) (a b : Tokens) (e : SyntaxError) (stop : Stop) → AreLexemes text (left a)
    → IsFault None AtEnd ADocument a b (Syntax e) → Tells stop b → stop.is_document ≡ false → StopsAt text stop
stops_fault text a b e stop are f tells is =
    let s : Stuck None AtEnd ADocument a b = f.stuck tt in
    record {
      before = s.taken;
      x = ahead_of b;
      stops = record {
        more = behind b;
        lexemes = subst (AreLexemes text) s.place are;
        begun = (s.goes_on.1.tree, s.goes_on.0, s.goes_on.1.spelled);
        stuck = λ (ds, more, h).
            let begins = s.taken ++ ahead_of b ∷ [] in
            let e = sym (append_assoc s.taken (ahead_of b ∷ []) more) ∙ sym (append-nil (begins ++ more)) in
            s.never more (begins ++ more) [] (record { tree = ds; spelled = h }) refl e;
      };
      index = tells.0;
      ended = tells.1;
      document = (
        λ so. let f : true ≡ false = sym so ∙ is in cc,
        λ (last, (ds, h)). absurd (s.never (behind b) s.taken (ahead_of b ∷ behind b) (record { tree = ds; spelled = h }) last refl),
      );
    }

-- ---- the bytes before
taken : (n : ℕ) (text bytes rest : List ℕ) → text ≡ bytes ++ rest → n ≡ length bytes → take n text ≡ bytes
taken n text bytes rest e h = ap (λ k. take k text) h ∙ ap (take (length bytes)) e ∙ take-append_seam bytes rest

within : (n : ℕ) (text bytes rest : List ℕ) → text ≡ bytes ++ rest → n ≡ length bytes → n ≤ length text
within n text bytes rest e h = omega (arith, ap length e ∙ length-append bytes rest)

pub record Front (text : List ℕ) (n : ℕ) : Type 0 where
  pub within : n ≤ length text
  pub front : IsFront text (take n text)

front_at : (text : List ℕ) (before : List Lexeme) (x : Lexeme) (n : ℕ) → Stops text before x → n ≡ index_of x.start
    → Before text origin before x → Front text n
front_at text before x n stops start b =
    let r = read b.reads in
    let h : n ≡ length r.bytes = start ∙ ap index_of (sym b.there) ∙ (let k = r.index in omega arith) in
    let e : take n text ≡ r.bytes = taken n text r.bytes b.rest r.joined h in
    record {
      within = within n text r.bytes b.rest r.joined h;
      front = subst (IsFront text) (sym e) (record {
        before = before;
        x = x;
        place = b.place;
        stops = stops;
        there = b.there;
        begun = record { goes_on = stops.begun; reads = r.again };
      });
    }

pub front_of_stop : (text : List ℕ) (stop : Stop) → StopsAt text stop → Front text stop.index
front_of_stop text stop s =
    front_at text s.before s.x stop.index s.stops s.index (before_lexeme text s.before s.stops.more s.x s.stops.lexemes)

-- the text that is made
pub made : (front next text grown whole bytes given : List ℕ) → text ≡ front → grown ≡ text ++ 10 ∷ []
    → whole ≡ grown ++ bytes → bytes ≡ next → given ≡ whole → given ≡ front ++ 10 ∷ next
made front next text grown whole bytes given a b c d e = let f = append_assoc front (10 ∷ []) next in cc
