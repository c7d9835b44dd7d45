use Rattle.std.proofs.Common.{◌≡◌, ◌∙◌, ℕ, List, true, refl, arith, length-drop, Bor}
use Rattle.graphql_lexer.specs.Scan.{is_inline}
use Rattle.graphql_lexer.specs.Seen.{seen}
use Rattle.graphql_lexer.specs.declared.lexer.Token.{Token}
use Rattle.graphql_lexer.specs.declared.lexer.Token.TheVariants.{Punctuator, Name, Int, Float, String, BlockString, End, Fault}
use Rattle.graphql_lexer.proofs.Inline.{stop_inline, token_within}
use Rattle.graphql_lexer.proofs.scan.stop_of.Goals as goal

inline_unless : (t : Token) → ((s : Bor (List ℕ)) → t ≡ BlockString s → ⊥) → is_inline (seen t) ≡ true
inline_unless (Punctuator p) h = refl
inline_unless (Name s) h = refl
inline_unless (Int s) h = refl
inline_unless (Float s) h = refl
inline_unless (String s) h = refl
inline_unless (BlockString s) h = absurd (h s refl)
inline_unless End h = refl
inline_unless (Fault expected passed) h = refl

pub along-requires : goal.along-requires
along-requires c =
    let within = token_within c.args.text.now (seen c.args.token) c.args.count c.requires.front in
    record { counts = c.requires.counts; fits = omega arith }

pub returns-in_default : goal.returns-in_default
returns-in_default c =
    let text = c.args.text.now in
    let within = token_within text (seen c.args.token) c.args.count c.requires.front in
    let left = length-drop c.args.count text in
    record {
      exact = c.along.ensures.exact ∙ stop_inline c.args.start text (seen c.args.token) c.args.count c.requires.front (inline_unless c.args.token c.in_default.not-BlockString);
      counts = c.along.ensures.counts;
      within = within;
      index = omega arith;
    }

pub returns-in-BlockString-clause-within : goal.returns-in-BlockString-clause-within
returns-in-BlockString-clause-within c = token_within c.args.text.now (seen c.args.token) c.args.count c.requires.front
