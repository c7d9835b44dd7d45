use Rattle.std.proofs.Common.{List, subst, sym, ap, take, ◌∙◌, ℕ}
use Rattle.std.specs.Str.{IsUtf8}
use Rattle.graphql_lexer.specs.Lexical.{Token, name}
use Rattle.graphql_lexer.proofs.Names.{name_utf8, name_there}
use Rattle.graphql_lexer.proofs.lexer.name_at.Goals as goal

pub from_utf8_unchecked-name-requires : goal.from_utf8_unchecked-name-requires
from_utf8_unchecked-name-requires c =
    let text = c.args.text.now in
    let P : ℕ → Type 0 = λ n. IsUtf8 (take n text) in
    subst P (sym c.name_length-length.ensures.exact) (name_utf8 text)

pub returns : goal.returns
returns c =
    let text = c.args.text.now in
    let n = c.name_length-length.result in
    let f : List ℕ → Token × ℕ = λ s. (name s, n) in
    let g : ℕ → Token × ℕ = λ k. (name (take k text), k) in
    ap f c.from_utf8_unchecked-name.ensures ∙ ap g c.name_length-length.ensures.exact ∙ name_there text
