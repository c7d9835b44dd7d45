-- What the code finds out of a token, in the words of the machine.
use Rattle.std.proofs.Common.{◌≡◌, ℕ, false, List, [], ◌∷◌, Option, Some, None, option_map, refl, sym, ap, subst}
use Rattle.language_types.specs.declared.position.SourcePosition.{SourcePosition}
use Rattle.graphql_strings.specs.BlockStrings.{block_string_value}
use Rattle.graphql_lexer.specs.Lexemes.{Lexeme, is_last}
use Rattle.graphql_lexer.specs.Lexical as token
use Rattle.graphql_lexer.specs.declared.error.ReadError.{ReadError}
use Rattle.graphql_lexer.specs.declared.error.ReadError.TheVariants.{Syntax, OutOfMemory}
use Rattle.value_reader.specs.Faults.{IsTextRefusal}
use Rattle.value_reader.specs.Grammar.{Rules, IsTextOf}
use Rattle.value_reader.specs.Machine.{Frame, in_list, at_key, at_colon, at_value, at_name, refused, string_text, plain_of, step, step_by}
use Rattle.value_reader.specs.Seen.{Spanless, IsContentOf, IsStringContent, IsPlainRefusal}
use Rattle.value_reader.specs.Values.{string}
use Rattle.value_reader.proofs.Runs.{text_token}
use Rattle.value_reader.proofs.Texts.{string_reads}

-- ---- strings
pub string_content : (t : token.Token) (content : Spanless) → IsStringContent t content → IsContentOf (plain_of t) content
string_content t content (s, h, k) = subst (λ o. IsContentOf o content) (sym (text_token t s h)) k

no_text : (raw : List ℕ) (o : Option (List ℕ)) → string_text raw ≡ o → ((text : List ℕ) → IsTextOf (token.string raw) text → ⊥) → plain_of (token.string raw) ≡ None
no_text raw None e h = ap (λ o. option_map string o) e
no_text raw (Some s) e h = absurd (h s (string_reads raw s e))

pub string_refusal : (x : Lexeme) (raw : List ℕ) (e : ReadError) → token.string raw ≡ x.token → IsTextRefusal x e → IsPlainRefusal x e
string_refusal x raw OutOfMemory s h = tt
string_refusal x raw (Syntax e) s (none, place) =
    (subst (λ t. plain_of t ≡ None) s (no_text raw (string_text raw) refl (λ text is. none text (subst (λ t. IsTextOf t text) s is))), place)

pub block_string_refusal : (x : Lexeme) (raw : List ℕ) (e : ReadError) → token.block_string raw ≡ x.token → IsTextRefusal x e → IsPlainRefusal x e
block_string_refusal x raw OutOfMemory s h = tt
block_string_refusal x raw (Syntax e) s (none, place) = absurd (none (block_string_value raw) (subst (λ t. IsTextOf t (block_string_value raw)) s refl))

-- ---- the last token is refused
end_refused : (rules : Rules) (fs : List Frame) (a b : SourcePosition) → step_by rules fs token.end a b ≡ refused
end_refused rules [] a b = refl
end_refused rules (in_list from vs ∷ fs) a b = refl
end_refused rules (at_key from es ∷ fs) a b = refl
end_refused rules (at_colon from es k ∷ fs) a b = refl
end_refused rules (at_value from es k ∷ fs) a b = refl
end_refused rules (at_name from ∷ fs) a b = refl

fault_refused : (rules : Rules) (fs : List Frame) (a b : SourcePosition) → step_by rules fs token.fault a b ≡ refused
fault_refused rules [] a b = refl
fault_refused rules (in_list from vs ∷ fs) a b = refl
fault_refused rules (at_key from es ∷ fs) a b = refl
fault_refused rules (at_colon from es k ∷ fs) a b = refl
fault_refused rules (at_value from es k ∷ fs) a b = refl
fault_refused rules (at_name from ∷ fs) a b = refl

last_refused : (rules : Rules) (fs : List Frame) (t : token.Token) (a b : SourcePosition) → (step_by rules fs t a b ≡ refused → ⊥) → is_last t ≡ false
last_refused rules fs token.end a b h = absurd (h (end_refused rules fs a b))
last_refused rules fs token.fault a b h = absurd (h (fault_refused rules fs a b))
last_refused rules fs _ a b h = refl

pub not_last : (rules : Rules) (fs : List Frame) (x : Lexeme) → (step rules fs x ≡ refused → ⊥) → is_last x.token ≡ false
not_last rules fs x h = last_refused rules fs x.token x.start x.stop h
