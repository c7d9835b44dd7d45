-- What is left of a type, token by token.
use Rattle.std.proofs.Common.{◌≡◌, ℕ, zero, suc, false, List, [], ◌∷◌, ◌++◌, Option, refl, sym, subst, ◌∙◌}
use Rattle.graphql_lexer.specs.Ahead.{ahead_of, IsLeft, IsTaken}
use Rattle.graphql_lexer.specs.Lexical as token
use Rattle.graphql_lexer.specs.declared.error.ReadError.{ReadError}
use Rattle.graphql_lexer.specs.declared.lexer.Punctuator.{Punctuator}
use Rattle.graphql_lexer.specs.declared.lexer.Punctuator.TheVariants.{BracketOpen, BracketClose}
use Rattle.graphql_lexer.specs.declared.lexer.Punctuator.TheVariants as p
use Rattle.graphql_lexer.specs.declared.tokens.Tokens.{Tokens}
use Rattle.value_reader.specs.Faults.{IsPlaced}
use Rattle.value_reader.specs.Grammar.{lexeme, may_nest}
use Rattle.graphql_reader.specs.Languages.{Language, InTurn, Nothing, Nested, IsNamed, IsSign, Sign, AName, AType, InnerType, Bang, Closing, NoBang, Anything, Leaves, IsFault}
use Rattle.graphql_reader.proofs.ArgumentLaws.{origin}
use Rattle.graphql_reader.proofs.LanguageLaws.{PlainType, Bracketed, inner_parts, type_parts}
use Rattle.graphql_reader.proofs.LeavesLaws.{Alike, Before, Example, alike_assoc, alike_end, alike_refl, alike_then, alike_turn, before_any, before_begin, begin_nested, begin_single, begin_turn, example_alike, example_left, example_nothing, example_absent, example_single, example_turn, fault_behind, fault_front, fault_stuck, leaves_absent, leaves_from, leaves_front, leaves_left, leaves_nested, leaves_one, leaves_present, leaves_right, leaves_single, leaves_then, leaves_token, stuck_begin, stuck_nested}
use Rattle.graphql_reader.proofs.PassedLaws.{Tokened}

-- ---- tokens that differ
pub sign_not_name : (s : Punctuator) (u : token.Token) → IsSign s u → IsNamed u → ⊥
sign_not_name s u e (n, f) = let g : token.punctuator s ≡ token.name n = sym e ∙ f in cc

-- ---- some words
pub example_sign : (s : Punctuator) → Example (Sign s)
example_sign s = example_single (IsSign s) (lexeme (token.punctuator s) origin origin) refl

pub example_name : Example AName
example_name = example_single IsNamed (lexeme (token.name []) origin origin) ([], refl)

example_inner : (d : ℕ) → Example (InnerType d)
example_inner d = example_alike (inner_parts d) (example_turn (example_left example_name) example_absent)

example_closing : (n : ℕ) → Example (Closing n)
example_closing zero = example_nothing
example_closing (suc n) = example_turn (example_sign BracketClose) (example_turn example_absent (example_closing n))

pub example_type : Example AType
example_type = example_alike type_parts (example_inner 0)

-- ---- the brackets
abbrev pub Opened : ℕ → Language
Opened n = InTurn (InnerType n) (Closing n)

abbrev Choice : ℕ → Language
Choice n = InTurn (PlainType n) (InTurn Bang (Closing n))

opened_choice : (n : ℕ) → Alike (Opened n) (Choice n)
opened_choice n = alike_then (alike_turn (inner_parts n) alike_refl) alike_assoc

-- with a bracket next it is a list
listed : {limit : Option ℕ} {F : Tokened} {a : Tokens} (n : ℕ) → (ahead_of a).token ≡ token.punctuator BracketOpen → Leaves limit F (Opened n) (InTurn (Nested n (Bracketed n)) (InTurn Bang (Closing n))) a a
listed n e =
    leaves_from (opened_choice n) (leaves_front {G = Anything} (leaves_right {K = IsNamed} refl begin_single (λ k. sign_not_name BracketOpen _ e k)) before_any)

regrouped : (n : ℕ) → Alike (InTurn (Bracketed n) (InTurn Bang (Closing n))) (InTurn (Sign BracketOpen) (Opened (suc n)))
regrouped n = alike_then alike_assoc (alike_turn alike_refl alike_assoc)

pub bracket_taken : {limit : Option ℕ} {F : Tokened} {a b : Tokens} (n : ℕ) → IsTaken (token.punctuator BracketOpen) a b → Leaves limit F (Opened n) (Opened (suc n)) a b
bracket_taken n t =
    leaves_then (listed n t.0) (leaves_then (leaves_front {G = Anything} leaves_nested before_any) (leaves_from (regrouped n) (leaves_token (token.punctuator BracketOpen) t refl)))

pub bracket_deep : {limit : Option ℕ} {F : Tokened} {a : Tokens} {e : ReadError} (n : ℕ) → (ahead_of a).token ≡ token.punctuator BracketOpen → may_nest limit n ≡ false → IsPlaced (ahead_of a) e → IsFault limit F (Opened n) a a e
bracket_deep n next deep placed =
    fault_behind (listed n next) (fault_front {G = Anything} (fault_stuck (stuck_nested refl deep (example_turn (example_sign BracketOpen) (example_turn (example_inner (suc n)) (example_sign BracketClose)))) placed) before_any (example_turn example_absent (example_closing n)))

-- ---- the name
named_next : {limit : Option ℕ} {F : Tokened} {a : Tokens} (n : ℕ) → ((ahead_of a).token ≡ token.punctuator BracketOpen → ⊥) → Leaves limit F (Opened n) (InTurn AName (InTurn Bang (Closing n))) a a
named_next n other =
    leaves_from (opened_choice n) (leaves_front {G = Anything} (leaves_left {K = IsSign BracketOpen} refl (begin_nested (begin_turn begin_single)) other) before_any)

pub name_taken : {limit : Option ℕ} {F : Tokened} {a b : Tokens} (n : ℕ) (word : List ℕ) → ((ahead_of a).token ≡ token.punctuator BracketOpen → ⊥) → IsTaken (token.name word) a b → Leaves limit F (Opened n) (InTurn Bang (Closing n)) a b
name_taken n word other t = leaves_then (named_next n other) (leaves_token (token.name word) t (word, refl))

pub name_missing : {limit : Option ℕ} {F : Tokened} {a b : Tokens} {e : ReadError} (n : ℕ) → ((ahead_of a).token ≡ token.punctuator BracketOpen → ⊥) → ((s : List ℕ) → IsLeft (token.name s) a b) → IsPlaced (ahead_of b) e → IsFault limit F (Opened n) a b e
name_missing n other none placed =
    fault_behind (named_next n other) (fault_stuck (stuck_begin {K = IsNamed} (none []).1 (begin_turn begin_single) (λ (s, f). (none s).0 f) (example_turn example_name (example_turn example_absent (example_closing n)))) placed)

-- ---- what follows the name
closing_bang : (limit : Option ℕ) (n : ℕ) → Before limit (Closing n) NoBang NoBang
closing_bang limit zero = record { before = λ b r q f. subst (λ z. NoBang (z ++ r)) (sym q.none) f }
closing_bang limit (suc n) = before_begin {K = IsSign BracketClose} (p.Bang ∷ []) (begin_turn begin_single) (λ u e. (λ f. (let g : token.punctuator BracketClose ≡ token.punctuator p.Bang = sym e ∙ f in cc), tt))

pub bang_read : {limit : Option ℕ} {a b : Tokens} (n : ℕ) → Leaves limit NoBang Bang Nothing a b → Leaves limit NoBang (InTurn Bang (Closing n)) (Closing n) a b
bang_read {limit} n h = leaves_one h (closing_bang limit n)

pub bang_taken : {limit : Option ℕ} {a b : Tokens} → IsTaken (token.punctuator p.Bang) a b → Leaves limit NoBang Bang Nothing a b
bang_taken {a = a} t = leaves_then (leaves_present refl (λ r f e. f.0 (e ∙ t.0))) (leaves_single (token.punctuator p.Bang) t refl)

pub bang_left : {limit : Option ℕ} {a b : Tokens} → IsLeft (token.punctuator p.Bang) a b → Leaves limit NoBang Bang Nothing a b
bang_left t = leaves_absent {K = IsSign p.Bang} t.1 begin_single t.0

pub closed_one : {limit : Option ℕ} {F : Tokened} {a b : Tokens} (n : ℕ) → IsTaken (token.punctuator BracketClose) a b → Leaves limit F (Closing (suc n)) (InTurn Bang (Closing n)) a b
closed_one n t = leaves_token (token.punctuator BracketClose) t refl

pub unclosed : {limit : Option ℕ} {F : Tokened} {a b : Tokens} {e : ReadError} (n : ℕ) → IsLeft (token.punctuator BracketClose) a b → IsPlaced (ahead_of b) e → IsFault limit F (Closing (suc n)) a b e
unclosed n t placed =
    fault_stuck (stuck_begin {K = IsSign BracketClose} t.1 (begin_turn begin_single) t.0 (example_closing (suc n))) placed

-- ---- the whole
pub opened_first : Alike (InnerType 0) (Opened 0)
opened_first = record { to = λ l ts h. alike_end.back l ts h; back = λ l ts h. alike_end.to l ts h }
