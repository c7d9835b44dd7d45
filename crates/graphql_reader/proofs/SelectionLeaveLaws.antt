-- What is left of selections and their sets, token by token.
use Rattle.std.proofs.Common.{◌≡◌, ◌⊎◌, ◌<◌, inl, inr, ℕ, zero, suc, Bool, true, false, List, [], ◌∷◌, length, Option, refl, sym, ap, subst, ◌∙◌}
use Rattle.language.specs.declared.tree.Selection.{Selection as Node}
use Rattle.sdl_scalars.specs.declared.scalar.SourceScalar.{SourceScalar}
use Rattle.graphql_lexer.specs.Ahead.{ahead_of, left, IsLeft, IsTaken}
use Rattle.graphql_lexer.specs.Lexemes.{Lexeme}
use Rattle.graphql_lexer.specs.Lexical as token
use Rattle.graphql_lexer.specs.declared.error.ReadError.{ReadError}
use Rattle.graphql_lexer.specs.declared.error.ReadError.TheVariants.{OutOfMemory}
use Rattle.graphql_lexer.specs.declared.lexer.Punctuator.{Punctuator}
use Rattle.graphql_lexer.specs.declared.lexer.Punctuator.TheVariants.{At, BraceOpen, BraceClose, Colon, ParenOpen, Spread}
use Rattle.graphql_lexer.specs.declared.tokens.Tokens.{Tokens}
use Rattle.value_reader.specs.Faults.{IsPlaced}
use Rattle.value_reader.specs.Grammar.{lexeme, may_nest}
use Rattle.value_reader.specs.declared.rules.Variables.TheVariants.{Allowed}
use Rattle.graphql_reader.specs.OpenSets.{Nodes, IsPart, LeavesPart, Rests, SpellsHead}
use Rattle.graphql_reader.specs.Languages.{Language, InTurn, Nothing, Perhaps, IsNamed, IsOtherName, IsSign, IsWord, Sign, AName, InParens, Marks, NoParen, NoMarks, AliasedName, AFieldHead, ASelection, ASet, BegunSet, RestOfSets, FirstInSet, ACondition, AFragmentName, AField, ASpread, InlineBody, AnInline, AfterDots, NoColon, NoField, NoSelection, Anything, Differs, first_of, Leaves, IsFault}
use Rattle.graphql_reader.specs.Selections.{Selection, leaf, field, spread, inline, SpellsSelection, on, selection_seen}
use Rattle.graphql_reader.proofs.ArgumentLaws.{origin}
use Rattle.graphql_reader.proofs.ArgumentLeaveLaws.{begin_directive, begin_parens, signs_differ}
use Rattle.graphql_reader.proofs.LanguageLaws.{DotsParts, head_parts, selection_parts, set_parts}
use Rattle.graphql_reader.proofs.LeavesLaws.{Alike, Begin, Before, Example, alike_assoc, alike_end, alike_refl, alike_then, alike_turn, before_any, before_begin, before_perhaps, before_several, before_turn, begin_alike, begin_as, begin_either, begin_nested, begin_perhaps, begin_several, begin_single, begin_turn, example_absent, example_alike, example_left, example_nested, example_nothing, example_several, example_single, example_turn, fault_behind, fault_from, fault_front, fault_less, fault_memory, fault_stuck, front_less, leaves_absent, leaves_alike, leaves_ended_before, leaves_from, leaves_front, leaves_left, leaves_less, leaves_more_before, leaves_nested, leaves_one, leaves_present, leaves_right, leaves_single, leaves_then, leaves_to, leaves_token, stuck_begin, stuck_nested}
use Rattle.graphql_reader.proofs.PassedLaws.{Tokened}
use Rattle.graphql_reader.proofs.TypeLeaveLaws.{example_name, example_sign, sign_not_name}

-- ---- names
aliased_first : {limit : Option ℕ} {F : Tokened} {a b : Tokens} (n : List ℕ) → IsTaken (token.name n) a b → Leaves limit F AliasedName (Perhaps (InTurn (Sign Colon) AName)) a b
aliased_first n t = leaves_token (token.name n) t (n, refl)

begin_alias : Begin (IsSign Colon) (InTurn (Sign Colon) AName)
begin_alias = begin_turn begin_single

pub unaliased : {limit : Option ℕ} {F : Tokened} {a c : Tokens} (b : Tokens) (n : List ℕ) → IsTaken (token.name n) a b → IsLeft (token.punctuator Colon) b c → Leaves limit F AliasedName Nothing a c
unaliased b n t u = leaves_then (aliased_first {b = b} n t) (leaves_absent u.1 begin_alias u.0)

aliased_colon : {limit : Option ℕ} {a c : Tokens} (b : Tokens) (n : List ℕ) → IsTaken (token.name n) a b → IsTaken (token.punctuator Colon) b c → Leaves limit NoColon AliasedName AName a c
aliased_colon b n t u =
    leaves_then (aliased_first {b = b} n t) (leaves_then (leaves_present {a = b} refl (λ r f e. f.0 (e ∙ u.0))) (leaves_token (token.punctuator Colon) u refl))

pub aliased_read : {limit : Option ℕ} {a d : Tokens} (b c : Tokens) (n k : List ℕ) → IsTaken (token.name n) a b → IsTaken (token.punctuator Colon) b c → IsTaken (token.name k) c d → Leaves limit NoColon AliasedName Nothing a d
aliased_read b c n k t u v = leaves_then (aliased_colon {c = c} b n t u) (leaves_single (token.name k) v (k, refl))

pub nameless : {limit : Option ℕ} {F : Tokened} {a b : Tokens} {e : ReadError} → ((s : List ℕ) → IsLeft (token.name s) a b) → IsPlaced (ahead_of b) e → IsFault limit F AName a b e
nameless none placed = fault_stuck (stuck_begin {K = IsNamed} (none []).1 begin_single (λ (s, f). (none s).0 f) example_name) placed

example_aliased : Example AliasedName
example_aliased = example_turn example_name example_absent

pub aliased_nameless : {limit : Option ℕ} {F : Tokened} {a b : Tokens} {e : ReadError} → ((s : List ℕ) → IsLeft (token.name s) a b) → IsPlaced (ahead_of b) e → IsFault limit F AliasedName a b e
aliased_nameless none placed = fault_stuck (stuck_begin {K = IsNamed} (none []).1 (begin_turn begin_single) (λ (s, f). (none s).0 f) example_aliased) placed

pub alias_nameless : {limit : Option ℕ} {a d : Tokens} {e : ReadError} (b c : Tokens) (n : List ℕ) → IsTaken (token.name n) a b → IsTaken (token.punctuator Colon) b c → ((s : List ℕ) → IsLeft (token.name s) c d) → IsPlaced (ahead_of d) e → IsFault limit NoColon AliasedName a d e
alias_nameless b c n t u none placed = fault_behind (aliased_colon {c = c} b n t u) (nameless none placed)

-- ---- what stands before a set
colon_differs : (s : Punctuator) (u : token.Token) → (s ≡ Colon → ⊥) → IsSign s u → Differs (Colon ∷ []) u
colon_differs s u n e = (λ f. signs_differ s Colon u n e f, tt)

paren_differs : (u : token.Token) → IsSign At u → Differs (ParenOpen ∷ []) u
paren_differs u e = (λ f. signs_differ At ParenOpen u (λ g. cc) e f, tt)

abbrev Tail : Language
Tail = InTurn (Perhaps (InParens Allowed)) (Marks Allowed)

tail_before : (limit : Option ℕ) → Before limit Tail NoField NoColon
tail_before limit =
    before_turn {G = NoColon} (before_several (Colon ∷ []) (begin_directive Allowed) (λ u e. colon_differs At u (λ g. cc) e) (λ r f. (f.0, tt))) (before_perhaps (Colon ∷ []) (begin_parens Allowed) (λ u e. colon_differs ParenOpen u (λ g. cc) e) (λ r f. f))

marks_before : (limit : Option ℕ) → Before limit (Marks Allowed) NoField NoParen
marks_before limit = before_several (ParenOpen ∷ []) (begin_directive Allowed) paren_differs (λ r f. f.1.1)

aliased_done : {limit : Option ℕ} {a b : Tokens} → Leaves limit NoColon AliasedName Nothing a b → Leaves limit NoField AFieldHead Tail a b
aliased_done {limit} h = leaves_from head_parts (leaves_one h (tail_before limit))

parens_done : {limit : Option ℕ} {a b c : Tokens} → Leaves limit NoColon AliasedName Nothing a b → Leaves limit NoParen (Perhaps (InParens Allowed)) Nothing b c → Leaves limit NoField AFieldHead (Marks Allowed) a c
parens_done {limit} h k = leaves_then (aliased_done h) (leaves_one k (marks_before limit))

pub head_read : {limit : Option ℕ} {a b c d : Tokens} → Leaves limit NoColon AliasedName Nothing a b → Leaves limit NoParen (Perhaps (InParens Allowed)) Nothing b c → Leaves limit NoMarks (Marks Allowed) Nothing c d → Leaves limit NoField AFieldHead Nothing a d
head_read h k m = leaves_then (parens_done h k) (leaves_less (λ r f. f.1) m)

pub head_nameless : {limit : Option ℕ} {a b : Tokens} {e : ReadError} → IsFault limit NoColon AliasedName a b e → IsFault limit NoField AFieldHead a b e
head_nameless {limit} f = fault_from head_parts (fault_front f (tail_before limit) (example_turn example_absent example_several))

pub head_parens : {limit : Option ℕ} {a b c : Tokens} {e : ReadError} → Leaves limit NoColon AliasedName Nothing a b → IsFault limit NoParen (Perhaps (InParens Allowed)) b c e → IsFault limit NoField AFieldHead a c e
head_parens {limit} h f = fault_behind (aliased_done h) (fault_front f (marks_before limit) example_several)

pub head_marks : {limit : Option ℕ} {a b c d : Tokens} {e : ReadError} → Leaves limit NoColon AliasedName Nothing a b → Leaves limit NoParen (Perhaps (InParens Allowed)) Nothing b c → IsFault limit NoMarks (Marks Allowed) c d e → IsFault limit NoField AFieldHead a d e
head_marks h k f = fault_behind (parens_done h k) (fault_less (λ r g. g.1) f)

-- ---- a set
pub begin_set : (d : ℕ) → Begin (IsSign BraceOpen) (ASet d)
begin_set d = begin_alike (set_parts d) (begin_nested (begin_turn begin_single))

-- a selection begins with a name, or with dots
abbrev IsBeginning : token.Token → Type 0
IsBeginning u = IsNamed u ⊎ IsSign Spread u

begin_head : Begin IsNamed AFieldHead
begin_head = begin_alike head_parts (begin_turn (begin_turn begin_single))

begin_dots : (d : ℕ) → Begin (IsSign Spread) (DotsParts d)
begin_dots d = begin_turn begin_single

begin_selection : (d : ℕ) → Begin IsBeginning (ASelection d)
begin_selection d =
    begin_alike (selection_parts d) (begin_either (begin_as (λ u k. inl k) (begin_turn begin_head)) (begin_as (λ u k. inr k) (begin_dots d)))

example_head : Example AFieldHead
example_head = example_alike head_parts (example_turn example_aliased (example_turn example_absent example_several))

example_field : (d : ℕ) → Example (AField d)
example_field d = example_turn example_head example_absent

example_selection : (d : ℕ) → Example (ASelection d)
example_selection d = example_alike (selection_parts d) (example_left (example_field d))

example_begun : (d : ℕ) → Example (BegunSet d)
example_begun d = example_turn (example_selection (suc d)) (example_turn example_several (example_sign BraceClose))

example_braces : (d : ℕ) → Example (InTurn (Sign BraceOpen) (BegunSet d))
example_braces d = example_turn (example_sign BraceOpen) (example_begun d)

pub example_set : (d : ℕ) → Example (ASet d)
example_set d = example_alike (set_parts d) (example_nested d (example_braces d))

example_rest : (n : ℕ) → Example (RestOfSets n)
example_rest zero = example_nothing
example_rest (suc n) = example_turn example_several (example_turn (example_sign BraceClose) (example_rest n))

pub set_opened : {limit : Option ℕ} {F : Tokened} {a b : Tokens} (d : ℕ) → IsTaken (token.punctuator BraceOpen) a b → Leaves limit F (ASet d) (BegunSet d) a b
set_opened d t = leaves_from (set_parts d) (leaves_then leaves_nested (leaves_token (token.punctuator BraceOpen) t refl))

pub set_deep : {limit : Option ℕ} {F : Tokened} {a : Tokens} {e : ReadError} (d : ℕ) → may_nest limit d ≡ false → IsPlaced (ahead_of a) e → IsFault limit F (ASet d) a a e
set_deep d deep placed = fault_from (set_parts d) (fault_stuck (stuck_nested refl deep (example_braces d)) placed)

pub set_missing : {limit : Option ℕ} {F : Tokened} {a b : Tokens} {e : ReadError} (d : ℕ) → IsLeft (token.punctuator BraceOpen) a b → IsPlaced (ahead_of b) e → IsFault limit F (ASet d) a b e
set_missing d t placed = fault_stuck (stuck_begin t.1 (begin_set d) t.0 (example_set d)) placed

-- ---- a field
set_field : (limit : Option ℕ) (d : ℕ) → Before limit (Perhaps (ASet d)) NoSelection NoField
set_field limit d =
    before_perhaps (Colon ∷ At ∷ ParenOpen ∷ []) (begin_set d) (λ u e. (λ f. signs_differ BraceOpen Colon u (λ g. cc) e f, (λ f. signs_differ BraceOpen At u (λ g. cc) e f, (λ f. signs_differ BraceOpen ParenOpen u (λ g. cc) e f, tt)))) (λ r f. f.1)

field_headed : {limit : Option ℕ} {a b : Tokens} (d : ℕ) → Leaves limit NoField AFieldHead Nothing a b → Leaves limit NoSelection (AField d) (Perhaps (ASet d)) a b
field_headed {limit} d h = leaves_one h (set_field limit d)

pub field_begun : {limit : Option ℕ} {a b : Tokens} (d : ℕ) → Leaves limit NoField AFieldHead Nothing a b → (ahead_of b).token ≡ token.punctuator BraceOpen → Leaves limit NoSelection (AField d) (ASet d) a b
field_begun d h next = leaves_then (field_headed d h) (leaves_present refl (λ r f e. f.0 (e ∙ next)))

pub field_whole : {limit : Option ℕ} {a b : Tokens} (d : ℕ) → Leaves limit NoField AFieldHead Nothing a b → ((ahead_of b).token ≡ token.punctuator BraceOpen → ⊥) → Leaves limit NoSelection (AField d) Nothing a b
field_whole d h other = leaves_then (field_headed d h) (leaves_absent refl (begin_set d) other)

pub field_fault : {limit : Option ℕ} {a b : Tokens} {e : ReadError} (d : ℕ) → IsFault limit NoField AFieldHead a b e → IsFault limit NoSelection (AField d) a b e
field_fault {limit} d f = fault_front f (set_field limit d) example_absent

-- ---- what follows the dots
set_marks : (limit : Option ℕ) (d : ℕ) {F : Tokened} → Before limit (ASet d) F NoMarks
set_marks limit d =
    before_begin (At ∷ ParenOpen ∷ []) (begin_set d) (λ u e. (λ f. signs_differ BraceOpen At u (λ g. cc) e f, (λ f. signs_differ BraceOpen ParenOpen u (λ g. cc) e f, tt)))

pub body_read : {limit : Option ℕ} {F : Tokened} {a b : Tokens} (d : ℕ) → Leaves limit NoMarks (Marks Allowed) Nothing a b → Leaves limit F (InlineBody d) (ASet d) a b
body_read {limit} d h = leaves_one h (set_marks limit d)

pub body_fault : {limit : Option ℕ} {F : Tokened} {a b : Tokens} {e : ReadError} (d : ℕ) → IsFault limit NoMarks (Marks Allowed) a b e → IsFault limit F (InlineBody d) a b e
body_fault {limit} d f = fault_front f (set_marks limit d) (example_set d)

-- with what a body begins
abbrev IsBody : token.Token → Type 0
IsBody u = IsSign At u ⊎ IsSign BraceOpen u

begin_body : (d : ℕ) → Begin IsBody (InlineBody d)
begin_body d = begin_several (begin_as (λ u k. inl k) (begin_directive Allowed)) (begin_as (λ u k. inr k) (begin_set d))

begin_condition : Begin (IsWord on) ACondition
begin_condition = begin_turn begin_single

begin_spread : Begin IsOtherName ASpread
begin_spread = begin_turn begin_single

on_body : (u : token.Token) → IsWord on u → IsBody u → ⊥
on_body u e (inl f) = let g : token.name on ≡ token.punctuator At = sym e ∙ f in cc
on_body u e (inr f) = let g : token.name on ≡ token.punctuator BraceOpen = sym e ∙ f in cc

on_other : (u : token.Token) → IsWord on u → IsOtherName u → ⊥
on_other u e (n, differs, f) = differs (let g : token.name on ≡ token.name n = sym e ∙ f in cc)

-- `on` comes next
condition_next : {limit : Option ℕ} {F : Tokened} {a : Tokens} (d : ℕ) → (ahead_of a).token ≡ token.name on → Leaves limit F (AfterDots d) (InTurn ACondition (InlineBody d)) a a
condition_next {limit} {a = a} d next =
    leaves_then (leaves_right {K = IsOtherName} refl begin_spread (λ k. on_other (ahead_of a).token next k)) (leaves_front {G = λ r. IsBody (first_of r)} (leaves_present refl (λ r k e. on_body (first_of r) (e ∙ next) k)) (record { before = λ b r q f. (begin_body d).begin limit b r q }))

abbrev WithName : ℕ → Language
WithName d = InTurn AName (InlineBody d)

condition_begun : {limit : Option ℕ} {F : Tokened} {a b : Tokens} (d : ℕ) → IsTaken (token.name on) a b → Leaves limit F (AfterDots d) (WithName d) a b
condition_begun d t = leaves_then (condition_next d t.0) (leaves_from alike_assoc (leaves_token (token.name on) t refl))

pub condition_read : {limit : Option ℕ} {F : Tokened} {a c : Tokens} (b : Tokens) (d : ℕ) (n : List ℕ) → IsTaken (token.name on) a b → IsTaken (token.name n) b c → Leaves limit F (AfterDots d) (InlineBody d) a c
condition_read b d n t u = leaves_then (condition_begun {b = b} d t) (leaves_token (token.name n) u (n, refl))

example_body : (d : ℕ) → Example (InlineBody d)
example_body d = example_turn example_several (example_set d)

pub condition_nameless : {limit : Option ℕ} {F : Tokened} {a c : Tokens} {e : ReadError} (b : Tokens) (d : ℕ) → IsTaken (token.name on) a b → ((s : List ℕ) → IsLeft (token.name s) b c) → IsPlaced (ahead_of c) e → IsFault limit F (AfterDots d) a c e
condition_nameless b d t none placed =
    fault_behind (condition_begun {b = b} d t) (fault_stuck (stuck_begin {K = IsNamed} (none []).1 (begin_turn begin_single) (λ (s, f). (none s).0 f) (example_turn example_name (example_body d))) placed)

-- a directive or a brace comes next
body_other : (u : token.Token) → IsBody u → IsOtherName u → ⊥
body_other u (inl e) (n, differs, f) = let g : token.punctuator At ≡ token.name n = sym e ∙ f in cc
body_other u (inr e) (n, differs, f) = let g : token.punctuator BraceOpen ≡ token.name n = sym e ∙ f in cc

pub body_next : {limit : Option ℕ} {F : Tokened} {a : Tokens} (d : ℕ) → ((ahead_of a).token ≡ token.punctuator At) ⊎ ((ahead_of a).token ≡ token.punctuator BraceOpen) → Leaves limit F (AfterDots d) (InlineBody d) a a
body_next {a = a} d next =
    leaves_then (leaves_right {K = IsOtherName} refl begin_spread (λ k. body_other (ahead_of a).token next k)) (leaves_one {G = Anything} (leaves_absent refl begin_condition (λ e. on_body (ahead_of a).token e next)) before_any)

-- neither
abbrev IsInline : token.Token → Type 0
IsInline u = IsWord on u ⊎ IsBody u

begin_inline : (d : ℕ) → Begin IsInline (AnInline d)
begin_inline d = begin_perhaps (begin_as (λ u k. inl k) begin_condition) (begin_as (λ u k. inr k) (begin_body d))

not_inline : (u : token.Token) → (u ≡ token.name on → ⊥) → (u ≡ token.punctuator At → ⊥) → (u ≡ token.punctuator BraceOpen → ⊥) → IsInline u → ⊥
not_inline u f g h (inl e) = f e
not_inline u f g h (inr (inl e)) = g e
not_inline u f g h (inr (inr e)) = h e

pub spread_next : {limit : Option ℕ} {F : Tokened} {a : Tokens} (d : ℕ) → ((ahead_of a).token ≡ token.name on → ⊥) → ((ahead_of a).token ≡ token.punctuator At → ⊥) → ((ahead_of a).token ≡ token.punctuator BraceOpen → ⊥) → Leaves limit F (AfterDots d) ASpread a a
spread_next {a = a} d f g h = leaves_left {K = IsInline} refl (begin_inline d) (not_inline (ahead_of a).token f g h)

-- ---- the spread of a fragment
pub spread_read : {limit : Option ℕ} {a c : Tokens} (b : Tokens) (n : List ℕ) → ((ahead_of a).token ≡ token.name on → ⊥) → IsTaken (token.name n) a b → Leaves limit NoMarks (Marks Allowed) Nothing b c → Leaves limit NoSelection ASpread Nothing a c
spread_read b n other t h =
    leaves_then (leaves_token {b = b} (token.name n) t (n, (λ e. other (t.0 ∙ ap token.name e)), refl)) (leaves_less (λ r f. f.1.1) h)

example_fragment_name : Example AFragmentName
example_fragment_name = example_single IsOtherName (lexeme (token.name []) origin origin) ([], (λ e. cc), refl)

pub spread_nameless : {limit : Option ℕ} {F : Tokened} {a b : Tokens} {e : ReadError} → ((s : List ℕ) → IsLeft (token.name s) a b) → IsPlaced (ahead_of b) e → IsFault limit F ASpread a b e
spread_nameless none placed =
    fault_stuck (stuck_begin (none []).1 begin_spread (λ (n, differs, f). (none n).0 f) (example_turn example_fragment_name example_several)) placed

pub spread_marks : {limit : Option ℕ} {a c : Tokens} {e : ReadError} (b : Tokens) (n : List ℕ) → ((ahead_of a).token ≡ token.name on → ⊥) → IsTaken (token.name n) a b → IsFault limit NoMarks (Marks Allowed) b c e → IsFault limit NoSelection ASpread a c e
spread_marks b n other t f =
    fault_behind (leaves_token {b = b} (token.name n) t (n, (λ e. other (t.0 ∙ ap token.name e)), refl)) (fault_less (λ r g. g.1.1) f)

-- ---- a selection, or its beginning
dots_begun : {limit : Option ℕ} {F : Tokened} {a b : Tokens} (d : ℕ) → IsTaken (token.punctuator Spread) a b → Leaves limit F (ASelection d) (AfterDots d) a b
dots_begun {a = a} d t =
    leaves_from (selection_parts d) (leaves_then (leaves_right {K = IsNamed} refl (begin_turn begin_head) (λ k. sign_not_name Spread (ahead_of a).token t.0 k)) (leaves_token (token.punctuator Spread) t refl))

field_next : {limit : Option ℕ} {F : Tokened} {a b : Tokens} (d : ℕ) → IsLeft (token.punctuator Spread) a b → Leaves limit F (ASelection d) (AField d) a b
field_next d t = leaves_from (selection_parts d) (leaves_left t.1 (begin_dots d) t.0)

pub part_dots : (limit : Option ℕ) (a b c : Tokens) (x : Bool) → IsTaken (token.punctuator Spread) a b → LeavesPart AfterDots limit b c x → LeavesPart ASelection limit a c x
part_dots limit a b c false t h = λ d. leaves_then (dots_begun {b = b} d t) (h d)
part_dots limit a b c true t h = λ d. leaves_then (dots_begun {b = b} d t) (h d)

pub part_field : (limit : Option ℕ) (a b c : Tokens) (x : Bool) → IsLeft (token.punctuator Spread) a b → LeavesPart AField limit b c x → LeavesPart ASelection limit a c x
part_field limit a b c false t h = λ d. leaves_then (field_next {b = b} d t) (h d)
part_field limit a b c true t h = λ d. leaves_then (field_next {b = b} d t) (h d)

pub fault_dots : {limit : Option ℕ} {a c : Tokens} {e : ReadError} (b : Tokens) (d : ℕ) → IsTaken (token.punctuator Spread) a b → IsFault limit NoSelection (AfterDots d) b c e → IsFault limit NoSelection (ASelection d) a c e
fault_dots b d t f = fault_behind (dots_begun {b = b} d t) f

pub fault_field : {limit : Option ℕ} {a c : Tokens} {e : ReadError} (b : Tokens) (d : ℕ) → IsLeft (token.punctuator Spread) a b → IsFault limit NoSelection (AField d) b c e → IsFault limit NoSelection (ASelection d) a c e
fault_field b d t f = fault_behind (field_next {b = b} d t) f

-- ---- a part of the innermost set
-- what may follow a selection in a set
selection_differs : (u : token.Token) → IsBeginning u ⊎ IsSign BraceClose u → Differs (BraceOpen ∷ Colon ∷ At ∷ ParenOpen ∷ []) u
selection_differs u (inl (inl k)) =
    (λ f. sign_not_name BraceOpen u f k, (λ f. sign_not_name Colon u f k, (λ f. sign_not_name At u f k, (λ f. sign_not_name ParenOpen u f k, tt))))
selection_differs u (inl (inr e)) =
    (λ f. signs_differ Spread BraceOpen u (λ g. cc) e f, (λ f. signs_differ Spread Colon u (λ g. cc) e f, (λ f. signs_differ Spread At u (λ g. cc) e f, (λ f. signs_differ Spread ParenOpen u (λ g. cc) e f, tt))))
selection_differs u (inr e) =
    (λ f. signs_differ BraceClose BraceOpen u (λ g. cc) e f, (λ f. signs_differ BraceClose Colon u (λ g. cc) e f, (λ f. signs_differ BraceClose At u (λ g. cc) e f, (λ f. signs_differ BraceClose ParenOpen u (λ g. cc) e f, tt))))

abbrev ClosesAndRest : ℕ → Language
ClosesAndRest n = InTurn (Sign BraceClose) (RestOfSets n)

rest_before : (limit : Option ℕ) (n : ℕ) {F : Tokened} → Before limit (RestOfSets (suc n)) F NoSelection
rest_before limit n =
    before_begin (BraceOpen ∷ Colon ∷ At ∷ ParenOpen ∷ []) (begin_several {Q = ClosesAndRest n} (begin_as (λ u k. inl k) (begin_selection (suc n))) (begin_as (λ u k. inr k) (begin_turn begin_single))) selection_differs

selection_done : {limit : Option ℕ} {F : Tokened} {a b : Tokens} (n : ℕ) → Leaves limit NoSelection (ASelection (suc n)) Nothing a b → Leaves limit F (FirstInSet n) (RestOfSets (suc n)) a b
selection_done {limit} n h = leaves_one h (rest_before limit n)

selection_begun : {limit : Option ℕ} {F : Tokened} {a b : Tokens} (n : ℕ) → Leaves limit NoSelection (ASelection (suc n)) (ASet (suc n)) a b → Leaves limit F (FirstInSet n) (InTurn (ASet (suc n)) (RestOfSets (suc n))) a b
selection_begun {limit} n h = leaves_front h (rest_before limit n)

inner_first : (n : ℕ) → Alike (InTurn (BegunSet n) (RestOfSets n)) (FirstInSet n)
inner_first n = alike_then alike_assoc (alike_turn alike_refl alike_assoc)

inner_begun : {limit : Option ℕ} {F : Tokened} {a b c : Tokens} (n : ℕ) → Leaves limit NoSelection (ASelection (suc n)) (ASet (suc n)) a b → Leaves limit Anything (ASet (suc n)) (BegunSet (suc n)) b c → Leaves limit F (FirstInSet n) (FirstInSet (suc n)) a c
inner_begun n h k = leaves_then (selection_begun n h) (leaves_to (leaves_front k before_any) (inner_first (suc n)))

inner_fault : {limit : Option ℕ} {F : Tokened} {a b c : Tokens} {e : ReadError} (n : ℕ) → Leaves limit NoSelection (ASelection (suc n)) (ASet (suc n)) a b → IsFault limit Anything (ASet (suc n)) b c e → IsFault limit F (FirstInSet n) a c e
inner_fault n h f = fault_behind (selection_begun n h) (fault_front f before_any (example_rest (suc n)))

pub outer_begun : {limit : Option ℕ} {F : Tokened} {a b : Tokens} → Leaves limit F (ASet 0) (BegunSet 0) a b → Leaves limit F (ASet 0) (FirstInSet 0) a b
outer_begun h = leaves_to h (alike_then (record { to = λ l ts t. alike_end.back l ts t; back = λ l ts t. alike_end.to l ts t }) (inner_first 0))

pub rests_some : {limit : Option ℕ} {F : Tokened} {P : Language} {a b : Tokens} (n : ℕ) (nodes : Nodes) → (nodes ≡ [] → ⊥) → Leaves limit F P (RestOfSets (suc n)) a b → Leaves limit F P (Rests n nodes) a b
rests_some n [] some h = absurd (some refl)
rests_some n (x ∷ xs) some h = h

rests_none : {limit : Option ℕ} {F : Tokened} {P : Language} {a b : Tokens} (n : ℕ) (nodes : Nodes) → nodes ≡ [] → Leaves limit F P (FirstInSet n) a b → Leaves limit F P (Rests n nodes) a b
rests_none {limit} {F} {P} {a} {b} n nodes e h = subst (λ zs. Leaves limit F P (Rests n zs) a b) (sym e) h

-- ---- a turn
-- the innermost set goes on
pub set_goes_on : {limit : Option ℕ} {F : Tokened} (a b : Tokens) (n : ℕ) (nodes : Nodes) → b ≡ a → ((nodes ≡ [] → ⊥) → (ahead_of a).token ≡ token.punctuator BraceClose → ⊥) → Leaves limit F (Rests n nodes) (FirstInSet n) a b
set_goes_on {limit} {F} a b n [] same other = subst (λ t. Leaves limit F (FirstInSet n) (FirstInSet n) a t) (sym same) (leaves_alike alike_refl)
set_goes_on a b n (x ∷ xs) same other = leaves_more_before {M = IsSign BraceClose} same (begin_turn begin_single) (other (λ e. cc))

close_not_beginning : (u : token.Token) → IsSign BraceClose u → IsBeginning u → ⊥
close_not_beginning u e (inl k) = sign_not_name BraceClose u e k
close_not_beginning u e (inr f) = signs_differ BraceClose Spread u (λ g. cc) e f

pub set_closed : {limit : Option ℕ} {F : Tokened} {a b : Tokens} (n : ℕ) (nodes : Nodes) → (nodes ≡ [] → ⊥) → IsTaken (token.punctuator BraceClose) a b → Leaves limit F (Rests n nodes) (RestOfSets n) a b
set_closed n [] some t = absurd (some refl)
set_closed {a = a} n (x ∷ xs) some t =
    leaves_then (leaves_ended_before {K = IsBeginning} {Q = ClosesAndRest n} refl (begin_selection (suc n)) (λ k. close_not_beginning (ahead_of a).token t.0 k)) (leaves_token (token.punctuator BraceClose) t refl)

-- ---- each part has some token
some_selection : (limit : Option ℕ) (d : ℕ) (s : Selection) (ts : List Lexeme) → SpellsSelection limit d s ts → ts ≡ [] → ⊥
some_selection limit d (leaf h span) ts (s, (x, xs, e, f, g)) n = cc
some_selection limit d (field h set span) ts (s, (x, xs, e, f, g)) n = cc
some_selection limit d (spread k ds span) ts (s, (x, xs, e, f, g)) n = cc
some_selection limit d (inline h set span) ts (s, (x, xs, e, f, g)) n = cc

some_head : (limit : Option ℕ) (s : Selection) (ts : List Lexeme) → SpellsHead limit s ts → ts ≡ [] → ⊥
some_head limit (leaf h span) ts (x, xs, e, f, g) n = cc
some_head limit (field h set span) ts (x, xs, e, f, g) n = cc
some_head limit (spread k ds span) ts h n = h
some_head limit (inline h set span) ts (x, xs, e, f, g) n = cc

pub part_less : (limit : Option ℕ) (a b : Tokens) (x : Bool) (s : Node SourceScalar) → IsPart limit a b x s → length (left b) < length (left a)
part_less limit a b false s (ts, t, h) = front_less (left b) (left a) ts t.0 (some_selection limit 0 (selection_seen s) ts (h 0))
part_less limit a b true s (ts, t, h) = front_less (left b) (left a) ts t.0 (some_head limit (selection_seen s) ts h)

-- ---- what another function returns
pub leaves_moved : {limit : Option ℕ} {F : Tokened} {P Q : Language} {a b : Tokens} → b ≡ a → Leaves limit F P Q b b → Leaves limit F P Q a b
leaves_moved {limit} {F} {P} {Q} {b = b} same h = subst (λ t. Leaves limit F P Q t b) same h

pub part_behind : (P Q : ℕ → Language) (limit : Option ℕ) (a b c : Tokens) (x : Bool) → ((d : ℕ) → Leaves limit NoSelection (P d) (Q d) a b) → LeavesPart Q limit b c x → LeavesPart P limit a c x
part_behind P Q limit a b c false f h = λ d. leaves_then (f d) (h d)
part_behind P Q limit a b c true f h = λ d. leaves_then (f d) (h d)

pub not_moved : (a b : Tokens) (t : token.Token) → b ≡ a → ((ahead_of a).token ≡ t → ⊥) → (ahead_of b).token ≡ t → ⊥
not_moved a b t same n e = n (ap (λ z. (ahead_of z).token) (sym same) ∙ e)

-- ---- a part more, whole or begun
pub part_added : {limit : Option ℕ} {F : Tokened} {a b : Tokens} (n k : ℕ) (nodes : Nodes) → n ≡ k → (nodes ≡ [] → ⊥) → Leaves limit NoSelection (ASelection (suc n)) Nothing a b → Leaves limit F (FirstInSet n) (Rests k nodes) a b
part_added {limit} {F} {a} {b} n k nodes e some h =
    rests_some k nodes some (subst (λ m. Leaves limit F (FirstInSet n) (RestOfSets (suc m)) a b) e (selection_done n h))

pub part_begun : {limit : Option ℕ} {F : Tokened} {a b c : Tokens} (n k : ℕ) (nodes : Nodes) → k ≡ suc n → nodes ≡ [] → Leaves limit NoSelection (ASelection (suc n)) (ASet (suc n)) a b → Leaves limit Anything (ASet k) (BegunSet k) b c → Leaves limit F (FirstInSet n) (Rests k nodes) a c
part_begun {limit} {F} {a} {b} {c} n k nodes e none h t =
    rests_none k nodes none (subst (λ m. Leaves limit F (FirstInSet n) (FirstInSet m) a c) (sym e) (inner_begun n h (subst (λ m. Leaves limit Anything (ASet m) (BegunSet m) b c) e t)))

pub part_unbegun : {limit : Option ℕ} {F : Tokened} {a b c : Tokens} {e : ReadError} (n k : ℕ) → k ≡ suc n → Leaves limit NoSelection (ASelection (suc n)) (ASet (suc n)) a b → IsFault limit Anything (ASet k) b c e → IsFault limit F (FirstInSet n) a c e
part_unbegun {limit} {b = b} {c = c} {e = e} n k same h f =
    inner_fault n h (subst (λ m. IsFault limit Anything (ASet m) b c e) same f)

pub part_stuck : {limit : Option ℕ} {F : Tokened} {a b : Tokens} {e : ReadError} (n : ℕ) → IsFault limit NoSelection (ASelection (suc n)) a b e → IsFault limit F (FirstInSet n) a b e
part_stuck {limit} n f = fault_front f (rest_before limit n) (example_rest (suc n))

pub memory_fault : (limit : Option ℕ) (F : Tokened) (P : Language) (a b : Tokens) (e : ReadError) → e ≡ OutOfMemory → IsFault limit F P a b e
memory_fault limit F P a b e h = subst (IsFault limit F P a b) (sym h) fault_memory
