-- Each production as a language, put together from its parts.
use Rattle.std.proofs.Common.{◌≡◌, ◌⊎◌, inl, inr, ℕ, suc, List, [], ◌∷◌, ◌++◌, append_assoc, append-nil, reverse, Option, Some, None, refl, sym, ap, subst, ◌∙◌}
use Rattle.std.proofs.lemmas.List.{reverse-reverse}
use Rattle.language_types.specs.Types.{TypeShape}
use Rattle.language_types.specs.declared.position.SourcePosition.{SourcePosition}
use Rattle.language_types.specs.declared.position.Span.{Span}
use Rattle.language.specs.declared.tree.OperationType.{OperationType}
use Rattle.language.specs.declared.tree.OperationType.TheVariants.{Query}
use Rattle.language_types.specs.declared.types.TypeModifier.{TypeModifier}
use Rattle.language_types.specs.declared.types.TypeModifier.TheVariants as m
use Rattle.graphql_lexer.specs.Lexemes.{Lexeme}
use Rattle.graphql_lexer.specs.Lexical as token
use Rattle.graphql_lexer.specs.declared.lexer.Punctuator.TheVariants.{At, BraceOpen, BraceClose, BracketOpen, BracketClose, Colon, Dollar, Equals, ParenOpen, ParenClose, Spread}
use Rattle.graphql_lexer.specs.declared.lexer.Punctuator.TheVariants as p
use Rattle.value_reader.specs.Grammar.{Rules, lexeme, sign, Spells, SpellsFields, SpellsItems, SpellsPlain}
use Rattle.value_reader.specs.Seen.{rules_of}
use Rattle.value_reader.specs.Values.{Plain, variable, int, float, string, boolean, null, enum, Key, Value, plain, list, object, Items, no_items, item, Fields, no_fields, field as entry}
use Rattle.value_reader.specs.declared.rules.Variables.{Variables as Allowance}
use Rattle.value_reader.specs.declared.rules.Variables.TheVariants.{Allowed, Refused}
use Rattle.graphql_reader.specs.Arguments.{Argument, Directive, Parens, key_sign, SpellsArgument, SpellsDirective, SpellsDirectives, SpellsEach, SpellsParens}
use Rattle.graphql_reader.specs.Documents.{Variable, Variables, Operation, Fragment, Definition, operation, fragment, SpellsDefault, SpellsDefinition, SpellsLongOperation, SpellsShortOperation, SpellsVariable, SpellsVariableDefinition, SpellsVariables, fragment_word, keyword}
use Rattle.graphql_reader.specs.Languages.{Language, Written, Several, Single, InTurn, Perhaps, Either, Nested, Sign, Word, AName, AValue, AnArgument, MoreArguments, InParens, ADirective, Marks, AType, InnerType, Bang, AliasedName, AFieldHead, ASelection, MoreSelections, ASet, BegunSet, ACondition, AFragmentName, AField, ASpread, AnInline, AfterDots, ADefault, AVariable, AVariableDefinition, MoreVariables, AllVariables, BegunVariables, ADefinition, MoreDefinitions, ADocument}
use Rattle.graphql_reader.specs.Passed.{end_after, Covers, One, Then, Optional}
use Rattle.graphql_reader.specs.Selections.{FieldHead, InlineHead, Selection, leaf, field, spread, inline, Selections, no_selections, selection, selections_of, on, SpellsAliased, SpellsCondition, SpellsFieldHead, SpellsFragmentName, SpellsGiven, SpellsInlineHead, SpellsMore, SpellsName, SpellsSelection, SpellsSet, SpellsSpread}
use Rattle.graphql_reader.specs.Types.{MayBeNull, PlacedType, SpellsModified, SpellsShape}
use Rattle.graphql_reader.proofs.LeavesLaws.{Alike, alike_assoc, alike_refl, alike_then, alike_turn}
use Rattle.graphql_reader.proofs.OnlyLaws.{end_or, given_there, plain as alone_aliased}
use Rattle.graphql_reader.proofs.PartLaws.{at_place}
use Rattle.graphql_reader.proofs.PassedLaws.{HasSome, some_first, some_one}
use Rattle.graphql_reader.proofs.SelectionLaws.{more_of, some_field, some_inline}
use Rattle.graphql_reader.proofs.TypeLaws.{some_shape}
use Rattle.graphql_reader.proofs.TypeOnlyLaws.{bare, listed}

-- ---- one token
abbrev span_of : SourcePosition → SourcePosition → Span
span_of a b = record { start = a; end = b }

abbrev key_of : List ℕ → Span → Key
key_of n span = record { name = n; span = span }

covers_some : (ts : List Lexeme) → (ts ≡ [] → ⊥) → (span : Span) × Covers span ts
covers_some [] n = absurd (n refl)
covers_some (x ∷ xs) n = (span_of x.start (end_after x.stop xs), (x, xs, refl, refl, refl))

one_of : (t : token.Token) (l : Option ℕ) (ts : List Lexeme) → Single (λ u. u ≡ t) l ts → One t ts
one_of t l ts h = (h.it.start, h.it.stop, h.alone ∙ ap (λ x. x ∷ []) (at_place h.it t h.kind))

of_one : (t : token.Token) (l : Option ℕ) (ts : List Lexeme) → One t ts → Single (λ u. u ≡ t) l ts
of_one t l ts (a, b, e) = record { it = lexeme t a b; alone = e; kind = refl }

name_of : (l : Option ℕ) (ts : List Lexeme) → AName l ts → (k : Key) × SpellsName k ts
name_of l ts h =
    (key_of h.kind.0 (span_of h.it.start h.it.stop), h.alone ∙ ap (λ x. x ∷ []) (at_place h.it (token.name h.kind.0) h.kind.1))

of_name : (k : Key) (l : Option ℕ) (ts : List Lexeme) → SpellsName k ts → AName l ts
of_name k l ts e = record { it = key_sign k; alone = e; kind = (k.name, refl) }

fragment_name_of : (l : Option ℕ) (ts : List Lexeme) → AFragmentName l ts → (k : Key) × SpellsFragmentName k ts
fragment_name_of l ts h = (
  key_of h.kind.0 (span_of h.it.start h.it.stop),
  (h.kind.1, h.alone ∙ ap (λ x. x ∷ []) (at_place h.it (token.name h.kind.0) h.kind.2)),
)

of_fragment_name : (k : Key) (l : Option ℕ) (ts : List Lexeme) → SpellsFragmentName k ts → AFragmentName l ts
of_fragment_name k l ts (n, e) = record { it = key_sign k; alone = e; kind = (k.name, n, refl) }

-- ---- what may be absent, and what may be repeated
perhaps_of : (T : Type 0) (S : Option ℕ → T → List Lexeme → Type 0) (l : Option ℕ) (o : Option T) (ts : List Lexeme) → Optional (S l) o ts → Perhaps (Written T S) l ts
perhaps_of T S l None ts e = record { choice = inl e }
perhaps_of T S l (Some x) ts h = record { choice = inr (record { tree = x; spelled = h }) }

optional_choice : (T : Type 0) (S : Option ℕ → T → List Lexeme → Type 0) (l : Option ℕ) (ts : List Lexeme) → (ts ≡ []) ⊎ Written T S l ts → (o : Option T) × Optional (S l) o ts
optional_choice T S l ts (inl e) = (None, e)
optional_choice T S l ts (inr w) = (Some w.tree, w.spelled)

optional_of : (T : Type 0) (S : Option ℕ → T → List Lexeme → Type 0) (l : Option ℕ) (ts : List Lexeme) → Perhaps (Written T S) l ts → (o : Option T) × Optional (S l) o ts
optional_of T S l ts h = optional_choice T S l ts h.choice

some_each : (T : Type 0) (S : Option ℕ → T → List Lexeme → Type 0) (l : Option ℕ) (xs : List T) (ts : List Lexeme) → (xs ≡ [] → ⊥) → SpellsEach (S l) xs ts → InTurn (Written T S) (Several T S) l ts
some_each T S l [] ts n h = absurd (n refl)
some_each T S l (x ∷ xs) ts n (one, more, e, s, m) =
    record { front = one; back = more; joined = e; one = record { tree = x; spelled = s }; other = record { trees = xs; spelled = m } }

not_none : {T : Type 0} (x : T) (xs : List T) → x ∷ xs ≡ [] → ⊥
not_none x xs e = cc

each_some : (T : Type 0) (S : Option ℕ → T → List Lexeme → Type 0) (l : Option ℕ) (ts : List Lexeme) → InTurn (Written T S) (Several T S) l ts → (xs : List T) × (xs ≡ [] → ⊥) × SpellsEach (S l) xs ts
each_some T S l ts h =
    (h.one.tree ∷ h.other.trees, not_none h.one.tree h.other.trees, (h.front, h.back, h.joined, h.one.spelled, h.other.spelled))

-- ---- values, whatever the limit
plain_loose : (r q : Rules) (p : Plain) (span : Span) (ts : List Lexeme) → r.variables ≡ q.variables → SpellsPlain r p span ts → SpellsPlain q p span ts
plain_loose r q (variable n) span ts same (v, a, b, e) = (sym same ∙ v, a, b, e)
plain_loose r q (int s) span ts same h = h
plain_loose r q (float s) span ts same h = h
plain_loose r q (string s) span ts same h = h
plain_loose r q (boolean b) span ts same h = h
plain_loose r q null span ts same h = h
plain_loose r q (enum n) span ts same h = h

mutual
  value_loose : (vs : Allowance) (l : Option ℕ) (d : ℕ) (v : Value) (ts : List Lexeme) → Spells (rules_of vs l) d v ts → Spells (rules_of vs None) d v ts
  value_loose vs l d (plain p span) ts h = plain_loose (rules_of vs l) (rules_of vs None) p span ts refl h
  value_loose vs l d (list xs span) ts (nest, inner, a, b, e, h) = (refl, inner, a, b, e, items_loose vs l (suc d) xs inner h)
  value_loose vs l d (object fs span) ts (nest, inner, a, b, e, h) = (refl, inner, a, b, e, fields_loose vs l (suc d) fs inner h)

  items_loose : (vs : Allowance) (l : Option ℕ) (d : ℕ) (xs : Items) (ts : List Lexeme) → SpellsItems (rules_of vs l) d xs ts → SpellsItems (rules_of vs None) d xs ts
  items_loose vs l d no_items ts e = e
  items_loose vs l d (item v xs) ts (one, more, e, h, hs) = (one, more, e, value_loose vs l d v one h, items_loose vs l d xs more hs)

  fields_loose : (vs : Allowance) (l : Option ℕ) (d : ℕ) (fs : Fields) (ts : List Lexeme) → SpellsFields (rules_of vs l) d fs ts → SpellsFields (rules_of vs None) d fs ts
  fields_loose vs l d no_fields ts e = e
  fields_loose vs l d (entry k v fs) ts (a, b, one, more, e, h, hs) = (a, b, one, more, e, value_loose vs l d v one h, fields_loose vs l d fs more hs)

pub loose : (vs : Allowance) (l : Option ℕ) (v : Value) (ts : List Lexeme) → Spells (rules_of vs l) 0 v ts → Spells (rules_of vs None) 0 v ts
loose vs l v ts h = value_loose vs l 0 v ts h

-- ---- arguments and directives
abbrev ArgumentParts : Allowance → Language
ArgumentParts vs = InTurn AName (InTurn (Sign Colon) (AValue vs))

abbrev argument_tree : Key → Value → Argument
argument_tree k v = record { name = k; value = v }

argument_to : (vs : Allowance) (l : Option ℕ) (x : Argument) (ts : List Lexeme) → SpellsArgument (rules_of vs l) x ts → ArgumentParts vs l ts
argument_to vs l x ts (a, b, more, e, h) =
    record {
      front = key_sign x.name ∷ [];
      back = sign Colon a b ∷ more;
      joined = e;
      one = of_name x.name l (key_sign x.name ∷ []) refl;
      other = record { front = sign Colon a b ∷ []; back = more; joined = refl; one = of_one (token.punctuator Colon) l (sign Colon a b ∷ []) (a, b, refl); other = record { tree = x.value; spelled = h } };
    }

argument_back : (vs : Allowance) (l : Option ℕ) (ts : List Lexeme) → ArgumentParts vs l ts → AnArgument vs l ts
argument_back vs l ts t =
    let (k, ek) = name_of l t.front t.one in
    let (a, b, ec) = one_of (token.punctuator Colon) l t.other.front t.other.one in
    record {
      tree = argument_tree k t.other.other.tree;
      spelled = (a, b, t.other.back, t.joined ∙ ap (λ z. z ++ t.back) ek ∙ ap (λ z. key_sign k ∷ z) (t.other.joined ∙ ap (λ z. z ++ t.other.back) ec), t.other.other.spelled);
    }

pub argument_parts : (vs : Allowance) → Alike (AnArgument vs) (ArgumentParts vs)
argument_parts vs = record { to = λ l ts w. argument_to vs l w.tree ts w.spelled; back = argument_back vs }

abbrev pub BegunArguments : Allowance → Language
BegunArguments vs = InTurn (AnArgument vs) (InTurn (MoreArguments vs) (Sign ParenClose))

abbrev ParensParts : Allowance → Language
ParensParts vs = InTurn (Sign ParenOpen) (InTurn (InTurn (AnArgument vs) (MoreArguments vs)) (Sign ParenClose))

parens_to : (vs : Allowance) (l : Option ℕ) (x : Parens) (ts : List Lexeme) → SpellsGiven (rules_of vs l) x ts → ParensParts vs l ts
parens_to vs l x ts (some, inner, a, b, e, h) =
    record {
      front = sign ParenOpen x.span.start a ∷ [];
      back = inner ++ sign ParenClose b x.span.end ∷ [];
      joined = e;
      one = of_one (token.punctuator ParenOpen) l (sign ParenOpen x.span.start a ∷ []) (x.span.start, a, refl);
      other = record { front = inner; back = sign ParenClose b x.span.end ∷ []; joined = refl; one = some_each Argument (λ limit. SpellsArgument (rules_of vs limit)) l x.given inner some h; other = of_one (token.punctuator ParenClose) l (sign ParenClose b x.span.end ∷ []) (b, x.span.end, refl) };
    }

abbrev parens_tree : List Argument → Span → Parens
parens_tree xs span = record { given = xs; span = span }

parens_back : (vs : Allowance) (l : Option ℕ) (ts : List Lexeme) → ParensParts vs l ts → InParens vs l ts
parens_back vs l ts t =
    let (a, b, e1) = one_of (token.punctuator ParenOpen) l t.front t.one in
    let (xs, n, h) = each_some Argument (λ limit. SpellsArgument (rules_of vs limit)) l t.other.front t.other.one in
    let (c, d, e2) = one_of (token.punctuator ParenClose) l t.other.back t.other.other in
    record {
      tree = parens_tree xs (span_of a d);
      spelled = (n, t.other.front, b, c, t.joined ∙ ap (λ z. z ++ t.back) e1 ∙ ap (λ z. sign ParenOpen a b ∷ z) (t.other.joined ∙ ap (λ z. t.other.front ++ z) e2), h);
    }

pub parens_parts : (vs : Allowance) → Alike (InParens vs) (InTurn (Sign ParenOpen) (BegunArguments vs))
parens_parts vs = alike_then {Q = ParensParts vs} (record { to = λ l ts w. parens_to vs l w.tree ts w.spelled; back = parens_back vs }) (alike_turn alike_refl alike_assoc)

abbrev DirectiveParts : Allowance → Language
DirectiveParts vs = InTurn (Sign At) (InTurn AName (Perhaps (InParens vs)))

directive_to : (vs : Allowance) (l : Option ℕ) (x : Directive) (ts : List Lexeme) → SpellsDirective (rules_of vs l) x ts → DirectiveParts vs l ts
directive_to vs l x ts (a, more, e, h) =
    record {
      front = sign At x.span.start a ∷ [];
      back = key_sign x.name ∷ more;
      joined = e;
      one = of_one (token.punctuator At) l (sign At x.span.start a ∷ []) (x.span.start, a, refl);
      other = record { front = key_sign x.name ∷ []; back = more; joined = refl; one = of_name x.name l (key_sign x.name ∷ []) refl; other = perhaps_of Parens (λ limit. SpellsGiven (rules_of vs limit)) l x.arguments more (given_there (rules_of vs l) x.arguments x.name.span.end x.span.end more h) };
    }

ends_there : (rules : Rules) (o : Option Parens) (place : SourcePosition) (ts : List Lexeme) → Optional (SpellsGiven rules) o ts → SpellsParens rules o place (end_or o place) ts
ends_there rules None place ts e = (e, refl)
ends_there rules (Some p) place ts h = (h, refl)

abbrev directive_tree : Key → Option Parens → Span → Directive
directive_tree k o span = record { name = k; arguments = o; span = span }

directive_back : (vs : Allowance) (l : Option ℕ) (ts : List Lexeme) → DirectiveParts vs l ts → ADirective vs l ts
directive_back vs l ts t =
    let (a, b, e1) = one_of (token.punctuator At) l t.front t.one in
    let (k, ek) = name_of l t.other.front t.other.one in
    let (o, h) = optional_of Parens (λ limit. SpellsGiven (rules_of vs limit)) l t.other.back t.other.other in
    record {
      tree = directive_tree k o (span_of a (end_or o k.span.end));
      spelled = (b, t.other.back, t.joined ∙ ap (λ z. z ++ t.back) e1 ∙ ap (λ z. sign At a b ∷ z) (t.other.joined ∙ ap (λ z. z ++ t.other.back) ek), ends_there (rules_of vs l) o k.span.end t.other.back h);
    }

pub directive_parts : (vs : Allowance) → Alike (ADirective vs) (DirectiveParts vs)
directive_parts vs = record { to = λ l ts w. directive_to vs l w.tree ts w.spelled; back = directive_back vs }

marks_of : (vs : Allowance) (l : Option ℕ) (o : Option (List Directive)) (ts : List Lexeme) → Optional (SpellsDirectives (rules_of vs l)) o ts → Marks vs l ts
marks_of vs l None ts e = record { trees = []; spelled = e }
marks_of vs l (Some ds) ts h = record { trees = ds; spelled = h.1 }

marks_trees : (vs : Allowance) (l : Option ℕ) (ds : List Directive) (ts : List Lexeme) → SpellsEach (SpellsDirective (rules_of vs l)) ds ts → (o : Option (List Directive)) × Optional (SpellsDirectives (rules_of vs l)) o ts
marks_trees vs l [] ts e = (None, e)
marks_trees vs l (x ∷ xs) ts h = (Some (x ∷ xs), (not_none x xs, h))

of_marks : (vs : Allowance) (l : Option ℕ) (ts : List Lexeme) → Marks vs l ts → (o : Option (List Directive)) × Optional (SpellsDirectives (rules_of vs l)) o ts
of_marks vs l ts h = marks_trees vs l h.trees ts h.spelled

-- ---- types
abbrev pub Bracketed : ℕ → Language
Bracketed d = InTurn (Sign BracketOpen) (InTurn (InnerType (suc d)) (Sign BracketClose))

abbrev pub PlainType : ℕ → Language
PlainType d = Either AName (Nested d (Bracketed d))

base_to : (l : Option ℕ) (d : ℕ) (n : List ℕ) (ms : List TypeModifier) (ts : List Lexeme) → MayBeNull ms → SpellsModified l d n ms ts → PlainType d l ts
base_to l d n [] ts may (a, b, e) = record { choice = inl (record { it = lexeme (token.name n) a b; alone = e; kind = (n, refl) }) }
base_to l d n (m.NonNull ∷ ms) ts may h = absurd (may ms refl)
base_to l d n (m.List (Some k) ∷ ms) ts may h = absurd h
base_to l d n (m.List None ∷ ms) ts may (nest, (x, y, e, o, (u, v, f, h, c))) =
    record { choice = inr (record { nest = nest; inside = record { front = x; back = y; joined = e; one = of_one (token.punctuator BracketOpen) l x o; other = record { front = u; back = v; joined = f; one = record { tree = (n, ms); spelled = h }; other = of_one (token.punctuator BracketClose) l v c } } }) }

abbrev TypeParts : ℕ → Language
TypeParts d = InTurn (PlainType d) Bang

unbanged : (l : Option ℕ) (d : ℕ) (ts : List Lexeme) → PlainType d l ts → TypeParts d l ts
unbanged l d ts h = record { front = ts; back = []; joined = sym (append-nil ts); one = h; other = record { choice = inl refl } }

inner_to : (l : Option ℕ) (d : ℕ) (n : List ℕ) (ms : List TypeModifier) (ts : List Lexeme) → SpellsModified l d n ms ts → TypeParts d l ts
inner_to l d n [] ts h = unbanged l d ts (base_to l d n [] ts bare h)
inner_to l d n (m.List (Some k) ∷ ms) ts h = absurd h
inner_to l d n (m.List None ∷ ms) ts h = unbanged l d ts (base_to l d n (m.List None ∷ ms) ts (listed None ms) h)
inner_to l d n (m.NonNull ∷ ms) ts (may, (x, y, e, h, b)) =
    record { front = x; back = y; joined = e; one = base_to l d n ms x may h; other = record { choice = inr (of_one (token.punctuator p.Bang) l y b) } }

abbrev BaseTree : Option ℕ → ℕ → List Lexeme → Type 0
BaseTree l d ts = (n : List ℕ) × (ms : List TypeModifier) × MayBeNull ms × SpellsModified l d n ms ts

base_back : (l : Option ℕ) (d : ℕ) (ts : List Lexeme) → AName l ts ⊎ Nested d (Bracketed d) l ts → BaseTree l d ts
base_back l d ts (inl h) =
    (h.kind.0, [], bare, (h.it.start, h.it.stop, h.alone ∙ ap (λ x. x ∷ []) (at_place h.it (token.name h.kind.0) h.kind.1)))
base_back l d ts (inr h) =
    let t = h.inside in
    (t.other.one.tree.0, m.List None ∷ t.other.one.tree.1, listed None t.other.one.tree.1, (h.nest, (t.front, t.back, t.joined, one_of (token.punctuator BracketOpen) l t.front t.one, (t.other.front, t.other.back, t.other.joined, t.other.one.spelled, one_of (token.punctuator BracketClose) l t.other.back t.other.other))))

inner_back : (l : Option ℕ) (d : ℕ) (x y ts : List Lexeme) → ts ≡ x ++ y → BaseTree l d x → (y ≡ []) ⊎ Sign p.Bang l y → InnerType d l ts
inner_back l d x y ts e (n, ms, may, h) (inl f) =
    record { tree = (n, ms); spelled = subst (SpellsModified l d n ms) (sym (e ∙ ap (λ z. x ++ z) f ∙ append-nil x)) h }
inner_back l d x y ts e (n, ms, may, h) (inr b) =
    record { tree = (n, m.NonNull ∷ ms); spelled = (may, (x, y, e, h, one_of (token.punctuator p.Bang) l y b)) }

pub inner_parts : (d : ℕ) → Alike (InnerType d) (TypeParts d)
inner_parts d = record {
  to = λ l ts w. inner_to l d w.tree.0 w.tree.1 ts w.spelled;
  back = λ l ts t. inner_back l d t.front t.back ts t.joined (base_back l d t.front t.one.choice) t.other.choice;
}

abbrev shape_of : List ℕ → List TypeModifier → TypeShape
shape_of n ms = record { name = n; modifiers = ms }

placed_back : (l : Option ℕ) (n : List ℕ) (ms : List TypeModifier) (ts : List Lexeme) → SpellsModified l 0 n ms ts → AType l ts
placed_back l n ms ts h =
    let k : TypeShape = shape_of n (reverse ms) in
    let s : SpellsShape l 0 k ts = subst (λ z. SpellsModified l 0 n z ts) (sym (reverse-reverse ms)) h in
    let (span, c) = covers_some ts (some_shape l k ts s) in
    record { tree = record { shape = k; span = span }; spelled = (s, c) }

pub type_parts : Alike AType (InnerType 0)
type_parts = record {
  to = λ l ts w. record { tree = (w.tree.shape.name, reverse w.tree.shape.modifiers); spelled = w.spelled.0 };
  back = λ l ts t. placed_back l t.tree.0 t.tree.1 ts t.spelled;
}

-- ---- selections
aliased_to : (l : Option ℕ) (o : Option Key) (k : Key) (ts : List Lexeme) → SpellsAliased o k ts → AliasedName l ts
aliased_to l None k ts h = record { front = ts; back = []; joined = sym (append-nil ts); one = of_name k l ts (alone_aliased k ts h); other = record { choice = inl refl } }
aliased_to l (Some j) k ts (x, y, e, (u, v, f, hj, c), hk) =
    record { front = u; back = v ++ y; joined = e ∙ ap (λ z. z ++ y) f ∙ append_assoc u v y; one = of_name j l u hj; other = record { choice = inr (record { front = v; back = y; joined = refl; one = of_one (token.punctuator Colon) l v c; other = of_name k l y hk }) } }

abbrev AliasedTree : List Lexeme → Type 0
AliasedTree ts = (o : Option Key) × (k : Key) × SpellsAliased o k ts

aliased_back : (l : Option ℕ) (x y ts : List Lexeme) → ts ≡ x ++ y → AName l x → (y ≡ []) ⊎ InTurn (Sign Colon) AName l y → AliasedTree ts
aliased_back l x y ts e h (inl f) =
    let (k, ek) = name_of l x h in
    (None, k, ([], ts, refl, refl, e ∙ ap (λ z. x ++ z) f ∙ append-nil x ∙ ek))
aliased_back l x y ts e h (inr t) =
    let (j, ej) = name_of l x h in
    let (k, ek) = name_of l t.back t.other in
    (Some j, k, (x ++ t.front, t.back, e ∙ ap (λ z. x ++ z) t.joined ∙ sym (append_assoc x t.front t.back), (x, t.front, refl, ej, one_of (token.punctuator Colon) l t.front t.one), ek))

abbrev FieldParts : Language
FieldParts = InTurn AliasedName (InTurn (Perhaps (InParens Allowed)) (Marks Allowed))

head_to : (l : Option ℕ) (h : FieldHead) (ts : List Lexeme) → SpellsFieldHead l h ts → FieldParts l ts
head_to l h ts (x, y, e, a, (u, v, f, g, d)) =
    record { front = x; back = y; joined = e; one = aliased_to l h.alias h.name x a; other = record { front = u; back = v; joined = f; one = perhaps_of Parens (λ limit. SpellsGiven (rules_of Allowed limit)) l h.arguments u g; other = marks_of Allowed l h.directives v d } }

abbrev field_tree : Option Key → Key → Option Parens → Option (List Directive) → FieldHead
field_tree o k g d = record { alias = o; name = k; arguments = g; directives = d }

head_back : (l : Option ℕ) (ts : List Lexeme) → FieldParts l ts → AFieldHead l ts
head_back l ts t =
    let (o, k, a) = aliased_back l t.one.front t.one.back t.front t.one.joined t.one.one t.one.other.choice in
    let (g, hg) = optional_of Parens (λ limit. SpellsGiven (rules_of Allowed limit)) l t.other.front t.other.one in
    let (d, hd) = of_marks Allowed l t.other.back t.other.other in
    record { tree = field_tree o k g d; spelled = (t.front, t.back, t.joined, a, (t.other.front, t.other.back, t.other.joined, hg, hd)) }

pub head_parts : Alike AFieldHead FieldParts
head_parts = record { to = λ l ts w. head_to l w.tree ts w.spelled; back = head_back }

condition_of : (l : Option ℕ) (ts : List Lexeme) → ACondition l ts → (k : Key) × SpellsCondition k ts
condition_of l ts t =
    let (k, ek) = name_of l t.back t.other in
    (k, (t.front, t.back, t.joined, one_of (token.name on) l t.front t.one, ek))

of_condition : (k : Key) (l : Option ℕ) (ts : List Lexeme) → SpellsCondition k ts → ACondition l ts
of_condition k l ts (x, y, e, o, h) =
    record { front = x; back = y; joined = e; one = of_one (token.name on) l x o; other = of_name k l y h }

perhaps_condition : (l : Option ℕ) (o : Option Key) (ts : List Lexeme) → Optional SpellsCondition o ts → Perhaps ACondition l ts
perhaps_condition l None ts e = record { choice = inl e }
perhaps_condition l (Some k) ts h = record { choice = inr (of_condition k l ts h) }

condition_choice : (l : Option ℕ) (ts : List Lexeme) → (ts ≡ []) ⊎ ACondition l ts → (o : Option Key) × Optional SpellsCondition o ts
condition_choice l ts (inl e) = (None, e)
condition_choice l ts (inr t) = let (k, h) = condition_of l ts t in (Some k, h)

-- selections, one at least
more_to : (l : Option ℕ) (d : ℕ) (set : Selections) (ts : List Lexeme) → SpellsMore l d set ts → InTurn (ASelection d) (MoreSelections d) l ts
more_to l d no_selections ts h = absurd h
more_to l d (selection x no_selections) ts h =
    record { front = ts; back = []; joined = sym (append-nil ts); one = record { tree = x; spelled = h }; other = record { trees = []; spelled = refl } }
more_to l d (selection x (selection y ys)) ts (u, v, e, h, hs) =
    let t = more_to l d (selection y ys) v hs in
    record { front = u; back = v; joined = e; one = record { tree = x; spelled = h }; other = record { trees = t.one.tree ∷ t.other.trees; spelled = (t.front, t.back, t.joined, t.one.spelled, t.other.spelled) } }

abbrev SetParts : ℕ → Language
SetParts d = Nested d (InTurn (Sign BraceOpen) (InTurn (InTurn (ASelection (suc d)) (MoreSelections (suc d))) (Sign BraceClose)))

set_to : (l : Option ℕ) (d : ℕ) (set : Selections) (ts : List Lexeme) → SpellsSet l d set ts → SetParts d l ts
set_to l d set ts (nest, (x, y, e, o, (u, v, f, h, c))) =
    record { nest = nest; inside = record { front = x; back = y; joined = e; one = of_one (token.punctuator BraceOpen) l x o; other = record { front = u; back = v; joined = f; one = more_to l (suc d) set u h; other = of_one (token.punctuator BraceClose) l v c } } }

set_back : (l : Option ℕ) (d : ℕ) (ts : List Lexeme) → SetParts d l ts → ASet d l ts
set_back l d ts h =
    let t = h.inside in
    let (xs, n, s) = each_some Selection (λ limit. SpellsSelection limit (suc d)) l t.other.front t.other.one in
    record { tree = selections_of xs; spelled = (h.nest, (t.front, t.back, t.joined, one_of (token.punctuator BraceOpen) l t.front t.one, (t.other.front, t.other.back, t.other.joined, more_of l (suc d) xs t.other.front n s, one_of (token.punctuator BraceClose) l t.other.back t.other.other))) }

nested_alike : {P Q : Language} (n : ℕ) → Alike P Q → Alike (Nested n P) (Nested n Q)
nested_alike n h = record {
  to = λ l ts t. record { nest = t.nest; inside = h.to l ts t.inside };
  back = λ l ts t. record { nest = t.nest; inside = h.back l ts t.inside };
}

pub set_parts : (d : ℕ) → Alike (ASet d) (Nested d (InTurn (Sign BraceOpen) (BegunSet d)))
set_parts d = alike_then {Q = SetParts d} (record { to = λ l ts w. set_to l d w.tree ts w.spelled; back = λ l ts t. set_back l d ts t }) (nested_alike d (alike_turn alike_refl alike_assoc))

abbrev pub DotsParts : ℕ → Language
DotsParts d = InTurn (Sign Spread) (AfterDots d)

abbrev SelectionParts : ℕ → Language
SelectionParts d = Either (AField d) (DotsParts d)

set_written : (l : Option ℕ) (d : ℕ) (set : Selections) (ts : List Lexeme) → SpellsSet l d set ts → ASet d l ts
set_written l d set ts h = record { tree = set; spelled = h }

selection_to : (l : Option ℕ) (d : ℕ) (x : Selection) (ts : List Lexeme) → SpellsSelection l d x ts → SelectionParts d l ts
selection_to l d (leaf h span) ts (s, c) =
    record { choice = inl (record { front = ts; back = []; joined = sym (append-nil ts); one = record { tree = h; spelled = s }; other = record { choice = inl refl } }) }
selection_to l d (field h set span) ts ((x, y, e, s, b), c) =
    record { choice = inl (record { front = x; back = y; joined = e; one = record { tree = h; spelled = s }; other = record { choice = inr (set_written l d set y b) } }) }
selection_to l d (spread k ds span) ts ((x, y, e, o, (u, v, f, n, h)), c) =
    record { choice = inr (record { front = x; back = y; joined = e; one = of_one (token.punctuator Spread) l x o; other = record { choice = inl (record { front = u; back = v; joined = f; one = of_fragment_name k l u n; other = marks_of Allowed l ds v h }) } }) }
selection_to l d (inline h set span) ts ((x, y, e, (u, v, f, (o, w, g, dots, condition), ds), b), c) =
    record { choice = inr (record { front = o; back = w ++ (v ++ y); joined = e ∙ ap (λ z. z ++ y) (f ∙ ap (λ z. z ++ v) g) ∙ ap (λ z. z ++ y) (append_assoc o w v) ∙ append_assoc o (w ++ v) y ∙ ap (λ z. o ++ z) (append_assoc w v y); one = of_one (token.punctuator Spread) l o dots; other = record { choice = inr (record { front = w; back = v ++ y; joined = refl; one = perhaps_condition l h.condition w condition; other = record { front = v; back = y; joined = refl; one = marks_of Allowed l h.directives v ds; other = set_written l d set y b } }) } }) }

field_back : (l : Option ℕ) (d : ℕ) (x y ts : List Lexeme) → ts ≡ x ++ y → AFieldHead l x → (y ≡ []) ⊎ ASet d l y → ASelection d l ts
field_back l d x y ts e h (inl f) =
    let s : SpellsFieldHead l h.tree ts = subst (SpellsFieldHead l h.tree) (sym (e ∙ ap (λ z. x ++ z) f ∙ append-nil x)) h.spelled in
    let (span, c) = covers_some ts (some_field l h.tree ts s) in
    record { tree = leaf h.tree span; spelled = (s, c) }
field_back l d x y ts e h (inr b) =
    let s : Then (SpellsFieldHead l h.tree) (SpellsSet l d b.tree) ts = (x, y, e, h.spelled, b.spelled) in
    let (span, c) = covers_some ts (some_first (SpellsFieldHead l h.tree) (SpellsSet l d b.tree) (some_field l h.tree) ts s) in
    record { tree = field h.tree b.tree span; spelled = (s, c) }

abbrev inline_tree : Option Key → Option (List Directive) → InlineHead
inline_tree o d = record { condition = o; directives = d }

dots_back : (l : Option ℕ) (d : ℕ) (x y ts : List Lexeme) → ts ≡ x ++ y → One (token.punctuator Spread) x → ASpread l y ⊎ AnInline d l y → ASelection d l ts
dots_back l d x y ts e o (inl t) =
    let (k, n) = fragment_name_of l t.front t.one in
    let (ds, h) = of_marks Allowed l t.back t.other in
    let s : SpellsSpread l k ds ts = (x, y, e, o, (t.front, t.back, t.joined, n, h)) in
    let (span, c) = covers_some ts (some_first (One (token.punctuator Spread)) (Then (SpellsFragmentName k) (Optional (SpellsDirectives (rules_of Allowed l)) ds)) (some_one (token.punctuator Spread)) ts s) in
    record { tree = spread k ds span; spelled = (s, c) }
dots_back l d x y ts e o (inr t) =
    let (condition, w) = condition_choice l t.front t.one.choice in
    let (ds, h) = of_marks Allowed l t.other.front t.other.one in
    let b = t.other.other in
    let head : InlineHead = inline_tree condition ds in
    let dots : SpellsInlineHead l head ((x ++ t.front) ++ t.other.front) = (x ++ t.front, t.other.front, refl, (x, t.front, refl, o, w), h) in
    let s : Then (SpellsInlineHead l head) (SpellsSet l d b.tree) ts = ((x ++ t.front) ++ t.other.front, t.other.back, e ∙ ap (λ z. x ++ z) (t.joined ∙ ap (λ z. t.front ++ z) t.other.joined) ∙ sym (append_assoc x t.front (t.other.front ++ t.other.back)) ∙ sym (append_assoc (x ++ t.front) t.other.front t.other.back), dots, b.spelled) in
    let (span, c) = covers_some ts (some_first (SpellsInlineHead l head) (SpellsSet l d b.tree) (some_inline l head) ts s) in
    record { tree = inline head b.tree span; spelled = (s, c) }

selection_back : (l : Option ℕ) (d : ℕ) (ts : List Lexeme) → AField d l ts ⊎ DotsParts d l ts → ASelection d l ts
selection_back l d ts (inl t) = field_back l d t.front t.back ts t.joined t.one t.other.choice
selection_back l d ts (inr t) = dots_back l d t.front t.back ts t.joined (one_of (token.punctuator Spread) l t.front t.one) t.other.choice

pub selection_parts : (d : ℕ) → Alike (ASelection d) (SelectionParts d)
selection_parts d = record { to = λ l ts w. selection_to l d w.tree ts w.spelled; back = λ l ts t. selection_back l d ts t.choice }

-- ---- variables
pub default_parts : Alike ADefault (InTurn (Sign Equals) (AValue Refused))
default_parts = record {
  to = λ l ts w. let (x, y, e, o, h) = w.spelled in record { front = x; back = y; joined = e; one = of_one (token.punctuator Equals) l x o; other = record { tree = w.tree; spelled = h } };
  back = λ l ts t. record { tree = t.other.tree; spelled = (t.front, t.back, t.joined, one_of (token.punctuator Equals) l t.front t.one, t.other.spelled) };
}

variable_to : (l : Option ℕ) (k : Key) (ts : List Lexeme) → SpellsVariable k ts → AVariable l ts
variable_to l k ts ((x, y, e, o, (a, b, f)), c) =
    record { front = x; back = y; joined = e; one = of_one (token.punctuator Dollar) l x o; other = record { it = lexeme (token.name k.name) a b; alone = f; kind = (k.name, refl) } }

variable_back : (l : Option ℕ) (ts : List Lexeme) → AVariable l ts → (k : Key) × SpellsVariable k ts
variable_back l ts t =
    let n = t.other.kind.0 in
    let s : Then (One (token.punctuator Dollar)) (One (token.name n)) ts = (t.front, t.back, t.joined, one_of (token.punctuator Dollar) l t.front t.one, (t.other.it.start, t.other.it.stop, t.other.alone ∙ ap (λ x. x ∷ []) (at_place t.other.it (token.name n) t.other.kind.1))) in
    let (span, c) = covers_some ts (some_first (One (token.punctuator Dollar)) (One (token.name n)) (some_one (token.punctuator Dollar)) ts s) in
    (key_of n span, (s, c))

abbrev VariableParts : Language
VariableParts = InTurn AVariable (InTurn (Sign Colon) (InTurn AType (InTurn (Perhaps ADefault) (Marks Refused))))

definition_to : (l : Option ℕ) (v : Variable) (ts : List Lexeme) → SpellsVariableDefinition l v ts → VariableParts l ts
definition_to l v ts (x1, y1, e1, n, (x2, y2, e2, c, (x3, y3, e3, k, (x4, y4, e4, f, ds)))) =
    record { front = x1; back = y1; joined = e1; one = variable_to l v.name x1 n; other = record { front = x2; back = y2; joined = e2; one = of_one (token.punctuator Colon) l x2 c; other = record { front = x3; back = y3; joined = e3; one = record { tree = v.kind; spelled = k }; other = record { front = x4; back = y4; joined = e4; one = perhaps_of Value SpellsDefault l v.default x4 f; other = marks_of Refused l v.directives y4 ds } } } }

abbrev variable_tree : Key → PlacedType → Option Value → Option (List Directive) → Variable
variable_tree k t v d = record { name = k; kind = t; default = v; directives = d }

definition_back : (l : Option ℕ) (ts : List Lexeme) → VariableParts l ts → AVariableDefinition l ts
definition_back l ts t =
    let a = t.other in
    let b = a.other in
    let g = b.other in
    let (k, n) = variable_back l t.front t.one in
    let (v, f) = optional_of Value SpellsDefault l g.front g.one in
    let (ds, h) = of_marks Refused l g.back g.other in
    record { tree = variable_tree k b.one.tree v ds; spelled = (t.front, t.back, t.joined, n, (a.front, a.back, a.joined, one_of (token.punctuator Colon) l a.front a.one, (b.front, b.back, b.joined, b.one.spelled, (g.front, g.back, g.joined, f, h)))) }

pub definition_parts : Alike AVariableDefinition VariableParts
definition_parts = record { to = λ l ts w. definition_to l w.tree ts w.spelled; back = definition_back }

abbrev VariablesParts : Language
VariablesParts = InTurn (Sign ParenOpen) (InTurn (InTurn AVariableDefinition MoreVariables) (Sign ParenClose))

variables_to : (l : Option ℕ) (vs : Variables) (ts : List Lexeme) → SpellsVariables l vs ts → VariablesParts l ts
variables_to l vs ts (some, (x, y, e, o, (u, v, f, h, c)), covers) =
    record { front = x; back = y; joined = e; one = of_one (token.punctuator ParenOpen) l x o; other = record { front = u; back = v; joined = f; one = some_each Variable SpellsVariableDefinition l vs.given u some h; other = of_one (token.punctuator ParenClose) l v c } }

abbrev variables_tree : List Variable → Span → Variables
variables_tree xs span = record { given = xs; span = span }

variables_back : (l : Option ℕ) (ts : List Lexeme) → VariablesParts l ts → AllVariables l ts
variables_back l ts t =
    let (xs, n, h) = each_some Variable SpellsVariableDefinition l t.other.front t.other.one in
    let E : List Lexeme → Type 0 = Then (SpellsEach (SpellsVariableDefinition l) xs) (One (token.punctuator ParenClose)) in
    let s : Then (One (token.punctuator ParenOpen)) E ts = (t.front, t.back, t.joined, one_of (token.punctuator ParenOpen) l t.front t.one, (t.other.front, t.other.back, t.other.joined, h, one_of (token.punctuator ParenClose) l t.other.back t.other.other)) in
    let (span, c) = covers_some ts (some_first (One (token.punctuator ParenOpen)) E (some_one (token.punctuator ParenOpen)) ts s) in
    record { tree = variables_tree xs span; spelled = (n, s, c) }

pub variables_parts : Alike AllVariables (InTurn (Sign ParenOpen) BegunVariables)
variables_parts = alike_then {Q = VariablesParts} (record { to = λ l ts w. variables_to l w.tree ts w.spelled; back = variables_back }) (alike_turn alike_refl alike_assoc)

-- ---- definitions
abbrev pub IsKeyword : token.Token → Type 0
IsKeyword u = (k : OperationType) × (u ≡ token.name (keyword k))

abbrev pub Body : Language
Body = InTurn (Marks Allowed) (ASet 0)

abbrev pub OperationRest : Language
OperationRest = InTurn (Perhaps AName) (InTurn (Perhaps AllVariables) Body)

abbrev pub LongParts : Language
LongParts = InTurn (Single IsKeyword) OperationRest

abbrev FragmentRest : Language
FragmentRest = InTurn AFragmentName (InTurn ACondition Body)

abbrev pub FragmentParts : Language
FragmentParts = InTurn (Word fragment_word) FragmentRest

abbrev DefinitionParts : Language
DefinitionParts = Either (Either LongParts (ASet 0)) FragmentParts

perhaps_name : (l : Option ℕ) (o : Option Key) (ts : List Lexeme) → Optional SpellsName o ts → Perhaps AName l ts
perhaps_name l None ts e = record { choice = inl e }
perhaps_name l (Some k) ts h = record { choice = inr (of_name k l ts h) }

name_choice : (l : Option ℕ) (ts : List Lexeme) → (ts ≡ []) ⊎ AName l ts → (o : Option Key) × Optional SpellsName o ts
name_choice l ts (inl e) = (None, e)
name_choice l ts (inr t) = let (k, h) = name_of l ts t in (Some k, h)

operation_to : (l : Option ℕ) (o : Operation) (ts : List Lexeme) → SpellsLongOperation l o ts ⊎ SpellsShortOperation l o ts → Either LongParts (ASet 0) l ts
operation_to l o ts (inl (x, y, e, (a, b, w), (x2, y2, e2, n, (x3, y3, e3, v, (x4, y4, e4, d, s))))) =
    record { choice = inl (record { front = x; back = y; joined = e; one = record { it = lexeme (token.name (keyword o.kind)) a b; alone = w; kind = (o.kind, refl) }; other = record { front = x2; back = y2; joined = e2; one = perhaps_name l o.name x2 n; other = record { front = x3; back = y3; joined = e3; one = perhaps_of Variables SpellsVariables l o.variables x3 v; other = record { front = x4; back = y4; joined = e4; one = marks_of Allowed l o.directives x4 d; other = set_written l 0 o.set y4 s } } } }) }
operation_to l o ts (inr (k, n, v, d, s)) = record { choice = inr (set_written l 0 o.set ts s) }

definition_parts_to : (l : Option ℕ) (x : Definition) (ts : List Lexeme) → SpellsDefinition l x ts → DefinitionParts l ts
definition_parts_to l (operation o) ts h = record { choice = inl (operation_to l o ts h.0) }
definition_parts_to l (fragment f) ts ((x, y, e, w, (x2, y2, e2, n, (x3, y3, e3, c, (x4, y4, e4, d, s)))), covers) =
    record { choice = inr (record { front = x; back = y; joined = e; one = of_one (token.name fragment_word) l x w; other = record { front = x2; back = y2; joined = e2; one = of_fragment_name f.name l x2 n; other = record { front = x3; back = y3; joined = e3; one = of_condition f.condition l x3 c; other = record { front = x4; back = y4; joined = e4; one = marks_of Allowed l f.directives x4 d; other = set_written l 0 f.set y4 s } } } }) }

abbrev operation_tree : OperationType → Option Key → Option Variables → Option (List Directive) → Selections → Span → Operation
operation_tree k n v d x s = record { kind = k; name = n; variables = v; directives = d; set = x; span = s }

abbrev fragment_tree : Key → Key → Option (List Directive) → Selections → Span → Fragment
fragment_tree n c d x s = record { name = n; condition = c; directives = d; set = x; span = s }

some_braces : (l : Option ℕ) (set : Selections) → HasSome (SpellsSet l 0 set)
some_braces l set ts (nest, h) =
    some_first (One (token.punctuator BraceOpen)) (Then (SpellsMore l 1 set) (One (token.punctuator BraceClose))) (some_one (token.punctuator BraceOpen)) ts h

operation_back : (l : Option ℕ) (ts : List Lexeme) → LongParts l ts ⊎ ASet 0 l ts → ADefinition l ts
operation_back l ts (inl t) =
    let (kind, is) = t.one.kind in
    let a = t.other in
    let b = a.other in
    let g = b.other in
    let (n, hn) = name_choice l a.front a.one.choice in
    let (v, hv) = optional_of Variables SpellsVariables l b.front b.one in
    let (d, hd) = of_marks Allowed l g.front g.one in
    let W : List Lexeme → Type 0 = One (token.name (keyword kind)) in
    let E : List Lexeme → Type 0 = Then (Optional SpellsName n) (Then (Optional (SpellsVariables l) v) (Then (Optional (SpellsDirectives (rules_of Allowed l)) d) (SpellsSet l 0 g.other.tree))) in
    let s : Then W E ts = (t.front, t.back, t.joined, (t.one.it.start, t.one.it.stop, t.one.alone ∙ ap (λ x. x ∷ []) (at_place t.one.it (token.name (keyword kind)) is)), (a.front, a.back, a.joined, hn, (b.front, b.back, b.joined, hv, (g.front, g.back, g.joined, hd, g.other.spelled)))) in
    let (span, c) = covers_some ts (some_first W E (some_one (token.name (keyword kind))) ts s) in
    record { tree = operation (operation_tree kind n v d g.other.tree span); spelled = (inl s, c) }
operation_back l ts (inr t) =
    let (span, c) = covers_some ts (some_braces l t.tree ts t.spelled) in
    record { tree = operation (operation_tree Query None None None t.tree span); spelled = (inr (refl, refl, refl, refl, t.spelled), c) }

fragment_back : (l : Option ℕ) (ts : List Lexeme) → FragmentParts l ts → ADefinition l ts
fragment_back l ts t =
    let a = t.other in
    let b = a.other in
    let g = b.other in
    let (n, hn) = fragment_name_of l a.front a.one in
    let (k, hk) = condition_of l b.front b.one in
    let (d, hd) = of_marks Allowed l g.front g.one in
    let W : List Lexeme → Type 0 = One (token.name fragment_word) in
    let E : List Lexeme → Type 0 = Then (SpellsFragmentName n) (Then (SpellsCondition k) (Then (Optional (SpellsDirectives (rules_of Allowed l)) d) (SpellsSet l 0 g.other.tree))) in
    let s : Then W E ts = (t.front, t.back, t.joined, one_of (token.name fragment_word) l t.front t.one, (a.front, a.back, a.joined, hn, (b.front, b.back, b.joined, hk, (g.front, g.back, g.joined, hd, g.other.spelled)))) in
    let (span, c) = covers_some ts (some_first W E (some_one (token.name fragment_word)) ts s) in
    record { tree = fragment (fragment_tree n k d g.other.tree span); spelled = (s, c) }

either_back : (l : Option ℕ) (ts : List Lexeme) → Either LongParts (ASet 0) l ts ⊎ FragmentParts l ts → ADefinition l ts
either_back l ts (inl t) = operation_back l ts t.choice
either_back l ts (inr t) = fragment_back l ts t

pub any_definition : Alike ADefinition DefinitionParts
any_definition = record { to = λ l ts w. definition_parts_to l w.tree ts w.spelled; back = λ l ts t. either_back l ts t.choice }

abbrev pub DocumentParts : Language
DocumentParts = InTurn ADefinition MoreDefinitions

pub document_parts : Alike ADocument DocumentParts
document_parts = record {
  to = λ l ts w. some_each Definition SpellsDefinition l w.tree ts w.spelled.0 w.spelled.1;
  back = λ l ts t. let (xs, n, h) = each_some Definition SpellsDefinition l ts t in record { tree = xs; spelled = (n, h) };
}
