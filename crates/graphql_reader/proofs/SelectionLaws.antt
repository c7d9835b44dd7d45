-- Selections, and the sets that are begun.
use Rattle.std.specs.Prelude.{Result, Ok, Err, IfErr, OnErr, OnOk}
use Rattle.std.proofs.lemmas.List.{length-append, length-reverse, reverse-append}
use Rattle.std.proofs.Common.{◌≡◌, arith, reverse, ℕ, suc, true, List, [], ◌∷◌, ◌++◌, map, length, append_assoc, append-nil, Option, Some, None, option_map, refl, sym, ap, subst, ◌∙◌}
use Rattle.language_types.specs.declared.position.SourcePosition.{SourcePosition}
use Rattle.language_types.specs.declared.position.Span.{Span}
use Rattle.language_types.specs.declared.position.Spanning.{Spanning}
use Rattle.language.specs.declared.tree.Arguments.{Arguments}
use Rattle.language.specs.declared.tree.Selection.{Selection as Node}
use Rattle.sdl_scalars.specs.declared.scalar.SourceScalar.{SourceScalar}
use Rattle.graphql_lexer.specs.Ahead.{ahead_of, last_end_of, IsTaken, IsSpanOf}
use Rattle.graphql_lexer.specs.Lexemes.{Lexeme}
use Rattle.graphql_lexer.specs.Lexical as token
use Rattle.graphql_lexer.specs.declared.lexer.Punctuator.TheVariants.{BraceOpen, BraceClose, Colon, Spread}
use Rattle.graphql_lexer.specs.declared.tokens.Tokens.{Tokens}
use Rattle.value_reader.specs.Grammar.{Rules, may_nest}
use Rattle.value_reader.specs.Values.{Key}
use Rattle.graphql_reader.specs.Arguments.{name_seen, parens_seen, IsArguments, IsDirectives, SpellsDirectives, SpellsEach}
use Rattle.graphql_reader.specs.OpenSets.{Begun, From, Nodes, SpellsHead, SpellsNodes, SpellsBegun, Spelled, given_set, until}
use Rattle.graphql_reader.specs.Passed.{end_after, Took, Reads, Covers, One, Then, Optional}
use Rattle.graphql_reader.specs.Selections.{FieldHead, InlineHead, Selection, leaf, field, spread, inline, Selections, Name, inline_head, on, open_rules, selections_of, SpellsAlias, SpellsCondition, SpellsFragmentName, SpellsSpread, SpellsMore, SpellsSelection, SpellsSet, SpellsGiven, SpellsFieldHead, SpellsInlineHead, SpellsAliased, SpellsDots, SpellsName, GivenDirectives, directives_seen, selection_seen, nodes_seen}
use Rattle.graphql_reader.proofs.ArgumentLaws.{arguments_end}
use Rattle.graphql_reader.proofs.PassedLaws.{Tokened, HasSome, took_both, reads_covers, reads_from, reads_name, reads_none, reads_one, reads_then, reads_as, each_more, seen_more, some_one, some_name, some_first, some_second, covers_part}

-- ---- what may be absent
pub arguments_read : (rules : Rules) (old new : Tokens) (given : Option (Spanning (Arguments SourceScalar) Span)) → IsArguments rules old new given → Reads (Optional (SpellsGiven rules) (option_map parens_seen given)) old new
arguments_read rules old new None (n, e) = reads_none old new e
arguments_read rules old new (Some p) ((front, e, h), stop) =
    (front, (e, sym stop ∙ sym (arguments_end rules (parens_seen p).given p.span (last_end_of old) front h)), h)

pub directives_read : (rules : Rules) (old new : Tokens) (ds : GivenDirectives) → IsDirectives rules old new ds → Reads (Optional (SpellsDirectives rules) (directives_seen ds)) old new
directives_read rules old new None (n, e) = reads_none old new e
directives_read rules old new (Some ds) (r, n) = r

-- ---- what stands before a set has some token
some_aliased : (alias : Option Key) (k : Key) → HasSome (SpellsAliased alias k)
some_aliased alias k = some_second (Optional SpellsAlias alias) (SpellsName k) (some_name k)

pub some_field : (limit : Option ℕ) (h : FieldHead) → HasSome (SpellsFieldHead limit h)
some_field limit h =
    some_first (SpellsAliased h.alias h.name) (Then (Optional (SpellsGiven (open_rules limit)) h.arguments) (Optional (SpellsDirectives (open_rules limit)) h.directives)) (some_aliased h.alias h.name)

some_dots : (condition : Option Key) → HasSome (SpellsDots condition)
some_dots condition = some_first (One (token.punctuator Spread)) (Optional SpellsCondition condition) (some_one (token.punctuator Spread))

pub some_inline : (limit : Option ℕ) (h : InlineHead) → HasSome (SpellsInlineHead limit h)
some_inline limit h =
    some_first (SpellsDots h.condition) (Optional (SpellsDirectives (open_rules limit)) h.directives) (some_dots h.condition)

-- ---- names
pub aliased : (k n : Key) (a b c d : Tokens) → IsTaken (token.name k.name) a b → IsSpanOf (ahead_of a) k.span → IsTaken (token.punctuator Colon) b c → IsTaken (token.name n.name) c d → IsSpanOf (ahead_of c) n.span → Reads (SpellsAliased (Some k) n) a d
aliased k n a b c d t s colon u r =
    reads_then (SpellsAlias k) (SpellsName n) a c d (reads_then (SpellsName k) (One (token.punctuator Colon)) a b c (reads_name k a b t s) (reads_one (token.punctuator Colon) b c colon)) (reads_name n c d u r)

pub not_aliased : (n : Key) (a b c : Tokens) → IsTaken (token.name n.name) a b → IsSpanOf (ahead_of a) n.span → c ≡ b → Reads (SpellsAliased None n) a c
not_aliased n a b c t s e =
    reads_then (λ ts. ts ≡ []) (SpellsName n) a a c (reads_none a a refl) (subst (Reads (SpellsName n) a) (sym e) (reads_name n a b t s))

pub fragment_name : (k : Key) (a b : Tokens) → (k.name ≡ on → ⊥) → IsTaken (token.name k.name) a b → IsSpanOf (ahead_of a) k.span → Reads (SpellsFragmentName k) a b
fragment_name k a b other t s = reads_as (SpellsName k) (SpellsFragmentName k) a b (λ ts h. (other, h)) (reads_name k a b t s)

pub condition_read : (k : Key) (a b c : Tokens) → IsTaken (token.name on) a b → IsTaken (token.name k.name) b c → IsSpanOf (ahead_of b) k.span → Reads (SpellsCondition k) a c
condition_read k a b c w t s = reads_then (One (token.name on)) (SpellsName k) a b c (reads_one (token.name on) a b w) (reads_name k b c t s)

-- ---- what stands before a set
pub field_head_read : (limit : Option ℕ) (alias : Option Key) (k : Key) (given : Option (Spanning (Arguments SourceScalar) Span)) (ds : GivenDirectives) (a b c d : Tokens) → Reads (SpellsAliased alias k) a b → IsArguments (open_rules limit) b c given → IsDirectives (open_rules limit) c d ds → Reads (SpellsFieldHead limit (record { alias = alias; name = k; arguments = option_map parens_seen given; directives = directives_seen ds })) a d
field_head_read limit alias k given ds a b c d n g h =
    let A : Tokened = Optional (SpellsGiven (open_rules limit)) (option_map parens_seen given) in
    let D : Tokened = Optional (SpellsDirectives (open_rules limit)) (directives_seen ds) in
    reads_then (SpellsAliased alias k) (Then A D) a b d n (reads_then A D b c d (arguments_read (open_rules limit) b c given g) (directives_read (open_rules limit) c d ds h))

pub dots_condition : (k : Key) (dots a b c : Tokens) → IsTaken (token.punctuator Spread) dots a → IsTaken (token.name on) a b → IsTaken (token.name k.name) b c → IsSpanOf (ahead_of b) k.span → Reads (SpellsDots (Some k)) dots c
dots_condition k dots a b c d w t s =
    reads_then (One (token.punctuator Spread)) (SpellsCondition k) dots a c (reads_one (token.punctuator Spread) dots a d) (condition_read k a b c w t s)

pub dots_alone : (dots a b : Tokens) → IsTaken (token.punctuator Spread) dots a → b ≡ a → Reads (SpellsDots None) dots b
dots_alone dots a b d e =
    reads_then (One (token.punctuator Spread)) (λ ts. ts ≡ []) dots a b (reads_one (token.punctuator Spread) dots a d) (reads_none a b e)

pub inline_read : (limit : Option ℕ) (start : SourcePosition) (condition : Option Name) (ds : GivenDirectives) (dots old new : Tokens) → start ≡ (ahead_of dots).start → Reads (SpellsDots (option_map name_seen condition)) dots old → IsDirectives (open_rules limit) old new ds → Reads (From start (SpellsInlineHead limit (inline_head condition ds))) dots new
inline_read limit start condition ds dots old new s r h =
    let D : Tokened = Optional (SpellsDirectives (open_rules limit)) (directives_seen ds) in
    reads_from (SpellsInlineHead limit (inline_head condition ds)) start dots new (some_inline limit (inline_head condition ds)) s (reads_then (SpellsDots (option_map name_seen condition)) D dots old new r (directives_read (open_rules limit) old new ds h))

-- ---- selections without a set
abbrev AnyDepth : Option ℕ → Selection → List Lexeme → Type 0
AnyDepth limit s ts = (depth : ℕ) → SpellsSelection limit depth s ts

pub leaf_read : (limit : Option ℕ) (h : FieldHead) (span : Span) (node : Node SourceScalar) (old new : Tokens) → Reads (SpellsFieldHead limit h) old new → span.start ≡ (ahead_of old).start → span.end ≡ last_end_of new → selection_seen node ≡ leaf h span → Reads (AnyDepth limit (selection_seen node)) old new
leaf_read limit h span node old new r start stop is =
    subst (λ s. Reads (AnyDepth limit s) old new) (sym is) (reads_as (λ ts. SpellsFieldHead limit h ts × Covers span ts) (AnyDepth limit (leaf h span)) old new (λ ts u depth. u) (reads_covers (SpellsFieldHead limit h) span old new (some_field limit h) start stop r))

pub spread_read : (limit : Option ℕ) (k : Key) (ds : GivenDirectives) (span : Span) (node : Node SourceScalar) (dots a b c : Tokens) → IsTaken (token.punctuator Spread) dots a → IsTaken (token.name k.name) a b → IsSpanOf (ahead_of a) k.span → ((ahead_of a).token ≡ token.name on → ⊥) → IsDirectives (open_rules limit) b c ds → span.start ≡ (ahead_of dots).start → span.end ≡ last_end_of c → selection_seen node ≡ spread k (directives_seen ds) span → Reads (AnyDepth limit (selection_seen node)) dots c
spread_read limit k ds span node dots a b c d t s other h start stop is =
    let D : Tokened = Optional (SpellsDirectives (open_rules limit)) (directives_seen ds) in
    let S : Tokened = SpellsSpread limit k (directives_seen ds) in
    let n : k.name ≡ on → ⊥ = λ e. other (t.0 ∙ ap token.name e) in
    let r : Reads S dots c =
    reads_then (One (token.punctuator Spread)) (Then (SpellsFragmentName k) D) dots a c (reads_one (token.punctuator Spread) dots a d) (reads_then (SpellsFragmentName k) D a b c (fragment_name k a b n t s) (directives_read (open_rules limit) b c ds h)) in
    subst (λ u. Reads (AnyDepth limit u) dots c) (sym is) (reads_as (λ ts. S ts × Covers span ts) (AnyDepth limit (spread k (directives_seen ds) span)) dots c (λ ts u depth. u) (reads_covers S span dots c (some_first (One (token.punctuator Spread)) (Then (SpellsFragmentName k) D) (some_one (token.punctuator Spread))) start stop r))

-- ---- some selections
front_all : (xs ys : List Lexeme) → ys ≡ [] → xs ++ ys ≡ xs
front_all xs ys e = ap (λ zs. xs ++ zs) e ∙ append-nil xs

pub more_of : (limit : Option ℕ) (depth : ℕ) (xs : List Selection) (ts : List Lexeme) → (xs ≡ [] → ⊥) → SpellsEach (SpellsSelection limit depth) xs ts → SpellsMore limit depth (selections_of xs) ts
more_of limit depth [] ts some h = absurd (some refl)
more_of limit depth (x ∷ []) ts some (one, more, e, s, none) = subst (SpellsSelection limit depth x) (sym (e ∙ front_all one more none)) s
more_of limit depth (x ∷ y ∷ ys) ts some (one, more, e, s, h) = (one, more, e, s, more_of limit depth (y ∷ ys) more (λ n. cc) h)

seen_some : (nodes : Nodes) → (nodes ≡ [] → ⊥) → map selection_seen nodes ≡ [] → ⊥
seen_some [] some e = some refl
seen_some (x ∷ xs) some e = cc

nodes_more : (limit : Option ℕ) (depth : ℕ) (nodes : Nodes) (ts : List Lexeme) → (nodes ≡ [] → ⊥) → SpellsNodes limit depth nodes ts → SpellsMore limit (suc depth) (nodes_seen nodes) ts
nodes_more limit depth nodes ts some h = more_of limit (suc depth) (map selection_seen nodes) ts (seen_some nodes some) h

-- ---- the list of what is begun, and that in turn from its end
pub on_ok_all : {T E P Q R S : Type 0} (r : Result T E) → (P → Q → R → S) → OnOk r P → OnOk r Q → OnOk r R → OnOk r S
on_ok_all (Ok x) f p q s = f p q s
on_ok_all (Err e) f p q s = tt

pub on_err_both : {T E P : Type 0} (r : Result T E) {Q R : E → Type 0} → ((e : E) → P → Q e → R e) → OnErr r P → IfErr r Q → IfErr r R
on_err_both (Ok x) f p q = tt
on_err_both (Err e) f p q = f e p q

pub none_of : {T : Type 0} (xs : List T) → length xs ≡ 0 → xs ≡ []
none_of [] e = refl
none_of (x ∷ xs) e = cc

pub reverse_more : {T : Type 0} (xs ys : List T) (x : T) → ys ≡ xs ++ x ∷ [] → reverse ys ≡ x ∷ reverse xs
reverse_more xs ys x e = ap reverse e ∙ reverse-append xs (x ∷ [])

pub reverse_count : {T : Type 0} (xs ys : List T) (x : T) → ys ≡ xs ++ x ∷ [] → length ys ≡ suc (length (reverse xs))
reverse_count xs ys x e = omega (arith, ap length e, length-append xs (x ∷ []), length-reverse xs)

-- ---- a set that ends
abbrev opening : List Lexeme → Type 0
opening = One (token.punctuator BraceOpen)

abbrev closing : List Lexeme → Type 0
closing = One (token.punctuator BraceClose)

outermost : (limit : Option ℕ) (nodes : Nodes) → (nodes ≡ [] → ⊥) → (ts : List Lexeme) → Then (Then (SpellsBegun limit []) (SpellsNodes limit 0 nodes)) closing ts → SpellsSet limit 0 (nodes_seen nodes) ts
outermost limit nodes some ts (u, close, e, (brace, inner, f, (nest, ho), hn), hc) = (
  nest,
  (brace, inner ++ close, e ∙ ap (λ xs. xs ++ close) f ∙ append_assoc brace inner close, ho, (inner, close, refl, nodes_more limit 0 nodes inner some hn, hc)),
)

pub whole_set : (limit : Option ℕ) (nodes : Nodes) (first mid now : Tokens) → (nodes ≡ [] → ⊥) → Spelled limit first [] nodes mid → IsTaken (token.punctuator BraceClose) mid now → Reads (SpellsSet limit 0 (nodes_seen nodes)) first now
whole_set limit nodes first mid now some h t =
    reads_as (Then (Then (SpellsBegun limit []) (SpellsNodes limit 0 nodes)) closing) (SpellsSet limit 0 (nodes_seen nodes)) first now (outermost limit nodes some) (reads_then (Then (SpellsBegun limit []) (SpellsNodes limit 0 nodes)) closing first mid now h (reads_one (token.punctuator BraceClose) mid now t))

-- a head, and its set
whole_spelled : (limit : Option ℕ) (depth : ℕ) (s : Selection) (set : Selections) (end place : SourcePosition) (front own rest : List Lexeme)
    → SpellsHead limit s own → SpellsSet limit depth set rest → end ≡ end_after place (front ++ (own ++ rest))
    → SpellsSelection limit depth (given_set s set end) (own ++ rest)
whole_spelled limit depth (leaf h span) set end place front own rest (y, ys, ey, es, hh) r stop =
    ((own, rest, refl, hh, r), covers_part (until span end) place front (own ++ rest) y (ys ++ rest) (ap (λ zs. zs ++ rest) ey) es stop)
whole_spelled limit depth (field h old span) set end place front own rest (y, ys, ey, es, hh) r stop =
    ((own, rest, refl, hh, r), covers_part (until span end) place front (own ++ rest) y (ys ++ rest) (ap (λ zs. zs ++ rest) ey) es stop)
whole_spelled limit depth (spread k ds span) set end place front own rest h r stop = absurd h
whole_spelled limit depth (inline h old span) set end place front own rest (y, ys, ey, es, hh) r stop =
    ((own, rest, refl, hh, r), covers_part (until span end) place front (own ++ rest) y (ys ++ rest) (ap (λ zs. zs ++ rest) ey) es stop)

regroup : (a b c d i k : List Lexeme) → ((a ++ (b ++ (c ++ d))) ++ i) ++ k ≡ (a ++ b) ++ (c ++ (d ++ (i ++ k)))
regroup a b c d i k = simp append_assoc

pub set_ended : (limit : Option ℕ) (x : Begun) (xs : List Begun) (own : Nodes) (node : Node SourceScalar) (first mid now : Tokens)
    → (own ≡ [] → ⊥) → Spelled limit first (x ∷ xs) own mid → IsTaken (token.punctuator BraceClose) mid now
    → selection_seen node ≡ given_set (selection_seen x.holder) (nodes_seen own) (last_end_of now)
    → Spelled limit first xs (x.before ++ node ∷ []) now
set_ended limit x xs nodes node first mid now some (ts, took, (u, inner, e, (nest, (before, r1, e1, hb, (outer, r2, e2, ho, (own, brace, e3, hh, hbrace)))), hn)) t is =
    let close = reads_one (token.punctuator BraceClose) mid now t in
    let one : List Lexeme = own ++ (brace ++ (inner ++ close.0)) in
    let parts : ts ++ close.0 ≡ (before ++ outer) ++ one =
    ap (λ zs. zs ++ close.0) (e ∙ ap (λ zs. zs ++ inner) (e1 ∙ ap (λ zs. before ++ zs) (e2 ∙ ap (λ zs. outer ++ zs) e3))) ∙ regroup before outer own brace inner close.0 in
    let all : Took first ((before ++ outer) ++ one) now = subst (λ zs. Took first zs now) parts (took_both first mid now ts close.0 took close.1) in
    let spelled : SpellsSelection limit (suc (length xs)) (given_set (selection_seen x.holder) (nodes_seen nodes) (last_end_of now)) one =
    whole_spelled limit (suc (length xs)) (selection_seen x.holder) (nodes_seen nodes) (last_end_of now) (last_end_of first) (before ++ outer) own (brace ++ (inner ++ close.0)) hh (nest, (brace, inner ++ close.0, refl, hbrace, (inner, close.0, refl, nodes_more limit (suc (length xs)) nodes inner some hn, close.2))) all.1 in
    let grows : SpellsNodes limit (length xs) (x.before ++ node ∷ []) (outer ++ one) =
    subst (λ zs. SpellsEach (SpellsSelection limit (suc (length xs))) zs (outer ++ one)) (sym (seen_more selection_seen x.before (x.before ++ node ∷ []) node refl)) (each_more (SpellsSelection limit (suc (length xs))) (map selection_seen x.before) (selection_seen node) outer one ho (subst (λ s. SpellsSelection limit (suc (length xs)) s one) (sym is) spelled)) in
    ((before ++ outer) ++ one, all, (before, outer ++ one, append_assoc before outer one, hb, grows))

-- ---- a set that begins
abbrev Heads : Option ℕ → Begun → List Lexeme → Type 0
Heads limit x = Then (SpellsHead limit (selection_seen x.holder)) opening

begun_more : (limit : Option ℕ) (x : Begun) (xs : List Begun) → may_nest limit (suc (length xs)) ≡ true → (ts : List Lexeme)
    → Then (Then (SpellsBegun limit xs) (SpellsNodes limit (length xs) x.before)) (Heads limit x) ts → SpellsBegun limit (x ∷ xs) ts
begun_more limit x xs nest ts (u, v, e, (before, inner, f, hb, hn), h) =
    (nest, (before, inner ++ v, e ∙ ap (λ zs. zs ++ v) f ∙ append_assoc before inner v, hb, (inner, v, refl, hn, h)))

pub set_begun : (limit : Option ℕ) (x : Begun) (xs : List Begun) (first mid between now : Tokens) → Spelled limit first xs x.before mid
    → Reads (SpellsHead limit (selection_seen x.holder)) mid between → may_nest limit (suc (length xs)) ≡ true
    → IsTaken (token.punctuator BraceOpen) between now → Spelled limit first (x ∷ xs) [] now
set_begun limit x xs first mid between now h r nest t =
    let (ts, took, s) : Reads (SpellsBegun limit (x ∷ xs)) first now =
    reads_as (Then (Then (SpellsBegun limit xs) (SpellsNodes limit (length xs) x.before)) (Heads limit x)) (SpellsBegun limit (x ∷ xs)) first now (begun_more limit x xs nest) (reads_then (Then (SpellsBegun limit xs) (SpellsNodes limit (length xs) x.before)) (Heads limit x) first mid now h (reads_then (SpellsHead limit (selection_seen x.holder)) opening mid between now r (reads_one (token.punctuator BraceOpen) between now t))) in
    (ts, took, (ts, [], sym (append-nil ts), s, refl))

-- ---- a selection more
stands_more : (limit : Option ℕ) (xs : List Begun) (nodes new : Nodes) (node : Node SourceScalar) → new ≡ nodes ++ node ∷ [] → (ts : List Lexeme) → Then (Then (SpellsBegun limit xs) (SpellsNodes limit (length xs) nodes)) (SpellsSelection limit (suc (length xs)) (selection_seen node)) ts → Then (SpellsBegun limit xs) (SpellsNodes limit (length xs) new) ts
stands_more limit xs nodes new node grown ts (u, one, e, (before, inner, f, hb, hn), s) = (
  before,
  inner ++ one,
  e ∙ ap (λ zs. zs ++ one) f ∙ append_assoc before inner one,
  hb,
  subst (λ zs. SpellsEach (SpellsSelection limit (suc (length xs))) zs (inner ++ one)) (sym (seen_more selection_seen nodes new node grown)) (each_more (SpellsSelection limit (suc (length xs))) (map selection_seen nodes) (selection_seen node) inner one hn s),
)

pub selection_more : (limit : Option ℕ) (xs : List Begun) (nodes : Nodes) (node : Node SourceScalar) (first mid now : Tokens)
    → Spelled limit first xs nodes mid → Reads (λ ts. (depth : ℕ) → SpellsSelection limit depth (selection_seen node) ts) mid now
    → Spelled limit first xs (nodes ++ node ∷ []) now
selection_more limit xs nodes node first mid now h r =
    reads_as (Then (Then (SpellsBegun limit xs) (SpellsNodes limit (length xs) nodes)) (SpellsSelection limit (suc (length xs)) (selection_seen node))) (Then (SpellsBegun limit xs) (SpellsNodes limit (length xs) (nodes ++ node ∷ []))) first now (stands_more limit xs nodes (nodes ++ node ∷ []) node refl) (reads_then (Then (SpellsBegun limit xs) (SpellsNodes limit (length xs) nodes)) (SpellsSelection limit (suc (length xs)) (selection_seen node)) first mid now h (reads_as (λ ts. (depth : ℕ) → SpellsSelection limit depth (selection_seen node) ts) (SpellsSelection limit (suc (length xs)) (selection_seen node)) mid now (λ ts all. all (suc (length xs))) r))

pub set_opened : (limit : Option ℕ) (first now : Tokens) → may_nest limit 0 ≡ true → IsTaken (token.punctuator BraceOpen) first now → Spelled limit first [] [] now
set_opened limit first now nest t =
    let (ts, took, s) = reads_one (token.punctuator BraceOpen) first now t in
    (ts, took, (ts, [], sym (append-nil ts), (nest, s), refl))
