-- What is left of a production behind the tokens that were read.
use Rattle.std.proofs.lemmas.List.{length-append}
use Rattle.std.proofs.Common.{◌≡◌, ◌⊎◌, ◌<◌, ◌≤◌, arith, length, inl, inr, ℕ, true, false, List, [], ◌∷◌, ◌++◌, append_assoc, append-nil, Option, None, refl, sym, ap, subst, ◌∙◌}
use Rattle.language_types.specs.declared.position.SourcePosition.{SourcePosition}
use Rattle.graphql_lexer.specs.Ahead.{ahead_of, left, IsFaultAt, IsTaken}
use Rattle.graphql_lexer.specs.Lexemes.{Lexeme}
use Rattle.graphql_lexer.specs.Lexical as token
use Rattle.graphql_lexer.specs.declared.error.ReadError.{ReadError}
use Rattle.graphql_lexer.specs.declared.error.ReadError.TheVariants.{Syntax, OutOfMemory}
use Rattle.graphql_lexer.specs.declared.lexer.Punctuator.{Punctuator}
use Rattle.graphql_lexer.specs.declared.tokens.Tokens.{Tokens}
use Rattle.value_reader.specs.Faults.{IsTokenPlace, IsPlaced}
use Rattle.value_reader.specs.Grammar.{may_nest}
use Rattle.graphql_reader.specs.Arguments.{SpellsEach}
use Rattle.graphql_reader.specs.Languages.{Language, Written, Several, Single, InTurn, Nothing, Perhaps, Either, Nested, first_of, Differs, Avoids, Anything, Leaves, Stuck, IsFault}
use Rattle.graphql_reader.specs.Passed.{BeginsWith, Reads}
use Rattle.graphql_reader.proofs.PartLaws.{tail_same}
use Rattle.graphql_reader.proofs.PassedLaws.{HasSome, Tokened, head_same}

-- ---- two languages with the same words
pub record Alike (P Q : Language) : Type 0 where
  pub to : (limit : Option ℕ) (ts : List Lexeme) → P limit ts → Q limit ts
  pub back : (limit : Option ℕ) (ts : List Lexeme) → Q limit ts → P limit ts

pub alike_refl : {P : Language} → Alike P P
alike_refl = record { to = λ l ts h. h; back = λ l ts h. h }

pub alike_then : {P Q R : Language} → Alike P Q → Alike Q R → Alike P R
alike_then h k = record { to = λ l ts p. k.to l ts (h.to l ts p); back = λ l ts r. h.back l ts (k.back l ts r) }

pub alike_turn : {P P2 Q Q2 : Language} → Alike P P2 → Alike Q Q2 → Alike (InTurn P Q) (InTurn P2 Q2)
alike_turn h k = record {
  to = λ l ts t. record { front = t.front; back = t.back; joined = t.joined; one = h.to l t.front t.one; other = k.to l t.back t.other };
  back = λ l ts t. record { front = t.front; back = t.back; joined = t.joined; one = h.back l t.front t.one; other = k.back l t.back t.other };
}

pub alike_assoc : {P Q R : Language} → Alike (InTurn (InTurn P Q) R) (InTurn P (InTurn Q R))
alike_assoc = record {
  to = λ l ts t. record {
    front = t.one.front;
    back = t.one.back ++ t.back;
    joined = t.joined ∙ ap (λ z. z ++ t.back) t.one.joined ∙ append_assoc t.one.front t.one.back t.back;
    one = t.one.one;
    other = record { front = t.one.back; back = t.back; joined = refl; one = t.one.other; other = t.other };
  };
  back = λ l ts t. record {
    front = t.front ++ t.other.front;
    back = t.other.back;
    joined = t.joined ∙ ap (λ z. t.front ++ z) t.other.joined ∙ sym (append_assoc t.front t.other.front t.other.back);
    one = record { front = t.front; back = t.other.front; joined = refl; one = t.one; other = t.other.one };
    other = t.other.other;
  };
}

alike_none : {Q : Language} → Alike (InTurn Nothing Q) Q
alike_none {Q} = record {
  to = λ l ts t. subst (Q l) (sym (t.joined ∙ ap (λ z. z ++ t.back) t.one.none)) t.other;
  back = λ l ts q. record { front = []; back = ts; joined = refl; one = record { none = refl }; other = q };
}

pub alike_end : {Q : Language} → Alike (InTurn Q Nothing) Q
alike_end {Q} = record {
  to = λ l ts t. subst (Q l) (sym (t.joined ∙ ap (λ z. t.front ++ z) t.other.none ∙ append-nil t.front)) t.one;
  back = λ l ts q. record { front = ts; back = []; joined = sym (append-nil ts); one = q; other = record { none = refl } };
}

-- ---- some word of it
abbrev pub Example : Language → Type 0
Example P = (b : List Lexeme) × P None b

pub example_alike : {P Q : Language} → Alike P Q → Example Q → Example P
example_alike h (b, q) = (b, h.back None b q)

pub example_turn : {P Q : Language} → Example P → Example Q → Example (InTurn P Q)
example_turn (a, p) (b, q) = (a ++ b, record { front = a; back = b; joined = refl; one = p; other = q })

pub example_single : (K : token.Token → Type 0) (x : Lexeme) → K x.token → Example (Single K)
example_single K x k = (x ∷ [], record { it = x; alone = refl; kind = k })

pub example_nothing : Example Nothing
example_nothing = ([], record { none = refl })

pub example_absent : {P : Language} → Example (Perhaps P)
example_absent = ([], record { choice = inl refl })

pub example_several : {T : Type 0} {S : Option ℕ → T → List Lexeme → Type 0} → Example (Several T S)
example_several = ([], record { trees = []; spelled = refl })

pub example_left : {P Q : Language} → Example P → Example (Either P Q)
example_left (b, p) = (b, record { choice = inl p })

pub example_nested : {P : Language} (n : ℕ) → Example P → Example (Nested n P)
example_nested n (b, p) = (b, record { nest = refl; inside = p })

-- ---- what a word begins with
pub record Begin (K : token.Token → Type 0) (P : Language) : Type 0 where
  pub begin : (l : Option ℕ) (a r : List Lexeme) → P l a → K (first_of (a ++ r))

pub begin_single : {K : token.Token → Type 0} → Begin K (Single K)
begin_single {K} = record { begin = λ l a r p. subst K (sym (ap (λ z. first_of (z ++ r)) p.alone)) p.kind }

pub begin_turn : {K : token.Token → Type 0} {P Q : Language} → Begin K P → Begin K (InTurn P Q)
begin_turn {K} h = record {
  begin = λ l a r p. subst K (sym (ap (λ z. first_of (z ++ r)) p.joined ∙ ap first_of (append_assoc p.front p.back r))) (h.begin l p.front (p.back ++ r) p.one);
}

pub begin_alike : {K : token.Token → Type 0} {P Q : Language} → Alike P Q → Begin K Q → Begin K P
begin_alike f h = record { begin = λ l a r p. h.begin l a r (f.to l a p) }

pub begin_as : {K M : token.Token → Type 0} {P : Language} → ((u : token.Token) → K u → M u) → Begin K P → Begin M P
begin_as f h = record { begin = λ l a r p. f (first_of (a ++ r)) (h.begin l a r p) }

pub begin_nested : {K : token.Token → Type 0} {P : Language} {n : ℕ} → Begin K P → Begin K (Nested n P)
begin_nested h = record { begin = λ l a r p. h.begin l a r p.inside }

begin_choice : {K : token.Token → Type 0} {P Q : Language} (l : Option ℕ) (a r : List Lexeme) → Begin K P → Begin K Q → P l a ⊎ Q l a → K (first_of (a ++ r))
begin_choice l a r h k (inl p) = h.begin l a r p
begin_choice l a r h k (inr q) = k.begin l a r q

pub begin_either : {K : token.Token → Type 0} {P Q : Language} → Begin K P → Begin K Q → Begin K (Either P Q)
begin_either h k = record { begin = λ l a r p. begin_choice l a r h k p.choice }

begin_absent : {K : token.Token → Type 0} {P Q : Language} (l : Option ℕ) (a b r : List Lexeme) → Begin K P → Begin K Q → (a ≡ []) ⊎ P l a → Q l b → K (first_of (a ++ (b ++ r)))
begin_absent {K} l a b r h k (inl e) q = subst K (sym (ap (λ z. first_of (z ++ (b ++ r))) e)) (k.begin l b r q)
begin_absent l a b r h k (inr p) q = h.begin l a (b ++ r) p

-- what may be absent, and something behind it
pub begin_perhaps : {K : token.Token → Type 0} {P Q : Language} → Begin K P → Begin K Q → Begin K (InTurn (Perhaps P) Q)
begin_perhaps {K} h k = record {
  begin = λ l a r p. subst K (sym (ap (λ z. first_of (z ++ r)) p.joined ∙ ap first_of (append_assoc p.front p.back r))) (begin_absent l p.front p.back r h k p.one.choice p.other);
}

several_first : {T : Type 0} {S : Option ℕ → T → List Lexeme → Type 0} {K : token.Token → Type 0} {Q : Language} (l : Option ℕ) (a b r : List Lexeme) → Begin K (Written T S) → Begin K Q → (xs : List T) → SpellsEach (S l) xs a → Q l b → K (first_of (a ++ (b ++ r)))
several_first {K = K} l a b r h k [] e q = subst K (sym (ap (λ z. first_of (z ++ (b ++ r))) e)) (k.begin l b r q)
several_first {K = K} l a b r h k (x ∷ xs) (one, more, e, s, m) q =
    subst K (sym (ap (λ z. first_of (z ++ (b ++ r))) e ∙ ap first_of (append_assoc one more (b ++ r)))) (h.begin l one (more ++ (b ++ r)) (record { tree = x; spelled = s }))

pub begin_several : {T : Type 0} {S : Option ℕ → T → List Lexeme → Type 0} {K : token.Token → Type 0} {Q : Language} → Begin K (Written T S) → Begin K Q → Begin K (InTurn (Several T S) Q)
begin_several {K = K} h k = record {
  begin = λ l a r p. subst K (sym (ap (λ z. first_of (z ++ r)) p.joined ∙ ap first_of (append_assoc p.front p.back r))) (several_first l p.front p.back r h k p.one.trees p.one.spelled p.other);
}

-- ---- where F is of what follows Q, G is of that with Q before it
pub record Before (limit : Option ℕ) (Q : Language) (F G : Tokened) : Type 0 where
  pub before : (b r : List Lexeme) → Q limit b → F r → G (b ++ r)

pub before_any : {limit : Option ℕ} {Q : Language} {F : Tokened} → Before limit Q F Anything
before_any = record { before = λ b r q f. tt }

pub before_turn : {limit : Option ℕ} {P Q : Language} {F G H : Tokened} → Before limit Q F G → Before limit P G H → Before limit (InTurn P Q) F H
before_turn {H = H} g h = record {
  before = λ b r q f. subst H (sym (ap (λ z. z ++ r) q.joined ∙ append_assoc q.front q.back r)) (h.before q.front (q.back ++ r) q.one (g.before q.back r q.other f));
}

pub before_begin : {limit : Option ℕ} {K : token.Token → Type 0} {Q : Language} {F : Tokened} (signs : List Punctuator) → Begin K Q → ((u : token.Token) → K u → Differs signs u) → Before limit Q F (Avoids signs)
before_begin {limit} signs h d = record { before = λ b r q f. d (first_of (b ++ r)) (h.begin limit b r q) }

perhaps_before : {K : token.Token → Type 0} {P : Language} (limit : Option ℕ) (signs : List Punctuator) (b r : List Lexeme) → Begin K P → ((u : token.Token) → K u → Differs signs u) → Avoids signs r → (b ≡ []) ⊎ P limit b → Avoids signs (b ++ r)
perhaps_before limit signs b r h d f (inl e) = subst (λ z. Avoids signs (z ++ r)) (sym e) f
perhaps_before limit signs b r h d f (inr p) = d (first_of (b ++ r)) (h.begin limit b r p)

pub before_perhaps : {limit : Option ℕ} {K : token.Token → Type 0} {P : Language} {F : Tokened} (signs : List Punctuator) → Begin K P → ((u : token.Token) → K u → Differs signs u) → ((r : List Lexeme) → F r → Avoids signs r) → Before limit (Perhaps P) F (Avoids signs)
before_perhaps {limit} signs h d g = record { before = λ b r q f. perhaps_before limit signs b r h d (g r f) q.choice }

trees_before : {T : Type 0} {S : Option ℕ → T → List Lexeme → Type 0} {K : token.Token → Type 0} (limit : Option ℕ) (signs : List Punctuator) (b r : List Lexeme) → Begin K (Written T S) → ((u : token.Token) → K u → Differs signs u) → Avoids signs r → (xs : List T) → SpellsEach (S limit) xs b → Avoids signs (b ++ r)
trees_before limit signs b r h d f [] e = subst (λ z. Avoids signs (z ++ r)) (sym e) f
trees_before limit signs b r h d f (x ∷ xs) (one, more, e, s, m) =
    subst (λ z. Avoids signs z) (sym (ap (λ z. z ++ r) e ∙ append_assoc one more r)) (d (first_of (one ++ (more ++ r))) (h.begin limit one (more ++ r) (record { tree = x; spelled = s })))

pub before_several : {limit : Option ℕ} {T : Type 0} {S : Option ℕ → T → List Lexeme → Type 0} {K : token.Token → Type 0} {F : Tokened} (signs : List Punctuator) → Begin K (Written T S) → ((u : token.Token) → K u → Differs signs u) → ((r : List Lexeme) → F r → Avoids signs r) → Before limit (Several T S) F (Avoids signs)
before_several {limit} signs h d g = record { before = λ b r q f. trees_before limit signs b r h d (g r f) q.trees q.spelled }

-- ---- from one moment to a later one
-- the tokens from b to c, x, which comes next then, and more begin with the token that comes next at b
shown : (b c : Tokens) (ts more : List Lexeme) → left b ≡ ts ++ left c → (m : List Lexeme) × (ts ++ ahead_of c ∷ more ≡ ahead_of b ∷ m)
shown b c [] more e = (more, ap (λ x. x ∷ more) (sym (head_same _ _ _ _ e)))
shown b c (y ∷ ys) more e = (ys ++ ahead_of c ∷ more, ap (λ x. x ∷ (ys ++ ahead_of c ∷ more)) (sym (head_same _ _ _ _ e)))

joined_place : (a b c : Tokens) (xs ys : List Lexeme) → left a ≡ xs ++ left b → left b ≡ ys ++ left c → left a ≡ (xs ++ ys) ++ left c
joined_place a b c xs ys e f = e ∙ ap (λ z. xs ++ z) f ∙ sym (append_assoc xs ys (left c))

turned : (b c : Tokens) (xs ys more a r m : List Lexeme) → ys ++ ahead_of c ∷ more ≡ ahead_of b ∷ m → (xs ++ ys) ++ ahead_of c ∷ more ≡ a ++ r → xs ++ ahead_of b ∷ m ≡ a ++ r
turned b c xs ys more a r m g e = ap (λ z. xs ++ z) (sym g) ∙ sym (append_assoc xs ys (ahead_of c ∷ more)) ∙ e

pub leaves_then : {limit : Option ℕ} {F : Tokened} {P Q R : Language} {a b c : Tokens} → Leaves limit F P Q a b → Leaves limit F Q R b c → Leaves limit F P R a c
leaves_then {P = P} {a = a} {b = b} {c = c} h k = record {
  taken = h.taken ++ k.taken;
  place = joined_place a b c h.taken k.taken h.place k.place;
  rest = λ more x r p f e.
      let (m, g) = shown b c k.taken more k.place in
      let (y, q, w) = h.rest m x r p f (turned b c h.taken k.taken more x r m g e) in
      k.rest more y r q f (g ∙ w);
  whole = λ z w. subst (P None) (sym (append_assoc h.taken k.taken z)) (h.whole (k.taken ++ z) (k.whole z w));
}

stuck_behind : {limit : Option ℕ} {F : Tokened} {P Q : Language} {a b c : Tokens} → Leaves limit F P Q a b → Stuck limit F Q b c → Stuck limit F P a c
stuck_behind {P = P} {a = a} {b = b} {c = c} h k = record {
  taken = h.taken ++ k.taken;
  place = joined_place a b c h.taken k.taken h.place k.place;
  never = λ more x r p f e.
      let (m, g) = shown b c k.taken more k.place in
      let (y, q, w) = h.rest m x r p f (turned b c h.taken k.taken more x r m g e) in
      k.never more y r q f (g ∙ w);
  goes_on = (k.goes_on.0, subst (P None) (sym (append_assoc h.taken k.taken k.goes_on.0)) (h.whole (k.taken ++ k.goes_on.0) k.goes_on.1));
}

-- ---- the first of two productions
pub leaves_front : {limit : Option ℕ} {F G : Tokened} {P P2 Q : Language} {a b : Tokens} → Leaves limit G P P2 a b → Before limit Q F G → Leaves limit F (InTurn P Q) (InTurn P2 Q) a b
leaves_front {b = b} h g = record {
  taken = h.taken;
  place = h.place;
  rest = λ more x r p f e.
      let (y, q, w) = h.rest more p.front (p.back ++ r) p.one (g.before p.back r p.other f) (e ∙ ap (λ z. z ++ r) p.joined ∙ append_assoc p.front p.back r) in
      (y ++ p.back, record { front = y; back = p.back; joined = refl; one = q; other = p.other }, w ∙ sym (append_assoc y p.back r));
  whole = λ z w. record {
    front = h.taken ++ w.front;
    back = w.back;
    joined = ap (λ y. h.taken ++ y) w.joined ∙ sym (append_assoc h.taken w.front w.back);
    one = h.whole w.front w.one;
    other = w.other;
  };
}

stuck_front : {limit : Option ℕ} {F G : Tokened} {P Q : Language} {a b : Tokens} → Stuck limit G P a b → Before limit Q F G → Example Q → Stuck limit F (InTurn P Q) a b
stuck_front h g (c, q) = record {
  taken = h.taken;
  place = h.place;
  never = λ more x r p f e. h.never more p.front (p.back ++ r) p.one (g.before p.back r p.other f) (e ∙ ap (λ z. z ++ r) p.joined ∙ append_assoc p.front p.back r);
  goes_on = (h.goes_on.0 ++ c, record { front = h.taken ++ h.goes_on.0; back = c; joined = sym (append_assoc h.taken h.goes_on.0 c); one = h.goes_on.1; other = q });
}

-- ---- no token
pub leaves_less : {limit : Option ℕ} {F H : Tokened} {P Q : Language} {a b : Tokens} → ((r : List Lexeme) → H r → F r) → Leaves limit F P Q a b → Leaves limit H P Q a b
leaves_less f h = record { taken = h.taken; place = h.place; rest = λ more x r p g e. h.rest more x r p (f r g) e; whole = h.whole }

stuck_less : {limit : Option ℕ} {F H : Tokened} {P : Language} {a b : Tokens} → ((r : List Lexeme) → H r → F r) → Stuck limit F P a b → Stuck limit H P a b
stuck_less f h = record { taken = h.taken; place = h.place; never = λ more x r p g e. h.never more x r p (f r g) e; goes_on = h.goes_on }

-- what comes next decides
leaves_here : {limit : Option ℕ} {F : Tokened} {P Q : Language} {a b : Tokens} → b ≡ a → ((more x r : List Lexeme) → P limit x → F r → ahead_of a ∷ more ≡ x ++ r → (y : List Lexeme) × Q limit y × (ahead_of a ∷ more ≡ y ++ r)) → ((z : List Lexeme) → Q None z → P None z) → Leaves limit F P Q a b
leaves_here {limit} {Q = Q} {a = a} same f g = record {
  taken = [];
  place = ap left (sym same);
  rest = λ more x r p h e.
      let (y, q, w) = f more x r p h (ap (λ t. ahead_of t ∷ more) (sym same) ∙ e) in
      (y, q, ap (λ t. ahead_of t ∷ more) same ∙ w);
  whole = g;
}

pub leaves_alike : {limit : Option ℕ} {F : Tokened} {P Q : Language} {a : Tokens} → Alike P Q → Leaves limit F P Q a a
leaves_alike {limit} h = leaves_here refl (λ more x r p f e. (x, h.to limit x p, e)) (λ z q. h.back None z q)

pub leaves_from : {limit : Option ℕ} {F : Tokened} {P Q R : Language} {a b : Tokens} → Alike P Q → Leaves limit F Q R a b → Leaves limit F P R a b
leaves_from h k = leaves_then (leaves_alike h) k

pub leaves_to : {limit : Option ℕ} {F : Tokened} {P Q R : Language} {a b : Tokens} → Leaves limit F P Q a b → Alike Q R → Leaves limit F P R a b
leaves_to h k = leaves_then h (leaves_alike k)

-- the first is read whole
pub leaves_one : {limit : Option ℕ} {F G : Tokened} {P Q : Language} {a b : Tokens} → Leaves limit G P Nothing a b → Before limit Q F G → Leaves limit F (InTurn P Q) Q a b
leaves_one h g = leaves_to (leaves_front h g) alike_none

stuck_here : {limit : Option ℕ} {F : Tokened} {P : Language} {a b : Tokens} → b ≡ a → ((more x r : List Lexeme) → P limit x → F r → ahead_of a ∷ more ≡ x ++ r → ⊥) → Example P → Stuck limit F P a b
stuck_here same n x = record {
  taken = [];
  place = ap left (sym same);
  never = λ more y r p f e. n more y r p f (ap (λ t. ahead_of t ∷ more) (sym same) ∙ e);
  goes_on = x;
}

-- the token that comes next begins no such word
pub stuck_begin : {limit : Option ℕ} {K : token.Token → Type 0} {F : Tokened} {P : Language} {a b : Tokens} → b ≡ a → Begin K P → (K (ahead_of a).token → ⊥) → Example P → Stuck limit F P a b
stuck_begin {limit} {K} same h n x = stuck_here same (λ more y r p f e. n (subst K (ap first_of (sym e)) (h.begin limit y r p))) x

-- ---- one token
pub leaves_single : {limit : Option ℕ} {F : Tokened} {K : token.Token → Type 0} {a b : Tokens} (t : token.Token) → IsTaken t a b → K t → Leaves limit F (Single K) Nothing a b
leaves_single {K = K} {a = a} {b = b} t h k = record {
  taken = ahead_of a ∷ [];
  place = ap (λ z. ahead_of a ∷ z) (sym h.1);
  rest = λ more x r p f e. ([], record { none = refl }, tail_same _ _ _ _ (e ∙ ap (λ z. z ++ r) p.alone));
  whole = λ z w. record { it = ahead_of a; alone = ap (λ y. ahead_of a ∷ y) w.none; kind = subst K (sym h.0) k };
}

pub leaves_token : {limit : Option ℕ} {F : Tokened} {K : token.Token → Type 0} {Q : Language} {a b : Tokens} (t : token.Token) → IsTaken t a b → K t → Leaves limit F (InTurn (Single K) Q) Q a b
leaves_token t h k = leaves_one {G = Anything} (leaves_single t h k) before_any

-- ---- what may be absent
none_there : {K : token.Token → Type 0} {P : Language} (limit : Option ℕ) (y : Lexeme) (more x r : List Lexeme) → Begin K P → (K y.token → ⊥) → y ∷ more ≡ x ++ r → (x ≡ []) ⊎ P limit x → x ≡ []
none_there limit y more x r h n e (inl w) = w
none_there {K} limit y more x r h n e (inr p) = absurd (n (subst K (ap first_of (sym e)) (h.begin limit x r p)))

pub leaves_absent : {limit : Option ℕ} {F : Tokened} {K : token.Token → Type 0} {P : Language} {a b : Tokens} → b ≡ a → Begin K P → (K (ahead_of a).token → ⊥) → Leaves limit F (Perhaps P) Nothing a b
leaves_absent {limit} {a = a} same h n =
    leaves_here same (λ more x r p f e. (x, record { none = none_there limit (ahead_of a) more x r h n e p.choice }, e)) (λ z q. record { choice = inl q.none })

some_there : (limit : Option ℕ) (F : Tokened) (P : Language) (y : Lexeme) (more x r : List Lexeme) → ((r : List Lexeme) → F r → first_of r ≡ y.token → ⊥) → F r → y ∷ more ≡ x ++ r → (x ≡ []) ⊎ P limit x → P limit x
some_there limit F P y more x r n f e (inl w) = absurd (n r f (sym (ap first_of (e ∙ ap (λ z. z ++ r) w))))
some_there limit F P y more x r n f e (inr p) = p

pub leaves_present : {limit : Option ℕ} {F : Tokened} {P : Language} {a b : Tokens} → b ≡ a → ((r : List Lexeme) → F r → first_of r ≡ (ahead_of a).token → ⊥) → Leaves limit F (Perhaps P) P a b
leaves_present {limit} {F} {P} {a = a} same n =
    leaves_here same (λ more x r p f e. (x, some_there limit F P (ahead_of a) more x r n f e p.choice, e)) (λ z q. record { choice = inr q })

-- ---- any number of them
no_trees : {T : Type 0} {S : Option ℕ → T → List Lexeme → Type 0} {K : token.Token → Type 0} (limit : Option ℕ) (y : Lexeme) (more x r : List Lexeme) → Begin K (Written T S) → (K y.token → ⊥) → y ∷ more ≡ x ++ r → (xs : List T) → SpellsEach (S limit) xs x → x ≡ []
no_trees limit y more x r h n e [] w = w
no_trees {K = K} limit y more x r h n e (t ∷ ts) (one, rest, w, s, m) =
    absurd (n (subst K (sym (ap first_of (e ∙ ap (λ z. z ++ r) w ∙ append_assoc one rest r))) (h.begin limit one (rest ++ r) (record { tree = t; spelled = s }))))

pub leaves_ended : {limit : Option ℕ} {F : Tokened} {T : Type 0} {S : Option ℕ → T → List Lexeme → Type 0} {K : token.Token → Type 0} {a b : Tokens} → b ≡ a → Begin K (Written T S) → (K (ahead_of a).token → ⊥) → Leaves limit F (Several T S) Nothing a b
leaves_ended {limit} {a = a} same h n =
    leaves_here same (λ more x r p f e. (x, record { none = no_trees limit (ahead_of a) more x r h n e p.trees p.spelled }, e)) (λ z q. record { trees = []; spelled = q.none })

some_trees : (limit : Option ℕ) (F : Tokened) (T : Type 0) (S : Option ℕ → T → List Lexeme → Type 0) (y : Lexeme) (more x r : List Lexeme) → ((r : List Lexeme) → F r → first_of r ≡ y.token → ⊥) → F r → y ∷ more ≡ x ++ r → (xs : List T) → SpellsEach (S limit) xs x → InTurn (Written T S) (Several T S) limit x
some_trees limit F T S y more x r n f e [] w = absurd (n r f (sym (ap first_of (e ∙ ap (λ z. z ++ r) w))))
some_trees limit F T S y more x r n f e (t ∷ ts) (one, rest, w, s, m) =
    record { front = one; back = rest; joined = w; one = record { tree = t; spelled = s }; other = record { trees = ts; spelled = m } }

pub leaves_more : {limit : Option ℕ} {F : Tokened} {T : Type 0} {S : Option ℕ → T → List Lexeme → Type 0} {a b : Tokens} → b ≡ a → ((r : List Lexeme) → F r → first_of r ≡ (ahead_of a).token → ⊥) → Leaves limit F (Several T S) (InTurn (Written T S) (Several T S)) a b
leaves_more {limit} {F} {T} {S} {a = a} same n =
    leaves_here same (λ more x r p f e. (x, some_trees limit F T S (ahead_of a) more x r n f e p.trees p.spelled, e)) (λ z q. record { trees = q.one.tree ∷ q.other.trees; spelled = (q.front, q.back, q.joined, q.one.spelled, q.other.spelled) })

-- and something behind them, with which the token that comes next begins nothing
pub leaves_more_before : {limit : Option ℕ} {F : Tokened} {T : Type 0} {S : Option ℕ → T → List Lexeme → Type 0} {M : token.Token → Type 0} {Q : Language} {a b : Tokens} → b ≡ a → Begin M Q → (M (ahead_of a).token → ⊥) → Leaves limit F (InTurn (Several T S) Q) (InTurn (Written T S) (InTurn (Several T S) Q)) a b
leaves_more_before {limit} {M = M} same h n =
    leaves_to (leaves_front {G = λ r. M (first_of r)} (leaves_more same (λ r m e. n (subst M e m))) (record { before = λ b r q f. h.begin limit b r q })) alike_assoc

pub leaves_ended_before : {limit : Option ℕ} {F : Tokened} {T : Type 0} {S : Option ℕ → T → List Lexeme → Type 0} {K : token.Token → Type 0} {Q : Language} {a b : Tokens} → b ≡ a → Begin K (Written T S) → (K (ahead_of a).token → ⊥) → Leaves limit F (InTurn (Several T S) Q) Q a b
leaves_ended_before same h n = leaves_one {G = Anything} (leaves_ended same h n) before_any

-- ---- one of two
not_right : {K : token.Token → Type 0} (limit : Option ℕ) (P Q : Language) (y : Lexeme) (more x r : List Lexeme) → Begin K Q → (K y.token → ⊥) → y ∷ more ≡ x ++ r → P limit x ⊎ Q limit x → P limit x
not_right limit P Q y more x r h n e (inl p) = p
not_right {K} limit P Q y more x r h n e (inr q) = absurd (n (subst K (ap first_of (sym e)) (h.begin limit x r q)))

not_left : {K : token.Token → Type 0} (limit : Option ℕ) (P Q : Language) (y : Lexeme) (more x r : List Lexeme) → Begin K P → (K y.token → ⊥) → y ∷ more ≡ x ++ r → P limit x ⊎ Q limit x → Q limit x
not_left {K} limit P Q y more x r h n e (inl p) = absurd (n (subst K (ap first_of (sym e)) (h.begin limit x r p)))
not_left limit P Q y more x r h n e (inr q) = q

pub leaves_left : {limit : Option ℕ} {F : Tokened} {K : token.Token → Type 0} {P Q : Language} {a b : Tokens} → b ≡ a → Begin K Q → (K (ahead_of a).token → ⊥) → Leaves limit F (Either P Q) P a b
leaves_left {limit} {P = P} {Q = Q} {a = a} same h n =
    leaves_here same (λ more x r p f e. (x, not_right limit P Q (ahead_of a) more x r h n e p.choice, e)) (λ z q. record { choice = inl q })

pub leaves_right : {limit : Option ℕ} {F : Tokened} {K : token.Token → Type 0} {P Q : Language} {a b : Tokens} → b ≡ a → Begin K P → (K (ahead_of a).token → ⊥) → Leaves limit F (Either P Q) Q a b
leaves_right {limit} {P = P} {Q = Q} {a = a} same h n =
    leaves_here same (λ more x r p f e. (x, not_left limit P Q (ahead_of a) more x r h n e p.choice, e)) (λ z q. record { choice = inr q })

-- ---- a level more
pub leaves_nested : {limit : Option ℕ} {F : Tokened} {P : Language} {n : ℕ} {a : Tokens} → Leaves limit F (Nested n P) P a a
leaves_nested = leaves_here refl (λ more x r p f e. (x, p.inside, e)) (λ z q. record { nest = refl; inside = q })

pub stuck_nested : {limit : Option ℕ} {F : Tokened} {P : Language} {n : ℕ} {a b : Tokens} → b ≡ a → may_nest limit n ≡ false → Example P → Stuck limit F (Nested n P) a b
stuck_nested {n = n} same deep x =
    stuck_here same (λ more y r p f e. let t : true ≡ false = sym p.nest ∙ deep in cc) (example_nested n x)

-- ---- what an error tells
pub fault_memory : {limit : Option ℕ} {F : Tokened} {P : Language} {a b : Tokens} → IsFault limit F P a b OutOfMemory
fault_memory = record { stuck = λ n. absurd n; placed = tt }

pub fault_stuck : {limit : Option ℕ} {F : Tokened} {P : Language} {a b : Tokens} {e : ReadError} → Stuck limit F P a b → IsPlaced (ahead_of b) e → IsFault limit F P a b e
fault_stuck s p = record { stuck = λ y. s; placed = p }

pub fault_behind : {limit : Option ℕ} {F : Tokened} {P Q : Language} {a b c : Tokens} {e : ReadError} → Leaves limit F P Q a b → IsFault limit F Q b c e → IsFault limit F P a c e
fault_behind h f = record { stuck = λ y. stuck_behind h (f.stuck y); placed = f.placed }

pub fault_front : {limit : Option ℕ} {F G : Tokened} {P Q : Language} {a b : Tokens} {e : ReadError} → IsFault limit G P a b e → Before limit Q F G → Example Q → IsFault limit F (InTurn P Q) a b e
fault_front f g x = record { stuck = λ y. stuck_front (f.stuck y) g x; placed = f.placed }

pub fault_less : {limit : Option ℕ} {F H : Tokened} {P : Language} {a b : Tokens} {e : ReadError} → ((r : List Lexeme) → H r → F r) → IsFault limit F P a b e → IsFault limit H P a b e
fault_less g f = record { stuck = λ y. stuck_less g (f.stuck y); placed = f.placed }

pub fault_from : {limit : Option ℕ} {F : Tokened} {P Q : Language} {a b : Tokens} {e : ReadError} → Alike P Q → IsFault limit F Q a b e → IsFault limit F P a b e
fault_from h f = fault_behind (leaves_alike h) f

-- ---- its place
at_start : (t : token.Token) (start place : SourcePosition) → ((t ≡ token.fault → ⊥) → place ≡ start) → IsTokenPlace t start place
at_start (token.punctuator sign) start place h = h (λ e. cc)
at_start (token.name n) start place h = h (λ e. cc)
at_start (token.int n) start place h = h (λ e. cc)
at_start (token.float n) start place h = h (λ e. cc)
at_start (token.string raw) start place h = inl (h (λ e. cc))
at_start (token.block_string raw) start place h = h (λ e. cc)
at_start token.end start place h = h (λ e. cc)
at_start token.fault start place h = tt

pub placed_start : (x : Lexeme) (e : ReadError) → IsFaultAt x.start e → IsPlaced x e
placed_start x OutOfMemory h = tt
placed_start x (Syntax e) h = at_start x.token x.start e.position (λ n. h)

pub placed_fault : (x : Lexeme) (e : ReadError) → ((x.token ≡ token.fault → ⊥) → IsFaultAt x.start e) → IsPlaced x e
placed_fault x OutOfMemory h = tt
placed_fault x (Syntax e) h = at_start x.token x.start e.position h

-- ---- fewer tokens are left
pub front_less : (xs ys zs : List Lexeme) → ys ≡ zs ++ xs → (zs ≡ [] → ⊥) → length xs < length ys
front_less xs ys [] e some = absurd (some refl)
front_less xs ys (z ∷ zs) e some = omega (arith, ap length e, length-append zs xs)

pub taken_less : (t : token.Token) (a b : Tokens) → IsTaken t a b → length (left b) < length (left a)
taken_less t a b h = omega (arith, ap length h.1)

pub leaves_no_more : {limit : Option ℕ} {F : Tokened} {P Q : Language} {a b : Tokens} → Leaves limit F P Q a b → length (left b) ≤ length (left a)
leaves_no_more {b = b} h = omega (arith, ap length h.place, length-append h.taken (left b))

pub begins_less : (P : Tokened) (xs ys : List Lexeme) → HasSome P → BeginsWith P ys xs → length xs < length ys
begins_less P xs ys some (front, e, p) = front_less xs ys front e (some front p)

pub reads_less : (P : Tokened) (a b : Tokens) → HasSome P → Reads P a b → length (left b) < length (left a)
reads_less P a b some (front, t, p) = front_less (left b) (left a) front t.0 (some front p)
