-- No two types are spelled by the same tokens, where no `!` follows.
use Rattle.std.proofs.Common.{◌≡◌, ℕ, suc, List, [], ◌∷◌, ◌++◌, reverse, Option, Some, None, refl, sym, ap, ◌∙◌}
use Rattle.std.proofs.lemmas.List.{reverse-reverse}
use Rattle.language_types.specs.Types.{TypeShape}
use Rattle.language_types.specs.declared.position.Span.{Span}
use Rattle.language_types.specs.declared.types.TypeModifier.{TypeModifier}
use Rattle.language_types.specs.declared.types.TypeModifier.TheVariants as m
use Rattle.graphql_lexer.specs.Lexical as token
use Rattle.graphql_lexer.specs.declared.lexer.Punctuator.TheVariants.{Bang, BracketOpen, BracketClose}
use Rattle.graphql_reader.specs.Passed.{One, Then}
use Rattle.graphql_reader.specs.Types.{MayBeNull, PlacedType, SpellsModified, SpellsType}
use Rattle.graphql_reader.proofs.OnlyLaws.{IsSign, sign_not}
use Rattle.graphql_reader.proofs.PassedLaws.{Tokened}
use Rattle.graphql_reader.proofs.SameLaws.{Same, Apart, Starts, Before, Any, No, same_less, same_so, same_apart, same_swap, same_through, same_one, same_then, same_covered, starts_through, apart_first, apart_longer, apart_swap, starts_one, starts_then, before_any}

abbrev pub NoBang : Tokened
NoBang = No (IsSign (token.punctuator Bang))

pub bare : MayBeNull []
bare rest e = cc

pub listed : (size : Option ℕ) (ms : List TypeModifier) → MayBeNull (m.List size ∷ ms)
listed size ms rest e = cc

pub same_named : (n o : List ℕ) → token.name n ≡ token.name o → n ≡ o
same_named n o e = cc

name_no_bracket : (n : List ℕ) (u : token.Token) → IsSign (token.name n) u → IsSign (token.punctuator BracketOpen) u → ⊥
name_no_bracket n u e f = let g : token.name n ≡ token.punctuator BracketOpen = sym e ∙ f in cc

starts_list : (limit : Option ℕ) (depth : ℕ) (n : List ℕ) (ms : List TypeModifier) → Starts (IsSign (token.punctuator BracketOpen)) (SpellsModified limit depth n (m.List None ∷ ms))
starts_list limit depth n ms =
    starts_through (λ ts h. h.1) (starts_then {Q = Then (SpellsModified limit (suc depth) n ms) (One (token.punctuator BracketClose))} (starts_one (token.punctuator BracketOpen)))

close_before : {F : Tokened} → Before (One (token.punctuator BracketClose)) F NoBang
close_before = record { before = λ b r q f. sign_not BracketClose Bang (b ++ r) (λ e. cc) ((starts_one (token.punctuator BracketClose)).starts b r q) }

longer : (limit : Option ℕ) (depth : ℕ) (n o : List ℕ) (ms ns : List TypeModifier) → (MayBeNull ns → Same (SpellsModified limit depth n ms) (SpellsModified limit depth o ns) Any ((n ≡ o) × (ms ≡ ns))) → Apart (SpellsModified limit depth n ms) (SpellsModified limit depth o (m.NonNull ∷ ns)) NoBang
longer limit depth n o ms ns h = record {
  apart = λ a b r s p (may, q) u v w. (apart_longer {G = NoBang} (h may) (λ z c. tt) before_any (starts_one (token.punctuator Bang)) (λ z c e. c e)).apart a b r s p q u v w;
}

both : (limit : Option ℕ) (depth : ℕ) (n o : List ℕ) (ms ns : List TypeModifier) → (MayBeNull ms → MayBeNull ns → Same (SpellsModified limit depth n ms) (SpellsModified limit depth o ns) Any ((n ≡ o) × (ms ≡ ns))) → Same (SpellsModified limit depth n (m.NonNull ∷ ms)) (SpellsModified limit depth o (m.NonNull ∷ ns)) NoBang ((n ≡ o) × (m.NonNull ∷ ms ≡ m.NonNull ∷ ns))
both limit depth n o ms ns h = record {
  same = λ a b r s (may, p) (may2, q) u v w.
      let (((e, f), g), i, j) = (same_then (h may may2) (same_one (token.punctuator Bang) (token.punctuator Bang)) before_any before_any).same a b r s p q tt tt w in
      ((e, ap (λ z. m.NonNull ∷ z) f), i, j);
}

-- ---- but for a `!` behind them, and with it
abbrev Alike : Option ℕ → ℕ → List ℕ → List ℕ → List TypeModifier → List TypeModifier → Tokened → Type 0
Alike limit depth n o ms ns F = Same (SpellsModified limit depth n ms) (SpellsModified limit depth o ns) F ((n ≡ o) × (ms ≡ ns))

base_name : (limit : Option ℕ) (depth : ℕ) (n o : List ℕ) (ns : List TypeModifier) → MayBeNull ns → Alike limit depth n o [] ns Any
base_name limit depth n o [] g = same_so (λ e. (same_named n o e, refl)) (same_one (token.name n) (token.name o))
base_name limit depth n o (m.NonNull ∷ ns) g = absurd (g ns refl)
base_name limit depth n o (m.List None ∷ ns) g = same_apart (apart_first (starts_one (token.name n)) (starts_list limit depth o ns) (name_no_bracket n))
base_name limit depth n o (m.List (Some k) ∷ ns) g = record { same = λ a b r s p q u v w. absurd q }

base_list : (limit : Option ℕ) (depth : ℕ) (n o : List ℕ) (ms : List TypeModifier) → ((ns : List TypeModifier) → Alike limit (suc depth) n o ms ns NoBang) → (ns : List TypeModifier) → MayBeNull ns → Alike limit depth n o (m.List None ∷ ms) ns Any
base_list limit depth n o ms inner [] g = same_apart (apart_swap (apart_first (starts_one (token.name o)) (starts_list limit depth n ms) (name_no_bracket o)))
base_list limit depth n o ms inner (m.NonNull ∷ ns) g = absurd (g ns refl)
base_list limit depth n o ms inner (m.List (Some k) ∷ ns) g = record { same = λ a b r s p q u v w. absurd q }
base_list limit depth n o ms inner (m.List None ∷ ns) g =
    same_so (λ (e, ((i, j), k)). (i, ap (λ z. m.List None ∷ z) j)) (same_through (λ ts h. h.1) (λ ts h. h.1) (same_then (same_one (token.punctuator BracketOpen) (token.punctuator BracketOpen)) (same_then (inner ns) (same_one (token.punctuator BracketClose) (token.punctuator BracketClose)) close_before close_before) before_any before_any))

with_bang : (limit : Option ℕ) (depth : ℕ) (n o : List ℕ) (ms : List TypeModifier) → ((ns : List TypeModifier) → MayBeNull ns → Alike limit depth n o ms ns Any) → (ns : List TypeModifier) → Alike limit depth n o ms ns NoBang
with_bang limit depth n o ms base [] = same_less (λ r c. tt) (base [] bare)
with_bang limit depth n o ms base (m.List size ∷ ns) = same_less (λ r c. tt) (base (m.List size ∷ ns) (listed size ns))
with_bang limit depth n o ms base (m.NonNull ∷ ns) = same_apart (longer limit depth n o ms ns (base ns))

abbrev Base : Option ℕ → ℕ → List ℕ → List ℕ → List TypeModifier → Type 0
Base limit depth n o ms = MayBeNull ms → (ns : List TypeModifier) → MayBeNull ns → Alike limit depth n o ms ns Any

turned : (limit : Option ℕ) (depth : ℕ) (n o : List ℕ) (ms ns : List TypeModifier) → Alike limit depth n o ms ns Any → Alike limit depth o n ns ms Any
turned limit depth n o ms ns h = same_so (λ (e, f). (sym e, sym f)) (same_swap h)

of_bang : (limit : Option ℕ) (depth : ℕ) (n o : List ℕ) (ms : List TypeModifier) → Base limit depth n o ms → (ns : List TypeModifier) → Alike limit depth n o (m.NonNull ∷ ms) ns NoBang
of_bang limit depth n o ms base [] = same_apart (apart_swap (longer limit depth o n [] ms (λ may. turned limit depth n o ms [] (base may [] bare))))
of_bang limit depth n o ms base (m.List size ∷ ns) = same_apart (apart_swap (longer limit depth o n (m.List size ∷ ns) ms (λ may. turned limit depth n o ms (m.List size ∷ ns) (base may (m.List size ∷ ns) (listed size ns)))))
of_bang limit depth n o ms base (m.NonNull ∷ ns) = both limit depth n o ms ns (λ may more. base may ns more)

types : (limit : Option ℕ) (depth : ℕ) (n o : List ℕ) (ms : List TypeModifier) → ((ns : List TypeModifier) → Alike limit depth n o ms ns NoBang) × Base limit depth n o ms
types limit depth n o [] = (with_bang limit depth n o [] (base_name limit depth n o), λ f. base_name limit depth n o)
types limit depth n o (m.List None ∷ ms) =
    let inner = (types limit (suc depth) n o ms).0 in
    (with_bang limit depth n o (m.List None ∷ ms) (base_list limit depth n o ms inner), λ f. base_list limit depth n o ms inner)
types limit depth n o (m.List (Some k) ∷ ms) =
    (λ ns. record { same = λ a b r s p q u v w. absurd p }, λ f ns g. record { same = λ a b r s p q u v w. absurd p })
types limit depth n o (m.NonNull ∷ ms) = (of_bang limit depth n o ms (types limit depth n o ms).1, λ f. absurd (f ms refl))

abbrev shape_of : List ℕ → List TypeModifier → TypeShape
shape_of n ms = record { name = n; modifiers = ms }

unreversed : (ms ns : List TypeModifier) → reverse ms ≡ reverse ns → ms ≡ ns
unreversed ms ns e = sym (reverse-reverse ms) ∙ ap reverse e ∙ reverse-reverse ns

abbrev placed : TypeShape → Span → PlacedType
placed k span = record { shape = k; span = span }

pub same_type : (limit : Option ℕ) (x y : PlacedType) → Same (SpellsType limit x) (SpellsType limit y) NoBang (x ≡ y)
same_type limit x y =
    same_so (λ ((n, ms), s). ap (λ z. placed (shape_of z x.shape.modifiers) x.span) n ∙ ap (λ z. placed (shape_of y.shape.name z) x.span) (unreversed x.shape.modifiers y.shape.modifiers ms) ∙ ap (λ z. placed y.shape z) s) (same_covered x.span y.span ((types limit 0 x.shape.name y.shape.name (reverse x.shape.modifiers)).0 (reverse y.shape.modifiers)))
