-- The tokens that a type reference is written with (GraphQL, October 2021, section 2.11).
use Rattle.std.specs.Prelude.{◌≡◌, ℕ, zero, suc, true, List, [], ◌∷◌, reverse, Option, Some, None}
use Rattle.language_types.specs.Types.{TypeShape, shape}
use Rattle.language_types.specs.declared.position.Span.{Span}
use Rattle.language_types.specs.declared.position.Spanning.{Spanning}
use Rattle.language_types.specs.declared.types.TypeModifier.{TypeModifier}
use Rattle.language_types.specs.declared.types.TypeModifier.TheVariants as m
use Rattle.language_types.specs.declared.types.«Type» as t
use Rattle.graphql_lexer.specs.Lexemes.{Lexeme}
use Rattle.graphql_lexer.specs.Lexical as token
use Rattle.graphql_lexer.specs.declared.lexer.Punctuator.TheVariants.{Bang, BracketOpen, BracketClose}
use Rattle.value_reader.specs.Grammar.{may_nest}
use Rattle.graphql_reader.specs.Passed.{Covers, One, Then}

-- the outermost of these modifiers is no non-null
abbrev pub MayBeNull : List TypeModifier → Type 0
MayBeNull ms = (rest : List TypeModifier) → ms ≡ m.NonNull ∷ rest → ⊥

-- Type: NamedType, ListType or NonNullType, inside of so many lists. The modifiers stand outermost first.
abbrev pub SpellsModified : Option ℕ → ℕ → List ℕ → List TypeModifier → List Lexeme → Type 0
-- NamedType: Name
SpellsModified limit depth name [] ts = One (token.name name) ts
-- NonNullType: NamedType `!`, or ListType `!`
SpellsModified limit depth name (m.NonNull ∷ ms) ts =
    MayBeNull ms × Then (SpellsModified limit depth name ms) (One (token.punctuator Bang)) ts
-- ListType: `[` Type `]`
SpellsModified limit depth name (m.List None ∷ ms) ts =
    (may_nest limit depth ≡ true)
    × Then (One (token.punctuator BracketOpen))
    (Then (SpellsModified limit (suc depth) name ms) (One (token.punctuator BracketClose))) ts
-- no text tells a number of items
SpellsModified limit depth name (m.List (Some n) ∷ ms) ts = ⊥

abbrev pub SpellsShape : Option ℕ → ℕ → TypeShape → List Lexeme → Type 0
SpellsShape limit depth t ts = SpellsModified limit depth t.name (reverse t.modifiers) ts

-- a type with its span
pub record PlacedType : Type 0 where
  pub shape : TypeShape
  pub span : Span

abbrev pub SpellsType : Option ℕ → PlacedType → List Lexeme → Type 0
SpellsType limit k ts = SpellsShape limit 0 k.shape ts × Covers k.span ts

abbrev pub type_seen : Spanning t.«Type» Span → PlacedType
type_seen k = record { shape = shape k.item; span = k.span }

-- ---- while one is read
-- so many opening brackets, each inside of those before it
abbrev pub SpellsBrackets : Option ℕ → ℕ → List Lexeme → Type 0
SpellsBrackets limit zero ts = ts ≡ []
SpellsBrackets limit (suc n) ts =
    (may_nest limit n ≡ true) × Then (SpellsBrackets limit n) (One (token.punctuator BracketOpen)) ts
