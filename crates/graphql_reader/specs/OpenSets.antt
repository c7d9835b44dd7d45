-- The selection sets that are begun while a text is read, the innermost first.
use Rattle.std.specs.Prelude.{◌≡◌, ℕ, suc, true, Bool, false, List, [], ◌∷◌, ◌++◌, length, map, Option, Some, None, Vec}
use Rattle.std.specs.declared.alloc.Global.{Global}
use Rattle.language_types.specs.declared.position.SourcePosition.{SourcePosition}
use Rattle.language_types.specs.declared.position.Span.{Span}
use Rattle.language.specs.declared.tree.Field.{Field, out-Field, roll-Field}
use Rattle.language.specs.declared.tree.InlineFragment.{InlineFragment, out-InlineFragment, roll-InlineFragment}
use Rattle.language.specs.declared.tree.Selection.{Selection as Node}
use Rattle.sdl_scalars.specs.declared.scalar.SourceScalar.{SourceScalar}
use Rattle.graphql_lexer.specs.Lexemes.{Lexeme}
use Rattle.graphql_lexer.specs.Lexical as token
use Rattle.graphql_lexer.specs.declared.error.ReadError.{ReadError}
use Rattle.graphql_lexer.specs.declared.lexer.Punctuator.TheVariants.{BraceOpen}
use Rattle.graphql_lexer.specs.declared.tokens.Tokens.{Tokens}
use Rattle.value_reader.specs.Grammar.{may_nest}
use Rattle.graphql_reader.specs.Arguments.{SpellsEach}
use Rattle.graphql_reader.specs.Languages.{Language, ASet, Anything, FirstInSet, NoSelection, Nothing, RestOfSets}
use Rattle.graphql_reader.specs.Languages.{IsFault, Leaves}
use Rattle.graphql_reader.specs.Passed.{One, Reads, Then}
use Rattle.graphql_reader.specs.Selections.{Selection, leaf, field, spread, inline, Selections}
use Rattle.graphql_reader.specs.Selections.{SpellsFieldHead, SpellsInlineHead, SpellsSelection, SpellsSet}
use Rattle.graphql_reader.specs.Selections.{selection_seen, nodes_seen}

abbrev pub Nodes : Type 0
Nodes = List (Node SourceScalar)

-- one selection of this kind more
abbrev pub Adds : (Node SourceScalar → Type 0) → Nodes → Nodes → Type 0
Adds P old new = (node : Node SourceScalar) × (new ≡ old ++ node ∷ []) × P node

-- ---- a selection whose set is read
-- and the first of the tokens starts there
abbrev pub From : SourcePosition → (List Lexeme → Type 0) → List Lexeme → Type 0
From start P ts = (x : Lexeme) × (xs : List Lexeme) × (ts ≡ x ∷ xs) × (start ≡ x.start) × P ts

-- what stands before its set, from where it starts on
abbrev pub SpellsHead : Option ℕ → Selection → List Lexeme → Type 0
SpellsHead limit (leaf h span) ts = From span.start (SpellsFieldHead limit h) ts
SpellsHead limit (field h set span) ts = From span.start (SpellsFieldHead limit h) ts
SpellsHead limit (spread k ds span) ts = ⊥
SpellsHead limit (inline h set span) ts = From span.start (SpellsInlineHead limit h) ts

abbrev pub until : Span → SourcePosition → Span
until span end = record { start = span.start; end = end }

-- it has this set then, and ends there
abbrev pub given_set : Selection → Selections → SourcePosition → Selection
given_set (leaf h span) set end = field h set (until span end)
given_set (field h old span) set end = field h set (until span end)
given_set (spread k ds span) set end = spread k ds span
given_set (inline h old span) set end = inline h set (until span end)

abbrev pub Set : Type 0
Set = Vec (Node SourceScalar) Global

abbrev pub given_field : Field SourceScalar → Set → Field SourceScalar
given_field f set = roll-Field SourceScalar (record (out-Field SourceScalar f) { selection_set = Some set })

abbrev pub given_inline : InlineFragment SourceScalar → Set → InlineFragment SourceScalar
given_inline i set =
    roll-InlineFragment SourceScalar (record (out-InlineFragment SourceScalar i) { selection_set = set })

-- ---- the sets that are begun
-- but for the outermost: the selections before the one that it belongs to, in the set around it, and that one
pub record Begun : Type 0 where
  pub before : Nodes
  pub holder : Node SourceScalar

-- the selections of all sets in one list, where these are the innermost set's
abbrev pub laid : List Begun → Nodes → Nodes
laid [] own = own
laid (x ∷ xs) own = laid xs (x.before ++ x.holder ∷ own)

-- where those of each set begin there
abbrev pub firsts_of : List Begun → List ℕ
firsts_of [] = []
firsts_of (x ∷ xs) = length (laid xs (x.before ++ x.holder ∷ [])) ∷ firsts_of xs

-- where those of the innermost set begin
abbrev pub first_of : List ℕ → ℕ
first_of [] = 0
first_of (x ∷ xs) = x

-- these selections, in a set inside of so many
abbrev pub SpellsNodes : Option ℕ → ℕ → Nodes → List Lexeme → Type 0
SpellsNodes limit depth nodes ts = SpellsEach (SpellsSelection limit (suc depth)) (map selection_seen nodes) ts

-- the brace of the outermost set, and for each set inside the selections before it, its head and its brace
abbrev pub SpellsBegun : Option ℕ → List Begun → List Lexeme → Type 0
SpellsBegun limit [] ts = (may_nest limit 0 ≡ true) × One (token.punctuator BraceOpen) ts
SpellsBegun limit (x ∷ xs) ts =
    (may_nest limit (suc (length xs)) ≡ true)
    × Then (SpellsBegun limit xs)
    (Then (SpellsNodes limit (length xs) x.before)
    (Then (SpellsHead limit (selection_seen x.holder)) (One (token.punctuator BraceOpen)))) ts

-- what was taken spells these sets and, in the innermost, these selections
abbrev pub Spelled : Option ℕ → Tokens → List Begun → Nodes → Tokens → Type 0
Spelled limit first begun own now =
    Reads (Then (SpellsBegun limit begun) (SpellsNodes limit (length begun) own)) first now

-- the lists hold sets that what was taken spells, and what is left of the outermost is written so
abbrev pub AreBegun : (ℕ → Nodes → Language) → Option ℕ → Tokens → List ℕ → Nodes → Tokens → Type 0
AreBegun rest limit first firsts nodes now =
    (begun : List Begun) × (own : Nodes) × (firsts ≡ firsts_of begun) × (nodes ≡ laid begun own)
    × Spelled limit first begun own now × Leaves limit Anything (ASet 0) (rest (length begun) own) first now

-- what is left of so many sets and one, where these selections stand in the innermost
abbrev pub Rests : ℕ → Nodes → Language
Rests n [] = FirstInSet n
Rests n (x ∷ xs) = RestOfSets (suc n)

-- a selection or the end of the innermost set comes next
abbrev pub Standing : Option ℕ → Tokens → List ℕ → Nodes → Tokens → Type 0
Standing = AreBegun Rests

-- a selection comes next
abbrev pub GoingOn : Option ℕ → Tokens → List ℕ → Nodes → Tokens → Type 0
GoingOn = AreBegun (λ n own. FirstInSet n)

-- the outermost set, or none while it is begun
abbrev pub IsTurn : Option ℕ → Tokens → List ℕ → Nodes → Tokens → Option Set → Type 0
IsTurn limit first firsts nodes now None = Standing limit first firsts nodes now
IsTurn limit first firsts nodes now (Some set) =
    Reads (SpellsSet limit 0 (nodes_seen set.items)) first now × Leaves limit Anything (ASet 0) Nothing first now

-- ---- one selection
-- however deep, or what stands before its set, if that begins
abbrev pub IsPart : Option ℕ → Tokens → Tokens → Bool → Node SourceScalar → Type 0
IsPart limit old new false s = Reads (λ ts. (depth : ℕ) → SpellsSelection limit depth (selection_seen s) ts) old new
IsPart limit old new true s = Reads (SpellsHead limit (selection_seen s)) old new

-- nothing of the P that the tokens begin with, or the set of one that is begun
abbrev pub LeavesPart : (ℕ → Language) → Option ℕ → Tokens → Tokens → Bool → Type 0
LeavesPart P limit old new false = (depth : ℕ) → Leaves limit NoSelection (P depth) Nothing old new
LeavesPart P limit old new true = (depth : ℕ) → Leaves limit NoSelection (P depth) (ASet depth) old new

abbrev pub IsPartFault : (ℕ → Language) → Option ℕ → Tokens → Tokens → ReadError → Type 0
IsPartFault P limit old new e = (depth : ℕ) → IsFault limit NoSelection (P depth) old new e
