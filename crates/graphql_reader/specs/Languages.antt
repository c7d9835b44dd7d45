-- The same productions as languages, which forget the trees, and what is left of one behind the tokens that were read.
use Rattle.std.specs.Prelude.{◌≡◌, ◌⊎◌, ℕ, zero, suc, true, List, [], ◌∷◌, ◌++◌, Option, None}
use Rattle.language_types.specs.declared.types.TypeModifier.{TypeModifier}
use Rattle.graphql_lexer.specs.Ahead.{ahead_of, left}
use Rattle.graphql_lexer.specs.Lexemes.{Lexeme}
use Rattle.graphql_lexer.specs.Lexical as token
use Rattle.graphql_lexer.specs.declared.error.ReadError.{ReadError}
use Rattle.graphql_lexer.specs.declared.error.ReadError.TheVariants.{Syntax, OutOfMemory}
use Rattle.graphql_lexer.specs.declared.lexer.Punctuator.{Punctuator}
use Rattle.graphql_lexer.specs.declared.lexer.Punctuator.TheVariants as p
use Rattle.graphql_lexer.specs.declared.tokens.Tokens.{Tokens}
use Rattle.value_reader.specs.Faults.{IsPlaced}
use Rattle.value_reader.specs.Grammar.{may_nest, Spells}
use Rattle.value_reader.specs.Seen.{rules_of}
use Rattle.value_reader.specs.Values.{Value}
use Rattle.value_reader.specs.declared.rules.Variables.{Variables}
use Rattle.value_reader.specs.declared.rules.Variables.TheVariants.{Allowed}
use Rattle.graphql_reader.specs.Arguments.{Argument, Directive, Parens, SpellsArgument, SpellsDirective, SpellsEach}
use Rattle.graphql_reader.specs.Documents as d
use Rattle.graphql_reader.specs.Selections as s
use Rattle.graphql_reader.specs.Types.{PlacedType, SpellsModified, SpellsType}

-- the tokens of some production, under each limit
abbrev pub Language : Type 1
Language = Option ℕ → List Lexeme → Type 0

-- how a tree is written, under each limit
abbrev pub Spelling : Type 0 → Type 1
Spelling T = Option ℕ → T → List Lexeme → Type 0

-- some tree is written so
pub record Written (T : Type 0) (S : Spelling T) (limit : Option ℕ) (ts : List Lexeme) : Type 0 where
  pub tree : T
  pub spelled : S limit tree ts

-- some trees are, one after the other, or none
pub record Several (T : Type 0) (S : Spelling T) (limit : Option ℕ) (ts : List Lexeme) : Type 0 where
  pub trees : List T
  pub spelled : SpellsEach (S limit) trees ts

-- one token, of which K is said
pub record Single (K : token.Token → Type 0) (limit : Option ℕ) (ts : List Lexeme) : Type 0 where
  pub it : Lexeme
  pub alone : ts ≡ it ∷ []
  pub kind : K it.token

-- P, and Q behind it
pub record InTurn (P Q : Language) (limit : Option ℕ) (ts : List Lexeme) : Type 0 where
  pub front : List Lexeme
  pub back : List Lexeme
  pub joined : ts ≡ front ++ back
  pub one : P limit front
  pub other : Q limit back

-- no tokens
pub record Nothing (limit : Option ℕ) (ts : List Lexeme) : Type 0 where
  pub none : ts ≡ []

-- P, or nothing
pub record Perhaps (P : Language) (limit : Option ℕ) (ts : List Lexeme) : Type 0 where
  pub choice : (ts ≡ []) ⊎ P limit ts

-- one of the two
pub record Either (P Q : Language) (limit : Option ℕ) (ts : List Lexeme) : Type 0 where
  pub choice : P limit ts ⊎ Q limit ts

-- P, which is one more level inside of so many
pub record Nested (levels : ℕ) (P : Language) (limit : Option ℕ) (ts : List Lexeme) : Type 0 where
  pub nest : may_nest limit levels ≡ true
  pub inside : P limit ts

-- ---- what follows
-- the first token, or the end where there is none
abbrev pub first_of : List Lexeme → token.Token
first_of [] = token.end
first_of (x ∷ xs) = x.token

-- what is said of the tokens that follow
abbrev pub Follow : Type 1
Follow = List Lexeme → Type 0

-- the token is none of these signs
abbrev pub Differs : List Punctuator → token.Token → Type 0
Differs [] u = Unit {0}
Differs (sign ∷ signs) u = (u ≡ token.punctuator sign → ⊥) × Differs signs u

-- none of these signs follows
abbrev pub Avoids : List Punctuator → Follow
Avoids signs r = Differs signs (first_of r)

-- whatever it is
abbrev pub Anything : Follow
Anything r = Unit {0}

-- the token is a name
abbrev pub IsNamed : token.Token → Type 0
IsNamed u = (n : List ℕ) × (u ≡ token.name n)

-- no name follows
abbrev pub NoNameNext : Follow
NoNameNext r = IsNamed (first_of r) → ⊥

-- the text ends there
abbrev pub AtEnd : Follow
AtEnd r = first_of r ≡ token.end

-- ---- what is read
-- Some tokens were read, and x comes next. Whatever follows x: where all of it begins with a P that has F behind it, a
-- Q is left of that P from x on. And each Q, where no limit is set, is a P with the tokens read before it.
pub record Leaves (limit : Option ℕ) (F : Follow) (P Q : Language) (old new : Tokens) : Type 0 where
  pub taken : List Lexeme
  pub place : left old ≡ taken ++ left new
  pub rest : (more a r : List Lexeme) → P limit a → F r → taken ++ ahead_of new ∷ more ≡ a ++ r
      → (b : List Lexeme) × Q limit b × (ahead_of new ∷ more ≡ b ++ r)
  pub whole : (b : List Lexeme) → Q None b → P None (taken ++ b)

-- Some tokens were read, and x comes next. Whatever follows x, all of it begins with no P that has F behind it. The
-- tokens read begin some P, where no limit is set.
pub record Stuck (limit : Option ℕ) (F : Follow) (P : Language) (old new : Tokens) : Type 0 where
  pub taken : List Lexeme
  pub place : left old ≡ taken ++ left new
  pub never : (more a r : List Lexeme) → P limit a → F r → taken ++ ahead_of new ∷ more ≡ a ++ r → ⊥
  pub goes_on : (b : List Lexeme) × P None (taken ++ b)

-- memory did not run out
abbrev pub IsSyntax : ReadError → Type 0
IsSyntax (Syntax e) = Unit {0}
IsSyntax OutOfMemory = ⊥

-- the token that comes next is at fault, if memory did not run out
pub record IsFault (limit : Option ℕ) (F : Follow) (P : Language) (old new : Tokens) (e : ReadError) : Type 0 where
  pub stuck : IsSyntax e → Stuck limit F P old new
  pub placed : IsPlaced (ahead_of new) e

-- ---- the productions
-- the token is this sign, or this name
abbrev pub IsSign : Punctuator → token.Token → Type 0
IsSign sign u = u ≡ token.punctuator sign

abbrev pub IsWord : List ℕ → token.Token → Type 0
IsWord word u = u ≡ token.name word

abbrev pub Sign : Punctuator → Language
Sign sign = Single (IsSign sign)

abbrev pub Word : List ℕ → Language
Word word = Single (IsWord word)

-- a name, whichever it is
abbrev pub AName : Language
AName = Single IsNamed

-- a value, a constant where no variables are allowed
abbrev pub AValue : Variables → Language
AValue vs = Written Value (λ limit. Spells (rules_of vs limit) 0)

-- an argument, and any number of them
abbrev pub AnArgument : Variables → Language
AnArgument vs = Written Argument (λ limit. SpellsArgument (rules_of vs limit))

abbrev pub MoreArguments : Variables → Language
MoreArguments vs = Several Argument (λ limit. SpellsArgument (rules_of vs limit))

-- arguments in parentheses
abbrev pub InParens : Variables → Language
InParens vs = Written Parens (λ limit. s.SpellsGiven (rules_of vs limit))

-- a directive
abbrev pub ADirective : Variables → Language
ADirective vs = Written Directive (λ limit. SpellsDirective (rules_of vs limit))

-- any number of directives
abbrev pub Marks : Variables → Language
Marks vs = Several Directive (λ limit. SpellsDirective (rules_of vs limit))

-- no arguments follow
abbrev pub NoParen : Follow
NoParen = Avoids (p.ParenOpen ∷ [])

-- no directives go on so
abbrev pub NoMarks : Follow
NoMarks = Avoids (p.At ∷ p.ParenOpen ∷ [])

-- ---- types
-- a type with its span
abbrev pub AType : Language
AType = Written PlacedType SpellsType

-- a type inside of so many lists
abbrev pub InnerType : ℕ → Language
InnerType levels = Written (List ℕ × List TypeModifier) (λ limit t. SpellsModified limit levels t.0 t.1)

-- what may make a type non-null
abbrev pub Bang : Language
Bang = Perhaps (Sign p.Bang)

-- the brackets that end so many lists
abbrev pub Closing : ℕ → Language
Closing zero = Nothing
Closing (suc n) = InTurn (Sign p.BracketClose) (InTurn Bang (Closing n))

-- no type goes on so
abbrev pub NoBang : Follow
NoBang = Avoids (p.Bang ∷ [])

-- ---- selections
-- no alias ended there
abbrev pub NoColon : Follow
NoColon = Avoids (p.Colon ∷ [])

-- no field goes on so
abbrev pub NoField : Follow
NoField = Avoids (p.Colon ∷ p.At ∷ p.ParenOpen ∷ [])

-- no selection goes on so
abbrev pub NoSelection : Follow
NoSelection = Avoids (p.BraceOpen ∷ p.Colon ∷ p.At ∷ p.ParenOpen ∷ [])

-- Name, or Alias Name
abbrev pub AliasedName : Language
AliasedName = InTurn AName (Perhaps (InTurn (Sign p.Colon) AName))

-- a field up to its set
abbrev pub AFieldHead : Language
AFieldHead = Written s.FieldHead s.SpellsFieldHead

-- a selection inside of so many sets, and any number of them
abbrev pub ASelection : ℕ → Language
ASelection depth = Written s.Selection (λ limit. s.SpellsSelection limit depth)

abbrev pub MoreSelections : ℕ → Language
MoreSelections depth = Several s.Selection (λ limit. s.SpellsSelection limit depth)

-- a set inside of so many
abbrev pub ASet : ℕ → Language
ASet depth = Written s.Selections (λ limit. s.SpellsSet limit depth)

-- a set that its brace has begun
abbrev pub BegunSet : ℕ → Language
BegunSet depth = InTurn (ASelection (suc depth)) (InTurn (MoreSelections (suc depth)) (Sign p.BraceClose))

-- the rest of so many sets, each with a selection already
abbrev pub RestOfSets : ℕ → Language
RestOfSets zero = Nothing
RestOfSets (suc n) = InTurn (MoreSelections (suc n)) (InTurn (Sign p.BraceClose) (RestOfSets n))

-- and of so many and one, of which the innermost has none yet
abbrev pub FirstInSet : ℕ → Language
FirstInSet n = InTurn (ASelection (suc n)) (RestOfSets (suc n))

-- a type condition
abbrev pub ACondition : Language
ACondition = InTurn (Word s.on) AName

-- a name other than `on`
abbrev pub IsOtherName : token.Token → Type 0
IsOtherName u = (n : List ℕ) × (n ≡ s.on → ⊥) × (u ≡ token.name n)

-- the name of a fragment
abbrev pub AFragmentName : Language
AFragmentName = Single IsOtherName

-- a field, with a set or without
abbrev pub AField : ℕ → Language
AField depth = InTurn AFieldHead (Perhaps (ASet depth))

-- what may follow the dots
abbrev pub ASpread : Language
ASpread = InTurn AFragmentName (Marks Allowed)

abbrev pub InlineBody : ℕ → Language
InlineBody depth = InTurn (Marks Allowed) (ASet depth)

abbrev pub AnInline : ℕ → Language
AnInline depth = InTurn (Perhaps ACondition) (InlineBody depth)

abbrev pub AfterDots : ℕ → Language
AfterDots depth = Either ASpread (AnInline depth)

-- ---- definitions
-- a default value
abbrev pub ADefault : Language
ADefault = Written Value d.SpellsDefault

-- no default value follows
abbrev pub NoEquals : Follow
NoEquals = Avoids (p.Equals ∷ [])

-- a variable
abbrev pub AVariable : Language
AVariable = InTurn (Sign p.Dollar) AName

-- a variable definition, and any number of them
abbrev pub AVariableDefinition : Language
AVariableDefinition = Written d.Variable d.SpellsVariableDefinition

abbrev pub MoreVariables : Language
MoreVariables = Several d.Variable d.SpellsVariableDefinition

-- no variable definition goes on so
abbrev pub NoVariable : Follow
NoVariable = Avoids (p.Bang ∷ p.Equals ∷ p.At ∷ p.ParenOpen ∷ [])

-- variable definitions in parentheses
abbrev pub AllVariables : Language
AllVariables = Written d.Variables d.SpellsVariables

-- variable definitions that the parenthesis has begun
abbrev pub BegunVariables : Language
BegunVariables = InTurn AVariableDefinition (InTurn MoreVariables (Sign p.ParenClose))

-- the name and the type condition of a fragment
abbrev pub AFragmentHead : Language
AFragmentHead = InTurn AFragmentName ACondition

-- an operation or a fragment, and any number of them
abbrev pub ADefinition : Language
ADefinition = Written d.Definition d.SpellsDefinition

abbrev pub MoreDefinitions : Language
MoreDefinitions = Several d.Definition d.SpellsDefinition

-- a document
abbrev pub ADocument : Language
ADocument = Written (List d.Definition) d.SpellsDocument
