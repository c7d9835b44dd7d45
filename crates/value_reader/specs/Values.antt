-- The values of a text (GraphQL, October 2021, section 2.9), each with its span. Texts are the bytes of UTF-8.
use Rattle.std.specs.Prelude.{ℕ, Bool, List}
use Rattle.language_types.specs.declared.position.Span.{Span}

-- a value that holds no other: numbers as they are written, and what a string stands for
pub data Plain : Type 0 where
  variable : List ℕ → Plain
  int : List ℕ → Plain
  float : List ℕ → Plain
  string : List ℕ → Plain
  boolean : Bool → Plain
  null : Plain
  enum : List ℕ → Plain

-- the name of a field of an object
pub record Key : Type 0 where
  pub name : List ℕ
  pub span : Span

mutual
  pub data Value : Type 0 where
    plain : Plain → Span → Value
    list : Items → Span → Value
    object : Fields → Span → Value

  pub data Items : Type 0 where
    no_items : Items
    item : Value → Items → Items

  pub data Fields : Type 0 where
    no_fields : Fields
    field : Key → Value → Fields → Fields
