-- The bytes that a value prints (section 2.9).
use Rattle.std.specs.Prelude.{ℕ, List, [], ◌∷◌, ◌++◌, map, codes, Bool, true, false, Option, Some, None, string_bytes}
use Rattle.std.specs.List.{flat_map}
use Rattle.language_types.specs.declared.position.Span.{Span}
use Rattle.language_types.specs.declared.position.Spanning.{Spanning}
use Rattle.language_values.specs.declared.value.InputValue.{InputValue, fold-InputValue}
use Rattle.language_values.specs.declared.value.InputValue.TheOpen.{InputValue-F}
use Rattle.language_values.specs.Values.{Entry}

-- the pieces, separated by a comma and a space
abbrev pub comma_separated : List (List ℕ) → List ℕ
comma_separated [] = []
comma_separated (p ∷ ps) = p ++ flat_map (λ q. codes ", " ++ q) ps

-- what goes before a piece: nothing before the first
abbrev pub separator_before : Bool → List ℕ
separator_before true = []
separator_before false = codes ", "

-- a text between plain quotes, or what else is printed
abbrev pub quoted_or : Option (List ℕ) → List ℕ → List ℕ
quoted_or (Some bs) other = codes "\"" ++ bs ++ codes "\""
quoted_or None other = other

module _ {S : Type 0} (text : S → List ℕ) (str_of : S → Option (List ℕ)) where
  -- a string between plain quotes, any other scalar by its own text
  abbrev pub printed_scalar : S → List ℕ
  printed_scalar s = quoted_or (str_of s) (text s)

  -- a key and its printed value
  abbrev pub keyed : List ℕ → List ℕ → List ℕ
  keyed key bs = key ++ codes ": " ++ bs

  -- One level, with the bytes of each value inside in its place.
  abbrev pub printed_step : InputValue-F S (List ℕ) → List ℕ
  printed_step InputValue-F.Null = codes "null"
  printed_step (InputValue-F.Scalar s) = printed_scalar s
  printed_step (InputValue-F.Enum e) = string_bytes e
  printed_step (InputValue-F.Variable v) = codes "$" ++ string_bytes v
  printed_step (InputValue-F.List vs) = codes "[" ++ comma_separated (map (λ v. v.item) vs.items) ++ codes "]"
  printed_step (InputValue-F.Object es) =
      codes "{" ++ comma_separated (map (λ e. keyed (string_bytes e.0.item) e.1.item) es.items) ++ codes "}"

  -- The bytes of a value. By cases:
  --   null            null
  --   a scalar        `printed_scalar`: a string between plain quotes, any other by its own text
  --   an enum value   its name
  --   a variable      $ and its name
  --   a list          its items between [ and ], separated by a comma and a space
  --   an object       its entries, each `key: value`, between { and } in the same way
  abbrev pub printed_value : InputValue S → List ℕ
  printed_value = fold-InputValue S (List ℕ) printed_step

  -- the items of a list, between its brackets
  abbrev pub printed_values : List (Spanning (InputValue S) Span) → List ℕ
  printed_values vs = comma_separated (map (λ v. printed_value v.item) vs)

  abbrev pub printed_entry : List ℕ → InputValue S → List ℕ
  printed_entry key v = keyed key (printed_value v)

  -- the entries of an object, between its braces
  abbrev pub printed_entries : List (Entry (InputValue S)) → List ℕ
  printed_entries es = comma_separated (map (λ e. printed_entry (string_bytes e.0.item) e.1.item) es)
