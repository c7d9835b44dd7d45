-- The lists and objects around a value that is judged, and what its fault makes of theirs.
use Rattle.std.specs.Prelude.{◌≡◌, ℕ, List, [], ◌∷◌, reverse, Option, Some, None}
use Rattle.schema.specs.Catalog.{Catalog}
use Rattle.schema.specs.Wrapped.{plain_meta}
use Rattle.language_values.specs.declared.value.InputValue.{InputValue}
use Rattle.meta.specs.Answers.{Answers}
use Rattle.literals.specs.declared.begun.Begun.{Begun}
use Rattle.literals.specs.declared.begun.Begun.TheVariants as b
use Rattle.literals.specs.Expected.{expected_type}
use Rattle.literals.specs.FirstFault.{FirstFault}
use Rattle.literals.specs.InSchema.{IsInSchema}
use Rattle.literals.specs.Judged.{EntryFault, IsNone, Judged, LacksFields, keys_of, printed_name}
use Rattle.literals.specs.Texts.{field_text}

module _ {S C : Type 0} where
  -- the text of a fault in the value that is judged, as one of the part
  abbrev pub told_of : Begun S C → List ℕ → List ℕ
  told_of (b.Items inner rest) said = said
  told_of (b.Entries meta None all rest) said = said
  told_of (b.Entries meta (Some key) all rest) said = field_text (printed_name meta.now) key.now said

  -- as one of the outermost part, which stands first
  abbrev pub told : List (Begun S C) → List ℕ → List ℕ
  told [] said = said
  told (p ∷ ps) said = told_of p (told ps said)

  module _ (schema : Catalog S C) where
    -- the type of the part is one of the schema
    abbrev pub IsKnown : Begun S C → Type 0
    IsKnown (b.Items inner rest) = IsInSchema schema (expected_type inner)
    IsKnown (b.Entries meta key all rest) = IsInSchema schema (plain_meta meta.now)

    module _ (may : Answers (InputValue S) C) (shown : InputValue S → List ℕ) where
      -- the fault of what is left of a part
      abbrev pub Left : Begun S C → Option (List ℕ) → Type 0
      Left (b.Items inner rest) fault = FirstFault (λ x. Judged schema may shown x.item (expected_type inner)) IsNone rest.now fault
      Left (b.Entries meta key all rest) fault =
          FirstFault (EntryFault schema may shown meta.now) (LacksFields meta.now (keys_of all.now)) rest.now fault

      -- the fault of a part: that of the value which is judged, or else that of what is left
      abbrev pub After : Begun S C → Option (List ℕ) → Option (List ℕ) → Type 0
      After part None fault = Left part fault
      After part (Some said) fault = fault ≡ Some (told_of part said)

      -- the fault of the outermost part, which stands last
      abbrev pub AfterAll : List (Begun S C) → Option (List ℕ) → Option (List ℕ) → Type 0
      AfterAll [] found fault = fault ≡ found
      AfterAll (p ∷ ps) found fault = (mid : Option (List ℕ)) × After p found mid × AfterAll ps mid fault

      -- with this fault found amid the new parts, there is such a one amid the old ones
      abbrev pub Leads : List (Begun S C) → Option (List ℕ) → (Option (List ℕ) → Type 0) → List (Begun S C) → Type 0
      Leads new found Told old =
          (fault : Option (List ℕ)) → AfterAll (reverse new) found fault → (mid : Option (List ℕ)) × Told mid
          × AfterAll (reverse old) mid fault

      -- with this fault found amid the new parts, it is that of what is left of the old ones
      abbrev pub GoesOn : List (Begun S C) → Option (List ℕ) → List (Begun S C) → Type 0
      GoesOn new found old = (fault : Option (List ℕ)) → AfterAll (reverse new) found fault → AfterAll (reverse old) None fault
