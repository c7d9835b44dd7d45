-- What selections give, by their kinds.
use Rattle.std.proofs.Common.{◌≡◌, ◌≢◌, ℕ, List, [], ◌∷◌, Bool, true, false, ◌||◌, Option, Some, None, if◌then◌else◌, slice_get, sym, ap, ◌∙◌, refl, subst, inl, inr}
use Rattle.std.specs.Option.{option_map_or}
use Rattle.std.specs.Str.{bytes_eq}
use Rattle.std.proofs.lemmas.Bool.{cases_eq}
use Rattle.language_values.proofs.Members.{bytes_eq-refl, bytes_eq-same}
use Rattle.language_types.specs.Names.{is_among}
use Rattle.language_types.specs.Position.{Placed}
use Rattle.language.specs.declared.tree.Definition.{Definition}
use Rattle.language.specs.declared.tree.Field.{Field}
use Rattle.language.specs.declared.tree.Fragment.{Fragment}
use Rattle.language.specs.declared.tree.FragmentSpread.{FragmentSpread}
use Rattle.language.specs.declared.tree.InlineFragment.{InlineFragment}
use Rattle.language.specs.declared.tree.Selection.{Selection, out-Selection, out-roll-Selection}
use Rattle.language.specs.declared.tree.Selection.TheOpen as opened
use Rattle.language.specs.declared.tree.Selection.TheVariants as selection
use Rattle.bit_matrix.specs.declared.set.BitSet.{BitSet}
use Rattle.bit_matrix.specs.Set.{has}
use Rattle.fragment_graph.specs.declared.numbers.Numbers.{Numbers}
use Rattle.fragment_graph.specs.Numbers.{number_of, names_of, Defines, HasNumber, NumbersOf, WellNumbered}
use Rattle.schema.specs.Catalog.{Catalog}
use Rattle.rules_specified.specs.Collected.{Part, applies, are_leaving_out, field, inside, last_fragment, nothing, of_fragment, of_inline, of_layer, of_spread, part}
use Rattle.rules_specified.specs.Collecting.{Marks}
use Rattle.rules_specified.proofs.LastFragments.{undefined_last}

abbrev pub Unless : {S : Type 0} → Bool → Part S → Part S
Unless b p = if b then nothing else p

pub either_way : {S : Type 0} (b : Bool) → Unless {S = S} b nothing ≡ nothing
either_way true = refl
either_way false = refl

one_name : (n : Numbers) → WellNumbered n → (name other : List ℕ) (j : ℕ) → number_of n name ≡ Some j → number_of n other ≡ Some j → name ≡ other
one_name n well name other j at to =
    let a : slice_get (names_of n) j ≡ Some name = (well name j).0 at in
    let b : slice_get (names_of n) j ≡ Some other = (well other j).0 to in
    cc

-- a fragment that is opened is among the names, and no other is
marks_case : (n : Numbers) (new old : BitSet) (names : List (List ℕ)) (name other : List ℕ) (j k : ℕ) (b : Bool) → WellNumbered n
    → number_of n name ≡ Some j → number_of n other ≡ Some k → has new j ≡ true → ((m : ℕ) → m ≢ j → has new m ≡ has old m)
    → has old k ≡ is_among names other → bytes_eq name other ≡ b → has new k ≡ (b || is_among names other)
marks_case n new old names name other j k true well at to there others before e =
    let same : name ≡ other = bytes_eq-same name other e in
    let one : k ≡ j = cc in
    ap (has new) one ∙ there
marks_case n new old names name other j k false well at to there others before e =
    let apart : k ≢ j = λ is. let same : name ≡ other = one_name n well name other j at (to ∙ ap (λ z. Some z) is) in let wrong : false ≡ true = sym e ∙ ap (λ z. bytes_eq name z) (sym same) ∙ bytes_eq-refl name in cc in
    others k apart ∙ before

pub marks_more : (n : Numbers) (new old : BitSet) (names : List (List ℕ)) (name : List ℕ) (j : ℕ) → WellNumbered n → number_of n name ≡ Some j
    → has new j ≡ true → ((m : ℕ) → m ≢ j → has new m ≡ has old m) → Marks n old names → Marks n new (name ∷ names)
marks_more n new old names name j well at there others before other k to =
    marks_case n new old names name other j k (bytes_eq name other) well at to there others (before other k to) refl

module _ {S C : Type 0} (schema : Catalog S C) (document : List (Definition S)) (root : List ℕ) where
  abbrev of_last : List (List ℕ) → List ℕ → Option (Placed (Fragment S)) → Part S
  of_last names name o = Unless (is_among names name) (of_fragment schema document root names name o)

  -- a spread of a fragment without a number gives nothing
  pub spread_unknown : (n : Numbers) (names : List (List ℕ)) (name : List ℕ) → NumbersOf document n → number_of n name ≡ None
      → of_spread schema document root names name ≡ nothing
  spread_unknown n names name numbers none =
      let undefined : Defines document name → ⊥ = λ d. let (k, at) = (numbers.defined name).1 d in cc in
      ap (of_last names name) (undefined_last name document undefined) ∙ either_way (is_among names name)

  -- a spread of a fragment that was not opened gives its set, where its type condition applies
  pub spread_opened : (names : List (List ℕ)) (name : List ℕ) (f : Placed (Fragment S)) → is_among names name ≡ false
      → last_fragment document name ≡ Some f → applies schema document root f.item.type_condition.item.now ≡ true
      → of_spread schema document root names name ≡ inside f.item.selection_set.items (name ∷ names)
  spread_opened names name f fresh last fits =
      ap (of_last names name) last
      ∙ ap (λ b. Unless b (of_fragment schema document root names name (Some f))) fresh
      ∙ ap (λ b. if b then inside f.item.selection_set.items (name ∷ names) else nothing) fits

  module _ (truth : S → Option Bool) (names : List (List ℕ)) (s : Selection S) where
    abbrev Gives : Part S → Type 0
    Gives p = part truth schema document root names s ≡ p

    -- by the kind of the selection
    pub part_field : (f : Placed (Field S)) → s ≡ selection.Field f → Gives (Unless (are_leaving_out truth f.item.directives) (field f))
    part_field f e = ap (of_layer truth schema document root names)
        (ap (out-Selection S) (e ∙ sym (selection.rolls-Field f)) ∙ out-roll-Selection S (opened.Field f))

    pub part_spread : (p : Placed (FragmentSpread S)) → s ≡ selection.FragmentSpread p
        → Gives (Unless (are_leaving_out truth p.item.directives) (of_spread schema document root names p.item.name.item.now))
    part_spread p e = ap (of_layer truth schema document root names)
        (ap (out-Selection S) (e ∙ sym (selection.rolls-FragmentSpread p)) ∙ out-roll-Selection S (opened.FragmentSpread p))

    pub part_inline : (i : Placed (InlineFragment S)) → s ≡ selection.InlineFragment i
        → Gives (Unless (are_leaving_out truth i.item.directives) (of_inline schema document root names i.item))
    part_inline i e = ap (of_layer truth schema document root names)
        (ap (out-Selection S) (e ∙ sym (selection.rolls-InlineFragment i)) ∙ out-roll-Selection S (opened.InlineFragment i))
