-- The fault of a value by those of the parts around what is judged.
use Rattle.std.proofs.Common.{◌≡◌, ℕ, List, [], ◌∷◌, ◌++◌, reverse, Option, Some, None, refl, ap, sym, ◌∙◌, subst, inl, inr}
use Rattle.std.proofs.lemmas.List.{append-nil, reverse-append}
use Rattle.std.proofs.lemmas.List.Elements.{All-pop, All-push}
use Rattle.std.specs.List.{All}
use denote.Ref.{Bor}
use Rattle.language_types.specs.declared.position.Span.{Span}
use Rattle.language_types.specs.declared.position.Spanning.{Spanning}
use Rattle.language_values.specs.declared.value.InputValue.{InputValue}
use Rattle.language_types.specs.Types.{shape}
use Rattle.language_values.specs.Values.{Entry}
use Rattle.meta.specs.Answers.{Answers}
use Rattle.meta.specs.declared.arguments.Argument.{Argument}
use Rattle.meta.specs.declared.kinds.MetaTypeOf.{MetaTypeOf}
use Rattle.meta.specs.Kinds.{input_field_named}
use Rattle.schema.specs.Catalog.{Catalog}
use Rattle.schema.specs.Wrapped.{WrappedMeta}
use Rattle.literals.specs.declared.begun.Begun.{Begun}
use Rattle.literals.specs.declared.begun.Begun.TheVariants as b
use Rattle.literals.specs.declared.expected.Expected.{Expected}
use Rattle.literals.specs.Begun.{After, AfterAll, GoesOn, Leads, Left, told, told_of}
use Rattle.literals.specs.Expected.{expected_type}
use Rattle.literals.specs.FirstFault.{FirstFault}
use Rattle.literals.specs.Judged.{EntryFault, IsNone, IsTypeOf, Judged, KeyedFault, LacksFields, key_of, keys_of}
use Rattle.literals.proofs.ObjectLaws.{known_key}

pushed : {A : Type 0} (xs ys : List A) (x : A) → ys ≡ xs ++ x ∷ [] → reverse ys ≡ x ∷ reverse xs
pushed xs ys x e = ap reverse e ∙ reverse-append xs (x ∷ [])

-- one element more, and one less
pub all_more : {A : Type 0} (P : A → Type 0) (old new : List A) (x : A) → new ≡ old ++ x ∷ [] → P x → All P old → All P new
all_more P old new x e p all = subst (All P) (sym e) (All-push P old x all p)

pub all_less : {A : Type 0} (P : A → Type 0) (xs rest : List A) (x : A) → xs ≡ rest ++ x ∷ [] → All P xs → All P rest × P x
all_less P xs rest x e all = let both = All-pop P xs rest (Some x) e all in (both.0, both.1)

module _ {S C : Type 0} (schema : Catalog S C) (may : Answers (InputValue S) C) (shown : InputValue S → List ℕ) where
  -- where nothing is added
  pub leads_here : (bs : List (Begun S C)) (found : Option (List ℕ)) (Told : Option (List ℕ) → Type 0) → Told found → Leads schema may shown bs found Told bs
  leads_here bs found Told h fault after = (found, h, after)

  -- in other words
  pub leads_as : (new old : List (Begun S C)) (found : Option (List ℕ)) (Told Whole : Option (List ℕ) → Type 0) → ((fault : Option (List ℕ)) → Told fault → Whole fault)
      → Leads schema may shown new found Told old → Leads schema may shown new found Whole old
  leads_as new old found Told Whole h leads fault after = let led = leads fault after in (led.0, h led.0 led.1, led.2)

  -- where a part is added, and nothing is judged
  pub leads_begun : (old new : List (Begun S C)) (part : Begun S C) (Told : Option (List ℕ) → Type 0) → new ≡ old ++ part ∷ []
      → ((fault : Option (List ℕ)) → Left schema may shown part fault → Told fault) → Leads schema may shown new None Told old
  leads_begun old new part Told e h fault after =
      let all : AfterAll schema may shown (part ∷ reverse old) None fault = subst (λ ps. AfterAll schema may shown ps None fault) (pushed old new part e) after in
      (all.0, h all.0 all.1, all.2)

  -- where a part is added, and then a value judged
  pub leads_into : (old mid new : List (Begun S C)) (part : Begun S C) (found : Option (List ℕ)) (Told Whole : Option (List ℕ) → Type 0) → mid ≡ old ++ part ∷ []
      → ((m fault : Option (List ℕ)) → Told m → After schema may shown part m fault → Whole fault) → Leads schema may shown new found Told mid → Leads schema may shown new found Whole old
  leads_into old mid new part found Told Whole e h leads fault after =
      let led = leads fault after in
      let all : AfterAll schema may shown (part ∷ reverse old) led.0 fault = subst (λ ps. AfterAll schema may shown ps led.0 fault) (pushed old mid part e) led.2 in
      (all.0, h led.0 all.0 led.1 all.1, all.2)

  -- where what is left of the last part is judged
  pub goes_on : (old rest new : List (Begun S C)) (part : Begun S C) (found : Option (List ℕ)) → old ≡ rest ++ part ∷ []
      → Leads schema may shown new found (Left schema may shown part) rest → GoesOn schema may shown new found old
  goes_on old rest new part found e leads fault after =
      let led = leads fault after in
      let all : AfterAll schema may shown (part ∷ reverse rest) None fault = (led.0, led.1, led.2) in
      subst (λ ps. AfterAll schema may shown ps None fault) (sym (pushed rest old part e)) all

  -- where no part is left
  pub goes_nowhere : (old new : List (Begun S C)) → old ≡ new ++ [] → GoesOn schema may shown new None old
  goes_nowhere old new e fault after = subst (λ ps. AfterAll schema may shown (reverse ps) None fault) (sym (e ∙ append-nil new)) after

  pub after_none : (parts : List (Begun S C)) → parts ≡ [] → AfterAll schema may shown (reverse parts) None None
  after_none parts e = subst (λ ps. AfterAll schema may shown (reverse ps) None None) (sym e) refl

  -- at first there is only the value
  pub leads_first : {old : List (Begun S C)} (new : List (Begun S C)) (found known fault : Option (List ℕ)) (Told : Option (List ℕ) → Type 0) → Leads schema may shown new found Told old → found ≡ known
      → AfterAll schema may shown (reverse new) known fault → old ≡ [] → Told fault
  leads_first {old} new found known fault Told leads e after nil =
      let led = leads fault (subst (λ m. AfterAll schema may shown (reverse new) m fault) (sym e) after) in
      let end : AfterAll schema may shown [] led.0 fault = subst (λ ps. AfterAll schema may shown (reverse ps) led.0 fault) nil led.2 in
      subst Told (sym end) led.1

  after_last : (ps : List (Begun S C)) (p : Begun S C) (found mid fault : Option (List ℕ)) → AfterAll schema may shown ps found mid → After schema may shown p mid fault → AfterAll schema may shown (ps ++ p ∷ []) found fault
  after_last [] p found mid fault is h = (fault, subst (λ m. After schema may shown p m fault) is h, refl)
  after_last (q ∷ qs) p found mid fault all h = (all.0, all.1, after_last qs p all.0 mid fault all.2 h)

  after_told : (ps : List (Begun S C)) (said : List ℕ) → AfterAll schema may shown (reverse ps) (Some said) (Some (told ps said))
  after_told [] said = refl
  after_told (p ∷ ps) said =
      subst (λ qs. AfterAll schema may shown qs (Some said) (Some (told (p ∷ ps) said))) (sym (reverse-append (p ∷ []) ps))
      (after_last (reverse ps) p (Some said) (Some (told ps said)) (Some (told (p ∷ ps) said)) (after_told ps said) refl)

  -- where a fault is found
  pub told_after : (parts slice : List (Begun S C)) (said text : List ℕ) (fault : Option (List ℕ)) → fault ≡ Some (told slice text) → slice ≡ parts → text ≡ said
      → AfterAll schema may shown (reverse parts) (Some said) fault
  told_after parts slice said text fault e same is =
      subst (λ f. AfterAll schema may shown (reverse parts) (Some said) f) (sym (e ∙ ap (λ ps. Some (told ps text)) same ∙ ap (λ t. Some (told parts t)) is)) (after_told parts said)

  -- the fault of a list by those of its first item and of the others
  pub items_after : (inner : Expected S C) (xs : List (Spanning (InputValue S) Span)) (x : Spanning (InputValue S) Span) (rest : Bor (List (Spanning (InputValue S) Span))) → xs ≡ x ∷ rest.now
      → (m fault : Option (List ℕ)) → Judged schema may shown x.item (expected_type inner) m → After schema may shown (b.Items inner rest) m fault
      → FirstFault (λ y. Judged schema may shown y.item (expected_type inner)) IsNone xs fault
  items_after inner xs x rest e None fault h after = subst (λ ys. FirstFault (λ y. Judged schema may shown y.item (expected_type inner)) IsNone ys fault) (sym e) (inr (h, after))
  items_after inner xs x rest e (Some said) fault h after =
      subst (λ f. FirstFault (λ y. Judged schema may shown y.item (expected_type inner)) IsNone xs f) (sym after)
      (subst (λ ys. FirstFault (λ y. Judged schema may shown y.item (expected_type inner)) IsNone ys (Some said)) (sym e) (inl (h, refl)))

  -- the fault of an object by those of its first entry and of the others
  pub entries_after : (meta : Bor (MetaTypeOf S C)) (key : Bor (List ℕ)) (all rest : Bor (List (Entry (InputValue S)))) (e : Entry (InputValue S)) (a : Argument S) (w : WrappedMeta S C)
      → key.now ≡ key_of e → input_field_named key.now meta.now ≡ Some a → IsTypeOf schema (shape a.arg_type) w
      → (m fault : Option (List ℕ)) → Judged schema may shown e.1.item w m → After schema may shown (b.Entries meta (Some key) all rest) m fault
      → FirstFault (EntryFault schema may shown meta.now) (LacksFields meta.now (keys_of all.now)) (e ∷ rest.now) fault
  entries_after meta key all rest e a w is found made None fault h after =
      inr (subst (λ k. KeyedFault schema may shown meta.now k e.1.item None) is (known_key schema may shown meta.now key.now e.1.item a w None None found made h refl), after)
  entries_after meta key all rest e a w is found made (Some said) fault h after =
      subst (λ f. FirstFault (EntryFault schema may shown meta.now) (LacksFields meta.now (keys_of all.now)) (e ∷ rest.now) f) (sym after)
      (inl (subst (λ k. KeyedFault schema may shown meta.now k e.1.item (Some (told_of (b.Entries meta (Some key) all rest) said))) is (known_key schema may shown meta.now key.now e.1.item a w (Some said) _ found made h refl), refl))
