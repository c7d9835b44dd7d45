-- What is told of a value, by the parts around what is checked.
use Rattle.std.proofs.Common.{arith, ◌≡◌, ℕ, ◌+◌, ◌<◌, ◌≤◌, List, [], ◌∷◌, ◌++◌, append_assoc, drop, drop_of_length-le, get_or, length, map, reverse, string_bytes, vec_len, Option, Some, None, refl, ap, sym, ◌∙◌, subst, inl, inr}
use Rattle.std.proofs.lemmas.List.{append-nil, reverse-append, reverse-reverse}
use Rattle.std.proofs.lemmas.List.Elements.{All-pop, All-push}
use Rattle.std.specs.Prelude.{String, Vec}
use Rattle.std.specs.declared.alloc.Global.{Global}
use Rattle.std.specs.List.{All, flat_map}
use denote.Ref.{Bor}
use Rattle.language_types.specs.declared.position.Span.{Span}
use Rattle.language_types.specs.declared.position.Spanning.{Spanning}
use Rattle.language_values.specs.declared.value.InputValue.{InputValue}
use Rattle.language_types.specs.declared.types.BorrowedType.{BorrowedType}
use Rattle.language_types.specs.Types.{borrowed_shape, shape}
use Rattle.language_values.specs.Values.{Entry, last_value}
use Rattle.language_values.specs.ValuesPrinted.{printed_value}
use Rattle.meta.specs.Answers.{Answers}
use Rattle.meta.specs.Kept.{input_object_check}
use Rattle.meta.specs.declared.arguments.Argument.{Argument}
use Rattle.meta.specs.declared.inputs.InputObjectMetaOf.{InputObjectMetaOf}
use Rattle.schema.specs.Catalog.{Catalog}
use Rattle.schema_validation.proofs.Finds.{rest_at}
use Rattle.variable_values.specs.declared.begun.Begun.{Begun}
use Rattle.variable_values.specs.declared.begun.Begun.TheVariants as b
use Rattle.variable_values.specs.declared.begun.BegunObject.{BegunObject}
use Rattle.variable_values.specs.declared.place.PathStep.{PathStep}
use Rattle.variable_values.specs.Begun.{ByCheck, EndsObject, GoesOn, IsBegunOf, Leads, Left, LeftItems, LeftOf, LeftOfAll, OfGiven, Telling, all_but_first}
use Rattle.variable_values.specs.Faults.{Checked, Fault, Faults, element, field, left_out, unknown_field}
use Rattle.variable_values.specs.InTurn.{InTurn}
use Rattle.variable_values.specs.Keys.{field_names, keys_of, unknown_keys}
use Rattle.variable_values.specs.Messages.{Adds, invalid_text, printed_step, texts_of, told_after}
use Rattle.variable_values.specs.Places.{before_path, printed_path_step, step_of}
use Rattle.variable_values.specs.Rows.{Below, OfField, OfFields, OfWhole}
use Rattle.variable_values.specs.Texts.{input_text}
use Rattle.variable_values.proofs.ObjectLaws.{field_none, whole_none, whole_some}
use Rattle.variable_values.proofs.Told.{adds-both, adds-none, adds-under, as_long, none-told, told-more}

-- one element more, and one less
pub all_more : {A : Type 0} (P : A → Type 0) (old new : List A) (x : A) → new ≡ old ++ x ∷ [] → P x → All P old → All P new
all_more P old new x e p all = subst (All P) (sym e) (All-push P old x all p)

pub all_less : {A : Type 0} (P : A → Type 0) (xs rest : List A) (x : A) → xs ≡ rest ++ x ∷ [] → All P xs → All P rest × P x
all_less P xs rest x e all = let both = All-pop P xs rest (Some x) e all in (both.0, both.1)

pub all_none : {A : Type 0} (P : A → Type 0) (xs : List A) → xs ≡ [] → All P xs
all_none P xs e k d h = let nil = ap length e in absurd (omega (arith, nil))

pushed : {A : Type 0} (xs ys : List A) (x : A) → ys ≡ xs ++ x ∷ [] → reverse ys ≡ x ∷ reverse xs
pushed xs ys x e = ap reverse e ∙ reverse-append xs (x ∷ [])

flat_map-last : {A B : Type 0} (f : A → List B) (xs : List A) (x : A) → flat_map f (xs ++ x ∷ []) ≡ flat_map f xs ++ f x
flat_map-last f [] x = append-nil (f x)
flat_map-last f (y ∷ ys) x = ap (λ z. f y ++ z) (flat_map-last f ys x) ∙ sym (append_assoc (f y) (flat_map f ys) (f x))

-- one step more
pub before_step : (variable : List ℕ) (steps more : List PathStep) (s : PathStep) → more ≡ steps ++ s ∷ [] → before_path variable more ≡ before_path variable steps ++ printed_step (step_of s)
before_step variable steps more s e =
    ap (λ z. invalid_text variable ++ flat_map printed_path_step z) e
    ∙ ap (λ z. invalid_text variable ++ z) (flat_map-last printed_path_step steps s)
    ∙ sym (append_assoc (invalid_text variable) (flat_map printed_path_step steps) (printed_path_step s))

-- where nothing is left to be told
pub adds-end : (P : List Fault → Type 0) (before : List ℕ) (old now end : List (List ℕ)) → now ≡ end → Adds P before old now → Adds P before old end
adds-end P before old now end e a = subst (λ z. Adds P before old z) e a

module _ {S C : Type 0} (schema : Catalog S C) (may : Answers (InputValue S) C) (text : S → List ℕ) (str_of : S → Option (List ℕ)) where
  module _ (variable : List ℕ) where
    abbrev AllLeft : List (Begun S C) → List PathStep → Telling
    AllLeft = LeftOfAll schema may text str_of variable

    abbrev Led : List (Begun S C) → List PathStep → List (List ℕ) → Telling → List (Begun S C) → List PathStep → List (List ℕ) → Type 0
    Led = Leads schema may text str_of variable

    -- a value of which nothing is left
    pub leads_done : (parts : List (Begun S C)) (old_steps steps : List PathStep) (now old : List (List ℕ)) (Tells : Telling)
        → reverse steps ≡ all_but_first (reverse old_steps) → Tells old now → Led parts steps now Tells parts old_steps old
    leads_done parts old_steps steps now old Tells e h end left = (now, h, subst (λ z. AllLeft (reverse parts) z now end) e left)

    -- one of which a part is left
    pub leads_begun : (old_parts parts : List (Begun S C)) (part : Begun S C) (steps : List PathStep) (now old : List (List ℕ)) (Tells : Telling)
        → parts ≡ old_parts ++ part ∷ [] → ((end : List (List ℕ)) → Left schema may text str_of part (before_path variable steps) now end → Tells old end)
        → Led parts steps now Tells old_parts steps old
    leads_begun old_parts parts part steps now old Tells e h end left =
        let all : AllLeft (part ∷ reverse old_parts) (reverse steps) now end = subst (λ z. AllLeft z (reverse steps) now end) (pushed old_parts parts part e) left in
        (all.0, h all.0 (subst (λ z. Left schema may text str_of part (before_path variable z) now all.0) (reverse-reverse steps) all.1), all.2)

    -- one step down, with a part left
    pub leads_into : (old_parts mid_parts parts : List (Begun S C)) (part : Begun S C) (old_steps mid_steps steps : List PathStep) (s : PathStep) (now old : List (List ℕ)) (Tells Whole : Telling)
        → mid_parts ≡ old_parts ++ part ∷ [] → mid_steps ≡ old_steps ++ s ∷ []
        → ((mid end : List (List ℕ)) → Tells old mid → Left schema may text str_of part (before_path variable old_steps) mid end → Whole old end)
        → Led parts steps now Tells mid_parts mid_steps old → Led parts steps now Whole old_parts old_steps old
    leads_into old_parts mid_parts parts part old_steps mid_steps steps s now old Tells Whole e d h leads end left =
        let led = leads end left in
        let outer : AllLeft (part ∷ reverse old_parts) (reverse old_steps) led.0 end =
        subst (λ z. AllLeft z (reverse old_steps) led.0 end) (pushed old_parts mid_parts part e)
        (subst (λ z. AllLeft (reverse mid_parts) (all_but_first z) led.0 end) (pushed old_steps mid_steps s d) led.2) in
        (outer.0, h led.0 outer.0 led.1 (subst (λ z. Left schema may text str_of part (before_path variable z) led.0 outer.0) (reverse-reverse old_steps) outer.1), outer.2)

    abbrev On : List (Begun S C) → List PathStep → List (List ℕ) → List (Begun S C) → List PathStep → List (List ℕ) → Type 0
    On = GoesOn schema may text str_of variable

    -- the last part is taken off
    pub goes_on : (old_parts rest parts : List (Begun S C)) (part : Begun S C) (old_steps steps : List PathStep) (now old : List (List ℕ)) → old_parts ≡ rest ++ part ∷ []
        → Led parts steps now (Left schema may text str_of part (before_path variable old_steps)) rest old_steps old → On parts steps now old_parts old_steps old
    goes_on old_parts rest parts part old_steps steps now old e leads end left =
        let led = leads end left in
        subst (λ z. AllLeft z (reverse old_steps) old end) (sym (pushed rest old_parts part e))
        (led.0, subst (λ z. Left schema may text str_of part (before_path variable z) old led.0) (sym (reverse-reverse old_steps)) led.1, led.2)

    -- no part is left
    pub goes_nowhere : (old_parts parts : List (Begun S C)) (steps : List PathStep) (now : List (List ℕ)) → old_parts ≡ parts ++ [] → On parts steps now old_parts steps now
    goes_nowhere old_parts parts steps now e end left = subst (λ z. AllLeft (reverse z) (reverse steps) now end) (sym (e ∙ append-nil parts)) left

    -- at first nothing is left but the value
    pub leads_first : (old_parts parts : List (Begun S C)) (old_steps steps : List PathStep) (now old : List (List ℕ)) (P : List Fault → Type 0) → old_parts ≡ [] → old_steps ≡ []
        → Led parts steps now (Adds P (before_path variable old_steps)) old_parts old_steps old
        → (end : List (List ℕ)) → AllLeft (reverse parts) (reverse steps) now end → Adds P (invalid_text variable) old end
    leads_first old_parts parts old_steps steps now old P e d leads end left =
        let led = leads end left in
        let done : led.0 ≡ end = subst (λ z. AllLeft (reverse z) (all_but_first (reverse old_steps)) led.0 end) e led.2 in
        let at : before_path variable old_steps ≡ invalid_text variable = ap (before_path variable) d ∙ append-nil (invalid_text variable) in
        subst (λ z. Adds P (invalid_text variable) old z) done (subst (λ z. Adds P z old led.0) at led.1)

    -- at last nothing is
    pub leads_last : (parts : List (Begun S C)) (steps : List PathStep) (now old : List (List ℕ)) (Whole : Telling) → parts ≡ []
        → ((end : List (List ℕ)) → AllLeft (reverse parts) (reverse steps) now end → Whole old end) → Whole old now
    leads_last parts steps now old Whole e h = h now (subst (λ z. AllLeft (reverse z) (reverse steps) now now) (sym e) refl)

    -- a value of which nothing is left, by what was told of it
    pub begin_done : (parts : List (Begun S C)) (old_steps steps : List PathStep) (P : List Fault → Type 0) (here : List ℕ) (o : Option (Begun S C)) (old new : List (List ℕ))
        → ((end : List (List ℕ)) → LeftOf schema may text str_of o here new end → Adds P here old end) → o ≡ None → here ≡ before_path variable old_steps → reverse steps ≡ all_but_first (reverse old_steps)
        → Led parts steps new (Adds P (before_path variable old_steps)) parts old_steps old
    begin_done parts old_steps steps P here o old new h n at e =
        let all : Adds P here old new = h new (subst (λ q. LeftOf schema may text str_of q here new new) (sym n) refl) in
        leads_done parts old_steps steps new old (Adds P (before_path variable old_steps)) e (subst (λ z. Adds P z old new) at all)

    -- one of which a part is left
    pub begin_part : (old_parts parts : List (Begun S C)) (part : Begun S C) (steps : List PathStep) (P : List Fault → Type 0) (here : List ℕ) (o : Option (Begun S C)) (old new : List (List ℕ))
        → ((end : List (List ℕ)) → LeftOf schema may text str_of o here new end → Adds P here old end) → o ≡ Some part → here ≡ before_path variable steps → parts ≡ old_parts ++ part ∷ []
        → Led parts steps new (Adds P (before_path variable steps)) old_parts steps old
    begin_part old_parts parts part steps P here o old new h n at e =
        let all : (end : List (List ℕ)) → Left schema may text str_of part here new end → Adds P here old end = λ end left.
        h end (subst (λ q. LeftOf schema may text str_of q here new end) (sym n) left) in
        leads_begun old_parts parts part steps new old (Adds P (before_path variable steps)) e (subst (λ z. (end : List (List ℕ)) → Left schema may text str_of part z new end → Adds P z old end) at all)

  -- the first in turn, and the others
  turn_first : {X : Type 0} (gives : ℕ → X → List Fault → Type 0) (xs : List X) (i : ℕ) (x : X) (fs gs : List Fault) → i < length xs → x ≡ get_or xs i x
      → gives i x fs → InTurn gives (i + 1) (drop (i + 1) xs) gs → InTurn gives i (drop i xs) (fs ++ gs)
  turn_first gives xs i x fs gs here is g h = subst (λ ys. InTurn gives i ys (fs ++ gs)) (sym (rest_at xs i x here is)) (fs, gs, g, h, refl)

  -- an item, and those behind it
  pub items_next : (inner : BorrowedType) (items : Bor (List (Spanning (InputValue S) Span))) (i : ℕ) (x : Spanning (InputValue S) Span) (before after : List ℕ) (old mid new : List (List ℕ))
      → i < length items.now → x ≡ get_or items.now i x → after ≡ before ++ printed_step (element i)
      → Adds (Faults schema may text str_of x.item (borrowed_shape inner)) after old mid
      → Left schema may text str_of (b.Items inner items (i + 1)) before mid new → Left schema may text str_of (b.Items inner items i) before old new
  items_next inner items i x before after old mid new here is e a h =
      adds-both (Below schema may text str_of (element i) (borrowed_shape inner) x.item) (LeftItems schema may text str_of (b.Items inner items (i + 1))) (LeftItems schema may text str_of (b.Items inner items i)) before old mid new
      (λ fs gs p q. turn_first (λ j y. Below schema may text str_of (element j) (borrowed_shape inner) y.item) items.now i x fs gs here is p q)
      (adds-under (Faults schema may text str_of x.item (borrowed_shape inner)) before after (element i) old mid e a) h

  turn_none : {X : Type 0} (gives : ℕ → X → List Fault → Type 0) (xs : List X) (i : ℕ) → length xs ≤ i → InTurn gives i (drop i xs) []
  turn_none gives xs i l = subst (λ ys. InTurn gives i ys []) (sym (drop_of_length-le xs l)) refl

  -- no item is left
  pub items_end : (inner : BorrowedType) (items : Bor (List (Spanning (InputValue S) Span))) (i : ℕ) (before : List ℕ) (old : List (List ℕ)) → length items.now ≤ i → Left schema may text str_of (b.Items inner items i) before old old
  items_end inner items i before old l =
      adds-none (LeftItems schema may text str_of (b.Items inner items i)) before old (turn_none (λ j y. Below schema may text str_of (element j) (borrowed_shape inner) y.item) items.now i l)

  abbrev pub FieldFaults : BegunObject S C → Argument S → List Fault → Type 0
  FieldFaults of a fs = OfField schema may text str_of a (last_value (string_bytes a.name) of.entries.now) fs

  -- a field, and those behind it
  fields_next : (of : BegunObject S C) (i : ℕ) (a : Argument S) (before : List ℕ) (old mid new : List (List ℕ))
      → i < length of.object.now.input_fields.items → a ≡ get_or of.object.now.input_fields.items i a
      → Adds (FieldFaults of a) before old mid
      → Left schema may text str_of (b.Fields of (i + 1)) before mid new → Left schema may text str_of (b.Fields of i) before old new
  fields_next of i a before old mid new here is h left = (
    left.0,
    adds-both (FieldFaults of a) (LeftItems schema may text str_of (b.Fields of (i + 1))) (LeftItems schema may text str_of (b.Fields of i)) before old mid left.0
        (λ fs gs p q. turn_first (λ j y. FieldFaults of y) of.object.now.input_fields.items i a fs gs here is p q) h left.1,
    left.2,
  )

  -- no field is left
  pub fields_end : (of : BegunObject S C) (i : ℕ) (before : List ℕ) (old new : List (List ℕ)) → length of.object.now.input_fields.items ≤ i → EndsObject may text str_of of before old new → Left schema may text str_of (b.Fields of i) before old new
  fields_end of i before old new l ends =
      (old, adds-none (LeftItems schema may text str_of (b.Fields of i)) before old (turn_none (λ j y. FieldFaults of y) of.object.now.input_fields.items i l), ends)

  -- a field by its value
  field_told : (a : Argument S) (o : Option (InputValue S)) (before after : List ℕ) (old new : List (List ℕ)) → after ≡ before ++ printed_step (field (string_bytes a.name))
      → Adds (OfGiven schema may text str_of o a) after old new → Adds (OfField schema may text str_of a o) before old new
  field_told a None before after old new e h =
      let under = adds-under (λ fs. fs ≡ left_out schema a) before after (field (string_bytes a.name)) old new e h in
      (under.0, field_none schema may text str_of a under.0 under.1, under.2)
  field_told a (Some x) before after old new e h = adds-under (Faults schema may text str_of x (shape a.arg_type)) before after (field (string_bytes a.name)) old new e h

  -- a field by its value, and those behind it
  pub field_next : (of : BegunObject S C) (i : ℕ) (a : Argument S) (o : Option (InputValue S)) (before after : List ℕ) (old mid new : List (List ℕ))
      → i < length of.object.now.input_fields.items → a ≡ get_or of.object.now.input_fields.items i a
      → o ≡ last_value (string_bytes a.name) of.entries.now → after ≡ before ++ printed_step (field (string_bytes a.name))
      → Adds (OfGiven schema may text str_of o a) after old mid
      → Left schema may text str_of (b.Fields of (i + 1)) before mid new → Left schema may text str_of (b.Fields of i) before old new
  field_next of i a o before after old mid new here is last e h left =
      fields_next of i a before old mid new here is (subst (λ q. Adds (OfField schema may text str_of a q) before old mid) last (field_told a o before after old mid e h)) left

  abbrev KeyFaults : BegunObject S C → List Fault
  KeyFaults of = map unknown_field (unknown_keys (field_names of.object.now.input_fields.items) (keys_of of.entries.now))

  by_check : (of : BegunObject S C) (before : List ℕ) (old mid new : List (List ℕ)) (gs : List Fault) → of.told ≡ length old → OfFields schema may text str_of of.object.now.input_fields.items of.entries.now gs
      → mid ≡ old ++ map (told_after before) (gs ++ KeyFaults of) → ByCheck may text str_of of before mid new → Adds (OfWhole schema may text str_of of.object.now of.entries.now of.value.now) before old new
  by_check of before old mid new gs told at both (inl (n, adds)) =
      let none : gs ++ KeyFaults of ≡ [] = none-told before old mid (gs ++ KeyFaults of) both (n ∙ told) in
      let same : mid ≡ old = both ∙ ap (λ hs. old ++ map (told_after before) hs) none ∙ append-nil old in
      (adds.0, whole_none schema may text str_of of.object.now of.entries.now of.value.now gs adds.0 at none adds.1, adds.2 ∙ ap (λ ts. ts ++ map (told_after before) adds.0) same)
  by_check of before old mid new gs told at both (inr (n, same)) = (
    gs ++ KeyFaults of,
    whole_some schema may text str_of of.object.now of.entries.now of.value.now gs at
        (λ none. n (ap length (both ∙ ap (λ hs. old ++ map (told_after before) hs) none ∙ append-nil old) ∙ sym told)),
    same ∙ both,
  )

  -- all of an object
  pub whole : (o : InputObjectMetaOf S C) (value : InputValue S) (es : List (Entry (InputValue S))) (told : ℕ) (of : BegunObject S C) (before : List ℕ) (old new : List (List ℕ)) → IsBegunOf o value es told of → told ≡ length old
      → Left schema may text str_of (b.Fields of 0) before old new → Adds (OfWhole schema may text str_of o es value) before old new
  whole o value es told of before old new is count left =
      let fields = left.1 in
      let ends = left.2 in
      let both : ends.0 ≡ old ++ map (told_after before) (fields.0 ++ KeyFaults of) = told-more before old left.0 ends.0 fields.0 (KeyFaults of) fields.2 ends.1 in
      let all : Adds (OfWhole schema may text str_of of.object.now of.entries.now of.value.now) before old new = by_check of before old ends.0 new fields.0 (is.3 ∙ count) fields.1 both ends.2 in
      subst (λ p. Adds (OfWhole schema may text str_of p es value) before old new) is.0
      (subst (λ zs. Adds (OfWhole schema may text str_of of.object.now zs value) before old new) is.2
      (subst (λ v. Adds (OfWhole schema may text str_of of.object.now of.entries.now v) before old new) is.1 all))

module _ {S C : Type 0} (may : Answers (InputValue S) C) (text : S → List ℕ) (str_of : S → Option (List ℕ)) where
  -- the end of an object, by the messages there are
  pub ends_checked : (of : BegunObject S C) (before : List ℕ) (old mid new : Vec (String Global) Global) (n : ℕ) (fields : List (Argument S)) → fields ≡ of.object.now.input_fields.items
      → texts_of mid ≡ texts_of old ++ map (told_after before) (map unknown_field (unknown_keys (field_names fields) (keys_of of.entries.now))) → n ≡ vec_len mid → n ≡ of.told
      → Adds (Checked may (input_object_check of.object.now) of.value.now (input_text (string_bytes of.object.now.name) (printed_value text str_of of.value.now)) []) before (texts_of mid) (texts_of new)
      → EndsObject may text str_of of before (texts_of old) (texts_of new)
  ends_checked of before old mid new n fields same e len told h =
      (texts_of mid, subst (λ fs. texts_of mid ≡ texts_of old ++ map (told_after before) (map unknown_field (unknown_keys (field_names fs) (keys_of of.entries.now)))) same e, inl (as_long mid n len ∙ told, h))

  pub ends_unchecked : (of : BegunObject S C) (before : List ℕ) (old mid : Vec (String Global) Global) (n : ℕ) (fields : List (Argument S)) → fields ≡ of.object.now.input_fields.items
      → texts_of mid ≡ texts_of old ++ map (told_after before) (map unknown_field (unknown_keys (field_names fields) (keys_of of.entries.now))) → n ≡ vec_len mid → (n ≡ of.told → ⊥)
      → EndsObject may text str_of of before (texts_of old) (texts_of mid)
  ends_unchecked of before old mid n fields same e len told =
      (texts_of mid, subst (λ fs. texts_of mid ≡ texts_of old ++ map (told_after before) (map unknown_field (unknown_keys (field_names fs) (keys_of of.entries.now)))) same e, inr (λ k. told (sym (as_long mid n len) ∙ k), refl))
