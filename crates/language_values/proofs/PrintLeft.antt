-- Text that is written in parts, and what is left to print of lists and objects.
use Rattle.std.proofs.Common.{◌≡◌, ℕ, List, [], ◌∷◌, ◌++◌, Bool, true, false, map, reverse, codes, subst, refl, sym, ap, ◌∙◌, Vec, Bor, String, string_bytes, append_assoc, append-nil}
use Rattle.std.specs.Prelude.{Option, Result, Ok, Err, IfOk}
use Rattle.std.specs.declared.fmt.Error.{Error}
use Rattle.std.specs.Fmt.{IsPlainFormatter, HasWritten}
use Rattle.std.specs.declared.fmt.Formatter.{Formatter}
use Rattle.std.specs.declared.alloc.Global.{Global}
use Rattle.std.specs.List.{flat_map}
use Rattle.std.proofs.Output.{writes_in_calls_nil}
use Rattle.std.proofs.lemmas.Grind.{put_two}
use Rattle.std.proofs.lemmas.List.{reverse-append}
use Rattle.std.proofs.lemmas.List.Concat.{flat_map-cons}
use Rattle.language_types.specs.declared.position.Span.{Span}
use Rattle.language_types.specs.declared.position.Spanning.{Spanning}
use Rattle.language_values.specs.declared.value.InputValue.{InputValue}
use Rattle.language_values.specs.declared.value.InputValue.TheVariants as v
use Rattle.language_values.specs.declared.value.Rest.{Rest}
use Rattle.language_values.specs.declared.value.Rest.TheVariants.{Items, Entries}
use Rattle.language_values.specs.Values.{Entry}
use Rattle.language_values.specs.ValuesLeft.{WritesPart, separated, printed_left, printed_waiting}
use Rattle.language_values.specs.ValuesPrinted.{printed_value, printed_entry, separator_before}
use Rattle.language_values.proofs.PrintLemmas.{printed_value-at-List, printed_value-at-Object, printed_value-at-Variable}

module _ {W : Type 0} (took : W → List ℕ → W → Type 0) where
  pub part_one : (f g : Formatter W) (bs left whole : List ℕ) → (IsPlainFormatter f → HasWritten took f bs g) → bs ++ left ≡ whole → WritesPart took f g left whole
  part_one f g bs left whole h e p = (bs, h p, e)

  pub part_two : (f g h : Formatter W) (a b left whole : List ℕ) → (IsPlainFormatter f → HasWritten took f a g) → (IsPlainFormatter g → HasWritten took g b h) → (a ++ b) ++ left ≡ whole → WritesPart took f h left whole
  part_two f g h a b left whole one two e p = (a ++ b, put_two took f g h a b (a ++ b) (one p) (two (one p).plain) refl, e)

  pub part_then : (f g h : Formatter W) (rest left whole : List ℕ) → WritesPart took f g rest whole → WritesPart took g h left rest → WritesPart took f h left whole
  part_then f g h rest left whole one two p =
      let first : (bs : List ℕ) × HasWritten took f bs g × (bs ++ rest ≡ whole) = one p in
      let more : (bs : List ℕ) × HasWritten took g bs h × (bs ++ left ≡ rest) = two first.1.plain in
      (first.0 ++ more.0, put_two took f g h first.0 more.0 (first.0 ++ more.0) first.1 more.1 refl, append_assoc first.0 more.0 left ∙ ap (λ z. first.0 ++ z) more.2 ∙ first.2)

  pub part_all : (f g : Formatter W) (whole : List ℕ) → WritesPart took f g [] whole → IsPlainFormatter f → HasWritten took f whole g
  part_all f g whole h p =
      let all : (bs : List ℕ) × HasWritten took f bs g × (bs ++ [] ≡ whole) = h p in
      subst (λ z. HasWritten took f z g) (sym (append-nil all.0) ∙ all.2) all.1

  pub part_end : (f g h : Formatter W) (rest whole : List ℕ) → WritesPart took f g rest whole → (IsPlainFormatter g → HasWritten took g rest h) → IsPlainFormatter f → HasWritten took f whole h
  part_end f g h rest whole one two p =
      let first : (bs : List ℕ) × HasWritten took f bs g × (bs ++ rest ≡ whole) = one p in
      put_two took f g h first.0 rest whole first.1 (two first.1.plain) first.2

  -- the same where what is left is known by another name
  pub part_known : (f g : Formatter W) (left known whole : List ℕ) → left ≡ known → WritesPart took f g left whole → WritesPart took f g known whole
  part_known f g left known whole e h p =
      let all : (bs : List ℕ) × HasWritten took f bs g × (bs ++ left ≡ whole) = h p in
      (all.0, all.1, ap (λ z. all.0 ++ z) (sym e) ∙ all.2)

  -- a part before one that may fail
  pub part_if_ok : {A : Type 0} (r : Result A Error) (f g h : Formatter W) (left : A → List ℕ) (rest whole : List ℕ) → WritesPart took f g rest whole → IfOk r (λ o. WritesPart took g h (left o) rest)
      → IfOk r (λ o. WritesPart took f h (left o) whole)
  part_if_ok (Ok o) f g h left rest whole one two = part_then f g h rest (left o) whole one two
  part_if_ok (Err e) f g h left rest whole one two = two

  -- nothing is written before the first part
  pub part_start : (f : Formatter W) (left whole : List ℕ) → left ≡ whole → WritesPart took f f left whole
  part_start f left whole e p = ([], record { wrote = writes_in_calls_nil _ _; plain = p }, e)

  -- what stands after both stays
  pub part_before : (f g : Formatter W) (left whole rest after : List ℕ) → WritesPart took f g left whole → after ≡ left ++ rest → WritesPart took f g after (whole ++ rest)
  part_before f g left whole rest after h e p =
      let all : (bs : List ℕ) × HasWritten took f bs g × (bs ++ left ≡ whole) = h p in
      (all.0, all.1, ap (λ z. all.0 ++ z) e ∙ sym (append_assoc all.0 left rest) ∙ ap (λ z. z ++ rest) all.2)

separated_more : (b : Bool) (p : List ℕ) (ps : List (List ℕ)) → separated b (p ∷ ps) ≡ separator_before b ++ (p ++ separated false ps)
separated_more true p ps = refl
separated_more false p ps = flat_map-cons (λ q. codes ", " ++ q) p ps ∙ append_assoc (codes ", ") p (flat_map (λ q. codes ", " ++ q) ps)

regroup : (s p q k rest : List ℕ) → ((s ++ (p ++ q)) ++ k) ++ rest ≡ s ++ (p ++ ((q ++ k) ++ rest))
regroup s p q k rest =
    append_assoc (s ++ (p ++ q)) k rest
    ∙ append_assoc s (p ++ q) (k ++ rest)
    ∙ ap (λ z. s ++ z) (append_assoc p q (k ++ rest))
    ∙ ap (λ z. s ++ (p ++ z)) (sym (append_assoc q k rest))

key_apart : (s key bs rest : List ℕ) → s ++ ((key ++ bs) ++ rest) ≡ (s ++ key) ++ (bs ++ rest)
key_apart s key bs rest = ap (λ z. s ++ z) (append_assoc key bs rest) ∙ sym (append_assoc s key (bs ++ rest))

module _ {S : Type 0} (text : S → List ℕ) (str_of : S → Option (List ℕ)) where
  pub printed_push : (ws : List (Rest S)) (w : Rest S) → printed_waiting text str_of (ws ++ w ∷ []) ≡ printed_left text str_of false w ++ printed_waiting text str_of ws
  printed_push ws w = ap (λ us. flat_map (printed_left text str_of false) us) (reverse-append ws (w ∷ [])) ∙ flat_map-cons (printed_left text str_of false) w (reverse ws)

  -- one more of them, with what stands before it
  pub next_item : (b : Bool) (r o : Bor (List (Spanning (InputValue S) Span))) (x : Spanning (InputValue S) Span) (rest : List ℕ) → r.now ≡ x ∷ o.now
      → separator_before b ++ (printed_value text str_of x.item ++ (printed_left text str_of false (Items o) ++ rest)) ≡ printed_left text str_of b (Items r) ++ rest
  next_item b r o x rest e =
      let one : Spanning (InputValue S) Span → List ℕ = λ w. printed_value text str_of w.item in
      sym (ap (λ xs. (separated b (map one xs) ++ codes "]") ++ rest) e
      ∙ ap (λ z. (z ++ codes "]") ++ rest) (separated_more b (one x) (map one o.now))
      ∙ regroup (separator_before b) (one x) (separated false (map one o.now)) (codes "]") rest)

  pub next_entry : (b : Bool) (r o : Bor (List (Entry (InputValue S)))) (x : Entry (InputValue S)) (key rest : List ℕ) → r.now ≡ x ∷ o.now → key ≡ string_bytes x.0.item
      → (separator_before b ++ (key ++ codes ": ")) ++ (printed_value text str_of x.1.item ++ (printed_left text str_of false (Entries o) ++ rest)) ≡ printed_left text str_of b (Entries r) ++ rest
  next_entry b r o x key rest e k =
      let one : Entry (InputValue S) → List ℕ = λ w. printed_entry text str_of (string_bytes w.0.item) w.1.item in
      ap (λ z. (separator_before b ++ (z ++ codes ": ")) ++ (printed_value text str_of x.1.item ++ (printed_left text str_of false (Entries o) ++ rest))) k
      ∙ sym (ap (λ xs. (separated b (map one xs) ++ codes "}") ++ rest) e
      ∙ ap (λ z. (z ++ codes "}") ++ rest) (separated_more b (one x) (map one o.now))
      ∙ regroup (separator_before b) (one x) (separated false (map one o.now)) (codes "}") rest
      ∙ key_apart (separator_before b) (string_bytes x.0.item ++ codes ": ") (printed_value text str_of x.1.item) (printed_left text str_of false (Entries o) ++ rest))

  -- a variable, and the bracket before what a value holds
  pub variable_alone : (w : InputValue S) (name : String Global) (bs : List ℕ) → w ≡ v.Variable name → bs ≡ string_bytes name → (codes "$" ++ bs) ++ [] ≡ printed_value text str_of w
  variable_alone w name bs e h =
      append-nil (codes "$" ++ bs)
      ∙ ap (λ z. codes "$" ++ z) h
      ∙ sym (printed_value-at-Variable text str_of w name e)

  pub list_opened : (w : InputValue S) (xs : Vec (Spanning (InputValue S) Span) Global) (r : Bor (List (Spanning (InputValue S) Span))) → w ≡ v.List xs → r.now ≡ xs.items → codes "[" ++ printed_left text str_of true (Items r) ≡ printed_value text str_of w
  list_opened w xs r e h =
      ap (λ l. codes "[" ++ (separated true (map (λ u. printed_value text str_of u.item) l) ++ codes "]")) h
      ∙ sym (printed_value-at-List text str_of w xs e)

  pub object_opened : (w : InputValue S) (xs : Vec (Entry (InputValue S)) Global) (r : Bor (List (Entry (InputValue S)))) → w ≡ v.Object xs → r.now ≡ xs.items → codes "{" ++ printed_left text str_of true (Entries r) ≡ printed_value text str_of w
  object_opened w xs r e h =
      ap (λ l. codes "{" ++ (separated true (map (λ u. printed_entry text str_of (string_bytes u.0.item) u.1.item) l) ++ codes "}")) h
      ∙ sym (printed_value-at-Object text str_of w xs e)
