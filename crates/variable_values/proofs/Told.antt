-- The messages for faults, as their list grows.
use Rattle.std.proofs.Common.{◌≡◌, ℕ, ◌+◌, List, [], ◌∷◌, ◌++◌, append_assoc, codes, map, length, string_bytes, vec_len, refl, ap, sym, ◌∙◌, arith}
use Rattle.std.specs.Prelude.{String, Vec}
use Rattle.std.specs.declared.alloc.Global.{Global}
use Rattle.std.proofs.lemmas.List.{map-append, length-append, length-map, append-nil}
use Rattle.variable_values.specs.Faults.{Fault, Step, under, unknown_field}
use Rattle.variable_values.specs.Messages.{Adds, printed_path, printed_step, texts_of, told_after}

-- what is told of a fault one step down
pub told-under : (before : List ℕ) (step : Step) (f : Fault) → told_after (before ++ printed_step step) f ≡ told_after before (under step f)
told-under before step f =
    append_assoc before (printed_step step) (printed_path f.path ++ f.text)
    ∙ ap (λ bs. before ++ bs) (sym (append_assoc (printed_step step) (printed_path f.path) f.text))

pub all-under : (before : List ℕ) (step : Step) (fs : List Fault) → map (told_after (before ++ printed_step step)) fs ≡ map (told_after before) (map (under step) fs)
all-under before step [] = refl
all-under before step (f ∷ fs) = ap (λ t. t ∷ map (told_after (before ++ printed_step step)) fs) (told-under before step f) ∙ ap (λ ts. told_after before (under step f) ∷ ts) (all-under before step fs)

-- nothing is told
pub adds-none : (P : List Fault → Type 0) (before : List ℕ) (old : List (List ℕ)) → P [] → Adds P before old old
adds-none P before old p = ([], p, sym (append-nil old))

-- one thing is
pub adds-one : (P : List Fault → Type 0) (before : List ℕ) (old new : List (List ℕ)) (f : Fault) → P (f ∷ []) → new ≡ old ++ told_after before f ∷ [] → Adds P before old new
adds-one P before old new f p e = (f ∷ [], p, e)

-- other words for what is
pub adds-as : (P Q : List Fault → Type 0) (before : List ℕ) (old new : List (List ℕ)) → ((fs : List Fault) → P fs → Q fs) → Adds P before old new → Adds Q before old new
adds-as P Q before old new h a = (a.0, h a.0 a.1, a.2)

-- some, and then more
pub adds-both : (P Q : List Fault → Type 0) (R : List Fault → Type 0) (before : List ℕ) (old mid new : List (List ℕ))
    → ((fs gs : List Fault) → P fs → Q gs → R (fs ++ gs))
    → Adds P before old mid → Adds Q before mid new → Adds R before old new
adds-both P Q R before old mid new h a b = (
  a.0 ++ b.0,
  h a.0 b.0 a.1 b.1,
  b.2 ∙ ap (λ ts. ts ++ map (told_after before) b.0) a.2 ∙ append_assoc old (map (told_after before) a.0) (map (told_after before) b.0)
      ∙ ap (λ ts. old ++ ts) (sym (map-append (told_after before) a.0 b.0)),
)

-- those of one step down are told after that step
pub adds-under : (P : List Fault → Type 0) (before after : List ℕ) (step : Step) (old new : List (List ℕ)) → after ≡ before ++ printed_step step → Adds P after old new
    → Adds (λ fs. (gs : List Fault) × P gs × (fs ≡ map (under step) gs)) before old new
adds-under P before after step old new e a =
    (map (under step) a.0, (a.0, a.1, refl), a.2 ∙ ap (λ b. old ++ map (told_after b) a.0) e ∙ ap (λ ts. old ++ ts) (all-under before step a.0))

length-zero : {X : Type 0} (xs : List X) → length xs ≡ 0 → xs ≡ []
length-zero [] e = refl
length-zero (x ∷ xs) e = absurd (omega arith)

-- as many messages as before: nothing was told
pub none-told : (before : List ℕ) (old new : List (List ℕ)) (fs : List Fault) → new ≡ old ++ map (told_after before) fs → length new ≡ length old → fs ≡ []
none-told before old new fs e n =
    let all : length new ≡ length old + length (map (told_after before) fs) = ap length e ∙ length-append old (map (told_after before) fs) in
    let same : length (map (told_after before) fs) ≡ length fs = length-map fs (told_after before) in
    length-zero fs (omega arith)

pub as_long : (v : Vec (String Global) Global) (n : ℕ) → n ≡ vec_len v → length (texts_of v) ≡ n
as_long v n e = let ok = v.ok.0 in let same = length-map v.items (λ t. string_bytes t) in omega (arith, ok, same)

-- lists of messages that are as long
pub as_many : (old new : Vec (String Global) Global) (m n : ℕ) → m ≡ vec_len old → n ≡ vec_len new → n ≡ m → length (texts_of new) ≡ length (texts_of old)
as_many old new m n o p e = as_long new n p ∙ e ∙ sym (as_long old m o)

pub fewer : (old new : Vec (String Global) Global) (m n : ℕ) → m ≡ vec_len old → n ≡ vec_len new → texts_of new ≡ texts_of old → n ≡ m
fewer old new m n o p e = sym (as_long new n p) ∙ ap length e ∙ as_long old m o

-- what is told of a key that no field has
pub unknown-told : (before key : List ℕ) → before ++ (codes "In field \"" ++ (key ++ codes "\": Unknown field.")) ≡ told_after before (unknown_field key)
unknown-told before key =
    let step = codes "In field \"" ++ (key ++ codes "\": ") in
    ap (λ z. before ++ z)
    (sym
    (ap (λ z. z ++ codes "Unknown field.") (append-nil step) ∙ append_assoc (codes "In field \"") (key ++ codes "\": ") (codes "Unknown field.")
    ∙ ap (λ z. codes "In field \"" ++ z) (append_assoc key (codes "\": ") (codes "Unknown field."))))

-- what was told so far, and more
pub told-more : (before : List ℕ) (start old new : List (List ℕ)) (done fs : List Fault) → old ≡ start ++ map (told_after before) done → new ≡ old ++ map (told_after before) fs → new ≡ start ++ map (told_after before) (done ++ fs)
told-more before start old new done fs d e =
    e ∙ ap (λ ts. ts ++ map (told_after before) fs) d ∙ append_assoc start (map (told_after before) done) (map (told_after before) fs)
    ∙ ap (λ ts. start ++ ts) (sym (map-append (told_after before) done fs))
