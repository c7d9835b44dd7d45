-- Changes of a schema.
use Rattle.std.proofs.Common.{◌≡◌, ℕ, List, [], ◌∷◌, Bool, true, false, cond, ◌&&◌, ◌||◌, Option, map, string_bytes, refl, ap, sym, ◌∙◌}
use Rattle.std.specs.Prelude.{String, Result, Ok, Err, IfErr, OnOk, OnErr, is_ok, IsOkUnless}
use Rattle.std.specs.declared.alloc.Global.{Global}
use Rattle.std.specs.List.{list_any, list_all}
use Rattle.std.specs.Str.{bytes_eq}
use Rattle.std.specs.String.{string_eq}
use Rattle.std.proofs.lemmas.Bool.{and_parts, and_from}
use Rattle.std.proofs.lemmas.Slice.Eq.{bytes_eq-Decides}
use Rattle.indexmap.specs.IndexMap.{insert_entry}
use Rattle.schema_validation.specs.declared.error.SchemaError.{SchemaError}
use Rattle.schema_validation.specs.declared.error.SchemaError.TheVariants as e
use Rattle.meta.specs.declared.kinds.MetaTypeOf.{MetaTypeOf}
use Rattle.schema_validation.specs.declared.directives.DirectiveType.{DirectiveType}
use Rattle.schema_validation.specs.Accepted.{Roots, IsAccepted, is_listed, is_input_listed}
use Rattle.schema.specs.Catalog.{Catalog}
use Rattle.schema.specs.Changes.{directive_types, with_directive, IsTrueOfArguments}
use Rattle.schema_validation.specs.Directives.{directive_name, directive_inputs}
use Rattle.meta.specs.Kinds.{name_of_meta, is_input_meta}
use Rattle.schema_validation.specs.Named.{is_called, is_any_called, are_distinct, are_keyed}
use Rattle.schema_validation.proofs.Finds.{all-at}
use Rattle.schema_validation.proofs.KeyedLemmas.{bytes_eq-sym}
use Rattle.schema.proofs.PossibleLemmas.{weaker-all}
use Rattle.schema_validation.proofs.Refusals.{all-front, all-back, all-joined}
use Rattle.std.specs.Coded.{codes}
use mathlib.Core.HLevel.{is_prop→PathP}

true-prop : (b : Bool) → IsProp (b ≡ true)
true-prop b = hlevel codes

-- a name of a kind is a name
module _ {T : Type 0} (name_of : T → Option (List ℕ)) (kind : T → Bool) (n : List ℕ) where
  listed_step : (b q r s : Bool) → ((b && q) || r) ≡ true → (r ≡ true → s ≡ true) → (b || s) ≡ true
  listed_step true q r s h f = refl
  listed_step false q r s h f = f h

  pub kind-listed : (ts : List T) → list_any (λ t. is_called name_of n t && kind t) ts ≡ true → is_any_called name_of ts n ≡ true
  kind-listed [] h = cc
  kind-listed (t ∷ ts) h = listed_step (is_called name_of n t) (kind t) (list_any (λ u. is_called name_of n u && kind u) ts) (is_any_called name_of ts n) h (kind-listed ts)

module _ {S C : Type 0} where
  -- what are input types are listed
  pub inputs-listed : (ts : List (MetaTypeOf S C)) (ns : List (List ℕ)) → list_all (is_input_listed ts) ns ≡ true → list_all (is_listed ts) ns ≡ true
  inputs-listed ts ns h = weaker-all (is_input_listed ts) (is_listed ts) (λ n. kind-listed name_of_meta is_input_meta n ts) ns h

  IsAccepted-prop : (roots : Roots) (ts : List (MetaTypeOf S C)) → IsProp (IsAccepted roots ts)
  IsAccepted-prop roots ts = hlevel codes

  -- a schema is what callers see of it
  pub catalog-same : (c d : Catalog S C) → c.description ≡ d.description → c.types ≡ d.types → c.roots ≡ d.roots → c.directives ≡ d.directives → c.dialect ≡ d.dialect → c ≡ d
  catalog-same c d e f g h k = λ i. record {
    description = e i;
    types = f i;
    roots = g i;
    directives = h i;
    dialect = k i;
    accepted = is_prop→PathP (λ j. IsAccepted (g j) (f j)) (λ j. IsAccepted-prop (g j) (f j)) c.accepted d.accepted i;
    directive_inputs_input = is_prop→PathP (λ j. list_all (is_input_listed (f j)) (directive_inputs (h j)) ≡ true) (λ j. true-prop (list_all (is_input_listed (f j)) (directive_inputs (h j)))) c.directive_inputs_input d.directive_inputs_input i;
    directives_distinct = is_prop→PathP (λ j. are_distinct directive_name (h j) ≡ true) (λ j. true-prop (are_distinct directive_name (h j))) c.directives_distinct d.directives_distinct i;
  }

module _ {S : Type 0} (k : String Global) (d : DirectiveType S) (same : string_bytes k ≡ string_bytes d.name) where
  at_key : (e : String Global × DirectiveType S) → is_called directive_name (string_bytes e.0) e.1 ≡ true → string_eq k e.0 ≡ is_called directive_name (string_bytes d.name) e.1
  at_key e h =
      let own : string_bytes e.1.name ≡ string_bytes e.0 = (bytes_eq-Decides (string_bytes e.1.name) (string_bytes e.0)).0 h in
      (λ i. bytes_eq (same i) (sym own i)) ∙ bytes_eq-sym (string_bytes d.name) (string_bytes e.1.name)

  inserted_step : (b : Bool) (e : String Global × DirectiveType S) (es : List (String Global × DirectiveType S)) → map (λ x. x.1) (insert_entry string_eq es k d) ≡ with_directive d (map (λ x. x.1) es)
      → map (λ x. x.1) (cond b ((e.0, d) ∷ es) (e ∷ insert_entry string_eq es k d)) ≡ cond b (d ∷ map (λ x. x.1) es) (e.1 ∷ with_directive d (map (λ x. x.1) es))
  inserted_step true e es h = refl
  inserted_step false e es h = ap (λ l. e.1 ∷ l) h

  pub with-inserted : (es : List (String Global × DirectiveType S)) → are_keyed directive_name es ≡ true → map (λ x. x.1) (insert_entry string_eq es k d) ≡ with_directive d (map (λ x. x.1) es)
  with-inserted [] h = refl
  with-inserted (e ∷ es) h =
      let parts = and_parts (is_called directive_name (string_bytes e.0) e.1) (are_keyed directive_name es) h in
      inserted_step (string_eq k e.0) e es (with-inserted es parts.1)
      ∙ ap (λ b. cond b (d ∷ map (λ x. x.1) es) (e.1 ∷ with_directive d (map (λ x. x.1) es))) (at_key e parts.0)

  keyed_step : (b : Bool) (e : String Global × DirectiveType S) (es : List (String Global × DirectiveType S)) → string_eq k e.0 ≡ b → is_called directive_name (string_bytes e.0) e.1 ≡ true → are_keyed directive_name es ≡ true → are_keyed directive_name (insert_entry string_eq es k d) ≡ true
      → are_keyed directive_name (cond b ((e.0, d) ∷ es) (e ∷ insert_entry string_eq es k d)) ≡ true
  keyed_step true e es q h rest more =
      let key : string_bytes k ≡ string_bytes e.0 = (bytes_eq-Decides (string_bytes k) (string_bytes e.0)).0 q in
      and_from (is_called directive_name (string_bytes e.0) d) (are_keyed directive_name es) ((bytes_eq-Decides (string_bytes d.name) (string_bytes e.0)).1 (sym same ∙ key)) rest
  keyed_step false e es q h rest more = and_from (is_called directive_name (string_bytes e.0) e.1) (are_keyed directive_name (insert_entry string_eq es k d)) h more

  pub keyed-inserted : (es : List (String Global × DirectiveType S)) → are_keyed directive_name es ≡ true → are_keyed directive_name (insert_entry string_eq es k d) ≡ true
  keyed-inserted [] h = and_from (is_called directive_name (string_bytes k) d) true ((bytes_eq-Decides (string_bytes d.name) (string_bytes k)).1 (sym same)) refl
  keyed-inserted (e ∷ es) h =
      let parts = and_parts (is_called directive_name (string_bytes e.0) e.1) (are_keyed directive_name es) h in
      keyed_step (string_eq k e.0) e es refl parts.0 parts.1 (keyed-inserted es parts.1)

module _ {S : Type 0} (p : List ℕ → Bool) (d : DirectiveType S) (new : list_all p (directive_types d) ≡ true) where
  inputs_step : (b : Bool) (x : DirectiveType S) (xs : List (DirectiveType S)) → list_all p (directive_types x) ≡ true → list_all p (directive_inputs xs) ≡ true → list_all p (directive_inputs (with_directive d xs)) ≡ true → list_all p (directive_inputs (cond b (d ∷ xs) (x ∷ with_directive d xs))) ≡ true
  inputs_step true x xs here rest more = all-joined p (directive_types d) (directive_inputs xs) new rest
  inputs_step false x xs here rest more = all-joined p (directive_types x) (directive_inputs (with_directive d xs)) here more

  -- the types of the arguments go on passing a test
  pub inputs-with : (xs : List (DirectiveType S)) → list_all p (directive_inputs xs) ≡ true → list_all p (directive_inputs (with_directive d xs)) ≡ true
  inputs-with [] h = all-joined p (directive_types d) [] new refl
  inputs-with (x ∷ xs) h =
      let here = all-front p (directive_types x) (directive_inputs xs) h in
      let rest = all-back p (directive_types x) (directive_inputs xs) h in
      inputs_step (is_called directive_name (string_bytes d.name) x) x xs here rest (inputs-with xs rest)

-- only out of memory applies to a directive whose arguments all have input types
module _ {S C : Type 0} (ts : List (MetaTypeOf S C)) (ns : List (List ℕ)) (input : list_all (is_input_listed ts) ns ≡ true) where
  listed : list_all (is_listed ts) ns ≡ true
  listed = inputs-listed ts ns input

  memory-true : (r : SchemaError) → IsTrueOfArguments ts ns r → r ≡ e.OutOfMemory
  memory-true e.OutOfMemory h = refl
  memory-true (e.UnknownType n) h = let yes : is_listed ts (string_bytes n) ≡ true = all-at (is_listed ts) ns (string_bytes n) listed h.0 in let no : is_listed ts (string_bytes n) ≡ false = h.1 in cc
  memory-true (e.NotInputType n) h = let yes : is_input_listed ts (string_bytes n) ≡ true = all-at (is_input_listed ts) ns (string_bytes n) input h.0 in let no : is_input_listed ts (string_bytes n) ≡ false = h.2 in cc
  memory-true _ h = absurd h

  pub memory-refused : {T : Type 0} (r : Result T SchemaError) → IfErr r (IsTrueOfArguments ts ns) → IsOkUnless r e.OutOfMemory
  memory-refused (Ok x) h = tt
  memory-refused (Err x) h = memory-true x h

module _ {A T E : Type 0} (x a b : A) where
  pub on-ok-from : (r : Result T E) → x ≡ cond (is_ok r) a b → OnOk r (x ≡ a)
  on-ok-from (Ok t) e = e
  on-ok-from (Err f) e = tt

  pub on-err-from : (r : Result T E) → x ≡ cond (is_ok r) a b → OnErr r (x ≡ b)
  on-err-from (Ok t) e = tt
  on-err-from (Err f) e = e

pub inputs-either : {S : Type 0} (p : List ℕ → Bool) (d : DirectiveType S) (xs ys : List (DirectiveType S)) (b : Bool) → list_all p (directive_types d) ≡ true → list_all p (directive_inputs xs) ≡ true → ys ≡ cond b (with_directive d xs) xs → list_all p (directive_inputs ys) ≡ true
inputs-either p d xs ys true new old e = ap (λ l. list_all p (directive_inputs l)) e ∙ inputs-with p d new xs old
inputs-either p d xs ys false new old e = ap (λ l. list_all p (directive_inputs l)) e ∙ old
