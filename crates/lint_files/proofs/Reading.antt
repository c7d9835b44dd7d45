-- What is read of paths, as loops go on.
use denote.Ref.{Bor}
use Rattle.std.proofs.Common.{◌≡◌, ◌∙◌, ◌+◌, ◌<◌, ◌||◌, ℕ, Bool, true, false, List, [], ◌∷◌, ◌++◌, Option, append_assoc, length, get_or, take, refl, sym, subst, ap, cond, String, string_bytes}
use Rattle.std.specs.declared.alloc.Global.{Global}
use Rattle.std.specs.List.{list_any}
use Rattle.std.specs.Option.{IfSome, option_to_list}
use Rattle.std.specs.Str.{bytes_eq}
use Rattle.std.proofs.lemmas.List.{get_or_default, map-append, take_more}
use Rattle.lint_args.proofs.Distinct.{distinct-append}
use Rattle.lint_args.specs.Asks.{added_once, distinct, word_texts}
use Rattle.lint_files.specs.Host.{Host}
use Rattle.lint_files.specs.Paths.{AddsEach, Paths, StandsFor}
use Rattle.lint_files.specs.Read.{IsFileOf, IsReadOf}
use Rattle.lint_sources.specs.declared.sources.Source.{Source}
use Rattle.variable_values.proofs.InTurns.{Done, done_more}

-- one more path
pub paths_more : (host : Host) (paths : Paths) (k : ℕ) (path : String Global) (name : List ℕ) (before new : List Source) (read : Option Source) → k < length paths
    → path ≡ get_or paths k path → name ≡ string_bytes path → IfSome read (IsFileOf host name) → new ≡ before ++ option_to_list read → Done (IsReadOf host) paths k before → Done (IsReadOf host) paths (k + 1) new
paths_more host paths k path name before new read here is named found added h =
    subst (Done (IsReadOf host) paths (k + 1)) (sym added)
    (done_more (IsReadOf host) paths k path before (option_to_list read) here is h (read, refl, subst (λ text. IfSome read (IsFileOf host text)) named found))

-- one more argument, and the paths that it stands for
pub stood_more : (host : Host) (arguments : List (Bor (List ℕ))) (k : ℕ) (d : Bor (List ℕ)) (before stood new : Paths) → k < length arguments
    → StandsFor host (get_or arguments k d).now stood → AddsEach stood before new
    → (all : Paths) × Done (λ index argument. StandsFor host argument.now) arguments k all × (word_texts before ≡ distinct (word_texts all))
    → (all : Paths) × Done (λ index argument. StandsFor host argument.now) arguments (k + 1) all × (word_texts new ≡ distinct (word_texts all))
stood_more host arguments k d before stood new here stands added (all, done, known) =
    let argument = get_or arguments k d in (
      all ++ stood,
      done_more (λ index argument. StandsFor host argument.now) arguments k argument all stood here (get_or_default arguments k d argument here) done stands,
      added (word_texts all) known ∙ ap distinct (sym (map-append string_bytes all stood)),
    )

-- one more path is added to those that are there
pub path_more : (more : Paths) (k : ℕ) (path : String Global) (name : List ℕ) (old before new : Paths) → k < length more → path ≡ get_or more k path → name ≡ string_bytes path
    → word_texts new ≡ added_once (word_texts before) name → AddsEach (take k more) old before → AddsEach (take (k + 1) more) old new
path_more more k path name old before new here is named added h = λ known distinct_is.
    let so_far = h known distinct_is in
    added ∙ ap (λ texts. added_once texts name) so_far ∙ sym (distinct-append (known ++ word_texts (take k more)) name)
    ∙ ap distinct (append_assoc known (word_texts (take k more)) (name ∷ []))
    ∙ ap (λ text. distinct (known ++ (word_texts (take k more) ++ text ∷ []))) named
    ∙ ap (λ texts. distinct (known ++ texts)) (sym (map-append string_bytes (take k more) (path ∷ [])))
    ∙ ap (λ paths. distinct (known ++ word_texts paths)) (ap (λ p. take k more ++ p ∷ []) is ∙ sym (take_more more k path here))

any_texts : (path : List ℕ) (paths : Paths) → list_any (λ other. bytes_eq path (string_bytes other)) paths ≡ list_any (bytes_eq path) (word_texts paths)
any_texts path [] = refl
any_texts path (other ∷ paths) = ap (λ b. bytes_eq path (string_bytes other) || b) (any_texts path paths)

is_known : (path : List ℕ) (paths slice : Paths) (b value : Bool) → slice ≡ paths → b ≡ list_any (λ other. bytes_eq path (string_bytes other)) slice → b ≡ value → list_any (bytes_eq path) (word_texts paths) ≡ value
is_known path paths slice b value alike any is = sym (any_texts path paths) ∙ sym (ap (list_any (λ other. bytes_eq path (string_bytes other))) alike) ∙ sym any ∙ is

-- a path that is there, and one that is not
pub known_once : (path : List ℕ) (paths slice : Paths) (b : Bool) → slice ≡ paths → b ≡ list_any (λ other. bytes_eq path (string_bytes other)) slice → b ≡ true → word_texts paths ≡ added_once (word_texts paths) path
known_once path paths slice b alike any is = sym (ap (λ known. cond known (word_texts paths) (word_texts paths ++ path ∷ [])) (is_known path paths slice b true alike any is))

pub new_once : (path : List ℕ) (added : String Global) (paths slice new : Paths) (b : Bool) → slice ≡ paths → b ≡ list_any (λ other. bytes_eq path (string_bytes other)) slice → b ≡ false
    → string_bytes added ≡ path → new ≡ paths ++ added ∷ [] → word_texts new ≡ added_once (word_texts paths) path
new_once path added paths slice new b alike any is spelled pushed =
    ap word_texts pushed ∙ map-append string_bytes paths (added ∷ []) ∙ ap (λ text. word_texts paths ++ text ∷ []) spelled
    ∙ sym (ap (λ known. cond known (word_texts paths) (word_texts paths ++ path ∷ [])) (is_known path paths slice b false alike any is))
