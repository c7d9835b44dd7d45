-- The fragments that were met.
use Rattle.std.specs.Prelude.{◌≡◌, ◌⊎◌, ℕ, List, Option, Some, length, slice_get, IsTrue}
use denote.Ref.{Bor}
use Rattle.std.specs.BTreeSet.{BTreeSet, contains_by}
use Rattle.std.specs.Cmp.Lexicographic.{slice_cmp}
use Rattle.std.specs.Ordering.{nat_cmp, on, then_cmp}
use Rattle.std.specs.declared.cmp.Ordering.{Ordering}
use Rattle.language_types.specs.declared.position.SourcePosition.{SourcePosition}
use Rattle.language_types.specs.declared.position.Span.{Span}
use Rattle.language.specs.declared.tree.Fragment.{Fragment}
use Rattle.events.specs.Node.{Placed}
use Rattle.walk.specs.ErrorValue.{position_cmp}
use Rattle.fragment_graph.specs.declared.numbers.Numbers.{Numbers}
use Rattle.fragment_graph.specs.Numbers.{names_of, number_of}
pub use Rattle.variable_usages.specs.Names.{NameAndSpan}
use Rattle.rules_document.specs.declared.met_fragments.MetFragments.{MetFragments}

abbrev pub name_and_span : {S : Type 0} → Placed (Fragment S) → NameAndSpan
name_and_span f = (f.item.name.item.now, f.span)

-- by name, then by where the definition starts and ends
abbrev pub name_and_span_cmp : NameAndSpan → NameAndSpan → Ordering
name_and_span_cmp = then_cmp (then_cmp (on (λ p. p.0) (slice_cmp nat_cmp)) (on (λ p. p.1.start) position_cmp))
    (on (λ p. p.1.end) position_cmp)

-- those that were met and aren't the first of their name, as they are kept
abbrev pub Others : Type 0
Others = BTreeSet (Bor (List ℕ) × SourcePosition × SourcePosition)

abbrev pub IsOther : Others → NameAndSpan → Type 0
IsOther others p = IsTrue (contains_by (λ k. name_and_span_cmp p (k.0.now, record { start = k.1; end = k.2 })) others)

-- the first of its name that was met
abbrev pub IsFirst : Numbers → List (Option Span) → NameAndSpan → Type 0
IsFirst n firsts p = (k : ℕ) × (number_of n p.0 ≡ Some k) × (slice_get firsts k ≡ Some (Some p.1))

abbrev pub IsMet : Numbers → MetFragments → NameAndSpan → Type 0
IsMet n met p = IsFirst n met.firsts.items p ⊎ IsOther met.others p

-- there is a place for the first of each name, and the others stand behind a first of theirs
pub record IsKeptFor (n : Numbers) (met : MetFragments) : Type 0 where
  pub sized : length met.firsts.items ≡ length (names_of n)
  pub behind : (p : NameAndSpan) → IsOther met.others p → (first : Span) × IsFirst n met.firsts.items (p.0, first)
