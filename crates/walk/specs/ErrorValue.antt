-- An error of validation as callers see it.
use Rattle.std.specs.Prelude.{◌≡◌, ◌↔◌, ℕ, ◌+◌, ◌/◌, List, [], ◌∷◌, ◌++◌, length, codes}
use Rattle.std.specs.List.{flat_map, sum_by}
use Rattle.std.specs.declared.cmp.Ordering.{Ordering}
use Rattle.std.specs.declared.cmp.Ordering.TheVariants.{Equal}
use Rattle.std.specs.Ordering.{nat_cmp, on, then_cmp}
use Rattle.std.specs.Cmp.Lexicographic.{slice_cmp}
use Rattle.language_types.specs.declared.position.SourcePosition.{SourcePosition}
use Rattle.language_types.specs.Position.{index_of, line_of, column_of, printed_position}

-- the places in their order, and the bytes of the message
pub record ErrorValue : Type 0 where
  pub locations : List SourcePosition
  pub message : List ℕ

-- how much of a limit an error takes: one, and one more for each 4096 bytes of its message
abbrev pub share : ErrorValue → ℕ
share e = 1 + length e.message / 4096

-- how much errors take together
abbrev pub shares : List ErrorValue → ℕ
shares = sum_by share

-- by index, then line, then column
abbrev pub position_cmp : SourcePosition → SourcePosition → Ordering
position_cmp = then_cmp (on index_of nat_cmp) (then_cmp (on line_of nat_cmp) (on column_of nat_cmp))

-- place by place, a beginning before a longer list, and then by the bytes of the message
abbrev pub error_cmp : ErrorValue → ErrorValue → Ordering
error_cmp = then_cmp (on (λ e. e.locations) (slice_cmp position_cmp)) (on (λ e. e.message) (slice_cmp nat_cmp))

-- two errors compare as equal if and only if they are the same error
abbrev pub EqualMeansSame : Type 0
EqualMeansSame = (a b : ErrorValue) → (error_cmp a b ≡ Equal) ↔ (a ≡ b)

-- places after a first one
abbrev pub more_places : List SourcePosition → List ℕ
more_places ps = flat_map (λ p. codes ", " ++ printed_position p) ps

-- places with commas between them
abbrev pub printed_places : List SourcePosition → List ℕ
printed_places [] = []
printed_places (p ∷ ps) = printed_position p ++ more_places ps

-- what an error prints
abbrev pub printed_error : ErrorValue → List ℕ
printed_error e = (e.message ++ codes ". At ") ++ printed_places e.locations
