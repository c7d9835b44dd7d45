use Rattle.std.proofs.Common.{◌∙◌, refl, sym}
use Rattle.vorxindak.proofs.Told.{if_known, if_unknown, not_unknown, opens_kept, opens_new}
use Rattle.vorxindak.proofs.vorxindak_open.Goals as goal

-- a flag is unknown
pub returns-in_default : goal.returns-in_default
returns-in_default c = record { unknown = λ none. (refl, refl); opened = if_unknown _ _ c.dialect_of.ensures _ c.in_default.is }

-- the handle has a schema
pub returns-then-has_schema : goal.returns-then-has_schema
returns-then-has_schema c = record {
  unknown = λ none. absurd (not_unknown _ _ c.dialect_of.ensures _ c.in-Some.is none);
  opened = if_known _ _ c.dialect_of.ensures _ _ c.in-Some.is (opens_kept _ _ _ _ _ (sym c.has_schema.ensures.has ∙ c.if-has_schema.true) c.has_schema.ensures.same);
}

-- it has none
pub returns : goal.returns
returns c = record {
  unknown = λ none. absurd (not_unknown _ _ c.dialect_of.ensures _ c.in-Some.is none);
  opened = if_known _ _ c.dialect_of.ensures _ _ c.in-Some.is (opens_new _ _ _ _ _ _ (sym c.has_schema.ensures.has ∙ c.if-has_schema.false) c.open_closed.ensures);
}
