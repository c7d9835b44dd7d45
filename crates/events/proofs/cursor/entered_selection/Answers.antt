use Rattle.std.proofs.Common.{sym, ap}
use Rattle.events.specs.Place.{node_of_layer, entered}
use Rattle.events.proofs.Levels.{field_level, spread_level, inline_level}
use Rattle.events.proofs.cursor.entered_selection.Goals as goal

pub returns-in-Field : goal.returns-in-Field
returns-in-Field g c = λ t. ap (λ l. entered (node_of_layer l) t) (sym (field_level _ _ c.in-Field.is))

pub returns-in-FragmentSpread : goal.returns-in-FragmentSpread
returns-in-FragmentSpread g c = λ t. ap (λ l. entered (node_of_layer l) t) (sym (spread_level _ _ c.in-FragmentSpread.is))

pub returns-in-InlineFragment : goal.returns-in-InlineFragment
returns-in-InlineFragment g c = λ t. ap (λ l. entered (node_of_layer l) t) (sym (inline_level _ _ c.in-InlineFragment.is))
