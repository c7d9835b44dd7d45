use Rattle.std.proofs.Common.{◌∙◌, ap}
use Rattle.std.proofs.lemmas.List.{nil_from_length}
use Rattle.language_values.specs.Values.{variables_of_all, variables_of_object}
use Rattle.language_values.specs.ValuesLeft.{variables_left, values_left}
use Rattle.language_values.proofs.VariablesWaiting.{split_items, split_entries, split_items_inside, split_entries_inside}
use Rattle.language_values.proofs.value.Rest.split_first.Goals as goal

pub returns-in-None : goal.returns-in-None
returns-in-None g c = record {
  some = tt;
  less = tt;
  none = λ e. ap variables_left c.in-Items.is
      ∙ ap variables_of_all (nil_from_length c.in-Items.items.now c.in-None.ensures.cases);
}

pub returns-in-Some : goal.returns-in-Some
returns-in-Some g c = record {
  some = ap variables_left c.in-Items.is
      ∙ split_items c.in-Items.items.now c.in-Some.others.now c.in-Some.first.now c.in-Some.ensures.cases.0;
  less = ap values_left c.in-Items.is
      ∙ split_items_inside c.in-Items.items.now c.in-Some.others.now c.in-Some.first.now c.in-Some.ensures.cases.0;
  none = λ e. cc;
}

pub returns-in-None-split_first : goal.returns-in-None-split_first
returns-in-None-split_first g c = record {
  some = tt;
  less = tt;
  none = λ e. ap variables_left c.in-Entries.is
      ∙ ap variables_of_object (nil_from_length c.in-Entries.entries.now c.in-None-split_first.ensures.cases);
}

pub returns-in-Some-split_first : goal.returns-in-Some-split_first
returns-in-Some-split_first g c = record {
  some = ap variables_left c.in-Entries.is
      ∙ split_entries c.in-Entries.entries.now c.in-Some-split_first.others.now c.in-Some-split_first.field-0-0.now
      c.in-Some-split_first.ensures.cases.0;
  less = ap values_left c.in-Entries.is
      ∙ split_entries_inside c.in-Entries.entries.now c.in-Some-split_first.others.now c.in-Some-split_first.field-0-0.now
      c.in-Some-split_first.ensures.cases.0;
  none = λ e. cc;
}
