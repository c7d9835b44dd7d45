use Rattle.std.proofs.Common.{◌≡◌, ◌<◌, ◌+◌, ap, sym, ◌∙◌, subst, length, get_or, take, string_bytes, refl, arith}
use Rattle.std.proofs.lemmas.List.{get_or-map, length-map}
use Rattle.variable_values.specs.NameSet.{has_name}
use Rattle.variable_values.specs.Keys.{field_names, keys_of, unknown_keys}
use Rattle.variable_values.specs.Places.{before}
use Rattle.variable_values.proofs.KeyLaws.{HasBoth, noted_more, told_noted, unknown_more}
use Rattle.variable_values.proofs.keys.add_unknown_keys.Goals as goal

pub loop-key-preserved : goal.loop-key-preserved
loop-key-preserved g c =
    let entries = c.args.entries.now in
    let keys = keys_of entries in
    let fields = field_names c.args.fields.now in
    let i = c.loop-key.key-index in
    let k = c.as_str.result.now in
    let here : i < length keys = let same = length-map entries (λ e. string_bytes e.0.item) in let test = c.loop-key-test.true in omega (arith, same, test) in
    let is : get_or keys i k ≡ k = get_or-map (λ e. string_bytes e.0.item) entries i c.loop-key-item.result k c.loop-key-test.true ∙ sym (ap (λ e. string_bytes e.0.item) c.loop-key-item.is) ∙ sym c.as_str.ensures.value in
    let more = unknown_more fields keys i k here is in
    let one = noted_more (has_name c.loop-key.noted k) k c.loop-key.noted c.note_key.new.noted fields (unknown_keys fields (take i keys)) refl c.in_ok-note_key.ensures.noted c.loop-key.invariant.has_both in
    record {
      told = told_noted (has_name c.loop-key.noted k) (before c.args.place.now) k _ _ _ (unknown_keys fields (take i keys)) (unknown_keys fields (take (i + 1) keys)) c.loop-key.invariant.told c.in_ok-note_key.ensures.told (more ∙ one.0);
      has_both = subst (HasBoth c.note_key.new.noted fields) (sym more) one.1;
    }
