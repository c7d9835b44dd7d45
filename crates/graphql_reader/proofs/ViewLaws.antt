-- What a field, an inline fragment and the spread of a fragment stand for.
use Rattle.std.proofs.Common.{◌≡◌, ◌∙◌, Option, Some, None, option_map, Vec, refl, ap, sym}
use Rattle.std.specs.declared.alloc.Global.{Global}
use Rattle.language_types.specs.declared.position.SourcePosition.{SourcePosition}
use Rattle.language_types.specs.declared.position.Span.{Span}
use Rattle.language_types.specs.declared.position.Spanning.{Spanning}
use Rattle.language.specs.declared.tree.Arguments.{Arguments}
use Rattle.language.specs.declared.tree.Field.{Field, fold-Field, fold-roll-Field, fold_out-Field, map-Field, out-Field, roll-Field}
use Rattle.language.specs.declared.tree.InlineFragment.{InlineFragment, fold-InlineFragment, fold-roll-InlineFragment, fold_out-InlineFragment, out-InlineFragment, roll-InlineFragment}
use Rattle.language.specs.declared.tree.Selection.{Selection as Node, fold-roll-Selection, out-Selection, out-roll-Selection}
use Rattle.language.specs.declared.tree.Selection.TheVariants as v
use Rattle.language.specs.declared.tree.Selection.TheOpen as opened
use Rattle.sdl_scalars.specs.declared.scalar.SourceScalar.{SourceScalar}
use Rattle.graphql_reader.specs.OpenSets.{given_field, given_inline, given_set, until}
use Rattle.graphql_reader.specs.Selections.{FieldHead, Selection, Selections, field, inline, Spanless, Name, GivenDirectives, field_head, inline_head, with_set, selection_layer, field_layer, inline_layer, selection_seen, nodes_seen}

abbrev pub Set : Type 0
Set = Vec (Node SourceScalar) Global

abbrev Given : Type 0
Given = Option (Spanning (Arguments SourceScalar) Span)

abbrev pub the_field : Option Name → Name → Given → GivenDirectives → Option Set → Field SourceScalar
the_field alias name args ds set = roll-Field SourceScalar (record { alias = alias; name = name; arguments = args; directives = ds; selection_set = set })

content_view : (alias : Option Name) (name : Name) (args : Given) (ds : GivenDirectives) (set : Option Set) (span : Span) → selection_seen (v.Field (record { item = the_field alias name args ds set; span = span })) ≡ selection_layer (opened.Field (record { item = fold-Field SourceScalar Selection Spanless Spanless selection_layer field_layer inline_layer (the_field alias name args ds set); span = span }))
content_view alias name args ds set span =
    ap selection_seen (sym (v.rolls-Field (record { item = the_field alias name args ds set; span = span })))
    ∙ fold-roll-Selection SourceScalar Selection Spanless Spanless selection_layer field_layer inline_layer (opened.Field (record { item = the_field alias name args ds set; span = span }))

pub field_view : (alias : Option Name) (name : Name) (args : Given) (ds : GivenDirectives) (set : Option Set) (span : Span) → selection_seen (v.Field (record { item = the_field alias name args ds set; span = span })) ≡ with_set (field_head alias name args ds) (option_map (λ s. nodes_seen s.items) set) span
field_view alias name args ds None span =
    content_view alias name args ds None span
    ∙ ap (λ (b : Spanless). b span) (fold-roll-Field SourceScalar Selection Spanless Spanless selection_layer field_layer inline_layer (record { alias = alias; name = name; arguments = args; directives = ds; selection_set = None }))
field_view alias name args ds (Some set) span =
    content_view alias name args ds (Some set) span
    ∙ ap (λ (b : Spanless). b span) (fold-roll-Field SourceScalar Selection Spanless Spanless selection_layer field_layer inline_layer (record { alias = alias; name = name; arguments = args; directives = ds; selection_set = Some set }))

abbrev pub the_inline : Option Name → GivenDirectives → Set → InlineFragment SourceScalar
the_inline condition ds set = roll-InlineFragment SourceScalar (record { type_condition = condition; directives = ds; selection_set = set })

pub inline_view : (condition : Option Name) (ds : GivenDirectives) (set : Set) (span : Span) → selection_seen (v.InlineFragment (record { item = the_inline condition ds set; span = span })) ≡ inline (inline_head condition ds) (nodes_seen set.items) span
inline_view condition ds set span =
    ap selection_seen (sym (v.rolls-InlineFragment (record { item = the_inline condition ds set; span = span })))
    ∙ fold-roll-Selection SourceScalar Selection Spanless Spanless selection_layer field_layer inline_layer (opened.InlineFragment (record { item = the_inline condition ds set; span = span }))
    ∙ ap (λ (b : Spanless). b span) (fold-roll-InlineFragment SourceScalar Selection Spanless Spanless selection_layer field_layer inline_layer (record { type_condition = condition; directives = ds; selection_set = set }))

-- ---- a set that is given to a field or an inline fragment
abbrev head_of : Field SourceScalar → FieldHead
head_of f = field_head (out-Field SourceScalar f).alias (out-Field SourceScalar f).name (out-Field SourceScalar f).arguments (out-Field SourceScalar f).directives

field_content : (f : Field SourceScalar) (span : Span) → selection_seen (v.Field (record { item = f; span = span })) ≡ with_set (head_of f) (option_map (λ s. nodes_seen s.items) (out-Field SourceScalar f).selection_set) span
field_content f span =
    ap selection_seen (sym (v.rolls-Field (record { item = f; span = span })))
    ∙ fold-roll-Selection SourceScalar Selection Spanless Spanless selection_layer field_layer inline_layer (opened.Field (record { item = f; span = span }))
    ∙ ap (λ (b : Spanless). b span) (fold_out-Field SourceScalar Selection Spanless Spanless selection_layer field_layer inline_layer f)
    ∙ elim (out-Field SourceScalar f).selection_set as (λ o. field_layer (map-Field SourceScalar (Node SourceScalar) (Field SourceScalar) (InlineFragment SourceScalar) Selection Spanless Spanless selection_seen (fold-Field SourceScalar Selection Spanless Spanless selection_layer field_layer inline_layer) (fold-InlineFragment SourceScalar Selection Spanless Spanless selection_layer field_layer inline_layer) (record (out-Field SourceScalar f) { selection_set = o })) span ≡ with_set (head_of f) (option_map (λ s. nodes_seen s.items) o) span) [ None ↦ refl | Some s ↦ refl ]

inline_content : (i : InlineFragment SourceScalar) (span : Span) → selection_seen (v.InlineFragment (record { item = i; span = span })) ≡ inline (inline_head (out-InlineFragment SourceScalar i).type_condition (out-InlineFragment SourceScalar i).directives) (nodes_seen (out-InlineFragment SourceScalar i).selection_set.items) span
inline_content i span =
    ap selection_seen (sym (v.rolls-InlineFragment (record { item = i; span = span })))
    ∙ fold-roll-Selection SourceScalar Selection Spanless Spanless selection_layer field_layer inline_layer (opened.InlineFragment (record { item = i; span = span }))
    ∙ ap (λ (b : Spanless). b span) (fold_out-InlineFragment SourceScalar Selection Spanless Spanless selection_layer field_layer inline_layer i)

span_until : (new old : Span) (end : SourcePosition) → new.start ≡ old.start → new.end ≡ end → new ≡ until old end
span_until new old end p q =
    ap (λ a. record { start = a; end = new.end }) p ∙ ap (λ b. record { start = old.start; end = b }) q

given_to_field : (h : FieldHead) (old : Option Selections) (span : Span) (set : Selections) (end : SourcePosition) → given_set (with_set h old span) set end ≡ field h set (until span end)
given_to_field h None span set end = refl
given_to_field h (Some s) span set end = refl

pub field_given : (old new : Spanning (Field SourceScalar) Span) (set : Set) (end : SourcePosition) → new.item ≡ given_field old.item set → new.span.start ≡ old.span.start → new.span.end ≡ end → selection_seen (v.Field new) ≡ given_set (selection_seen (v.Field old)) (nodes_seen set.items) end
field_given old new set end is p q =
    let o = out-Field SourceScalar old.item in
    ap (λ f. selection_seen (v.Field (record { item = f; span = new.span }))) is
    ∙ field_view o.alias o.name o.arguments o.directives (Some set) new.span
    ∙ ap (field (head_of old.item) (nodes_seen set.items)) (span_until new.span old.span end p q)
    ∙ sym (ap (λ s. given_set s (nodes_seen set.items) end) (field_content old.item old.span) ∙ given_to_field (head_of old.item) (option_map (λ s. nodes_seen s.items) o.selection_set) old.span (nodes_seen set.items) end)

pub inline_given : (old new : Spanning (InlineFragment SourceScalar) Span) (set : Set) (end : SourcePosition) → new.item ≡ given_inline old.item set → new.span.start ≡ old.span.start → new.span.end ≡ end → selection_seen (v.InlineFragment new) ≡ given_set (selection_seen (v.InlineFragment old)) (nodes_seen set.items) end
inline_given old new set end is p q =
    let o = out-InlineFragment SourceScalar old.item in
    ap (λ i. selection_seen (v.InlineFragment (record { item = i; span = new.span }))) is
    ∙ inline_view o.type_condition o.directives set new.span
    ∙ ap (inline (inline_head o.type_condition o.directives) (nodes_seen set.items)) (span_until new.span old.span end p q)
    ∙ sym (ap (λ s. given_set s (nodes_seen set.items) end) (inline_content old.item old.span))

pub out_field : (f : Spanning (Field SourceScalar) Span) → out-Selection SourceScalar (v.Field f) ≡ opened.Field f
out_field f = ap (out-Selection SourceScalar) (sym (v.rolls-Field f)) ∙ out-roll-Selection SourceScalar (opened.Field f)

pub out_inline : (i : Spanning (InlineFragment SourceScalar) Span) → out-Selection SourceScalar (v.InlineFragment i) ≡ opened.InlineFragment i
out_inline i = ap (out-Selection SourceScalar) (sym (v.rolls-InlineFragment i)) ∙ out-roll-Selection SourceScalar (opened.InlineFragment i)
