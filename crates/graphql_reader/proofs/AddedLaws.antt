-- A selection that is added to a list.
use Rattle.std.proofs.Common.{◌≡◌, ◌↔◌, ◌++◌, ◌∷◌, [], Bool, true, false, ℕ, Option, None, refl, sym, ap, subst, ◌∙◌, IsTrue}
use Rattle.language_types.specs.declared.position.Span.{Span}
use Rattle.language_types.specs.declared.position.Spanning.{Spanning}
use Rattle.language.specs.declared.tree.FragmentSpread.{FragmentSpread}
use Rattle.language.specs.declared.tree.Selection.{Selection as Node, fold-roll-Selection}
use Rattle.language.specs.declared.tree.Selection.TheVariants as v
use Rattle.language.specs.declared.tree.Selection.TheOpen as opened
use Rattle.sdl_scalars.specs.declared.scalar.SourceScalar.{SourceScalar}
use Rattle.graphql_lexer.specs.Ahead.{ahead_of, last_end_of}
use Rattle.graphql_lexer.specs.Lexical as token
use Rattle.graphql_lexer.specs.declared.lexer.Punctuator.TheVariants.{BraceOpen}
use Rattle.graphql_lexer.specs.declared.tokens.Tokens.{Tokens}
use Rattle.graphql_reader.specs.Arguments.{name_seen}
use Rattle.graphql_reader.specs.Languages.{AField, AFieldHead, NoField, Nothing, Leaves}
use Rattle.graphql_reader.specs.OpenSets.{Adds, From, IsPart, LeavesPart, Nodes, SpellsHead}
use Rattle.graphql_reader.specs.Passed.{Reads}
use Rattle.graphql_reader.specs.Selections.{FieldHead, GivenArguments, GivenDirectives, Name, Selection, Spanless, SpellsFieldHead, SpellsInlineHead, directives_seen, field_head, field_layer, inline_head, inline_layer, leaf, selection_layer, selection_seen, spread, SpellsSelection}
use Rattle.graphql_reader.proofs.ConstantLaws.{not_so}
use Rattle.graphql_reader.proofs.PassedLaws.{reads_from}
use Rattle.graphql_reader.proofs.SelectionLaws.{leaf_read, some_field}
use Rattle.graphql_reader.proofs.SelectionLeaveLaws.{field_begun, field_whole}
use Rattle.graphql_reader.proofs.ViewLaws.{Set, field_view, inline_view, the_field, the_inline}

added : {P : Node SourceScalar → Type 0} (old kept new : Nodes) (node : Node SourceScalar) → kept ≡ old → new ≡ kept ++ node ∷ [] → P node → Adds P old new
added old kept new node e f p = (node, f ∙ ap (λ zs. zs ++ node ∷ []) e, p)

-- ---- a field, up to its set
field_part : (limit : Option ℕ) (h : FieldHead) (span : Span) (node : Node SourceScalar) (a b : Tokens) (begins : Bool)
    → Reads (SpellsFieldHead limit h) a b → span.start ≡ (ahead_of a).start → span.end ≡ last_end_of b → selection_seen node ≡ leaf h span
    → IsPart limit a b begins node
field_part limit h span node a b false r start stop is = leaf_read limit h span node a b r start stop is
field_part limit h span node a b true r start stop is =
    subst (λ s. Reads (SpellsHead limit s) a b) (sym is) (reads_from (SpellsFieldHead limit h) span.start a b (some_field limit h) start r)

pub field_added : (limit : Option ℕ) (a b : Tokens) (alias : Option Name) (name : Name) (args : GivenArguments) (ds : GivenDirectives) (span : Span) (begins : Bool) (old kept new : Nodes)
    → kept ≡ old → new ≡ kept ++ v.Field (record { item = the_field alias name args ds None; span = span }) ∷ []
    → Reads (SpellsFieldHead limit (field_head alias name args ds)) a b → span.start ≡ (ahead_of a).start → span.end ≡ last_end_of b
    → Adds (IsPart limit a b begins) old new
field_added limit a b alias name args ds span begins old kept new e f r start stop =
    let node = v.Field (record { item = the_field alias name args ds None; span = span }) in
    added old kept new node e f (field_part limit (field_head alias name args ds) span node a b begins r start stop (field_view alias name args ds None span))

pub field_left : {limit : Option ℕ} {a b : Tokens} (begins : Bool) → Leaves limit NoField AFieldHead Nothing a b
    → (IsTrue begins ↔ ((ahead_of b).token ≡ token.punctuator BraceOpen)) → LeavesPart AField limit a b begins
field_left true h is = λ d. field_begun d h (is.0 refl)
field_left false h is = λ d. field_whole d h (not_so false _ is refl)

-- ---- an inline fragment, up to its set
pub inline_added : (limit : Option ℕ) (a b : Tokens) (condition : Option Name) (ds : GivenDirectives) (set : Set) (span : Span) (old kept new : Nodes)
    → kept ≡ old → new ≡ kept ++ v.InlineFragment (record { item = the_inline condition ds set; span = span }) ∷ []
    → Reads (From span.start (SpellsInlineHead limit (inline_head condition ds))) a b → Adds (IsPart limit a b true) old new
inline_added limit a b condition ds set span old kept new e f r =
    added old kept new (v.InlineFragment (record { item = the_inline condition ds set; span = span })) e f (subst (λ s. Reads (SpellsHead limit s) a b) (sym (inline_view condition ds set span)) r)

-- ---- the spread of a fragment
pub spread_view : (s : Spanning (FragmentSpread SourceScalar) Span) → selection_seen (v.FragmentSpread s) ≡ spread (name_seen s.item.name) (directives_seen s.item.directives) s.span
spread_view s =
    ap selection_seen (sym (v.rolls-FragmentSpread s))
    ∙ fold-roll-Selection SourceScalar Selection Spanless Spanless selection_layer field_layer inline_layer (opened.FragmentSpread s)

pub spread_added : (limit : Option ℕ) (a b : Tokens) (s : Spanning (FragmentSpread SourceScalar) Span) (old kept new : Nodes)
    → kept ≡ old → new ≡ kept ++ v.FragmentSpread s ∷ []
    → Reads (λ ts. (depth : ℕ) → SpellsSelection limit depth (selection_seen (v.FragmentSpread s)) ts) a b → Adds (IsPart limit a b false) old new
spread_added limit a b s old kept new e f r = added old kept new (v.FragmentSpread s) e f r
