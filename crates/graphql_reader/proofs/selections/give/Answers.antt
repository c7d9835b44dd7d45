use Rattle.std.proofs.Common.{◌≡◌, subst}
use Rattle.language_types.specs.declared.position.Span.{Span}
use Rattle.language_types.specs.declared.position.Spanning.{Spanning}
use Rattle.language.specs.declared.tree.Field.{Field}
use Rattle.language.specs.declared.tree.InlineFragment.{InlineFragment}
use Rattle.sdl_scalars.specs.declared.scalar.SourceScalar.{SourceScalar}
use Rattle.graphql_lexer.specs.Ahead.{last_end_of}
use Rattle.graphql_reader.specs.OpenSets.{given_field, given_inline}
use Rattle.graphql_reader.proofs.ViewLaws.{field_given, inline_given, out_field, out_inline}
use Rattle.graphql_reader.proofs.selections.give.Goals as goal

pub returns-in-Field : goal.returns-in-Field
returns-in-Field c =
    let new = c.give_field.new.field in
    let is = subst (λ (f : Spanning (Field SourceScalar) Span). new.item ≡ given_field f.item c.args.set) c.in-Field.field-is c.give_field.ensures.item in
    let start = subst (λ (f : Spanning (Field SourceScalar) Span). new.span.start ≡ f.span.start) c.in-Field.field-is c.give_field.ensures.start in
    rw (c.in-Field.is, out_field c.in-Field.field) (field_given c.in-Field.field new c.args.set (last_end_of c.args.tokens.now) is start c.give_field.ensures.end)

pub returns-in-InlineFragment : goal.returns-in-InlineFragment
returns-in-InlineFragment c =
    let new = c.give_inline.new.inline in
    let is = subst (λ (i : Spanning (InlineFragment SourceScalar) Span). new.item ≡ given_inline i.item c.args.set) c.in-InlineFragment.inline-is c.give_inline.ensures.item in
    let start = subst (λ (i : Spanning (InlineFragment SourceScalar) Span). new.span.start ≡ i.span.start) c.in-InlineFragment.inline-is c.give_inline.ensures.start in
    rw (c.in-InlineFragment.is, out_inline c.in-InlineFragment.inline) (inline_given c.in-InlineFragment.inline new c.args.set (last_end_of c.args.tokens.now) is start c.give_inline.ensures.end)
