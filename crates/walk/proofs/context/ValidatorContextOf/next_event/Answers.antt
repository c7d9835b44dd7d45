use Rattle.std.proofs.Common.{map, refl, ap, sym, ◌∙◌, subst, IfOk}
use Rattle.events.specs.EventValue.{typing_of}
use Rattle.events.specs.Cursor.{IsNextLeft}
use Rattle.walk.specs.ContextState.{popped, failing}
use Rattle.fragment_graph.specs.KeptNames.{kept_by}
use Rattle.walk.proofs.Runs.{OnErr-from, OnOk-from}
use Rattle.walk.proofs.Replaced.{popped-replaced, typing-replaced}
use Rattle.walk.proofs.context.ValidatorContextOf.next_event.Goals as goal

pub returns-then-is_err-clause-err : goal.returns-then-is_err-clause-err
returns-then-is_err-clause-err g c =
    OnErr-from _ c.next-found.result (ap failing (popped-replaced (record { allocator = c.self.inside.alloc; schema = c.self.inside.schema.now; known = kept_by c.self.inside.fragment_names; typings = map typing_of c.self.inside.types.items; errors = c.self.inside.kept.errors.items; limit = c.self.inside.kept.limit; failed = c.self.inside.failed }) c.self.inside.types.items c.self.inside.types.len c.next-found.new.at refl c.self.inside.types.ok.0 (c.in-Some.ensures.variant.0 refl)) ∙ ap (λ w. failing (popped w)) c.self.view_is)

pub returns-else-is_err-clause-ok : goal.returns-else-is_err-clause-ok
returns-else-is_err-clause-ok g c =
    OnOk-from _ c.next-found.result (popped-replaced (record { allocator = c.self.inside.alloc; schema = c.self.inside.schema.now; known = kept_by c.self.inside.fragment_names; typings = map typing_of c.self.inside.types.items; errors = c.self.inside.kept.errors.items; limit = c.self.inside.kept.limit; failed = c.self.inside.failed }) c.self.inside.types.items c.self.inside.types.len c.next-found.new.at refl c.self.inside.types.ok.0 (c.in-Some.ensures.variant.0 refl) ∙ ap popped c.self.view_is)

pub returns-else-is_err-clause-next : goal.returns-else-is_err-clause-next
returns-else-is_err-clause-next g c =
    subst (λ t. IfOk c.next-found.result (λ found. IsNextLeft found t c.args.cursor.now c.next-found.new.self)) (sym (typing-replaced (record { allocator = c.self.inside.alloc; schema = c.self.inside.schema.now; known = kept_by c.self.inside.fragment_names; typings = map typing_of c.self.inside.types.items; errors = c.self.inside.kept.errors.items; limit = c.self.inside.kept.limit; failed = c.self.inside.failed }) c.self.inside.types.items c.self.inside.types.len c.next-found.new.at refl c.self.inside.types.ok.0 (c.in-Some.ensures.variant.0 refl))) c.next-found.ensures
