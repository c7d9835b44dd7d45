use Rattle.std.proofs.Common.{None, ap, get_or, sym, ◌∙◌}
use Rattle.merge_certificates.proofs.touched.names_at.Goals as goal

pub returns-in-Some-told : goal.returns-in-Some-told
returns-in-Some-told c =
    let lists = c.args.touched.now.lists.items in
    let at = c.in-Some.ensures.lookup in
    (c.in-Some-told.names, ap (λ zs. get_or zs c.args.k None) (sym c.deref.ensures.value) ∙ sym (at.3.1 None) ∙ c.in-Some-told.is, c.as_slice.ensures.value)
