use Rattle.std.proofs.Common.{Vec, ◌≡◌, ◌++◌, ◌∷◌, [], take, get_or, ap, sym, subst, ◌∙◌}
use Rattle.std.specs.List.{All, Contains}
use Rattle.std.specs.declared.alloc.Global.{Global}
use Rattle.std.proofs.lemmas.Result.{IfOk-weaker}
use Rattle.std.proofs.lemmas.List.{take_all}
use Rattle.std.proofs.lemmas.List.Elements.{All-more, All-weaker, Contains-append_left, Contains-push}
use Rattle.merge_sets.specs.declared.node.Entry.{Entry}
use Rattle.merge_certificates.specs.Unions.{under_object}
use Rattle.merge_sets.proofs.OneName.{no_entry}
use Rattle.merge_certificates.proofs.unions.by_objects.Goals as goal

pub loop-field-preserved : goal.loop-field-preserved
loop-field-preserved g c =
    let object = g.J.Judge.objects c.args.graph.now.judge in
    let fields = c.args.fields.now in
    let n = c.loop-field.field-index in
    let old = c.loop-field.entries.items in
    let new = c.push.new.self.items in
    let a = get_or fields n no_entry in
    let one = under_object object a in
    let is : new ≡ old ++ one ∷ [] = c.in_ok-push.ensures.items ∙ ap (λ k. old ++ record { response = k; field = a.field; below = a.below } ∷ []) c.object_number.ensures in
    All-more (λ (y : Entry). Contains new (under_object object y)) fields n no_entry c.loop-field-test.true
    (All-weaker (λ (y : Entry). Contains old (under_object object y)) (λ (y : Entry). Contains new (under_object object y))
    (λ y h. subst (λ zs. Contains zs (under_object object y)) (sym is) (Contains-append_left old (one ∷ []) (under_object object y) h)) (take n fields) c.loop-field.invariant)
    (subst (λ zs. Contains zs one) (sym is) (Contains-push old one))

pub returns : goal.returns
returns g c =
    let object = g.J.Judge.objects c.args.graph.now.judge in
    let fields = c.args.fields.now in
    let whole : All (λ (a : Entry). Contains c.loop-field.entries.items (under_object object a)) fields = subst (λ zs. All (λ (a : Entry). Contains c.loop-field.entries.items (under_object object a)) zs)
    (take_all c.loop-field.field-index fields c.loop-field-test.false) c.loop-field.invariant in
    IfOk-weaker c.make_set.result _ _
    (λ set own. subst (λ (v : Vec Entry Global). All (λ (a : Entry). Contains v.items (under_object object a)) fields) (sym own) whole)
    c.make_set.ensures.own
