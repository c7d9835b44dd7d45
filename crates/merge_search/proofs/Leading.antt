-- How steps of a search join, each as a list of tasks that leads to another.
use Rattle.std.proofs.Common.{◌≡◌, List, [], ◌∷◌, ◌++◌, reverse, refl, sym, subst, ap, ◌∙◌}
use Rattle.std.proofs.lemmas.List.{reverse-append}
use Rattle.merge_search.specs.declared.state.Search.{Search}
use Rattle.merge_search.specs.declared.task.Task.{Task}
use Rattle.merge_sets.specs.World.{World}
use Rattle.merge_search.specs.Tasks.{Meets, MeetsAll, Leads, Waits}

pushed : {A : Type 0} (ts : List A) (t : A) → reverse (ts ++ t ∷ []) ≡ t ∷ reverse ts
pushed ts t = reverse-append ts (t ∷ [])

module _ (w : World) where
  -- a task that was pushed waits
  pub waits_pushed : (t : Task) (ts us : List Task) → us ≡ ts ++ t ∷ [] → Waits w (reverse us) (Meets w t) (reverse ts)
  waits_pushed t ts us h now end m = subst (λ vs. MeetsAll w vs now end) (ap reverse h ∙ pushed ts t) m

  pub waits_none : (R : Search → Search → Type 0) (ts : List Task) → ((s : Search) → R s s) → Waits w ts R ts
  waits_none R ts f now end m = (now, f now, m)

  -- the work is done, and no task was added
  pub leads_done : (R : Search → Search → Type 0) (ts : List Task) {old now : Search} → R old now → Leads w ts now R ts old
  leads_done R ts {old} {now} r end m = (now, r, m)

  -- what is equal has the same work
  pub leads_is : {X : Type 0} (R : X → Search → Search → Type 0) (x y : X) (ts us : List Task) (now old : Search) → x ≡ y
      → Leads w ts now (R y) us old → Leads w ts now (R x) us old
  leads_is R x y ts us now old e go = subst (λ z. Leads w ts now (R z) us old) (sym e) go

  -- what was led to is more than what was asked
  pub leads_turn : (R T : Search → Search → Type 0) (ts us : List Task) (mid old now : Search) → ((t : Search) → R mid t → T old t)
      → Leads w ts now R us mid → Leads w ts now T us old
  leads_turn R T ts us mid old now f go end m = let x = go end m in (x.0, f x.0 x.1, x.2)

  -- what comes after it waits
  pub leads_next : (R S T : Search → Search → Type 0) (ts us vs : List Task) (now old : Search) → ((t u : Search) → R old t → S t u → T old u)
      → Waits w us S vs → Leads w ts now R us old → Leads w ts now T vs old
  leads_next R S T ts us vs now old f wait go end m = let x = go end m in let y = wait x.0 end x.2 in (y.0, f x.0 y.0 x.1 y.1, y.2)

  -- the same where something was noted before
  pub leads_after : (R S T : Search → Search → Type 0) (ts us vs : List Task) (now mid old : Search) → ((t u : Search) → R mid t → S t u → T old u)
      → Waits w us S vs → Leads w ts now R us mid → Leads w ts now T vs old
  leads_after R S T ts us vs now mid old f wait go end m = let x = go end m in let y = wait x.0 end x.2 in (y.0, f x.0 y.0 x.1 y.1, y.2)

  -- and two pieces wait after it
  pub leads_both : (R S S' T : Search → Search → Type 0) (ts us vs zs : List Task) (now mid old : Search) → ((t u z : Search) → R mid t → S t u → S' u z → T old z)
      → Waits w us S vs → Waits w vs S' zs → Leads w ts now R us mid → Leads w ts now T zs old
  leads_both R S S' T ts us vs zs now mid old f wait more go end m =
      let x = go end m in
      let y = wait x.0 end x.2 in
      let z = more y.0 end y.2 in
      (z.0, f x.0 y.0 z.0 x.1 y.1 z.1, z.2)

  -- four pieces wait one after the other
  pub waits_four : (A B C D T : Search → Search → Type 0) (us vs xs ys zs : List Task)
      → ((s t u v z : Search) → A s t → B t u → C u v → D v z → T s z)
      → Waits w zs A ys → Waits w ys B xs → Waits w xs C vs → Waits w vs D us → Waits w zs T us
  waits_four A B C D T us vs xs ys zs f a b c d now end m =
      let x = a now end m in
      let y = b x.0 end x.2 in
      let z = c y.0 end y.2 in
      let q = d z.0 end z.2 in
      (q.0, f now x.0 y.0 z.0 q.0 x.1 y.1 z.1 q.1, q.2)

  -- a task that was taken off leads on
  pub taken : (ts rest new us : List Task) (t : Task) (now mid old : Search) → ts ≡ rest ++ t ∷ []
      → ((end : Search) → MeetsAll w (reverse ts) mid end → MeetsAll w us old end)
      → Leads w (reverse new) now (Meets w t) (reverse rest) mid
      → (end : Search) → MeetsAll w (reverse new) now end → MeetsAll w us old end
  taken ts rest new us t now mid old e h go end m = h end (subst (λ vs. MeetsAll w vs mid end) (sym (ap reverse e ∙ pushed rest t)) (go end m))

  -- with all tasks done, so is what led to them
  pub all_done : (R : Search → Search → Type 0) (ts us : List Task) (now old mid : Search) → us ≡ [] → Leads w ts now R (reverse us) old → MeetsAll w ts now mid → R old mid
  all_done R ts us now old mid none go m =
      let x = go mid m in
      let same : x.0 ≡ mid = subst (λ vs. MeetsAll w (reverse vs) (x.0) mid) none x.2 in
      subst (λ z. R old z) same x.1

  pub none_left : (ts us : List Task) (now old : Search) → ts ≡ []
      → ((end : Search) → MeetsAll w (reverse ts) now end → MeetsAll w us old end) → MeetsAll w us old now
  none_left ts us now old e h = h now (subst (λ vs. MeetsAll w (reverse vs) now now) (sym e) refl)
