-- What the tasks of a search cost together.
use Rattle.std.proofs.Common.{◌≡◌, ◌+◌, ◌*◌, ◌<◌, ◌≤◌, ◌∙◌, ◌++◌, ◌∷◌, [], ℕ, true, false, List, ap, arith, drop, get_or, length, max, min, subst, sym, Result, Ok, Err, OnOk}
use Rattle.std.specs.Prelude.{sum_by}
use Rattle.std.specs.Option.{option_map_or}
use Rattle.std.proofs.lemmas.List.Sums.{get_or-le-sum_by, sum_by-cons, sum_by-drop_more, sum_by_push}
use Rattle.std.proofs.lemmas.Nat.{mul-le}
use Rattle.std.proofs.lemmas.Option.{slice_get-get_or, slice_get_past}
use Rattle.merge_search.specs.declared.log.Log.{Log}
use Rattle.merge_sets.specs.declared.node.Entry.{Entry}
use Rattle.merge_search.specs.declared.state.Search.{Search}
use Rattle.merge_search.specs.declared.task.Task.{Task}
use Rattle.merge_search.specs.Counts.{most_repeats}
use Rattle.merge_search.specs.Log.{in_log}
use Rattle.merge_search.specs.Spending.{AsksUpto, Compares, ComparesUpto, CostsMore, Pays, Spends, Takes, credit, list_cost, name_cost, open_cost, pair_cost, repeat_cost, row_cost, rows_cost, sets_cost, settle_cost, task_cost, tasks_cost, worth}
use Rattle.merge_search.specs.State.{CountsStay, Keeps}
use Rattle.merge_search.specs.Weight.{below_weight, field_weight, fields_weight, fragment_weight, weight}
use Rattle.merge_sets.specs.Names.{named}
use Rattle.merge_sets.specs.World.{World, own_of}
use Rattle.merge_sets.proofs.OneName.{in_list, named_is, no_entry}
use Rattle.merge_search.proofs.Spent.{row_next}
use Rattle.merge_search.proofs.Weights.{length_weight, sum_by_same}

pub pushed_cost : (w : World) (t : Task) (ts us : List Task) → us ≡ ts ++ t ∷ [] → tasks_cost w us ≡ tasks_cost w ts + task_cost w t
pushed_cost w t ts us is = ap (tasks_cost w) is ∙ sum_by_push (task_cost w) ts t

pub costs_pushed : (w : World) (t : Task) (ts us : List Task) → us ≡ ts ++ t ∷ [] → CostsMore w (task_cost w t) ts us
costs_pushed w t ts us is = record { most = omega (arith, pushed_cost w t ts us is) }

-- what pays, by the questions that were asked
abbrev credit_of : World → Log → Log → ℕ → ℕ
credit_of w ps ss r =
    let n = length w.fragments in
    let m = length w.sets in
    worth n n (fragment_weight w) (fragment_weight w) (λ f g. in_log ps false (max f g) (min f g))
    + worth n n (fragment_weight w) (fragment_weight w) (λ f g. in_log ps true (max f g) (min f g))
    + worth m n (weight w) (fragment_weight w) (λ i g. in_log ss false i g) + worth m n (weight w) (fragment_weight w) (λ i g. in_log ss true i g)
    + repeat_cost * min r most_repeats

pub credit_same : (w : World) (s t : Search) → t.pairs ≡ s.pairs → t.searched ≡ s.searched → t.repeated ≡ s.repeated → credit w t ≡ credit w s
credit_same w s t p q r =
    ap (λ (x : Log). credit_of w x t.searched t.repeated) p ∙ ap (λ (x : Log). credit_of w s.pairs x t.repeated) q ∙ ap (λ (x : ℕ). credit_of w s.pairs s.searched x) r

-- two clauses of one result
pub on_ok_ok : {X Y P Q R : Type 0} (r : Result X Y) → (P → Q → R) → OnOk r P → OnOk r Q → OnOk r R
on_ok_ok (Ok x) f p q = f p q
on_ok_ok (Err y) f p q = tt

module _ (w : World) where
  -- nothing that counts changed
  pub pays_kept : (n : ℕ) (ts : List Task) (s t : Search) → Keeps s t → CountsStay s t → Pays w n ts ts s t
  pays_kept n ts s t keeps counts = record { paid = omega (arith, counts.judged, credit_same w s t keeps.pairs keeps.searched counts.repeated) }

  pub pays_none : (n : ℕ) (ts : List Task) (s : Search) → Pays w n ts ts s s
  pays_none n ts s = record { paid = omega arith }

  -- what is equal costs the same
  pub pays_is : (x y : Task) (ts us : List Task) (s t : Search) → x ≡ y → Pays w (task_cost w y) ts us s t → Pays w (task_cost w x) ts us s t
  pays_is x y ts us s t is p = subst (λ z. Pays w (task_cost w z) ts us s t) (sym is) p

  pub pays_more : (m n : ℕ) (ts us : List Task) (s t : Search) → m ≤ n → Pays w m ts us s t → Pays w n ts us s t
  pays_more m n ts us s t le p = record { paid = omega (arith, le, p.paid) }

  -- tasks were added before
  pub pays_after : (m n : ℕ) (ts vs us : List Task) (s t : Search) → CostsMore w m ts vs → Pays w n vs us s t → Pays w (m + n) ts us s t
  pays_after m n ts vs us s t more p = record { paid = omega (arith, more.most, p.paid) }

  -- tasks were added alone
  pub pays_waits : (n : ℕ) (ts us : List Task) (s : Search) → CostsMore w n ts us → Pays w n ts us s s
  pays_waits n ts us s more = record { paid = omega (arith, more.most) }

  -- fields were compared alone
  pub pays_counts : (n : ℕ) (ts : List Task) (s t : Search) → Compares n s t → Pays w n ts ts s t
  pays_counts n ts s t c = record { paid = omega (arith, c.judged, credit_same w s t c.pairs c.searched c.repeated) }

  module _ (a : Entry) (fields : List Entry) (n k : ℕ) (s t : Search) (spent : ComparesUpto w a fields n k (open_cost w fields k) s t) where
    same_credit : credit w t ≡ credit w s
    same_credit = credit_same w s t spent.pairs spent.searched spent.repeated

    -- all fields of a list were settled
    pub list_settled : length fields ≤ k → (ts : List Task) → Pays w (list_cost w a (drop n fields)) ts ts s t
    list_settled past ts =
        let none : open_cost w fields k ≡ 0 = ap (λ o. option_map_or (λ b. 1 + 4 * below_weight w b) o 0) (slice_get_past fields k past) in
        record { paid = omega (arith, spent.judged, none, same_credit) }

    -- or those up to one, below which more waits
    pub list_open : k < length fields → (ts vs us : List Task) → CostsMore w (list_cost w a (drop (k + 1) fields)) ts vs
        → CostsMore w (8 * (below_weight w a * below_weight w (get_or fields k no_entry))) vs us → Pays w (list_cost w a (drop n fields)) ts us s t
    list_open less ts vs us rest below =
        let one : open_cost w fields k ≡ 1 + 4 * below_weight w (get_or fields k no_entry) =
        ap (λ o. option_map_or (λ b. 1 + 4 * below_weight w b) o 0) (slice_get-get_or fields k no_entry less) in
        record { paid = omega (arith, spent.judged, one, same_credit, rest.most, below.most, row_next w a fields k less) }

  -- one of some fields
  pub one_weight : (fields : List Entry) → 0 < length fields → field_weight w (get_or fields 0 no_entry) ≤ fields_weight w fields
  one_weight fields some = get_or-le-sum_by (field_weight w) fields 0 no_entry some

  -- a row and those after it, with the fields of another list
  pub rows_next : (left right : List Entry) (k : ℕ) → k < length left
      → rows_cost w (drop k left) right ≡ length right + list_cost w (get_or left k no_entry) right + rows_cost w (drop (k + 1) left) right
  rows_next left right k less = sum_by-drop_more (λ (a : Entry). length right + list_cost w a right) left k no_entry less

  -- a response name of two sets, and those after it
  pub costs_next : (i j : ℕ) (ys firsts : List Entry) (k : ℕ) → ys ≡ firsts → k < length ys
      → sets_cost w i j (drop k firsts) ≡ name_cost w i j (get_or ys k no_entry).response + sets_cost w i j (drop (k + 1) firsts)
  costs_next i j ys firsts k is less =
      subst (λ zs. sets_cost w i j (drop k zs) ≡ name_cost w i j (get_or ys k no_entry).response + sets_cost w i j (drop (k + 1) zs)) is
      (sum_by-drop_more (λ (f : Entry). name_cost w i j f.response) ys k no_entry less)

  -- a field with some others, and seven for each two
  pub list_all : (a : Entry) (fields : List Entry) → list_cost w a fields + 7 * length fields ≡ 8 * (field_weight w a * fields_weight w fields)
  list_all a [] = omega arith
  list_all a (b ∷ fields) = omega (arith, list_all a fields, sum_by-cons (pair_cost w a) b fields, ap (λ (n : ℕ). field_weight w a * n) (sum_by-cons (field_weight w) b fields))

  -- the fields of one list with those of another, and seven for each two
  pub lists_all : (left right : List Entry) → sum_by (λ a. list_cost w a right) left + 7 * (length left * length right) ≡ 8 * (fields_weight w left * fields_weight w right)
  lists_all [] right = omega arith
  lists_all (a ∷ left) right =
      omega (arith, lists_all left right, list_all a right, sum_by-cons (λ a. list_cost w a right) a left, ap (λ (n : ℕ). n * fields_weight w right) (sum_by-cons (field_weight w) a left))

  -- the same, where it was asked which ones are known to merge
  pub rows_all : (left right : List Entry) → rows_cost w left right + 6 * (length left * length right) ≡ 8 * (fields_weight w left * fields_weight w right)
  rows_all [] right = omega arith
  rows_all (a ∷ left) right =
      omega (arith, rows_all left right, list_all a right, sum_by-cons (λ a. length right + list_cost w a right) a left, ap (λ (n : ℕ). n * fields_weight w right) (sum_by-cons (field_weight w) a left))

  -- the fields of a response name of one set, each with those of the other
  pub all_rows : (i j n : ℕ) (fields : List Entry) → fields ≡ named n (own_of w i)
      → sum_by (row_cost w j) fields + 7 * (length fields * length (named n (own_of w j))) ≤ 8 * name_cost w i j n
  all_rows i j n fields is =
      let others = named n (own_of w j) in
      let same : sum_by (row_cost w j) fields ≡ sum_by (λ (a : Entry). list_cost w a others) fields =
      sum_by_same (row_cost w j) (λ (a : Entry). list_cost w a others) fields
      (λ k d l. ap (λ (x : ℕ). list_cost w (get_or fields k d) (named x (own_of w j)))
      (named_is n (own_of w i) (get_or fields k d) (in_list fields (named n (own_of w i)) k d is l))) in
      omega (arith, same, lists_all fields others, ap (λ xs. fields_weight w xs * fields_weight w others) is)

  pub one_row : (i j n : ℕ) (fields : List Entry) → fields ≡ named n (own_of w i) → 0 < length fields → row_cost w j (get_or fields 0 no_entry) ≤ 8 * name_cost w i j n
  one_row i j n fields is some = omega (arith, get_or-le-sum_by (row_cost w j) fields 0 no_entry some, all_rows i j n fields is)

  module _ (i j n : ℕ) (fields others : List Entry) (left : fields ≡ named n (own_of w i)) (right : others ≡ named n (own_of w j)) where
    pairs_few : length fields * length others ≤ name_cost w i j n
    pairs_few =
        mul-le (length fields) (length others) (fields_weight w (named n (own_of w i))) (fields_weight w (named n (own_of w j)))
        (omega (arith, length_weight w fields, ap (fields_weight w) left)) (omega (arith, length_weight w others, ap (fields_weight w) right))

    same_many : length fields * length (named n (own_of w j)) ≡ length fields * length others
    same_many = ap (λ xs. length fields * length xs) (sym right)

    -- all are known to merge
    pub asked_pays : (ts : List Task) (s t : Search) → AsksUpto (2 * (length fields * length others)) s t → Pays w (8 * name_cost w i j n) ts ts s t
    asked_pays ts s t a = record { paid = omega (arith, pairs_few, a.judged, credit_same w s t a.keeps.pairs a.keeps.searched a.keeps.repeated) }

    -- some are, and the others wait
    pub rows_wait : (ts us : List Task) (s t u : Search) → AsksUpto (2 * (length fields * length others)) s t → AsksUpto (2 * (length fields * length others)) t u
        → CostsMore w (sum_by (row_cost w j) fields) ts us → Pays w (8 * name_cost w i j n) ts us s u
    rows_wait ts us s t u a b more = record {
      paid = omega (
        arith,
        all_rows i j n fields left,
        same_many,
        a.judged,
        b.judged,
        more.most,
        credit_same w s t a.keeps.pairs a.keeps.searched a.keeps.repeated,
        credit_same w t u b.keeps.pairs b.keeps.searched b.keeps.repeated,
      );
    }

    -- or all wait as rows
    pub wide_waits : (ts us : List Task) (s t u v : Search) → AsksUpto (2 * (length fields * length others)) s t → AsksUpto (2 * (length fields * length others)) t u
        → AsksUpto (2 * (length fields * length others)) u v → CostsMore w (rows_cost w fields others) ts us → Pays w (8 * name_cost w i j n) ts us s v
    wide_waits ts us s t u v a b d more = record {
      paid = omega (
        arith,
        rows_all fields others,
        ap (λ xs. fields_weight w xs * fields_weight w others) left,
        ap (λ xs. fields_weight w (named n (own_of w i)) * fields_weight w xs) right,
        a.judged,
        b.judged,
        d.judged,
        more.most,
        credit_same w s t a.keeps.pairs a.keeps.searched a.keeps.repeated,
        credit_same w t u b.keeps.pairs b.keeps.searched b.keeps.repeated,
        credit_same w u v d.keeps.pairs d.keeps.searched d.keeps.repeated,
      );
    }

  -- the last task was taken off and begun
  pub pays_taken : (t : Task) (fs ts rest us : List Task) (old now next : Search) → ts ≡ rest ++ t ∷ [] → Pays w 0 fs ts old now → Pays w (task_cost w t) rest us now next
      → Pays w 0 fs us old next
  pays_taken t fs ts rest us old now next is before p = record { paid = omega (arith, before.paid, p.paid, pushed_cost w t rest ts is) }

  -- none is left
  pub pays_end : (fs ts : List Task) (old now : Search) → ts ≡ [] → Pays w 0 fs ts old now → Takes w (tasks_cost w fs) old now
  pays_end fs ts old now none p = record { paid = omega (arith, p.paid, ap (tasks_cost w) none) }

  -- all that waits was done
  pub spends_all : (n : ℕ) (ts us : List Task) (old now next : Search) → ts ≡ [] → Pays w n ts us old now → Takes w (tasks_cost w us) now next → Takes w n old next
  spends_all n ts us old now next none p q = record { paid = omega (arith, p.paid, q.paid, ap (tasks_cost w) none) }

  -- and nothing that counts changed before or after
  pub spends_kept : (n : ℕ) (s t u v : Search) → Keeps s t → CountsStay s t → Spends w n t u → Keeps u v → CountsStay u v → Spends w n s v
  spends_kept n s t u v k c p l d = record {
    paid = omega (arith, p.paid, c.judged, d.judged, credit_same w s t k.pairs k.searched c.repeated, credit_same w u v l.pairs l.searched d.repeated);
  }

  pub takes_after : (n : ℕ) (s t u : Search) → Takes w n s t → Keeps t u → CountsStay t u → Takes w n s u
  takes_after n s t u p k c = record { paid = omega (arith, p.paid, c.judged, credit_same w t u k.pairs k.searched c.repeated) }

  pub spends_none : (n : ℕ) (s : Search) → Spends w n s s
  spends_none n s = record { paid = omega arith }

  pub settled_takes : (a b : Entry) (s t : Search) → Compares (settle_cost w a b true) s t → Takes w (pair_cost w a b) s t
  settled_takes a b s t c = record { paid = omega (arith, c.judged, credit_same w s t c.pairs c.searched c.repeated) }

  -- two fields, with what stands below them
  pub fields_spend : (a b : Entry) (ts us : List Task) (s u t v : Search) → Compares (settle_cost w a b false) s u → Keeps u t → CountsStay u t → ts ≡ []
      → CostsMore w (8 * (below_weight w a * below_weight w b)) ts us → Takes w (tasks_cost w us) t v → Takes w (pair_cost w a b) s v
  fields_spend a b ts us s u t v looked k c none more p = record {
    paid = omega (
      arith,
      looked.judged,
      c.judged,
      more.most,
      p.paid,
      ap (tasks_cost w) none,
      credit_same w s u looked.pairs looked.searched looked.repeated,
      credit_same w u t k.pairs k.searched c.repeated,
    );
  }

  -- what was begun with no task waiting, and ended
  pub begun_spends : (m n : ℕ) (ts us : List Task) (s t u v : Search) → Keeps s t → CountsStay s t → ts ≡ [] → m ≤ 8 * n → Pays w m ts us t u → Takes w (tasks_cost w us) u v
      → Spends w n s v
  begun_spends m n ts us s t u v k c none most p q = record {
    paid = omega (arith, most, c.judged, p.paid, q.paid, ap (tasks_cost w) none, credit_same w s t k.pairs k.searched c.repeated);
  }
