use Rattle.std.proofs.Common.{refl, sym, subst}
use Rattle.std.specs.List.{Contains}
use Rattle.std.proofs.lemmas.List.Elements.{Contains-append_left, Contains-append_right, Contains-push}
use Rattle.merge_certificates.specs.declared.unions.Union.{Union}
use Rattle.merge_certificates.proofs.unions.add_union.Goals as goal

pub returns-clause-added : goal.returns-clause-added
returns-clause-added c =
    let own = c.in_ok-sets.sets.items in
    let more = c.args.more.now in
    let all = c.extend_from_slice.new.self in
    let is = c.in_ok-extend_from_slice.ensures.items in
    let u : Union = record { sets = all; flag = c.args.flag } in
    record {
      union = u;
      there = subst (λ zs. Contains zs u) (sym c.in_ok-push.ensures.items) (Contains-push c.args.unions.now.items u);
      flagged = refl;
      below = λ k d l t p. subst (λ zs. Contains zs t) (sym is) (Contains-append_left own more t (c.in_ok-sets.ensures k d l t p));
      besides = λ t p. subst (λ zs. Contains zs t) (sym is) (Contains-append_right own more t p);
    }
