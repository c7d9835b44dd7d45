use Rattle.std.proofs.Common.{◌∙◌, sym, ap}
use Rattle.fragment_graph.specs.Kept.{is_among}
use Rattle.fragment_graph.proofs.Keeping.{exact, names_of_numbers}
use Rattle.fragment_graph.proofs.kept.KeptNames.new.Goals as goal

pub invariant_of-result : goal.invariant_of-result
invariant_of-result g c =
    let h = c.in_ok-names.ensures in
    let n = c.in_ok-names.names.numbers in
    record {
      numbered = h.numbers.numbered;
      exact = λ name. exact c.args.document.now n h.numbers name ∙ ap (λ ns. is_among ns name) (sym (names_of_numbers n c.args.document.now c.in_ok-names.names.defined.items h));
    }

pub returns : goal.returns
returns g c = names_of_numbers c.in_ok-names.names.numbers c.args.document.now c.in_ok-names.names.defined.items c.in_ok-names.ensures
