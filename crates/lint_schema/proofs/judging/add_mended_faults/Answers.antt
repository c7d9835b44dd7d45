use Rattle.std.proofs.Common.{subst}
use Rattle.lint_schema.specs.Judged.{AddsLocated}
use Rattle.lint_schema.proofs.judging.add_mended_faults.Goals as goal

pub returns : goal.returns
returns c = record {
  found = c.in_ok-found.found.items;
  are = c.in_ok-found.ensures;
  adds = subst (λ found. AddsLocated c.args.sources.now c.args.joined.now found c.args.faults.now.items c.add_located.new.faults.items) c.as_slice.ensures.value c.in_ok-add_located.ensures;
}
