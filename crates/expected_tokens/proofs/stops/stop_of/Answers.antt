use Rattle.std.proofs.Common.{None, subst}
use Rattle.expected_tokens.proofs.StopLaws.{Tells, stops_document, stops_fault}
use Rattle.graphql_reader.specs.Languages.{ADocument, AtEnd, IsFault}
use Rattle.expected_tokens.proofs.stops.stop_of.Goals as goal
use Rattle.expected_tokens.proofs.stops.stop_of.Goals.{in-Ok, in-Err-Syntax, in-Err-OutOfMemory}

pub returns : goal.returns
returns c =
    let text = c.args.text.now in
    let a = c.new-tokens.result in
    let b = c.read_definitions.new.tokens in
    let are = c.new-tokens.ensures.lexemes in
    elim c.match-read_definitions.branch [
      | in-Ok w ↦
          let read = w.in-Ok.ensures in
          let stop = w.stop_at in
          let tells : Tells stop.result b = (stop.ensures.index, stop.ensures.end) in
          rw w.result-is (stops_document text a b _ stop.result are read.tree read.ended tells stop.ensures.document)
      | in-Err-Syntax w ↦
          let read = w.in-Err-Syntax in
          let stuck = subst (IsFault None AtEnd ADocument a b) read.field-0-is read.ensures.stuck in
          let stop = w.stop_at-in-Err-Syntax in
          let tells : Tells stop.result b = (stop.ensures.index, stop.ensures.end) in
          rw w.result-is (stops_fault text a b read.field-0-0 stop.result are stuck tells stop.ensures.document)
      | in-Err-OutOfMemory w ↦ rw w.result-is tt
    ]
