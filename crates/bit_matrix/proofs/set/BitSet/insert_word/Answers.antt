use Rattle.std.proofs.Common.{refl, arith}
use Rattle.std.proofs.lemmas.List.{get_or_read}
use Rattle.bit_matrix.specs.Set.{has}
use Rattle.bit_matrix.proofs.Counts.{word_union, word_added}
use Rattle.bit_matrix.proofs.set.BitSet.insert_word.Goals as goal

pub returns-clause-union : goal.returns-clause-union
unfolding has
returns-clause-union c =
    let words = c.args.self.now.words.items in
    let old = c.index-old.result.now in
    λ n. word_union words c.args.index old c.args.word c.requires (get_or_read words c.args.index old c.requires c.index-old.ensures 0) n

pub returns-clause-added : goal.returns-clause-added
unfolding has
returns-clause-added c =
    let words = c.args.self.now.words.items in
    let old = c.index-old.result.now in
    λ end room. word_added words c.args.index old c.args.word c.requires (get_or_read words c.args.index old c.requires c.index-old.ensures 0)
    _ (omega arith) c.ranges.word.fits end room (λ n. refl)
