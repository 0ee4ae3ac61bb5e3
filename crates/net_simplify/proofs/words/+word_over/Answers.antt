use Rattle.std.proofs.Common.{◌-◌, length, refl, take}
use Rattle.std.specs.Prelude.{slice_index_or}
use Rattle.net_simplify.proofs.HalfWordLemmas.{over_none, over_slice}
use Rattle.net_simplify.proofs.words.+word_over.Goals as goal

pub returns-in-empty : goal.returns-in-empty
returns-in-empty t c = λ hold. over_none c.args.leaves.now c.args.some.now c.args.table c.constant_word.result c.table_bit.result c.in-empty.len_below c.requires.leaves c.constant_word.ensures c.table_bit.ensures.bit

pub returns-in-len1-up : goal.returns-in-len1-up
returns-in-len1-up t c =
    over_slice c.args.leaves.now c.args.some.now (take (length c.args.some.now - 1) c.args.some.now) (slice_index_or c.args.some.now (length c.args.some.now - 1) 0) c.args.table (length (take (length c.args.some.now - 1) c.args.some.now)) c.rows.result c.leaf_word.result c.word_over.result c.word_over-in-len1-up.result c.chosen_word.result
    c.in-len1-up.len_at_least refl refl refl c.rows.ensures.rows c.requires.leaves c.leaf_word.ensures c.word_over.ensures c.word_over-in-len1-up.ensures c.chosen_word.ensures
