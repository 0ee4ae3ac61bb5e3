use Rattle.std.proofs.Common.{◌-◌, length, refl, take}
use Rattle.std.specs.Prelude.{slice_index_or}
use Rattle.net_simplify.specs.private.Lists.{forms_of}
use Rattle.net_simplify.proofs.HalfWordLemmas.{taken_none, taken_slice}
use Rattle.net_simplify.proofs.words.+word_of_taken.Goals as goal

pub returns-in-empty : goal.returns-in-empty
returns-in-empty t c = λ hold. taken_none c.args.leaves.now c.args.nets.now (forms_of c.args.known.now) c.args.opened c.args.table c.constant_word.result c.table_bit.result c.in-empty.len_below c.requires.leaves c.constant_word.ensures c.table_bit.ensures.bit

pub returns-in-len1-up : goal.returns-in-len1-up
returns-in-len1-up t c =
    taken_slice c.args.leaves.now c.args.nets.now (take (length c.args.nets.now - 1) c.args.nets.now) (slice_index_or c.args.nets.now (length c.args.nets.now - 1) 0) c.args.table (length (take (length c.args.nets.now - 1) c.args.nets.now)) c.rows.result c.args.opened c.form_word.result c.word_of_taken.result c.word_of_taken-in-len1-up.result c.chosen_word.result (forms_of c.args.known.now) c.taken-form.result.now
    c.in-len1-up.len_at_least refl refl refl c.rows.ensures.rows c.taken-form.ensures c.form_word.ensures c.word_of_taken.ensures c.word_of_taken-in-len1-up.ensures c.chosen_word.ensures
