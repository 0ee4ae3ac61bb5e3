use Rattle.std.proofs.Common.{◌∙◌, arith}
use Rattle.std.proofs.lemmas.Option.{slice_get_within, slice_get-get_or, get_or_from_slice_get}
use Rattle.plain_runs.proofs.FedBitLemmas.{same_choice}
use Rattle.plain_runs.proofs.fed_bits.word_bit.Goals as goal

pub bits_of-requires-clause-element : goal.bits_of-requires-clause-element
bits_of-requires-clause-element g c = c.requires.elements _ (c.args.word, slice_get-get_or c.args.xs.now c.args.word 0 (omega (arith, c.if-at-words.true, c.requires.long)))

pub bits_of-requires-clause-over : goal.bits_of-requires-clause-over
bits_of-requires-clause-over g c = c.requires.over _ (c.args.word, slice_get-get_or c.args.words.now c.args.word c.index-words-at.result c.if-at-words.true)

pub returns-then-at-words : goal.returns-then-at-words
returns-then-at-words g c = λ w x d got value chosen.
    c.bit_at_place.ensures
    ∙ same_choice (g.F.Ring.degree c.args.field.now) (g.F.Ring.product c.args.field.now) _ w _ x c.bits_of.result d c.args.place
    (c.requires.over _ (c.args.word, slice_get-get_or c.args.words.now c.args.word c.index-words-at.result c.if-at-words.true))
    (c.requires.elements _ (c.args.word, slice_get-get_or c.args.xs.now c.args.word 0 (omega (arith, c.if-at-words.true, c.requires.long))))
    (get_or_from_slice_get c.args.words.now c.args.word w c.index-words-at.result got) (get_or_from_slice_get c.args.xs.now c.args.word x 0 value) c.bits_of.ensures chosen

pub returns-else-at-words : goal.returns-else-at-words
returns-else-at-words g c = λ w x d got value chosen. absurd (omega (arith, slice_get_within c.args.words.now c.args.word w got, c.if-at-words.false))
