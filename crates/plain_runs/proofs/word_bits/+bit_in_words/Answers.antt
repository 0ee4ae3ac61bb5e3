use Rattle.std.proofs.Common.{rules, arith, ◌≡◌, ◌≤◌, ◌∙◌, subst, List, ℕ, Some}
use Rattle.std.specs.Prelude.{slice_get, ◌==◌}
use Rattle.std.specs.Int.{bit_at}
use Rattle.lists.specs.Lists.{Has, times}
use Rattle.circuit_model.proofs.BitLemmas.{bit_in_all}
use Rattle.circuit_model.proofs.PlainLemmas.{first_at, named_first, named_rest}
use Rattle.circuit_model.proofs.SliceLemmas.{rest_has, rest_long, first_get}
use Rattle.plain_runs.proofs.word_bits.+bit_in_words.Goals as goal

pub bit_in_words-other-requires : goal.bit_in_words-other-requires
bit_in_words-other-requires g t c κs within = (search rules, (search rules, (search rules, ((λ w has. c.requires.over w (rest_has c.args.words.now w has)), (rest_long c.args.xs.now c.args.words.now c.requires.long, λ x has. c.requires.elements x (rest_has c.args.xs.now x has))))))

pub bits_of-requires-clause-element : goal.bits_of-requires-clause-element
bits_of-requires-clause-element g t c = c.requires.elements _ (0, first_get c.args.xs.now (omega (arith, c.in-len1-up.len_at_least, c.requires.long)))

pub bits_of-requires-clause-over : goal.bits_of-requires-clause-over
bits_of-requires-clause-over g t c = c.requires.over c.first-item.result (0, first_at c.args.words.now c.first-item.result c.in-len1-up.len_at_least c.first-item.is)

pub returns-in-len1-up-clause-other : goal.returns-in-len1-up-clause-other
returns-in-len1-up-clause-other g t c = λ none.
    let P : List ℕ → Type 0 = λ ns. Has ns c.args.net in
    c.bit_in_word.ensures.other (λ has. none (named_first c.args.words.now c.first-item.result c.args.net c.in-len1-up.len_at_least c.first-item.is (subst P c.deref.ensures.value has)))
    ∙ c.bit_in_words-other.ensures.other (λ has. none (named_rest c.args.words.now c.args.net has))

pub returns-in-len1-up-clause-bit : goal.returns-in-len1-up-clause-bit
returns-in-len1-up-clause-bit g t c =
    let P : List ℕ → Type 0 = λ ns. (Has ns c.args.net → ⊥) → c.bit_in_word.result ≡ c.bit_in_words-other.result in
    let Q : List ℕ → Type 0 = λ ns. (place : ℕ) → slice_get ns place ≡ Some c.args.net → times c.args.net ns ≤ 1 → c.bit_in_word.result ≡ (bit_at c.bits_of.result place == 1) in
    bit_in_all c.args.words.now c.args.xs.now c.first-item.result c.args.net c.bits_of.result c.bit_in_word.result c.bit_in_words-other.result
    (first_at c.args.words.now c.first-item.result c.in-len1-up.len_at_least c.first-item.is) c.bits_of.ensures (subst P c.deref.ensures.value c.bit_in_word.ensures.other) (subst Q c.deref.ensures.value c.bit_in_word.ensures.bit) c.bit_in_words-other.ensures.bit
