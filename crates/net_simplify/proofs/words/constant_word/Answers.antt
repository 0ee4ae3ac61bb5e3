use Rattle.std.proofs.Common.{◌∙◌, sym}
use Rattle.std.proofs.lemmas.Nat.Bits.{bit_at_ones}
use Rattle.net_simplify.proofs.words.constant_word.Goals as goal

pub returns-then-bit-eq1 : goal.returns-then-bit-eq1
returns-then-bit-eq1 c = λ i less. bit_at_ones 64 i less ∙ sym c.if-bit-eq1.true
