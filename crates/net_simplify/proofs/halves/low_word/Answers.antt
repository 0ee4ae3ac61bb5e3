use Rattle.std.proofs.Common.{◌≡◌, ◌∙◌, ◌-◌, ap, arith, refl, sym}
use Rattle.std.specs.Int.{bit_at}
use Rattle.net_simplify.proofs.TableWordLemmas.{clear_words}
use Rattle.net_simplify.proofs.halves.low_word.Goals as goal

pub returns-in-0 : goal.returns-in-0
returns-in-0 c = λ i less. clear_words 0 6148914691236517205 refl i less ∙ ap (λ p. 1 - bit_at i p) (sym c.in-0.is)

pub returns-in-1 : goal.returns-in-1
returns-in-1 c = λ i less. clear_words 1 3689348814741910323 refl i less ∙ ap (λ p. 1 - bit_at i p) (sym c.in-1.is)

pub returns-in-2 : goal.returns-in-2
returns-in-2 c = λ i less. clear_words 2 1085102592571150095 refl i less ∙ ap (λ p. 1 - bit_at i p) (sym c.in-2.is)

pub returns-in-3 : goal.returns-in-3
returns-in-3 c = λ i less. clear_words 3 71777214294589695 refl i less ∙ ap (λ p. 1 - bit_at i p) (sym c.in-3.is)

pub returns-in-4 : goal.returns-in-4
returns-in-4 c = λ i less. clear_words 4 281470681808895 refl i less ∙ ap (λ p. 1 - bit_at i p) (sym c.in-4.is)

pub returns-in_default : goal.returns-in_default
returns-in_default c =
    let five : c.args.place ≡ 5 = omega (arith, c.requires, c.in_default) in
    λ i less. clear_words 5 4294967295 refl i less ∙ ap (λ p. 1 - bit_at i p) (sym five)
