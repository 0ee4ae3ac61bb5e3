use Rattle.std.proofs.Common.{◌≡◌, ◌∙◌, ap, arith, refl, sym}
use Rattle.std.specs.Int.{bit_at}
use Rattle.net_simplify.proofs.TableWordLemmas.{place_words}
use Rattle.net_simplify.proofs.words.place_word.Goals as goal

pub returns-in-0 : goal.returns-in-0
returns-in-0 c = λ i less. place_words 0 12297829382473034410 refl i less ∙ ap (bit_at i) (sym c.in-0.is)

pub returns-in-1 : goal.returns-in-1
returns-in-1 c = λ i less. place_words 1 14757395258967641292 refl i less ∙ ap (bit_at i) (sym c.in-1.is)

pub returns-in-2 : goal.returns-in-2
returns-in-2 c = λ i less. place_words 2 17361641481138401520 refl i less ∙ ap (bit_at i) (sym c.in-2.is)

pub returns-in-3 : goal.returns-in-3
returns-in-3 c = λ i less. place_words 3 18374966859414961920 refl i less ∙ ap (bit_at i) (sym c.in-3.is)

pub returns-in-4 : goal.returns-in-4
returns-in-4 c = λ i less. place_words 4 18446462603027742720 refl i less ∙ ap (bit_at i) (sym c.in-4.is)

pub returns-in_default : goal.returns-in_default
returns-in_default c =
    let five : c.args.place ≡ 5 = omega (arith, c.requires, c.in_default) in
    λ i less. place_words 5 18446744069414584320 refl i less ∙ ap (bit_at i) (sym five)
