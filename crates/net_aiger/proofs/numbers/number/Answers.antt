use Rattle.std.proofs.Common.{◌≡◌, ◌∷◌, [], ℕ, Option, Some, subst, sym}
use Rattle.std.specs.Prelude.{IfSome}
use Rattle.net_aiger.specs.Numbers.{numbers_of, words_of}
use Rattle.net_aiger.proofs.NumberLemmas.{lone_word, number_found, number_none}
use Rattle.net_aiger.proofs.numbers.number.Goals as goal

pub returns-in-Some : goal.returns-in-Some
returns-in-Some c =
    let value = number_found c.args.word.now c.in-Some.number c.in-Some.ensures.found.0 c.in-Some.ensures.found.1 in
    let P : Option ℕ → Type 0 = λ found. IfSome found (λ n. numbers_of (words_of c.args.word.now) ≡ Some (n ∷ [])) in
    record { value = value; alone = subst P (sym value) (lone_word c.args.word.now) }

pub returns-in-None : goal.returns-in-None
returns-in-None c = record { value = number_none c.args.word.now c.in-None.ensures.none; alone = tt }
