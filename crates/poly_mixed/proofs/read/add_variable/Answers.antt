use Rattle.std.proofs.Common.{Ok, subst, sym}
use Rattle.poly_mixed.specs.declared.variables.Variable.{Variable}
use Rattle.poly_mixed.specs.private.Reading.{with_variable}
use Rattle.poly_mixed.specs.private.ReadingState.{IsAdded}
use Rattle.poly_mixed.proofs.read.add_variable.Goals as goal

pub returns-in-Word : goal.returns-in-Word
returns-in-Word c =
    let P : Variable → Type 0 = λ v. IsAdded (with_variable c.args.k c.args.mono.now (Ok (v, c.args.bytes.now))) c.add_word.new.mono c.add_word.result in
    subst P (sym c.in-Word.is) c.add_word.ensures.added
