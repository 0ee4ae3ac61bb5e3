use Rattle.lift_table.proofs.ReadingLemmas.{hex_of}
use Rattle.lift_table.proofs.reading.is_hex.Goals as goal

pub returns-in-Some : goal.returns-in-Some
returns-in-Some c =
    let same = hex_of c.args.token.now _ c.in-Some.ensures.some in
    ((λ is. same.0 (c.are_digits.ensures.0 is)), λ hex. c.are_digits.ensures.1 (same.1 hex))
