use Rattle.std.proofs.Common.{◌≡◌, [], Bor, List, ℕ, length, arith}
use Rattle.lift_table.proofs.ReadingLemmas.{one_token}
use Rattle.lift_table.proofs.reading.value_of.Goals as goal

pub returns-in-len1 : goal.returns-in-len1
returns-in-len1 c =
    let f : Bor (List ℕ) → List ℕ = λ t. t.now in
    let long : length c.args.tokens.now ≡ 1 = omega (arith, c.in-len1.len_at_least, c.in-len1.len_below) in
    one_token c.args.k c.args.line f c.args.tokens.now (record { ref_ptr = (0, 0); now = [] }) c.number_of.result long c.number_of.ensures
