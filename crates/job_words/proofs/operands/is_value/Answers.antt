use Rattle.std.proofs.Common.{◌↔◌, IsTrue, arith, rules}
use Rattle.std.specs.Prelude.{IsSome}
use Rattle.job_words.proofs.ValueLemmas.{value_iff}
use Rattle.job_words.proofs.operands.is_value.Goals as goal

pub returns-then-word-le34 : goal.returns-then-word-le34
returns-then-word-le34 c =
    let same : IsTrue c.is_some.result ↔ IsSome c.read_hex.result = search rules in
    value_iff c.args.word.now c.read_hex.result c.is_some.result (omega arith) (rw c.as_bytes.ensures.value at c.read_hex.ensures.found) (rw c.as_bytes.ensures.value at c.read_hex.ensures.none) same
