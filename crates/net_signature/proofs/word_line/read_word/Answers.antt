use Rattle.std.proofs.Common.{[], Bor, List, ℕ}
use Rattle.net_signature.proofs.WordLemmas.{three_fit}
use Rattle.net_signature.proofs.word_line.read_word.Goals as goal

pub returns-in-len3-up : goal.returns-in-len3-up
returns-in-len3-up c =
    let f : Bor (List ℕ) → List ℕ = λ t. t.now in
    three_fit f c.args.tokens.now (record { ref_ptr = (0, 0); now = [] }) c.args.line c.word_of.result c.in-len3-up.len_at_least c.word_of.ensures
