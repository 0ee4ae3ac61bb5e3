use Rattle.std.proofs.Common.{[], Bor, List, ℕ}
use Rattle.net_signature.specs.Statement.{SaysTower}
use Rattle.net_signature.proofs.ReaderLemmas.{more_fit}
use Rattle.net_signature.proofs.head.tower_of.Goals as goal

pub returns-in-len1-up : goal.returns-in-len1-up
returns-in-len1-up c =
    let f : Bor (List ℕ) → List ℕ = λ t. t.now in
    more_fit (λ v. v.items) SaysTower f c.args.line.now.tokens.items (record { ref_ptr = (0, 0); now = [] }) c.args.line.now.number c.tower_from.result (rw c.as_slice.ensures.value at c.in-len1-up.len_at_least) (rw c.as_slice.ensures.value at c.tower_from.ensures)
