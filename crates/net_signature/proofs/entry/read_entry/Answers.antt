use Rattle.std.proofs.Common.{[], Bor, List, ℕ}
use Rattle.net_signature.proofs.EntryLemmas.{more_tokens}
use Rattle.net_signature.proofs.entry.read_entry.Goals as goal

pub returns-in-len1-up : goal.returns-in-len1-up
returns-in-len1-up c =
    let f : Bor (List ℕ) → List ℕ = λ t. t.now in
    more_tokens f c.args.statement.now.tokens.items (record { ref_ptr = (0, 0); now = [] }) c.args.statement.now.number c.entry_of.result (rw c.as_slice.ensures.value at c.in-len1-up.len_at_least) (rw c.as_slice.ensures.value at c.entry_of.ensures)
