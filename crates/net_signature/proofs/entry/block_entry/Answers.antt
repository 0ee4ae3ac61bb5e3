use Rattle.std.proofs.Common.{Bor, List, ℕ, map}
use Rattle.net_signature.proofs.EntryLemmas.{block_err}
use Rattle.net_signature.proofs.entry.block_entry.Goals as goal

pub returns-in-Err : goal.returns-in-Err
returns-in-Err c =
    let f : Bor (List ℕ) → List ℕ = λ t. t.now in
    block_err c.in-Err.fault c.args.line (map f c.args.rest.now) c.in-Err.ensures
