use Rattle.std.proofs.Common.{◌≡◌, [], Bor, List, ℕ, length, arith}
use Rattle.net_signature.specs.Statement.{SaysVersion}
use Rattle.net_signature.proofs.ReaderLemmas.{two_fit}
use Rattle.net_signature.proofs.head.version_of.Goals as goal

pub returns-in-len2-clause-fits : goal.returns-in-len2-clause-fits
returns-in-len2-clause-fits c =
    let f : Bor (List ℕ) → List ℕ = λ t. t.now in
    let long : length c.args.line.now.tokens.items ≡ 2 = omega (arith, c.in-len2.len_at_least, c.in-len2.len_below, c.as_slice.ensures.len) in
    two_fit (λ v. v) SaysVersion f c.args.line.now.tokens.items (record { ref_ptr = (0, 0); now = [] }) c.args.line.now.number c.version_from.result long (rw c.as_slice.ensures.value at c.version_from.ensures.fits)
