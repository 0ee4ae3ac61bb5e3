use Rattle.net_signature.proofs.BasisLemmas.{list-err}
use Rattle.net_signature.proofs.basis.list.Goals as goal

pub returns : goal.returns
returns c = list-err c.args.number c.args.token.now _ c.in-Err.fault c.in_ok-parts.ensures (rw c.deref.ensures.value at c.in-Err.ensures)
