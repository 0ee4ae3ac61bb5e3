use Rattle.std.proofs.Common.{sym, refl, subst, List, ℕ, Err}
use Rattle.cert_check.specs.Certificate.{NoLine}
use Rattle.cert_check.specs.declared.fault.CertFault.TheVariants.{Syntax}
use Rattle.cert_check.proofs.KeptLemmas.{some_line, not_empty}
use Rattle.std.proofs.Common.{length}
use Rattle.cert_check.proofs.reading.ended.Goals as goal

pub returns-else-is_empty-clause-value : goal.returns-else-is_empty-clause-value
returns-else-is_empty-clause-value c =
    let found = some_line c.args.rest.now (not_empty (length c.args.rest.now) c.if-is_empty.ensures) in
    let P : List (List ℕ) → Type 0 = λ ls. NoLine c.args.number ls c.args.pairs (Err (Syntax c.args.number)) in
    subst P (sym found.2) refl
