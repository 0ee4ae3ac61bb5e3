use Rattle.std.proofs.Common.{subst, List, ℕ}
use Rattle.std.specs.Prelude.{Option}
use Rattle.outcome.specs.Outcome.{Fits}
use Rattle.cert_check.specs.Certificate.{MultiplierBy}
use Rattle.cert_check.specs.Fault.{line_refusal}
use Rattle.cert_check.specs.Scan.{digits_first}
use Rattle.cert_check.specs.private.Reading.{multiplier_in}
use Rattle.cert_check.proofs.PartLemmas.{named_fits, named_is}
use Rattle.cert_check.proofs.line.read_multiplier.Goals as goal

pub returns-in-Some-clause-value : goal.returns-in-Some-clause-value
returns-in-Some-clause-value c shared long =
    let P : Option (List ℕ) → Type 0 = λ o. Fits line_refusal (multiplier_in shared) c.shared_number.result (MultiplierBy c.args.k c.args.labels.now shared o c.args.text.now) in
    subst P c.in-Some.ensures (named_fits shared c.args.count (digits_first c.in-Some.rest.now) c.shared_number.result long c.shared_number.ensures.value)

pub returns-in-Some-clause-is : goal.returns-in-Some-clause-is
returns-in-Some-clause-is c = named_is c.args.k c.args.count (digits_first c.in-Some.rest.now) c.shared_number.result c.shared_number.ensures.value
