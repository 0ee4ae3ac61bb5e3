use Rattle.std.proofs.Common.{◌↔◌, ℕ, subst}
use Rattle.gf_field.specs.Field.{HasNoZeroDivisors}
use Rattle.gf_field.specs.Ring.{IsRing}
use Rattle.circuit_model.specs.JobOfBinding.{job_with}
use Rattle.circuit_model.specs.OfBinding.{circuit_with, HaveBases}
use Rattle.circuit_model.specs.Out.{IsOut}
use Rattle.unroll.specs.Unrolled.{unrolled}
use Rattle.unroll.proofs.UnrolledLemmas.{unrolled_output}
use Rattle.unroll.proofs.laws.unrolled_circuits_compute_the_job.Goals as goal

pub returns : goal.returns
returns c = λ based cycles is small xs e.
    let net = based.netlist.net in
    let binding = based.netlist.binding in
    let P : ℕ → Type 0 = λ k. IsRing k based.product → HasNoZeroDivisors k based.product → HaveBases k binding.words based.bases → IsOut (circuit_with k based.product (unrolled net binding cycles) based.bases) xs e ↔ IsOut (job_with k based.product based.netlist based.bases cycles) xs e in
    let own : P binding.k = λ ring field have. unrolled_output based.product net binding based.bases cycles xs e ring field is.sound is.bound have small.few_nets small.few_gates in
    subst P is.bits own is.ring is.no_zero_divisors is.have
