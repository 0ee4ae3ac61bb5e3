use Rattle.std.proofs.Common.{refl}
use Rattle.outcome.specs.Outcome.{Exactly}
use Rattle.net_words.specs.Binding.{BoundNet}
use Rattle.job_words.proofs.StepLemmas.{stops}
use Rattle.job_input.specs.CircuitOf.{UnrolledIn}
use Rattle.answer_certificates.specs.declared.certificates.Certified.{Certified}
use Rattle.answer_certificates.specs.private.CertificateStop.{certified_of}
use Rattle.answer_certificates.proofs.certificates.certified_by.Goals as goal

pub returns-in-Ok : goal.returns-in-Ok
returns-in-Ok c = record { gives = (c.in-Ok.circuit, c.in-Ok.ensures.gives, refl); taken = c.in-Ok.ensures.taken; short = c.requires.short }

pub returns-in-Err : goal.returns-in-Err
returns-in-Err c = record {
  gives = stops {X = BoundNet} {Y = Certified} (λ circuit. circuit) certified_of c.in-Err.stop (UnrolledIn c.args.net.now c.args.netlist c.args.cycles) (λ circuit. Exactly (circuit, c.args.text.items)) ⊥ ⊥ ⊥ ⊥ (λ m. m) (λ f. f) c.in-Err.ensures.gives;
  taken = tt;
  short = tt;
}
