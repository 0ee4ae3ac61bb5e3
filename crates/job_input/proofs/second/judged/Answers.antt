use Rattle.std.proofs.Common.{subst, sym}
use Rattle.net_signature.specs.Signature.{SignatureValue}
use Rattle.job_words.proofs.StepLemmas.{gives_fault}
use Rattle.job_input.specs.declared.signed.Signed.{Signed}
use Rattle.job_input.specs.Setting.{signed_value, IsNamedBy}
use Rattle.job_input.specs.SignedIn.{SecondOf}
use Rattle.job_input.proofs.second.judged.Goals as goal

pub returns-in-Ok-clause-named : goal.returns-in-Ok-clause-named
returns-in-Ok-clause-named c =
    let P : SignatureValue → Type 0 = λ s. IsNamedBy s c.args.signed.field in
    subst P (sym c.in-Ok.ensures.own) c.requires.named

pub returns-in-Err-clause-gives : goal.returns-in-Err-clause-gives
returns-in-Err-clause-gives c =
    let view : SignatureValue → SignatureValue = λ s. s in
    let own : Signed → SignatureValue = λ s. s.signature in
    gives_fault view own c.in-Err.stop (SecondOf (signed_value c.args.signed)) (SecondOf (signed_value c.args.signed)) (λ fault is. is) c.in-Err.ensures.gives
