use Rattle.std.proofs.Common.{ℕ, [], subst}
use Rattle.outcome.specs.Outcome.{Within}
use Rattle.gf_field.specs.Ring2k.{degree_of, modulus_of}
use Rattle.irreducible.specs.Proved.{ring_of}
use Rattle.job_words.specs.declared.fault.Fault.TheVariants as faults
use Rattle.job_words.specs.Stop.{GivesBy}
use Rattle.job_words.proofs.StepLemmas.{after, stops}
use Rattle.job_input.specs.FieldOf.{FieldOf, FieldValue, base_field}
use Rattle.answer_core.specs.Reply.{reply_of}
use Rattle.answer_makers.specs.Trial.{TrialOver}
use Rattle.answer_makers.proofs.trial.answer.Goals as goal

pub returns-in-Ok : goal.returns-in-Ok
returns-in-Ok c =
    let words = c.args.words.now in
    let ring = ring_of c.in-Ok.ring in
    let P : ℕ → Type 0 = λ g. GivesBy reply_of c.over.result (TrialOver (degree_of ring) g words.number words.terms) ⊥ ⊥ in
    after reply_of c.over.result (Within faults.Signature (FieldOf words.modulus [] [])) (λ field. TrialOver field.k words.modulus words.number words.terms) (base_field (degree_of ring) (modulus_of ring))
    ⊥ ⊥ ⊥ ⊥ c.in-Ok.ensures.gives (λ m. m) (λ f. f) (subst P c.in-Ok.ensures.modulus c.over.ensures)

pub returns-in-Err : goal.returns-in-Err
returns-in-Err c =
    let words = c.args.words.now in
    stops {X = FieldValue} (λ field. field) reply_of c.in-Err.stop (Within faults.Signature (FieldOf words.modulus [] [])) (λ field. TrialOver field.k words.modulus words.number words.terms) ⊥ ⊥ ⊥ ⊥ (λ m. m) (λ f. f) c.in-Err.ensures.gives
