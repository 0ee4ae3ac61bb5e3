use Rattle.std.proofs.Common.{◌≤◌, ℕ, List, Ok, Err, sym, subst, length}
use Rattle.outcome.specs.Outcome.{Exactly}
use Rattle.poly_mixed.specs.Labels.{Labelling}
use Rattle.cert_check.specs.Verdict.{verdict_of}
use Rattle.cert_check.specs.declared.checking.CertVerdict.{CertVerdict}
use Rattle.job_words.specs.Stop.{GivesBy}
use Rattle.job_words.proofs.StepLemmas.{after, stops}
use Rattle.job_input.specs.Labelling.{labels_of}
use Rattle.job_input.specs.Setting.{setting_value}
use Rattle.job_input.specs.SettingValue.{SettingValue}
use Rattle.answer_core.specs.Reply.{reply_of}
use Rattle.answer_certificates.specs.Verify.{VerdictOf, verify_reply}
use Rattle.answer_certificates.specs.private.CertificateStop.{IsNamedVerdict}
use Rattle.answer_certificates.proofs.verify.reply.Goals as goal

pub verdict-requires-clause-short : goal.verdict-requires-clause-short
verdict-requires-clause-short g c = let P : List ℕ → Type 0 = λ xs. length xs ≤ 67108864 in subst P (sym c.deref.ensures.value) c.requires.short

pub output-requires : goal.output-requires
output-requires g c =
    let P : Labelling → Type 0 = λ l. IsNamedVerdict l (verdict_of c.in-Ok.verdict) in
    subst P (sym c.in_ok-labels-in-Ok.ensures) c.in-Ok.ensures.named

pub returns-in_ok-labels-in-Ok : goal.returns-in_ok-labels-in-Ok
returns-in_ok-labels-in-Ok g c =
    let setting : SettingValue = setting_value (g.F.Ring.degree c.args.field.now) (g.F.Ring.product c.args.field.now) c.args.setting.now in
    let P : List ℕ → Type 0 = λ xs. VerdictOf setting c.args.certified.now.circuit c.args.bound xs (Ok (verdict_of c.in-Ok.verdict)) in
    let Q : Labelling → Type 0 = λ l. GivesBy reply_of c.output.result (Exactly (verify_reply l (verdict_of c.in-Ok.verdict))) ⊥ ⊥ in
    after reply_of c.output.result (VerdictOf setting c.args.certified.now.circuit c.args.bound c.args.certified.now.text.items) (λ verdict. Exactly (verify_reply (labels_of setting.k setting.signature.words) verdict)) (verdict_of c.in-Ok.verdict)
    ⊥ ⊥ ⊥ ⊥ (subst P c.deref.ensures.value c.in-Ok.ensures.gives) (λ m. m) (λ f. f) (subst Q c.in_ok-labels-in-Ok.ensures c.output.ensures)

pub returns-in-Err : goal.returns-in-Err
returns-in-Err g c =
    let setting : SettingValue = setting_value (g.F.Ring.degree c.args.field.now) (g.F.Ring.product c.args.field.now) c.args.setting.now in
    let P : List ℕ → Type 0 = λ xs. GivesBy {X = CertVerdict} verdict_of (Err c.in-Err.stop) (VerdictOf setting c.args.certified.now.circuit c.args.bound xs) ⊥ ⊥ in
    stops {X = CertVerdict} verdict_of reply_of c.in-Err.stop (VerdictOf setting c.args.certified.now.circuit c.args.bound c.args.certified.now.text.items) (λ verdict. Exactly (verify_reply (labels_of setting.k setting.signature.words) verdict)) ⊥ ⊥ ⊥ ⊥ (λ m. m) (λ f. f)
    (subst P c.deref.ensures.value c.in-Err.ensures.gives)
