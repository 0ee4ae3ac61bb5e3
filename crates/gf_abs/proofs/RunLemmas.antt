-- What a run printed, command by command: it wrote its answer, and laws say what the answer is.
use Rattle.std.proofs.Common.{◌≡◌, ◌⊎◌, ◌∙◌, refl, subst, inl, inr, ℕ, ◌<◌, List, Option, Some, Ok, arith}
use Rattle.lists.specs.laws.OptionLaws.{same_ok}
use Rattle.std.specs.Io.KnownBytes.{Appends}
use Rattle.job_io.specs.Shelf.{Files}
use Rattle.job_words.specs.Operands.{Word}
use Rattle.answer_core.specs.Reply.{Reply}
use Rattle.gf_abs.specs.Answer.{Answer}
use Rattle.gf_abs.specs.CertificateHeadline.{terms_left}
use Rattle.gf_abs.specs.RunHeadline.{AbstractPrints, BitsPrints, CertifyPrints, CheckAccepts, CheckRejects, ComposePrints, EvalPrints, IsoPrints, LiftPrints, MakePrints, SameAgrees, SameDiffers, TablePrints, TrialPrints, UpgradePrints, VerifyLeavesTerms, VerifyProves}
use Rattle.gf_abs.specs.Written.{IsText, Writes}
use Rattle.gf_abs.proofs.AnswerDetermined.{answer_determined}
use Rattle.gf_abs.proofs.BitsHeadlineLemmas.{bits_print}
use Rattle.gf_abs.proofs.CertificateHeadlineLemmas.{certify_accepted, upgrade_keeps, verify_proves}
use Rattle.gf_abs.proofs.CheckHeadlineLemmas.{check_accepts, check_rejects}
use Rattle.gf_abs.proofs.ComposeHeadlineLemmas.{compose_prints}
use Rattle.gf_abs.proofs.EvalHeadlineLemmas.{eval_prints}
use Rattle.gf_abs.proofs.HeadlineLemmas.{abstract_prints}
use Rattle.gf_abs.proofs.IsoHeadlineLemmas.{iso_prints}
use Rattle.gf_abs.proofs.LastSumLemmas.{left_of, rejected_by_sum}
use Rattle.gf_abs.proofs.MakeHeadlineLemmas.{make_holds}
use Rattle.gf_abs.proofs.SameHeadlineLemmas.{same_agrees, same_differs}
use Rattle.gf_abs.proofs.StatusLemmas.{fault_statuses}
use Rattle.gf_abs.proofs.TableHeadlineLemmas.{lift_prints, table_prints}
use Rattle.gf_abs.proofs.TrialHeadlineLemmas.{trial_prints}

-- a reply with this status was written whole
record Replied (words : List Word) (held : Option Files) (status : ℕ) (old new : Option (List ℕ)) : Type 0 where
  reply : Reply
  answer : Answer words held (Ok reply)
  same : reply.status ≡ status
  appended : Appends old new reply.text

-- at 4 and 5 no answer is written
abbrev HasWritten : List Word → Option Files → (missed : Type 0) → ℕ → Option (List ℕ) → Option (List ℕ) → Type 0
HasWritten words held missed status old new = (status ≡ 4) ⊎ (status ≡ 5) ⊎ Writes (Answer words held) missed status old new

-- a text with status 0 or 1 is no fault's
text_replied : (words : List Word) (held : Option Files) (missed : Type 0) (status : ℕ) (old new : Option (List ℕ)) (text : List ℕ) → IsText (Answer words held) missed status text → Appends old new text → status < 2 → Replied words held status old new
text_replied words held missed status old new text (inl answer) appends low = record { reply = record { status = status; text = text }; answer = answer; same = refl; appended = appends }
text_replied words held missed status old new text (inr refused) appends low =
    let same = refused.4 in
    elim (fault_statuses refused.0) [
      | inl two ↦ absurd (omega (arith, two, same, low))
      | inr three ↦ absurd (omega (arith, three, same, low))
    ]

replied : (words : List Word) (held : Option Files) (missed : Type 0) (status : ℕ) (old new : Option (List ℕ)) → HasWritten words held missed status old new → status < 2 → Replied words held status old new
replied words held missed status old new (inl four) low = absurd (omega (arith, four, low))
replied words held missed status old new (inr (inl five)) low = absurd (omega (arith, five, low))
replied words held missed status old new (inr (inr wrote)) low = text_replied words held missed status old new wrote.0 wrote.1 wrote.2 low

module _ (words : List Word) (held : Option Files) (missed : Type 0) (status : ℕ) (old new : Option (List ℕ)) (wrote : HasWritten words held missed status old new) where
  zero_low : status ≡ 0 → status < 2
  zero_low zero = omega (arith, zero)

  one_low : status ≡ 1 → status < 2
  one_low one = omega (arith, one)

  -- where the shelf tells what it holds
  told_reply : (files : Files) → held ≡ Some files → status < 2 → Replied words (Some files) status old new
  told_reply files told low = let P : Option Files → Type 0 = λ h. Replied words h status old new in subst P told (replied words held missed status old new wrote low)

  -- ---- polynomials

  pub abstract_written : AbstractPrints words held status old new
  abstract_written files signature net bound cycles simple told spelled zero =
      let r = told_reply files told (zero_low zero) in
      record { reply = r.reply; says = abstract_prints files words signature net cycles r.reply (record { bound = bound; simple = simple; spelled = spelled; answer = r.answer }); appended = r.appended }

  pub bits_written : BitsPrints words held status old new
  bits_written files signature net bound cycles simple told spelled zero =
      let r = told_reply files told (zero_low zero) in
      record { reply = r.reply; says = bits_print files words signature net cycles r.reply (record { bound = bound; simple = simple; spelled = spelled; answer = r.answer }); appended = r.appended }

  pub accepted_written : CheckAccepts words held status old new
  accepted_written files signature net specification bound cycles simple told spelled zero =
      let r = told_reply files told (zero_low zero) in
      record { reply = r.reply; says = check_accepts files words signature net specification cycles r.reply (record { bound = bound; simple = simple; spelled = spelled; answer = r.answer }) (r.same ∙ zero); appended = r.appended }

  pub rejected_written : CheckRejects words held status old new
  rejected_written files signature net specification bound cycles simple told spelled one =
      let r = told_reply files told (one_low one) in
      record { reply = r.reply; says = check_rejects files words signature net specification cycles r.reply (record { bound = bound; simple = simple; spelled = spelled; answer = r.answer }) (r.same ∙ one); appended = r.appended }

  pub same_written : SameAgrees words held status old new
  same_written files signature net other bound cycles simple told spelled zero =
      let r = told_reply files told (zero_low zero) in
      record { reply = r.reply; says = same_agrees files words signature net other cycles r.reply (record { bound = bound; simple = simple; spelled = spelled; answer = r.answer }) (r.same ∙ zero); appended = r.appended }

  pub difference_written : SameDiffers words held status old new
  difference_written files signature net other bound cycles simple told spelled one =
      let r = told_reply files told (one_low one) in
      record { reply = r.reply; says = same_differs files words signature net other cycles r.reply (record { bound = bound; simple = simple; spelled = spelled; answer = r.answer }) (r.same ∙ one); appended = r.appended }

  pub element_written : EvalPrints words held status old new
  element_written files signature net values cycles told spelled zero =
      let r = told_reply files told (zero_low zero) in
      record { reply = r.reply; says = eval_prints files words signature net values cycles r.reply (record { spelled = spelled; answer = r.answer }); appended = r.appended }

  pub composed_written : ComposePrints words held status old new
  composed_written files signature net bound told spelled zero =
      let r = told_reply files told (zero_low zero) in
      record { reply = r.reply; says = compose_prints files words signature net r.reply (record { bound = bound; spelled = spelled; answer = r.answer }); appended = r.appended }

  -- ---- tables and isomorphisms

  pub table_written : TablePrints words held status old new
  table_written files signature net cycles told spelled zero =
      let r = told_reply files told (zero_low zero) in
      record { reply = r.reply; says = table_prints files words signature net cycles r.reply (record { spelled = spelled; answer = r.answer }); appended = r.appended }

  pub lift_written : LiftPrints words held status old new
  lift_written files signature table told spelled zero =
      let r = told_reply files told (zero_low zero) in
      record { reply = r.reply; says = lift_prints files words signature table r.reply (record { spelled = spelled; answer = r.answer }); appended = r.appended }

  pub images_written : IsoPrints words held status old new
  images_written files signature other told spelled zero =
      let r = told_reply files told (zero_low zero) in
      record { reply = r.reply; says = iso_prints files words signature other r.reply (record { spelled = spelled; answer = r.answer }); appended = r.appended }

  -- ---- certificates

  pub proof_written : VerifyProves words held status old new
  proof_written files signature net certificate bound cycles told spelled zero =
      let r = told_reply files told (zero_low zero) in
      record { reply = r.reply; says = verify_proves files words signature net certificate cycles r.reply (record { bound = bound; spelled = spelled; answer = r.answer }) (r.same ∙ zero); appended = r.appended }

  pub terms_left_written : VerifyLeavesTerms words held status old new
  terms_left_written files signature net certificate bound cycles told spelled one =
      let r = told_reply files told (one_low one) in
      let left = (rejected_by_sum files words signature net certificate bound cycles spelled).0 (record { reply = r.reply; answer = r.answer; status = r.same ∙ one }) in
      let says = answer_determined files words (Ok r.reply) (Ok (terms_left left.sum)) r.answer (left_of files words signature net certificate bound cycles spelled left.sum left.is left.some) in
      record { reply = r.reply; says = record { sum = left.sum; is = left.is; some = left.some; says = same_ok r.reply (terms_left left.sum) says }; appended = r.appended }

  pub certificate_written : CertifyPrints words held status old new
  certificate_written files signature net bound cycles told spelled zero =
      let r = told_reply files told (zero_low zero) in
      record {
        reply = r.reply;
        says = λ others more certificate most. certify_accepted files others words more signature net certificate bound most cycles r.reply (record { spelled = spelled; answer = r.answer });
        appended = r.appended;
      }

  pub upgrade_written : UpgradePrints words held status old new
  upgrade_written files signature net certificate cycles told spelled zero =
      let r = told_reply files told (zero_low zero) in
      record {
        reply = r.reply;
        says = λ others before after upgraded first second one. upgrade_keeps files others signature net certificate upgraded cycles one words r.reply before after first second (record { spelled = spelled; answer = r.answer });
        appended = r.appended;
      }

  -- ---- netlists that are made

  pub made_written : MakePrints words held status old new
  made_written files kind signature told spelled zero =
      let r = told_reply files told (zero_low zero) in
      record { reply = r.reply; says = λ others net. make_holds files others signature net kind r.reply words (record { spelled = spelled; answer = r.answer }); appended = r.appended }

  -- a trial reads no file
  pub trial_written : TrialPrints words held status old new
  trial_written number modulus bound spelled zero =
      let r = replied words held missed status old new wrote (zero_low zero) in
      record { reply = r.reply; says = trial_prints held words number modulus r.reply (record { bound = bound; spelled = spelled; answer = r.answer }); appended = r.appended }
