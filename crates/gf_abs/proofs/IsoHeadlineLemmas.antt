-- What the answers of `iso` say, out of what comes of its steps.
use Rattle.std.proofs.Common.{ap, subst, List, Some, Ok}
use Rattle.job_io.specs.Shelf.{Files}
use Rattle.job_words.specs.Command.{Iso, Job, Over}
use Rattle.job_words.specs.Operands.{Word}
use Rattle.job_words.proofs.OneCommandLemmas.{one_job}
use Rattle.net_signature.specs.Signature.{SignatureValue}
use Rattle.gf_abs.specs.Answer.{JobAnswer}
use Rattle.gf_abs.specs.IsoHeadline.{AnswersIso, PrintsImages}
use Rattle.answer_core.specs.Reply.{Reply}
use Rattle.answer_tables.specs.Iso.{AreImages}

job_images : (files : Files) (signature other : Word) (reply : Reply) → JobAnswer (Some files) (Over signature (Iso other)) (Ok reply) → PrintsImages files signature other reply
job_images files signature other reply (signed, (text, read, is), (setting, are, (second, (signed', (text', read', is'), (setting', are', same)), images))) =
    let P : SignatureValue → Type 0 = λ s. AreImages setting.signature s reply in
    record {
      first = setting;
      second = setting';
      is_first = record { bytes = text; read = read; is_setting = (signed, is, are) };
      is_second = record { bytes = text'; read = read'; is_setting = (signed', is', are') };
      images = subst P same images;
      status = ap (λ (r : Reply). r.status) images.text;
    }

pub iso_prints : (files : Files) (words : List Word) (signature other : Word) (reply : Reply) → AnswersIso files words signature other reply → PrintsImages files signature other reply
iso_prints files words signature other reply is =
    let P : Job → Type 0 = λ job. JobAnswer (Some files) job (Ok reply) in
    let answer = is.answer in
    job_images files signature other reply (subst P (one_job words answer.0 (Over signature (Iso other)) answer.1 is.spelled) answer.2)
