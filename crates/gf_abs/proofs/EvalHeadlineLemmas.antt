-- What the answers of `eval` say, out of what comes of its steps.
use Rattle.std.proofs.Common.{◌≡◌, ◌∙◌, ap, sym, subst, ℕ, List, length, Some, Ok}
use Rattle.job_io.specs.Shelf.{Files}
use Rattle.net_words.specs.Binding.{BoundNet}
use Rattle.circuit_model.specs.Circuit.{Circuit}
use Rattle.job_words.specs.Operands.{Word}
use Rattle.job_words.specs.Command.{Eval, Job, Over}
use Rattle.job_words.proofs.OneCommandLemmas.{one_job}
use Rattle.job_input.specs.JobOf.{job_of}
use Rattle.job_input.specs.Labelling.{labels_of}
use Rattle.job_input.specs.NetlistOf.{by_ending}
use Rattle.job_input.specs.SettingValue.{SettingValue}
use Rattle.gf_abs.specs.Answer.{JobAnswer}
use Rattle.gf_abs.specs.EvalHeadline.{AnswersEval, PrintsElement, PrintsHeldElement}
use Rattle.answer_core.specs.Reply.{Reply}
use Rattle.answer_polynomials.specs.Values.{ValuesOf}
use Rattle.answer_core.specs.Abstraction.{taken_circuit}
use Rattle.answer_polynomials.specs.Eval.{EvalReply}
use Rattle.answer_polynomials.proofs.EqualLemmas.{count}
use Rattle.gf_abs.proofs.HeadlineLemmas.{IsUnrolled, held_job, unrolled}
use Rattle.answer_core.proofs.JobLemmas.{long}

element_of : (setting : SettingValue) (circuit : BoundNet) (job : Circuit) (values : List Word) (xs : List ℕ) (reply : Reply) → IsUnrolled setting circuit job → ValuesOf setting.k (length (labels_of setting.k setting.signature.words).words) values (Ok xs) → EvalReply setting circuit xs (Ok reply) → PrintsElement setting job values reply
element_of setting circuit job values xs reply behind are (e, out, same) =
    let many : length (labels_of setting.k setting.signature.words).words ≡ length job.words = sym (count setting circuit behind.taken) ∙ long setting (taken_circuit setting circuit) job behind.one in
    let P : ℕ → Type 0 = λ n. ValuesOf setting.k n values (Ok xs) in
    record {
      input = xs;
      output = e;
      values_are = subst P many are;
      is_out = (behind.one.output xs e).0 out;
      status = ap (λ (r : Reply). r.status) same;
      line = ap (λ (r : Reply). r.text) same;
    }

job_gives : (files : Files) (signature net : Word) (values : List Word) (cycles : ℕ) (reply : Reply) → JobAnswer (Some files) (Over signature (Eval net values cycles)) (Ok reply) → PrintsHeldElement files signature net values cycles reply
job_gives files signature net values cycles reply (signed, (text, read, is), (setting, are, (netlist, (bytes, read', taken), (xs, values_are, (circuit, of, came))))) =
    let behind = unrolled text (by_ending net bytes) cycles setting netlist circuit (signed, is, are) taken of in
    record {
      setting = setting;
      job = job_of setting netlist cycles;
      held = held_job files signature net cycles setting netlist text bytes read read' (signed, is, are) taken;
      printed = element_of setting circuit (job_of setting netlist cycles) values xs reply behind values_are came;
    }

pub eval_prints : (files : Files) (words : List Word) (signature net : Word) (values : List Word) (cycles : ℕ) (reply : Reply) → AnswersEval files words signature net values cycles reply → PrintsHeldElement files signature net values cycles reply
eval_prints files words signature net values cycles reply is =
    let P : Job → Type 0 = λ job. JobAnswer (Some files) job (Ok reply) in
    let answer = is.answer in
    job_gives files signature net values cycles reply (subst P (one_job words answer.0 (Over signature (Eval net values cycles)) answer.1 is.spelled) answer.2)
