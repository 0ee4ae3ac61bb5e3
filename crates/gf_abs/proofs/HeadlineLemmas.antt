-- What the program's answers say, out of what comes of their steps.
use Rattle.std.proofs.Common.{◌≡◌, ◌∙◌, ap, refl, sym, subst, ℕ, Bool, false, List, Some, Ok, ◌↔◌}
use Rattle.lists.specs.laws.OptionLaws.{same_ok}
use Rattle.job_io.specs.Shelf.{Files}
use Rattle.net_words.specs.Binding.{BoundNet}
use Rattle.poly_mixed.specs.Polynomial.{Terms}
use Rattle.circuit_model.specs.Circuit.{Circuit}
use Rattle.job_words.specs.Operands.{Word}
use Rattle.job_words.specs.Command.{Abstract, Job, Over}
use Rattle.job_words.proofs.OneCommandLemmas.{one_job}
use Rattle.job_input.specs.CircuitOf.{CircuitOf}
use Rattle.job_input.specs.File.{Read}
use Rattle.job_input.specs.JobOf.{job_of}
use Rattle.job_input.specs.NetlistOf.{BoundNetOf, NetlistText, by_ending}
use Rattle.job_input.specs.SettingOf.{SettingOf}
use Rattle.job_input.specs.SettingValue.{SettingValue}
use Rattle.job_input.proofs.NetlistDetermined.{netlist_determined}
use Rattle.job_input.proofs.SettingDetermined.{setting_determined}
use Rattle.job_input.proofs.SettingSoundLemmas.{setting_sound}
use Rattle.gf_abs.specs.Answer.{JobAnswer}
use Rattle.gf_abs.specs.Headline.{AnswersAbstract}
use Rattle.answer_core.specs.Printed.{IsTaken, AreHeld, IsInItsWords, HasOutput, IsPrinted, AreOneFunction, PrintsHeld}
use Rattle.answer_core.specs.Reply.{Reply, polynomial_line}
use Rattle.answer_core.specs.Simpler.{IsSimpler}
use Rattle.answer_core.specs.Abstraction.{taken_circuit}
use Rattle.gf_abs.proofs.AnswerDetermined.{read_determined}
use Rattle.answer_polynomials.proofs.EqualFunctionLemmas.{equal_bytes}
use Rattle.answer_polynomials.proofs.EqualLemmas.{only_text, printed}
use Rattle.answer_core.proofs.JobLemmas.{IsOneWith, both_one, output_from, output_to, printed_to, words_from}
use Rattle.answer_core.proofs.SimplerLemmas.{simpler_with_job}

-- ---- the circuit behind a job

-- the circuit of all cycles of taken texts, or a simpler one, which is one with the job
pub record IsUnrolled (setting : SettingValue) (circuit : BoundNet) (job : Circuit) : Type 0 where
  pub taken : IsTaken setting circuit
  pub one : IsOneWith (taken_circuit setting circuit) job

-- of texts that were read and taken
pub unrolled_with : (signature : List ℕ) (netlist : NetlistText) (cycles : ℕ) (setting : SettingValue) (bound : BoundNet) (simple : Bool) (circuit : BoundNet) → SettingOf signature (Ok setting) → BoundNetOf setting.signature netlist (Ok bound) → (whole : BoundNet) → CircuitOf bound cycles (Ok whole) → IsSimpler simple whole circuit
    → IsUnrolled setting circuit (job_of setting bound cycles)
unrolled_with signature netlist cycles setting bound simple circuit is_setting is_bound whole is_circuit made = record {
  taken = record { signature = signature; is_setting = is_setting; netlist = netlist; cycles = cycles; simple = simple; is_circuit = (whole, (bound, is_bound, is_circuit), made) };
  one = simpler_with_job setting bound whole circuit cycles simple (setting_sound signature setting is_setting) netlist is_bound is_circuit made;
}

pub unrolled : (signature : List ℕ) (netlist : NetlistText) (cycles : ℕ) (setting : SettingValue) (bound circuit : BoundNet) → SettingOf signature (Ok setting) → BoundNetOf setting.signature netlist (Ok bound) → CircuitOf bound cycles (Ok circuit) → IsUnrolled setting circuit (job_of setting bound cycles)
unrolled signature netlist cycles setting bound circuit is_setting is_bound is_circuit = unrolled_with signature netlist cycles setting bound false circuit is_setting is_bound circuit is_circuit refl

-- of held files
pub held_job : (files : Files) (signature net : Word) (cycles : ℕ) (setting : SettingValue) (bound : BoundNet) (bytes text : List ℕ) → Read (Some files) signature (Ok bytes) → Read (Some files) net (Ok text) → SettingOf bytes (Ok setting) → BoundNetOf setting.signature (by_ending net text) (Ok bound) → AreHeld files signature net cycles setting (job_of setting bound cycles)
held_job files signature net cycles setting bound bytes text signature_read net_read is_setting is_bound = record {
  bytes = bytes;
  signature_read = signature_read;
  text = text;
  net_read = net_read;
  is_job = record { is_setting = is_setting; bound = bound; is_bound = is_bound; is_job = refl };
}

-- ---- one setting and job in the files

module _ (files : Files) (signature net other : Word) (cycles : ℕ) where
  pub one_setting : (s t : SettingValue) (c d : Circuit) → AreHeld files signature net cycles s c → AreHeld files signature other cycles t d → s ≡ t
  one_setting s t c d a b =
      let text : a.bytes ≡ b.bytes = same_ok a.bytes b.bytes (read_determined files signature (Ok a.bytes) (Ok b.bytes) a.signature_read b.signature_read) in
      let P : List ℕ → Type 0 = λ bytes. SettingOf bytes (Ok s) in
      same_ok s t (setting_determined b.bytes (Ok s) (Ok t) (subst P text a.is_job.is_setting) b.is_job.is_setting)

module _ (files : Files) (signature net : Word) (cycles : ℕ) where
  pub one_held : (s : SettingValue) (c d : Circuit) → AreHeld files signature net cycles s c → AreHeld files signature net cycles s d → c ≡ d
  one_held s c d a b =
      let bytes : a.text ≡ b.text = same_ok a.text b.text (read_determined files net (Ok a.text) (Ok b.text) a.net_read b.net_read) in
      let P : List ℕ → Type 0 = λ text. BoundNetOf s.signature (by_ending net text) (Ok a.is_job.bound) in
      let bound : a.is_job.bound ≡ b.is_job.bound = same_ok a.is_job.bound b.is_job.bound (netlist_determined s.signature (by_ending net b.text) (Ok a.is_job.bound) (Ok b.is_job.bound) (subst P bytes a.is_job.is_bound) b.is_job.is_bound) in
      a.is_job.is_job ∙ (ap (λ n. job_of s n cycles) bound ∙ sym b.is_job.is_job)

-- ---- what `abstract` prints

-- what was printed of a job
pub record Printed (setting : SettingValue) (job : Circuit) (reply : Reply) : Type 0 where
  pub circuit : BoundNet
  pub behind : IsUnrolled setting circuit job
  pub is : IsPrinted setting (taken_circuit setting circuit) reply

record HeldPrinted (files : Files) (signature net : Word) (cycles : ℕ) (reply : Reply) : Type 0 where
  pub setting : SettingValue
  pub job : Circuit
  pub held : AreHeld files signature net cycles setting job
  pub printed : Printed setting job reply

job_prints : (files : Files) (signature net : Word) (bound cycles : ℕ) (simple : Bool) (reply : Reply) → JobAnswer (Some files) (Over signature (Abstract net bound cycles simple)) (Ok reply) → HeldPrinted files signature net cycles reply
job_prints files signature net bound cycles simple reply (signed, (text, read, is), (setting, are, (circuit, (whole, (netlist, (bytes, read', taken), of), made), came))) =
    let behind = unrolled_with text (by_ending net bytes) cycles setting netlist simple circuit (signed, is, are) taken whole of made in
    record {
      setting = setting;
      job = job_of setting netlist cycles;
      held = held_job files signature net cycles setting netlist text bytes read read' (signed, is, are) taken;
      printed = record { circuit = circuit; behind = behind; is = printed setting circuit behind.taken bound reply came };
    }

-- ---- the answers

module _ (files : Files) (words : List Word) (signature net : Word) (cycles : ℕ) (reply : Reply) where
  held_printed : AnswersAbstract files words signature net cycles reply → HeldPrinted files signature net cycles reply
  held_printed is =
      let P : Job → Type 0 = λ job. JobAnswer (Some files) job (Ok reply) in
      let answer = is.answer in
      job_prints files signature net is.bound cycles is.simple reply (subst P (one_job words answer.0 (Over signature (Abstract net is.bound cycles is.simple)) answer.1 is.spelled) answer.2)

  pub abstract_prints : AnswersAbstract files words signature net cycles reply → PrintsHeld files signature net cycles reply
  abstract_prints is =
      let found = held_printed is in
      let p = found.printed in
      record { setting = found.setting; job = found.job; held = found.held; printed = printed_to found.setting (taken_circuit found.setting p.circuit) found.job p.behind.one reply p.is }

  -- what is printed is of this setting and job
  pub printed_of : (setting : SettingValue) (job : Circuit) → AnswersAbstract files words signature net cycles reply → AreHeld files signature net cycles setting job → Printed setting job reply
  printed_of setting job is held =
      let found = held_printed is in
      let P : SettingValue → Type 0 = λ s. AreHeld files signature net cycles s found.job in
      let Q : SettingValue → Type 0 = λ s. Printed s found.job reply in
      let R : Circuit → Type 0 = λ c. Printed setting c reply in
      let same = one_setting files signature net net cycles found.setting setting found.job job found.held held in
      subst R (one_held files signature net cycles setting found.job job (subst P same found.held) held) (subst Q same found.printed)

pub bytes_only : (files : Files) (words : List Word) (signature net : Word) (cycles : ℕ) (reply : Reply) (setting : SettingValue) (job : Circuit) (ts : Terms) → AnswersAbstract files words signature net cycles reply → AreHeld files signature net cycles setting job → IsInItsWords setting job ts → reply.text ≡ polynomial_line setting ts ↔ HasOutput setting job ts
bytes_only files words signature net cycles reply setting job ts is held in_words =
    let p = printed_of files words signature net cycles reply setting job is held in
    let c : Circuit = taken_circuit setting p.circuit in
    let one = p.behind.one in
    let text = only_text setting p.circuit p.behind.taken reply ts p.is (words_from setting c job one ts in_words) in (
      (λ same. output_to setting c job one ts (text.0 same)),
      λ values. text.1 (output_from setting c job one ts values),
    )

pub bytes_equal : (files files' : Files) (words words' : List Word) (signature signature' net net' : Word) (cycles cycles' : ℕ) (reply reply' : Reply) (setting : SettingValue) (job other : Circuit) → AnswersAbstract files words signature net cycles reply → AnswersAbstract files' words' signature' net' cycles' reply' → AreHeld files signature net cycles setting job → AreHeld files' signature' net' cycles' setting other
    → reply.text ≡ reply'.text ↔ AreOneFunction job other
bytes_equal files files' words words' signature signature' net net' cycles cycles' reply reply' setting job other is is' held held' =
    let p = printed_of files words signature net cycles reply setting job is held in
    let q = printed_of files' words' signature' net' cycles' reply' setting other is' held' in
    let c : Circuit = taken_circuit setting p.circuit in
    let d : Circuit = taken_circuit setting q.circuit in
    let text = equal_bytes setting p.circuit q.circuit reply reply' p.behind.taken q.behind.taken p.is q.is in
    let both = both_one c job d other p.behind.one q.behind.one in (
      (λ same. both.0 (text.0 same)),
      λ equal. text.1 (both.1 equal),
    )

-- runs over the same files have one reply, whatever the bounds, and with `--simplify` or without it
pub one_in_words : (files : Files) (words words' : List Word) (signature net : Word) (cycles : ℕ) (reply reply' : Reply) → AnswersAbstract files words signature net cycles reply → AnswersAbstract files words' signature net cycles reply' → reply ≡ reply'
one_in_words files words words' signature net cycles reply reply' is is' =
    let first = abstract_prints files words signature net cycles reply is in
    let second = abstract_prints files words' signature net cycles reply' is' in
    let text : reply.text ≡ reply'.text = (bytes_equal files files words words' signature signature net net cycles cycles reply reply' first.setting first.job first.job is is' first.held first.held).1 (λ xs e. ((λ out. out), (λ out. out))) in
    let status : reply.status ≡ reply'.status = first.printed.status ∙ sym second.printed.status in
    (λ i. record { status = status i; text = text i })
