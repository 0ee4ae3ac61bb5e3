-- What the answers of `same` say, out of what comes of its steps.
use Rattle.std.proofs.Common.{◌≡◌, ◌⊎◌, ◌∙◌, ap, sym, subst, inl, inr, ℕ, Bool, List, Option, None, Some, Ok, ◌↔◌, codes, arith}
use Rattle.job_io.specs.Shelf.{Files}
use Rattle.net_words.specs.Binding.{BoundNet}
use Rattle.circuit_model.specs.Alike.{AreAlike}
use Rattle.circuit_model.specs.Circuit.{Circuit, IsInput}
use Rattle.circuit_model.specs.Differing.{Difference, AreSame}
use Rattle.circuit_model.specs.Out.{IsOut}
use Rattle.circuit_model.proofs.DifferingLemmas.{one_comparison}
use Rattle.circuit_model.proofs.OnesLemmas.{alike_long}
use Rattle.circuit_model.proofs.OutLemmas.{one_out, some_out}
use Rattle.job_words.specs.Operands.{Word}
use Rattle.job_words.specs.Command.{Same, Job, Over}
use Rattle.job_words.proofs.OneCommandLemmas.{one_job}
use Rattle.job_input.specs.Labelling.{labels_of}
use Rattle.job_input.specs.JobOf.{job_of}
use Rattle.job_input.specs.NetlistOf.{by_ending}
use Rattle.job_input.specs.SettingValue.{SettingValue}
use Rattle.gf_abs.specs.Answer.{JobAnswer}
use Rattle.gf_abs.specs.Headline.{AnswersSame, ComparesHeld, PrintsHeldDifference, PrintsHeldSame}
use Rattle.answer_core.specs.Printed.{IsTaken, AreHeld, PrintsDifference, AreOneFunction}
use Rattle.answer_core.specs.Reply.{Reply}
use Rattle.answer_core.specs.Abstraction.{taken_circuit}
use Rattle.answer_polynomials.specs.Same.{AreCompared, SameReply, same_reply}
use Rattle.answer_polynomials.proofs.AlikeLemmas.{alike}
use Rattle.answer_polynomials.proofs.EqualLemmas.{roles, well}
use Rattle.gf_abs.proofs.HeadlineLemmas.{IsUnrolled, held_job, one_held, one_setting, unrolled_with}
use Rattle.answer_core.proofs.JobLemmas.{both_one, comparison, differing, one_through}

-- what was compared for a reply
pub record Compared (setting : SettingValue) (job second : Circuit) (reply : Reply) : Type 0 where
  pub circuit : BoundNet
  pub other : BoundNet
  pub behind : IsUnrolled setting circuit job
  pub beside : IsUnrolled setting other second
  pub found : Option Difference
  pub is : AreCompared setting circuit other found
  pub replied : reply ≡ same_reply (labels_of setting.k setting.signature.words) found

record HeldCompared (files : Files) (signature net other : Word) (cycles : ℕ) (reply : Reply) : Type 0 where
  pub setting : SettingValue
  pub job : Circuit
  pub second : Circuit
  pub held : AreHeld files signature net cycles setting job
  pub more : AreHeld files signature other cycles setting second
  pub compared : Compared setting job second reply

replied_by : (setting : SettingValue) (circuit other : BoundNet) (job second : Circuit) (bound : ℕ) (reply : Reply) → IsUnrolled setting circuit job → IsUnrolled setting other second → SameReply setting circuit other bound (Ok reply) → Compared setting job second reply
replied_by setting circuit other job second bound reply behind beside (found, is, exactly) = record { circuit = circuit; other = other; behind = behind; beside = beside; found = found; is = is.0; replied = exactly }

job_compares : (files : Files) (signature net other : Word) (bound cycles : ℕ) (simple : Bool) (reply : Reply) → JobAnswer (Some files) (Over signature (Same net other bound cycles simple)) (Ok reply) → HeldCompared files signature net other cycles reply
job_compares files signature net other bound cycles simple reply (signed, (text, read, is), (setting, are, (netlist, (bytes, read', taken), (second, (bytes', read'', taken'), (circuit, (whole, of, made), (more, (whole', of', made'), came)))))) =
    let behind = unrolled_with text (by_ending net bytes) cycles setting netlist simple circuit (signed, is, are) taken whole of made in
    let beside = unrolled_with text (by_ending other bytes') cycles setting second simple more (signed, is, are) taken' whole' of' made' in
    record {
      setting = setting;
      job = job_of setting netlist cycles;
      second = job_of setting second cycles;
      held = held_job files signature net cycles setting netlist text bytes read read' (signed, is, are) taken;
      more = held_job files signature other cycles setting second text bytes' read read'' (signed, is, are) taken';
      compared = replied_by setting circuit more (job_of setting netlist cycles) (job_of setting second cycles) bound reply behind beside came;
    }

module _ (files : Files) (words : List Word) (signature net other : Word) (cycles : ℕ) (reply : Reply) (answers : AnswersSame files words signature net other cycles reply) where
  held_compared : HeldCompared files signature net other cycles reply
  held_compared =
      let P : Job → Type 0 = λ job. JobAnswer (Some files) job (Ok reply) in
      let answer = answers.answer in
      job_compares files signature net other answers.bound cycles answers.simple reply (subst P (one_job words answer.0 (Over signature (Same net other answers.bound cycles answers.simple)) answer.1 answers.spelled) answer.2)

  -- the comparison of these jobs
  compared_for : (setting : SettingValue) (job second : Circuit) → AreHeld files signature net cycles setting job → AreHeld files signature other cycles setting second → Compared setting job second reply
  compared_for setting job second held more =
      let found = held_compared in
      let same : found.setting ≡ setting = one_setting files signature net net cycles found.setting setting found.job job found.held held in
      let P : SettingValue → Type 0 = λ s. AreHeld files signature net cycles s found.job in
      let Q : SettingValue → Type 0 = λ s. AreHeld files signature other cycles s found.second in
      let R : SettingValue → Type 0 = λ s. Compared s found.job found.second reply in
      let S : Circuit → Type 0 = λ c. Compared setting c found.second reply in
      let T : Circuit → Type 0 = λ d. Compared setting job d reply in
      subst T (one_held files signature other cycles setting found.second second (subst Q same found.more) more)
      (subst S (one_held files signature net cycles setting found.job job (subst P same found.held) held) (subst R same found.compared))

-- ---- what a comparison says

module _ (setting : SettingValue) (circuit other : BoundNet) (taken : IsTaken setting circuit) (more : IsTaken setting other) where
  are_alike : AreAlike (taken_circuit setting circuit) (taken_circuit setting other)
  are_alike = alike setting circuit other setting.signature.words (roles setting circuit taken) (roles setting other more)

  -- they have the same inputs
  pub there_too : (xs : List ℕ) → IsInput (taken_circuit setting circuit) xs → IsInput (taken_circuit setting other) xs
  there_too xs is = record { long = is.long ∙ alike_long (taken_circuit setting circuit) (taken_circuit setting other) are_alike; elements = is.elements }

  here_too : (xs : List ℕ) → IsInput (taken_circuit setting other) xs → IsInput (taken_circuit setting circuit) xs
  here_too xs is = record { long = is.long ∙ sym (alike_long (taken_circuit setting circuit) (taken_circuit setting other) are_alike); elements = is.elements }

  -- outputs that are the same wherever both are, are one function
  one_function : AreSame (taken_circuit setting circuit) (IsOut (taken_circuit setting circuit)) (IsOut (taken_circuit setting other)) → AreOneFunction (taken_circuit setting circuit) (taken_circuit setting other)
  one_function same xs e =
      let c = taken_circuit setting circuit in
      let d = taken_circuit setting other in
      let P : ℕ → Type 0 = IsOut d xs in
      let Q : ℕ → Type 0 = IsOut c xs in (
        (λ out.
            let input = out.is_run.open_run.input in
            let there = some_out d xs (well setting other more) (there_too xs input) in
            subst P (sym (same xs e there.0 input out there.1)) there.1),
        λ out.
            let input = here_too xs out.is_run.open_run.input in
            let there = some_out c xs (well setting circuit taken) input in
            subst Q (same xs there.0 e input there.1 out) there.1,
      )

  zero_there : (reply : Reply) (found : Option Difference) → AreCompared setting circuit other found → reply ≡ same_reply (labels_of setting.k setting.signature.words) found → reply.status ≡ 0 ↔ AreOneFunction (taken_circuit setting circuit) (taken_circuit setting other)
  zero_there reply None is replied = ((λ zero. one_function is), λ equal. ap (λ (r : Reply). r.status) replied)
  zero_there reply (Some found) is replied =
      let status : reply.status ≡ 1 = ap (λ (r : Reply). r.status) replied in (
        (λ zero. absurd (omega (arith, zero, status))),
        λ equal. absurd (is.differ.apart (one_out (taken_circuit setting other) found.input found.left found.right (well setting other more) ((equal found.input found.left).0 is.differ.first) is.differ.second)),
      )

  difference_there : (reply : Reply) (found : Option Difference) → AreCompared setting circuit other found → reply ≡ same_reply (labels_of setting.k setting.signature.words) found → reply.status ≡ 1 → PrintsDifference setting (taken_circuit setting circuit) (taken_circuit setting other) reply
  difference_there reply None is replied one = let status : reply.status ≡ 0 = ap (λ (r : Reply). r.status) replied in absurd (omega (arith, one, status))
  difference_there reply (Some found) is replied one = record { found = found; text = ap (λ (r : Reply). r.text) replied; differing = is }

status_there : (setting : SettingValue) (reply : Reply) (found : Option Difference) → reply ≡ same_reply (labels_of setting.k setting.signature.words) found → (reply.status ≡ 0) ⊎ (reply.status ≡ 1)
status_there setting reply None replied = inl (ap (λ (r : Reply). r.status) replied)
status_there setting reply (Some found) replied = inr (ap (λ (r : Reply). r.status) replied)

text_there : (setting : SettingValue) (reply : Reply) (found : Option Difference) → reply ≡ same_reply (labels_of setting.k setting.signature.words) found → reply.status ≡ 0 → reply.text ≡ codes "same\n"
text_there setting reply None replied zero = ap (λ (r : Reply). r.text) replied
text_there setting reply (Some found) replied zero = let status : reply.status ≡ 1 = ap (λ (r : Reply). r.status) replied in absurd (omega (arith, zero, status))

module _ (files : Files) (words : List Word) (signature net other : Word) (cycles : ℕ) (reply : Reply) where
  pub same_status : AnswersSame files words signature net other cycles reply → (reply.status ≡ 0) ⊎ (reply.status ≡ 1)
  same_status answers = let found = held_compared files words signature net other cycles reply answers in status_there found.setting reply found.compared.found found.compared.replied

  pub same_text : AnswersSame files words signature net other cycles reply → reply.status ≡ 0 → reply.text ≡ codes "same\n"
  same_text answers zero = let found = held_compared files words signature net other cycles reply answers in text_there found.setting reply found.compared.found found.compared.replied zero

  module _ (setting : SettingValue) (job second : Circuit) (answers : AnswersSame files words signature net other cycles reply) (held : AreHeld files signature net cycles setting job) (more : AreHeld files signature other cycles setting second) where
    compared_here : Compared setting job second reply
    compared_here = compared_for files words signature net other cycles reply answers setting job second held more

    equal_here : reply.status ≡ 0 ↔ AreOneFunction job second
    equal_here =
        let found = compared_here in
        let both = both_one (taken_circuit setting found.circuit) job (taken_circuit setting found.other) second found.behind.one found.beside.one in
        let zero = zero_there setting found.circuit found.other found.behind.taken found.beside.taken reply found.found found.is found.replied in (
          (λ status. both.0 (zero.0 status)),
          λ equal. zero.1 (both.1 equal),
        )

    differs_here : reply.status ≡ 1 → PrintsDifference setting job second reply
    differs_here one =
        let found = compared_here in
        let c : Circuit = taken_circuit setting found.circuit in
        let d : Circuit = taken_circuit setting found.other in
        let there = difference_there setting found.circuit found.other found.behind.taken found.beside.taken reply found.found found.is found.replied one in
        record {
          found = there.found;
          text = there.text;
          differing = differing setting c job found.behind.one (IsOut c) (IsOut d) (IsOut job) (IsOut second) found.behind.one.output found.beside.one.output there.found.input there.found.left there.found.right there.differing;
        }

-- ---- of the jobs in the files

module _ (files : Files) (words : List Word) (signature net other : Word) (cycles : ℕ) (reply : Reply) (answers : AnswersSame files words signature net other cycles reply) where
  of_files : HeldCompared files signature net other cycles reply
  of_files = held_compared files words signature net other cycles reply answers

  pub same_equal : ComparesHeld files signature net other cycles reply
  same_equal = record {
    setting = of_files.setting;
    job = of_files.job;
    second = of_files.second;
    are = record { held = of_files.held; more = of_files.more };
    equal = equal_here files words signature net other cycles reply of_files.setting of_files.job of_files.second answers of_files.held of_files.more;
  }

  pub same_agrees : reply.status ≡ 0 → PrintsHeldSame files signature net other cycles reply
  same_agrees zero = record {
    setting = of_files.setting;
    job = of_files.job;
    second = of_files.second;
    are = record { held = of_files.held; more = of_files.more };
    equal = (equal_here files words signature net other cycles reply of_files.setting of_files.job of_files.second answers of_files.held of_files.more).0 zero;
    text = same_text files words signature net other cycles reply answers zero;
  }

  pub same_differs : reply.status ≡ 1 → PrintsHeldDifference files signature net other cycles reply
  same_differs one = record {
    setting = of_files.setting;
    job = of_files.job;
    second = of_files.second;
    are = record { held = of_files.held; more = of_files.more };
    printed = differs_here files words signature net other cycles reply of_files.setting of_files.job of_files.second answers of_files.held of_files.more one;
  }

-- ---- one reply

-- two comparisons of the same jobs are one
one_compared : (setting : SettingValue) (job second : Circuit) (reply reply' : Reply) → Compared setting job second reply → Compared setting job second reply' → reply ≡ reply'
one_compared setting job second reply reply' a b =
    let c : Circuit = taken_circuit setting a.circuit in
    let d : Circuit = taken_circuit setting a.other in
    let c' : Circuit = taken_circuit setting b.circuit in
    let d' : Circuit = taken_circuit setting b.other in
    let left = one_through c' c job b.behind.one a.behind.one in
    let right = one_through d' d second b.beside.one a.beside.one in
    let there : AreCompared setting a.circuit a.other b.found = comparison setting c' c left (IsOut c') (IsOut d') (IsOut c) (IsOut d) left.output right.output b.found b.is in
    let fine = well setting a.circuit a.behind.taken in
    let fine' = well setting a.other a.beside.taken in
    let same : a.found ≡ b.found = one_comparison c (IsOut c) (IsOut d) fine (λ xs x y. one_out c xs x y fine) (λ xs x y. one_out d xs x y fine') a.found b.found a.is there in
    a.replied ∙ (ap (λ (found : Option Difference). same_reply (labels_of setting.k setting.signature.words) found) same ∙ sym b.replied)

-- runs over the same files have one reply, whatever the bounds, and with `--simplify` or without it
pub one_same : (files : Files) (words words' : List Word) (signature net other : Word) (cycles : ℕ) (reply reply' : Reply) → AnswersSame files words signature net other cycles reply → AnswersSame files words' signature net other cycles reply' → reply ≡ reply'
one_same files words words' signature net other cycles reply reply' is is' =
    let first = held_compared files words signature net other cycles reply is in
    one_compared first.setting first.job first.second reply reply' first.compared (compared_for files words' signature net other cycles reply' is' first.setting first.job first.second first.held first.more)
