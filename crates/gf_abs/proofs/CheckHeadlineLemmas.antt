-- What the answers of `check` say, out of what comes of its steps.
use Rattle.std.proofs.Common.{◌≡◌, ◌⊎◌, ◌∙◌, ap, sym, refl, subst, inl, inr, ℕ, Bool, List, [], ◌++◌, Option, None, Some, Result, Ok, Err, ◌↔◌, codes, arith}
use Rattle.job_io.specs.Shelf.{Files}
use Rattle.net_words.specs.Binding.{BoundNet}
use Rattle.poly_mixed.specs.Polynomial.{Terms}
use Rattle.circuit_model.specs.Circuit.{Circuit}
use Rattle.circuit_model.specs.Differing.{Difference, AreSame}
use Rattle.circuit_model.specs.Out.{IsOut}
use Rattle.circuit_model.proofs.DifferingLemmas.{one_comparison}
use Rattle.circuit_model.proofs.OutLemmas.{one_out, some_out}
use Rattle.spec_expand.specs.SpecValue.{spec_at}
use Rattle.spec_expand.specs.Specification.{SpecTerms}
use Rattle.job_words.specs.Operands.{Word}
use Rattle.job_words.specs.declared.fault.Fault.{Fault}
use Rattle.job_words.specs.Command.{Check, Job, Over}
use Rattle.job_words.proofs.OneCommandLemmas.{one_job}
use Rattle.job_input.specs.Labelling.{labels_of}
use Rattle.job_input.specs.JobOf.{job_of}
use Rattle.job_input.specs.NetlistOf.{by_ending}
use Rattle.job_input.specs.SettingValue.{SettingValue}
use Rattle.job_input.specs.SpecificationIn.{SpecificationIn}
use Rattle.gf_abs.specs.Answer.{JobAnswer}
use Rattle.answer_core.specs.Judged.{Computes, IsSpecified, IsJudged}
use Rattle.gf_abs.specs.CheckHeadline.{AnswersCheck, AreHeldWith, ChecksHeld, PrintsAcceptance, PrintsHeldAcceptance, PrintsHeldRejection, PrintsRejection}
use Rattle.answer_core.specs.DifferingLines.{differing_lines}
use Rattle.answer_core.specs.Printed.{IsTaken, IsPrinted}
use Rattle.answer_core.specs.Reply.{Reply, prints, polynomial_line}
use Rattle.answer_core.specs.Abstraction.{taken_circuit}
use Rattle.answer_polynomials.specs.Abstract.{AbstractReply}
use Rattle.answer_polynomials.specs.Check.{CheckReply, check_reply}
use Rattle.gf_abs.proofs.AnswerDetermined.{said_determined}
use Rattle.answer_polynomials.proofs.EqualFunctionLemmas.{equal_bytes}
use Rattle.answer_polynomials.proofs.EqualLemmas.{well, printed}
use Rattle.gf_abs.proofs.HeadlineLemmas.{IsUnrolled, held_job, one_held, one_setting, unrolled_with}
use Rattle.answer_core.proofs.JobLemmas.{comparison, computes, differing, one_through, output_to, specified, words_to}

-- what was judged for a reply
pub record Judged (setting : SettingValue) (job : Circuit) (spec : SpecTerms) (reply : Reply) : Type 0 where
  pub circuit : BoundNet
  pub behind : IsUnrolled setting circuit job
  pub bound : ℕ
  pub polynomial : Terms
  pub reduced : AbstractReply setting circuit bound (Ok (prints setting polynomial))
  pub found : Option Difference
  pub is : IsJudged setting circuit spec found
  pub replied : reply ≡ check_reply (labels_of setting.k setting.signature.words) (polynomial_line setting polynomial) found

record HeldJudged (files : Files) (signature net specification : Word) (cycles : ℕ) (reply : Reply) : Type 0 where
  pub setting : SettingValue
  pub job : Circuit
  pub spec : SpecTerms
  pub held : AreHeldWith files signature net specification cycles setting job spec
  pub judged : Judged setting job spec reply

replied_by : (setting : SettingValue) (circuit : BoundNet) (job : Circuit) (spec : SpecTerms) (bound : ℕ) (reply : Reply) → IsUnrolled setting circuit job → CheckReply setting circuit spec bound (Ok reply) → Judged setting job spec reply
replied_by setting circuit job spec bound reply behind (line, (ts, of_words, is_line), (found, is, exactly)) = record {
  circuit = circuit;
  behind = behind;
  bound = bound;
  polynomial = ts;
  reduced = (ts, of_words, refl);
  found = found;
  is = is.0;
  replied = exactly ∙ ap (λ l. check_reply (labels_of setting.k setting.signature.words) l found) is_line;
}

job_judges : (files : Files) (signature net specification : Word) (bound cycles : ℕ) (simple : Bool) (reply : Reply) → JobAnswer (Some files) (Over signature (Check net specification bound cycles simple)) (Ok reply) → HeldJudged files signature net specification cycles reply
job_judges files signature net specification bound cycles simple reply (signed, (text, read, is), (setting, are, (netlist, (bytes, read', taken), (spec, said, (circuit, (whole, of, made), came))))) =
    let behind = unrolled_with text (by_ending net bytes) cycles setting netlist simple circuit (signed, is, are) taken whole of made in
    record {
      setting = setting;
      job = job_of setting netlist cycles;
      spec = spec;
      held = record { held = held_job files signature net cycles setting netlist text bytes read read' (signed, is, are) taken; said = said };
      judged = replied_by setting circuit (job_of setting netlist cycles) spec bound reply behind came;
    }

said_in : Result SpecTerms Fault → SpecTerms
said_in (Ok spec) = spec
said_in (Err fault) = []

one_said : (files : Files) (setting : SettingValue) (specification : Word) (a b : SpecTerms) → SpecificationIn (Some files) (labels_of setting.k setting.signature.words) setting.k setting.product specification (Ok a) → SpecificationIn (Some files) (labels_of setting.k setting.signature.words) setting.k setting.product specification (Ok b) → a ≡ b
unfolding said_in
one_said files setting specification a b p q = ap said_in (said_determined files setting specification (Ok a) (Ok b) p q)

module _ (files : Files) (words : List Word) (signature net specification : Word) (cycles : ℕ) (reply : Reply) (answers : AnswersCheck files words signature net specification cycles reply) where
  held_judged : HeldJudged files signature net specification cycles reply
  held_judged =
      let P : Job → Type 0 = λ job. JobAnswer (Some files) job (Ok reply) in
      let answer = answers.answer in
      job_judges files signature net specification answers.bound cycles answers.simple reply (subst P (one_job words answer.0 (Over signature (Check net specification answers.bound cycles answers.simple)) answer.1 answers.spelled) answer.2)

  -- what was judged of these
  judged_for : (setting : SettingValue) (job : Circuit) (spec : SpecTerms) → AreHeldWith files signature net specification cycles setting job spec → Judged setting job spec reply
  judged_for setting job spec are =
      let found = held_judged in
      let one : found.setting ≡ setting = one_setting files signature net net cycles found.setting setting found.job job found.held.held are.held in
      let P : SettingValue → Type 0 = λ s. AreHeldWith files signature net specification cycles s found.job found.spec in
      let R : SettingValue → Type 0 = λ s. Judged s found.job found.spec reply in
      let here = subst P one found.held in
      let S : Circuit → Type 0 = λ c. Judged setting c found.spec reply in
      let T : SpecTerms → Type 0 = λ s. Judged setting job s reply in
      let said : found.spec ≡ spec = one_said files setting specification found.spec spec here.said are.said in
      subst T said (subst S (one_held files signature net cycles setting found.job job here.held are.held) (subst R one found.judged))

-- ---- what a judgement says

module _ (setting : SettingValue) (circuit : BoundNet) (spec : SpecTerms) (taken : IsTaken setting circuit) where
  -- an output that is the specification's value wherever both are computes it
  computed : AreSame (taken_circuit setting circuit) (IsOut (taken_circuit setting circuit)) (IsSpecified setting (taken_circuit setting circuit) spec) → Computes setting (taken_circuit setting circuit) spec
  computed same xs e =
      let c = taken_circuit setting circuit in
      let P : ℕ → Type 0 = IsOut c xs in (
        (λ out. let input = out.is_run.open_run.input in record { input = input; value = sym (same xs e (spec_at setting.product xs spec) input out (record { input = input; value = refl })) }),
        λ said. let there = some_out c xs (well setting circuit taken) said.input in subst P (same xs there.0 e said.input there.1 said) there.1,
      )

  zero_there : (reply : Reply) (line : List ℕ) (found : Option Difference) → IsJudged setting circuit spec found → reply ≡ check_reply (labels_of setting.k setting.signature.words) line found → reply.status ≡ 0 ↔ Computes setting (taken_circuit setting circuit) spec
  zero_there reply line None is replied = ((λ zero. computed is), λ equal. ap (λ (r : Reply). r.status) replied)
  zero_there reply line (Some found) is replied =
      let status : reply.status ≡ 1 = ap (λ (r : Reply). r.status) replied in (
        (λ zero. absurd (omega (arith, zero, status))),
        λ equal.
            let said = (equal found.input found.left).0 is.differ.first in
            absurd (is.differ.apart (sym said.value ∙ is.differ.second.value)),
      )

  module _ (reply : Reply) (ts : Terms) (p : IsPrinted setting (taken_circuit setting circuit) (prints setting ts)) where
    acceptance_there : (found : Option Difference) → reply ≡ check_reply (labels_of setting.k setting.signature.words) (polynomial_line setting ts) found → reply.status ≡ 0 → PrintsAcceptance setting (taken_circuit setting circuit) reply
    acceptance_there None replied zero = record { polynomial = p.polynomial; text = ap (λ (r : Reply). r.text) replied ∙ ap (λ (l : List ℕ). codes "accepted\n" ++ l) p.line; in_words = p.in_words; values = p.values }
    acceptance_there (Some found) replied zero = let status : reply.status ≡ 1 = ap (λ (r : Reply). r.status) replied in absurd (omega (arith, zero, status))

    rejection_there : (found : Option Difference) → IsJudged setting circuit spec found → reply ≡ check_reply (labels_of setting.k setting.signature.words) (polynomial_line setting ts) found → reply.status ≡ 1 → PrintsRejection setting (taken_circuit setting circuit) spec reply
    rejection_there None is replied one = let status : reply.status ≡ 0 = ap (λ (r : Reply). r.status) replied in absurd (omega (arith, one, status))
    rejection_there (Some found) is replied one = record {
      polynomial = p.polynomial;
      found = found;
      text = ap (λ (r : Reply). r.text) replied ∙ ap (λ (l : List ℕ). codes "rejected\n" ++ (l ++ differing_lines (labels_of setting.k setting.signature.words) (codes "netlist") (codes "specification") found)) p.line;
      in_words = p.in_words;
      values = p.values;
      differing = is;
    }

status_there : (setting : SettingValue) (line : List ℕ) (reply : Reply) (found : Option Difference) → reply ≡ check_reply (labels_of setting.k setting.signature.words) line found → (reply.status ≡ 0) ⊎ (reply.status ≡ 1)
status_there setting line reply None replied = inl (ap (λ (r : Reply). r.status) replied)
status_there setting line reply (Some found) replied = inr (ap (λ (r : Reply). r.status) replied)

module _ (files : Files) (words : List Word) (signature net specification : Word) (cycles : ℕ) (reply : Reply) where
  pub check_status : AnswersCheck files words signature net specification cycles reply → (reply.status ≡ 0) ⊎ (reply.status ≡ 1)
  check_status answers =
      let found = held_judged files words signature net specification cycles reply answers in
      status_there found.setting (polynomial_line found.setting found.judged.polynomial) reply found.judged.found found.judged.replied

  module _ (setting : SettingValue) (job : Circuit) (spec : SpecTerms) (answers : AnswersCheck files words signature net specification cycles reply) (are : AreHeldWith files signature net specification cycles setting job spec) where
    judged_here : Judged setting job spec reply
    judged_here = judged_for files words signature net specification cycles reply answers setting job spec are

    equal_here : reply.status ≡ 0 ↔ Computes setting job spec
    equal_here =
        let found = judged_here in
        let zero = zero_there setting found.circuit spec found.behind.taken reply (polynomial_line setting found.polynomial) found.found found.is found.replied in
        let moved = computes setting (taken_circuit setting found.circuit) job found.behind.one spec in (
          (λ status. moved.0 (zero.0 status)),
          λ equal. zero.1 (moved.1 equal),
        )

    printed_here : IsPrinted setting (taken_circuit setting judged_here.circuit) (prints setting judged_here.polynomial)
    printed_here = printed setting judged_here.circuit judged_here.behind.taken judged_here.bound (prints setting judged_here.polynomial) judged_here.reduced

    accepts_here : reply.status ≡ 0 → PrintsAcceptance setting job reply
    accepts_here zero =
        let found = judged_here in
        let c : Circuit = taken_circuit setting found.circuit in
        let there = acceptance_there setting found.circuit spec found.behind.taken reply found.polynomial printed_here found.found found.replied zero in
        record { polynomial = there.polynomial; text = there.text; in_words = words_to setting c job found.behind.one there.polynomial there.in_words; values = output_to setting c job found.behind.one there.polynomial there.values }

    rejects_here : reply.status ≡ 1 → PrintsRejection setting job spec reply
    rejects_here one =
        let found = judged_here in
        let c : Circuit = taken_circuit setting found.circuit in
        let there = rejection_there setting found.circuit spec found.behind.taken reply found.polynomial printed_here found.found found.is found.replied one in
        record {
          polynomial = there.polynomial;
          found = there.found;
          text = there.text;
          in_words = words_to setting c job found.behind.one there.polynomial there.in_words;
          values = output_to setting c job found.behind.one there.polynomial there.values;
          differing = differing setting c job found.behind.one (IsOut c) (IsSpecified setting c spec) (IsOut job) (IsSpecified setting job spec) found.behind.one.output (specified setting c job found.behind.one spec) there.found.input there.found.left there.found.right there.differing;
        }

-- ---- of the job and the specification in the files

module _ (files : Files) (words : List Word) (signature net specification : Word) (cycles : ℕ) (reply : Reply) (answers : AnswersCheck files words signature net specification cycles reply) where
  of_files : HeldJudged files signature net specification cycles reply
  of_files = held_judged files words signature net specification cycles reply answers

  pub check_equal : ChecksHeld files signature net specification cycles reply
  check_equal = record {
    setting = of_files.setting;
    job = of_files.job;
    spec = of_files.spec;
    held = of_files.held;
    equal = equal_here files words signature net specification cycles reply of_files.setting of_files.job of_files.spec answers of_files.held;
  }

  pub check_accepts : reply.status ≡ 0 → PrintsHeldAcceptance files signature net specification cycles reply
  check_accepts zero = record {
    setting = of_files.setting;
    job = of_files.job;
    spec = of_files.spec;
    held = of_files.held;
    computes = (equal_here files words signature net specification cycles reply of_files.setting of_files.job of_files.spec answers of_files.held).0 zero;
    printed = accepts_here files words signature net specification cycles reply of_files.setting of_files.job of_files.spec answers of_files.held zero;
  }

  pub check_rejects : reply.status ≡ 1 → PrintsHeldRejection files signature net specification cycles reply
  check_rejects one = record {
    setting = of_files.setting;
    job = of_files.job;
    spec = of_files.spec;
    held = of_files.held;
    printed = rejects_here files words signature net specification cycles reply of_files.setting of_files.job of_files.spec answers of_files.held one;
  }

-- ---- one reply

-- two judgements of the same job and specification are one
one_judged : (setting : SettingValue) (job : Circuit) (spec : SpecTerms) (reply reply' : Reply) → Judged setting job spec reply → Judged setting job spec reply' → reply ≡ reply'
one_judged setting job spec reply reply' a b =
    let c : Circuit = taken_circuit setting a.circuit in
    let c' : Circuit = taken_circuit setting b.circuit in
    let one = one_through c' c job b.behind.one a.behind.one in
    let there : IsJudged setting a.circuit spec b.found = comparison setting c' c one (IsOut c') (IsSpecified setting c' spec) (IsOut c) (IsSpecified setting c spec) one.output (specified setting c' c one spec) b.found b.is in
    let fine = well setting a.circuit a.behind.taken in
    let same : a.found ≡ b.found = one_comparison c (IsOut c) (IsSpecified setting c spec) fine (λ xs x y. one_out c xs x y fine) (λ xs x y first second. sym first.value ∙ second.value) a.found b.found a.is there in
    let line : polynomial_line setting a.polynomial ≡ polynomial_line setting b.polynomial =
    (equal_bytes setting a.circuit b.circuit (prints setting a.polynomial) (prints setting b.polynomial) a.behind.taken b.behind.taken
    (printed setting a.circuit a.behind.taken a.bound (prints setting a.polynomial) a.reduced) (printed setting b.circuit b.behind.taken b.bound (prints setting b.polynomial) b.reduced)).1
    (λ xs e. ((λ out. (one.output xs e).1 out), (λ out. (one.output xs e).0 out))) in
    a.replied ∙ ((λ i. check_reply (labels_of setting.k setting.signature.words) (line i) (same i)) ∙ sym b.replied)

-- runs over the same files have one reply, whatever the bounds, and with `--simplify` or without it
pub one_check : (files : Files) (words words' : List Word) (signature net specification : Word) (cycles : ℕ) (reply reply' : Reply) → AnswersCheck files words signature net specification cycles reply → AnswersCheck files words' signature net specification cycles reply' → reply ≡ reply'
one_check files words words' signature net specification cycles reply reply' is is' =
    let first = held_judged files words signature net specification cycles reply is in
    one_judged first.setting first.job first.spec reply reply' first.judged (judged_for files words' signature net specification cycles reply' is' first.setting first.job first.spec first.held)
