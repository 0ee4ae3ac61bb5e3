-- What the answers of `trial` say, out of what comes of its steps.
use Rattle.std.proofs.Common.{◌≡◌, ◌∙◌, ap, sym, refl, subst, inl, inr, ℕ, ◌<◌, ◌^◌, List, [], ◌∷◌, ◌++◌, length, codes, Option, Ok, Err, arith}
use Rattle.lists.specs.Lists.{Has}
use Rattle.gf_field.specs.Bit.{bit_mul}
use Rattle.gf_field.specs.Quotient.{product}
use Rattle.gf_tower.specs.FieldName.{IsFieldModulus}
use Rattle.job_io.specs.Shelf.{Files}
use Rattle.circuit_model.specs.Circuit.{IsInput}
use Rattle.circuit_model.specs.Differing.{Difference, IsDifferingInput}
use Rattle.circuit_model.specs.Out.{IsOut}
use Rattle.circuit_model.proofs.OutLemmas.{one_out}
use Rattle.make_trial.specs.Turned.{turned_product}
use Rattle.job_words.specs.Command.{Job, Trial}
use Rattle.job_words.specs.Operands.{Word}
use Rattle.job_words.specs.declared.fault.Fault.{Fault}
use Rattle.job_words.proofs.OneCommandLemmas.{one_job}
use Rattle.job_input.specs.FieldOf.{FieldValue}
use Rattle.job_input.specs.Labelling.{labels_of}
use Rattle.make_trial.specs.Trial.{product_terms, trial_circuit, trial_index, trial_place, trial_setting, trial_words}
use Rattle.make_trial.proofs.OutLemmas.{product_at, trial_out}
use Rattle.gf_abs.specs.Answer.{Answer, JobAnswer}
use Rattle.answer_core.specs.DifferingLines.{differing_lines}
use Rattle.answer_core.specs.Reply.{Reply}
use Rattle.gf_abs.specs.TrialHeadline.{AnswersTrial, IsTrialFault, PrintsTrial, RefusesTrial, circuit_of_trial}
use Rattle.answer_core.specs.Judged.{IsSpecified}
use Rattle.answer_makers.specs.Trial.{TrialAnswer, TrialOver, trial_head}
use Rattle.answer_core.proofs.PrintedLemmas.{words_alone, words_values}
use Rattle.answer_makers.proofs.TrialLemmas.{trial_field, trial_ring, well_of_trial}

-- a list of two
two_of : (xs : List ℕ) → length xs ≡ 2 → (a : ℕ) × (b : ℕ) × (xs ≡ a ∷ b ∷ [])
two_of [] long = absurd (omega (arith, long))
two_of (a ∷ []) long = absurd (omega (arith, long))
two_of (a ∷ b ∷ []) long = (a, b, refl)
two_of (a ∷ b ∷ c ∷ xs) long = absurd (omega (arith, long))

module _ (k g number bound : ℕ) (name : IsFieldModulus k g) (reply : Reply) where
  printed_over : TrialOver k g number bound (Ok reply) → PrintsTrial number g reply
  printed_over (terms, (ts, of_words, is_terms), (found, told, exactly)) =
      let c = circuit_of_trial k g number in
      let setting = trial_setting k g in
      let circuit = trial_circuit k g number in
      let ring = trial_ring k g number name in
      let field = trial_field k g number name in
      let well = well_of_trial k g number name in
      let differing = told.0 in
      let input : IsInput c found.input = differing.differ.second.input in
      let two = two_of found.input input.long in
      let a = two.0 in
      let b = two.1 in
      let E : List ℕ → Type 0 = λ xs. (x : ℕ) → Has xs x → x < 2 ^ k in
      let elements : E (a ∷ b ∷ []) = subst E two.2 input.elements in
      let first = elements a (0, refl) in
      let second = elements b (1, refl) in
      let D : List ℕ → Type 0 = λ xs. IsDifferingInput c (IsOut c) (IsSpecified setting c product_terms) xs found.left found.right in
      let there : IsDifferingInput c (IsOut c) (IsSpecified setting c product_terms) (a ∷ b ∷ []) found.left found.right = subst D two.2 differing in
      let right : found.right ≡ product 1 k bit_mul g a b = sym there.differ.second.value ∙ product_at k (product 1 k bit_mul g) ring a b first second in
      let R : ℕ → Type 0 = λ e. IsDifferingInput c (IsOut c) (IsSpecified setting c product_terms) (a ∷ b ∷ []) found.left e in
      let least : R (product 1 k bit_mul g a b) = subst R right there in
      let given : Difference = record { input = a ∷ b ∷ []; left = found.left; right = product 1 k bit_mul g a b } in
      let is_given : found ≡ given = (λ i. record { input = two.2 i; left = found.left; right = right i }) in
      record {
        degree = k;
        field = name;
        polynomial = ts;
        in_words = words_alone setting circuit ring field well ts of_words.0;
        values = words_values setting circuit ring field well ts of_words.0;
        first = a;
        second = b;
        given = found.left;
        status = ap (λ (r : Reply). r.status) exactly;
        text = ap (λ (r : Reply). r.text) exactly
            ∙ (λ i. trial_head g (length (trial_circuit k g number).net.gates) (trial_place k number) (trial_index k number) (is_terms i) ++ differing_lines (labels_of k (trial_words k)) (codes "netlist") (codes "product") (is_given i));
        first_low = first;
        second_low = second;
        by_netlist = one_out c (a ∷ b ∷ []) found.left (turned_product k g (trial_place k number) (trial_index k number) a b) well least.differ.first (trial_out k g name.modulus number field a b first second);
        apart = least.differ.apart;
        least = least;
      }

  fault_over : (fault : Fault) → TrialOver k g number bound (Err fault) → IsTrialFault g fault
  fault_over fault (inl (inl (stage, over, same))) = inr (stage, same)
  fault_over fault (inl (inr (ts, of, never))) = absurd never
  fault_over fault (inr (terms, are, inl (stage, over, same))) = inr (stage, same)
  fault_over fault (inr (terms, are, inr (found, told, never))) = absurd never

printed_by : (number modulus bound : ℕ) (reply : Reply) → TrialAnswer number modulus bound (Ok reply) → PrintsTrial number modulus reply
printed_by number modulus bound reply (field, named, is) =
    let P : ℕ → Type 0 = λ d. TrialOver d modulus number bound (Ok reply) in
    printed_over named.0.degree modulus number bound named.0.base reply (subst P (ap (λ (f : FieldValue). f.k) named.1) is)

fault_by : (number modulus bound : ℕ) (fault : Fault) → TrialAnswer number modulus bound (Err fault) → IsTrialFault modulus fault
fault_by number modulus bound fault (inl (found, is, same)) = inl (found, is, same)
fault_by number modulus bound fault (inr (field, named, is)) =
    let P : ℕ → Type 0 = λ d. TrialOver d modulus number bound (Err fault) in
    fault_over named.0.degree modulus number bound named.0.base (record { status = 0; text = [] }) fault (subst P (ap (λ (f : FieldValue). f.k) named.1) is)

module _ (held : Option Files) (words : List Word) (number modulus : ℕ) where
  pub trial_prints : (reply : Reply) → AnswersTrial held words number modulus reply → PrintsTrial number modulus reply
  trial_prints reply answers =
      let P : Job → Type 0 = λ job. JobAnswer held job (Ok reply) in
      let answer = answers.answer in
      printed_by number modulus answers.bound reply (subst P (one_job words answer.0 (Trial number modulus answers.bound) answer.1 answers.spelled) answer.2)

  pub trial_faults : (fault : Fault) → RefusesTrial held words number modulus fault → IsTrialFault modulus fault
  trial_faults fault refuses = by refuses.answer
    where
      by : Answer words held (Err fault) → IsTrialFault modulus fault
      by (inl (same, never)) = absurd (never (Trial number modulus refuses.bound) refuses.spelled)
      by (inr (job, spelled, wrong)) =
          let P : Job → Type 0 = λ j. JobAnswer held j (Err fault) in
          fault_by number modulus refuses.bound fault (subst P (one_job words job (Trial number modulus refuses.bound) spelled refuses.spelled) wrong)
