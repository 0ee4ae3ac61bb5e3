-- What the answers of `bits` say, out of what comes of their steps.
use Rattle.std.proofs.Common.{◌≡◌, ◌∙◌, ap, refl, sym, subst, ℕ, Bool, ◌+◌, ◌*◌, ◌≤◌, List, length, Some, Ok, ◌↔◌, arith}
use Rattle.lists.specs.laws.HasLaws.{All_has}
use Rattle.job_io.specs.Shelf.{Files}
use Rattle.net_words.specs.Binding.{BoundNet}
use Rattle.poly_mixed.specs.Labels.{bit_count}
use Rattle.poly_mixed.specs.Polynomial.{Terms, value}
use Rattle.poly_mixed.specs.laws.TextLaw.{IsWritten}
use Rattle.circuit_model.specs.Circuit.{Circuit}
use Rattle.circuit_model.specs.Ones.{AreOnes}
use Rattle.circuit_model.specs.Out.{IsOut}
use Rattle.circuit_model.specs.WellFormed.{IsWellFormed}
use Rattle.circuit_model.specs.Word.{word_nets}
use Rattle.circuit_model.proofs.BoundLemmas.{word_nets_of}
use Rattle.circuit_model.proofs.OnesLemmas.{alike_back, alike_ones}
use Rattle.circuit_model.proofs.OutLemmas.{one_out}
use Rattle.stage_model.specs.First.{InFirstRanks}
use Rattle.spec_compare.specs.ValueAt.{at_ones, IsInInputBits}
use Rattle.spec_compare.proofs.BitPolynomialLemmas.{same_in_bits}
use Rattle.spec_compare.proofs.ComparedLemmas.{nets_long}
use Rattle.spec_compare.proofs.SomeOnesLemmas.{as_value, some_ones, the_ones}
use Rattle.job_words.specs.Operands.{Word}
use Rattle.job_words.specs.Command.{Bits, Job, Over}
use Rattle.job_words.proofs.OneCommandLemmas.{one_job}
use Rattle.job_input.specs.JobOf.{job_of}
use Rattle.job_input.specs.Labelling.{labels_of, word_labels}
use Rattle.job_input.specs.NetlistOf.{by_ending}
use Rattle.job_input.specs.SettingValue.{SettingValue}
use Rattle.job_input.proofs.CircuitLabelLemmas.{counted}
use Rattle.gf_abs.specs.Answer.{JobAnswer}
use Rattle.gf_abs.specs.Headline.{AnswersBits}
use Rattle.answer_core.specs.Printed.{IsTaken, AreHeld, AreOneFunction, HasOutputInBits, IsInItsBits, IsPrintedInBits, PrintsHeldInBits}
use Rattle.answer_core.specs.Reply.{Reply, polynomial_line}
use Rattle.answer_core.specs.Abstraction.{taken_circuit}
use Rattle.answer_polynomials.specs.Bits.{BitsReply}
use Rattle.answer_polynomials.proofs.AlikeLemmas.{alike}
use Rattle.answer_core.proofs.EqualLabelLemmas.{few_bits}
use Rattle.answer_polynomials.proofs.EqualLemmas.{count, in_bits, labels, one_written, roles, sound, well}
use Rattle.gf_abs.proofs.HeadlineLemmas.{IsUnrolled, held_job, one_held, one_setting, unrolled_with}
use Rattle.answer_core.proofs.JobLemmas.{long}
use Rattle.answer_core.proofs.SimplerLemmas.{simpler_bits, simpler_long, simpler_one_cycle}
use Rattle.answer_core.proofs.WordNamesLemmas.{bits_in_first}
use Rattle.stage_model.proofs.SharedLemmas.{named_terms}

-- ---- the line of what stands in bits

module _ (setting : SettingValue) (circuit : BoundNet) (taken : IsTaken setting circuit) where
  -- the labels name all bits of the words
  bits_counted : length (word_nets (taken_circuit setting circuit).words) ≡ bit_count (word_labels setting.k setting.signature.words)
  bits_counted =
      let is = sound setting circuit taken in
      let bound = (simpler_one_cycle setting circuit is taken.netlist taken.cycles taken.simple taken.is_circuit).1 in
      let bits = simpler_bits setting circuit is taken.netlist taken.cycles taken.simple taken.is_circuit in
      ap length (word_nets_of circuit.binding.words setting.bases (simpler_long setting circuit is taken.netlist taken.cycles taken.simple taken.is_circuit))
      ∙ counted setting.k circuit.binding.words setting.signature.words (λ word has. All_has (λ u. length u.nets ≡ circuit.binding.k) circuit.binding.words word bound.flat.named has ∙ bits) (roles setting circuit taken)

  written : (ts : Terms) → IsInInputBits (taken_circuit setting circuit) ts → IsWritten (labels_of setting.k setting.signature.words) setting.k ts
  written ts is =
      let ls = labels setting circuit taken in
      let ring = (sound setting circuit taken).ring in
      record {
        labels = ls;
        some = ring.some;
        small = ring.small;
        few = few_bits setting.k setting.signature.words ls;
        reduced = is.reduced;
        ranks = named_terms (bit_count (word_labels setting.k setting.signature.words) + 0) ts (λ rank high. is.ranks rank (omega (arith, bits_counted, high)));
        words = bits_in_first (length (word_labels setting.k setting.signature.words)) ts is.bits;
      }

-- ---- what is in the bits of a job

module _ (setting : SettingValue) (circuit : BoundNet) (job : Circuit) (behind : IsUnrolled setting circuit job) where
  abbrev whole : Circuit
  whole = taken_circuit setting circuit

  ok : IsWellFormed whole
  ok = well setting circuit behind.taken

  bits_long : length (word_nets whole.words) ≡ setting.k * length job.words
  bits_long = nets_long setting.k whole.words (λ w has. (ok.words w has).nets) ∙ ap (λ n. setting.k * n) (long setting whole job behind.one)

  in_input_bits : (ts : Terms) → IsInItsBits setting job ts → IsInInputBits whole ts
  in_input_bits ts is = record { reduced = is.reduced; bits = is.bits_alone; ranks = λ rank high. let P : ℕ → Type 0 = λ n. n ≤ rank in is.words_alone rank (subst P bits_long high) }

  ones_here : (xs ones : List ℕ) → AreOnes job xs ones → AreOnes whole xs ones
  ones_here xs ones are = alike_ones job whole (alike_back whole job behind.one.alike) xs ones are

  ones_there : (xs ones : List ℕ) → AreOnes whole xs ones → AreOnes job xs ones
  ones_there xs ones are = alike_ones whole job behind.one.alike xs ones are

  -- the values are the output of the circuit too
  out_here : (ts : Terms) → HasOutputInBits setting job ts → (xs ones : List ℕ) → AreOnes whole xs ones → IsOut whole xs (value setting.product (at_ones ones) ts)
  out_here ts values xs ones are = (behind.one.output xs (value setting.product (at_ones ones) ts)).1 (values xs ones (ones_there xs ones are))

  -- the output has one polynomial in bits
  one_in_bits : (ts us : Terms) → IsInItsBits setting job ts → IsInItsBits setting job us → HasOutputInBits setting job ts → HasOutputInBits setting job us → ts ≡ us
  one_in_bits ts us a b first other =
      same_in_bits whole ok ts us (in_input_bits ts a) (in_input_bits us b)
      (λ xs ones are. one_out whole xs (value setting.product (at_ones ones) ts) (value setting.product (at_ones ones) us) ok (out_here ts first xs ones are) (out_here us other xs ones are))

  only_line : (reply : Reply) (ts : Terms) → IsPrintedInBits setting job reply → IsInItsBits setting job ts → reply.text ≡ polynomial_line setting ts ↔ HasOutputInBits setting job ts
  only_line reply ts found is =
      let us = found.polynomial in
      let P : Terms → Type 0 = λ vs. HasOutputInBits setting job vs in (
        (λ same. subst P (one_written setting circuit behind.taken us ts (written setting circuit behind.taken us (in_input_bits us found.in_bits)) (written setting circuit behind.taken ts (in_input_bits ts is)) (sym found.line ∙ same)) found.values),
        λ values. found.line ∙ ap (λ vs. polynomial_line setting vs) (one_in_bits us ts found.in_bits is found.values values),
      )

  -- what comes of `bits` is the output's polynomial
  printed_bits : (bound : ℕ) (reply : Reply) → BitsReply setting circuit bound (Ok reply) → IsPrintedInBits setting job reply
  printed_bits bound reply came =
      let ts = came.0 in
      let is = in_bits setting circuit behind.taken bound reply came in
      let P : ℕ → Type 0 = λ n. InFirstRanks n ts in
      record {
        polynomial = ts;
        status = ap (λ (r : Reply). r.status) came.2;
        line = ap (λ (r : Reply). r.text) came.2;
        in_bits = record { reduced = is.reduced; bits_alone = is.bits_alone; words_alone = subst P bits_long is.words_alone };
        values = λ xs ones are.
            (behind.one.output xs (value setting.product (at_ones ones) ts)).0 ((as_value whole ts xs (value setting.product (at_ones ones) ts) ok is).0 (record { ones = ones; are = ones_here xs ones are; value_is = refl }));
      }

-- ---- two jobs

module _ (setting : SettingValue) (circuit other : BoundNet) (job second : Circuit) (behind : IsUnrolled setting circuit job) (beside : IsUnrolled setting other second) where
  same_count : length job.words ≡ length second.words
  same_count =
      let c : Circuit = taken_circuit setting circuit in
      let d : Circuit = taken_circuit setting other in
      sym (long setting c job behind.one) ∙ (count setting circuit behind.taken ∙ (sym (count setting other beside.taken) ∙ long setting d second beside.one))

  -- what stands in the bits of one stands in those of the other
  in_other_bits : (ts : Terms) → IsInItsBits setting job ts → IsInItsBits setting second ts
  in_other_bits ts is =
      let P : ℕ → Type 0 = λ n. InFirstRanks (setting.k * n) ts in
      record { reduced = is.reduced; bits_alone = is.bits_alone; words_alone = subst P same_count is.words_alone }

  -- the bits of an input are those of the other's input
  ones_beside : (xs ones : List ℕ) → AreOnes job xs ones → AreOnes second xs ones
  ones_beside xs ones are =
      let c : Circuit = taken_circuit setting circuit in
      let d : Circuit = taken_circuit setting other in
      ones_there setting other second beside xs ones (alike_ones c d (alike setting circuit other setting.signature.words (roles setting circuit behind.taken) (roles setting other beside.taken)) xs ones (ones_here setting circuit job behind xs ones are))

  -- one polynomial of both outputs makes them equal
  follows : (ts : Terms) → HasOutputInBits setting job ts → HasOutputInBits setting second ts → (xs : List ℕ) (e : ℕ) → IsOut job xs e → IsOut second xs e
  follows ts first more xs e out =
      let c : Circuit = taken_circuit setting circuit in
      let fine = well setting circuit behind.taken in
      let here = (behind.one.output xs e).1 out in
      let ones = the_ones c fine xs here.is_run.open_run.input in
      let are = some_ones c fine xs here.is_run.open_run.input in
      let same : value setting.product (at_ones ones) ts ≡ e = one_out c xs (value setting.product (at_ones ones) ts) e fine (out_here setting circuit job behind ts first xs ones are) here in
      let P : ℕ → Type 0 = λ d. IsOut second xs d in
      subst P same (more xs ones (ones_beside xs ones (ones_there setting circuit job behind xs ones are)))

module _ (setting : SettingValue) (circuit other : BoundNet) (job second : Circuit) (behind : IsUnrolled setting circuit job) (beside : IsUnrolled setting other second) where
  -- a polynomial of one output is one of the other, where they are equal
  moved : (ts : Terms) → AreOneFunction job second → HasOutputInBits setting job ts → HasOutputInBits setting second ts
  moved ts equal values xs ones are = (equal xs (value setting.product (at_ones ones) ts)).0 (values xs ones (ones_beside setting other circuit second job beside behind xs ones are))

  equal_lines : (reply reply' : Reply) → IsPrintedInBits setting job reply → IsPrintedInBits setting second reply' → reply.text ≡ reply'.text ↔ AreOneFunction job second
  equal_lines reply reply' is is' =
      let ts = is.polynomial in
      let text = only_line setting other second beside reply' ts is' (in_other_bits setting circuit other job second behind beside ts is.in_bits) in (
        (λ same.
            let both = text.0 (sym same ∙ is.line) in
            λ xs e. (follows setting circuit other job second behind beside ts is.values both xs e, follows setting other circuit second job beside behind ts both is.values xs e)),
        λ equal. is.line ∙ sym (text.1 (moved ts equal is.values)),
      )

-- ---- the answers

-- what was printed of a job
record Printed (setting : SettingValue) (job : Circuit) (reply : Reply) : Type 0 where
  circuit : BoundNet
  behind : IsUnrolled setting circuit job
  is : IsPrintedInBits setting job reply

record HeldPrinted (files : Files) (signature net : Word) (cycles : ℕ) (reply : Reply) : Type 0 where
  setting : SettingValue
  job : Circuit
  held : AreHeld files signature net cycles setting job
  printed : Printed setting job reply

job_prints : (files : Files) (signature net : Word) (bound cycles : ℕ) (simple : Bool) (reply : Reply) → JobAnswer (Some files) (Over signature (Bits net bound cycles simple)) (Ok reply) → HeldPrinted files signature net cycles reply
job_prints files signature net bound cycles simple reply (signed, (text, read, is), (setting, are, (circuit, (whole, (netlist, (bytes, read', taken), of), made), came))) =
    let behind = unrolled_with text (by_ending net bytes) cycles setting netlist simple circuit (signed, is, are) taken whole of made in
    record {
      setting = setting;
      job = job_of setting netlist cycles;
      held = held_job files signature net cycles setting netlist text bytes read read' (signed, is, are) taken;
      printed = record { circuit = circuit; behind = behind; is = printed_bits setting circuit (job_of setting netlist cycles) behind bound reply came };
    }

module _ (files : Files) (words : List Word) (signature net : Word) (cycles : ℕ) (reply : Reply) where
  held_printed : AnswersBits files words signature net cycles reply → HeldPrinted files signature net cycles reply
  held_printed is =
      let P : Job → Type 0 = λ job. JobAnswer (Some files) job (Ok reply) in
      let answer = is.answer in
      job_prints files signature net is.bound cycles is.simple reply (subst P (one_job words answer.0 (Over signature (Bits net is.bound cycles is.simple)) answer.1 is.spelled) answer.2)

  pub bits_print : AnswersBits files words signature net cycles reply → PrintsHeldInBits files signature net cycles reply
  bits_print is = let found = held_printed is in record { setting = found.setting; job = found.job; held = found.held; printed = found.printed.is }

  -- what is printed is of this setting and job
  printed_of : (setting : SettingValue) (job : Circuit) → AnswersBits files words signature net cycles reply → AreHeld files signature net cycles setting job → Printed setting job reply
  printed_of setting job is held =
      let found = held_printed is in
      let P : SettingValue → Type 0 = λ s. AreHeld files signature net cycles s found.job in
      let Q : SettingValue → Type 0 = λ s. Printed s found.job reply in
      let R : Circuit → Type 0 = λ c. Printed setting c reply in
      let same = one_setting files signature net net cycles found.setting setting found.job job found.held held in
      subst R (one_held files signature net cycles setting found.job job (subst P same found.held) held) (subst Q same found.printed)

pub bits_only : (files : Files) (words : List Word) (signature net : Word) (cycles : ℕ) (reply : Reply) (setting : SettingValue) (job : Circuit) (ts : Terms) → AnswersBits files words signature net cycles reply → AreHeld files signature net cycles setting job → IsInItsBits setting job ts → reply.text ≡ polynomial_line setting ts ↔ HasOutputInBits setting job ts
bits_only files words signature net cycles reply setting job ts is held in_its_bits =
    let p = printed_of files words signature net cycles reply setting job is held in
    only_line setting p.circuit job p.behind reply ts p.is in_its_bits

pub bits_equal : (files files' : Files) (words words' : List Word) (signature signature' net net' : Word) (cycles cycles' : ℕ) (reply reply' : Reply) (setting : SettingValue) (job other : Circuit) → AnswersBits files words signature net cycles reply → AnswersBits files' words' signature' net' cycles' reply' → AreHeld files signature net cycles setting job → AreHeld files' signature' net' cycles' setting other
    → reply.text ≡ reply'.text ↔ AreOneFunction job other
bits_equal files files' words words' signature signature' net net' cycles cycles' reply reply' setting job other is is' held held' =
    let p = printed_of files words signature net cycles reply setting job is held in
    let q = printed_of files' words' signature' net' cycles' reply' setting other is' held' in
    equal_lines setting p.circuit q.circuit job other p.behind q.behind reply reply' p.is q.is

-- runs over the same files have one reply, whatever the bounds, and with `--simplify` or without it
pub one_in_bits_of : (files : Files) (words words' : List Word) (signature net : Word) (cycles : ℕ) (reply reply' : Reply) → AnswersBits files words signature net cycles reply → AnswersBits files words' signature net cycles reply' → reply ≡ reply'
one_in_bits_of files words words' signature net cycles reply reply' is is' =
    let first = bits_print files words signature net cycles reply is in
    let second = bits_print files words' signature net cycles reply' is' in
    let text : reply.text ≡ reply'.text = (bits_equal files files words words' signature signature net net cycles cycles reply reply' first.setting first.job first.job is is' first.held first.held).1 (λ xs e. ((λ out. out), (λ out. out))) in
    let status : reply.status ≡ reply'.status = first.printed.status ∙ sym second.printed.status in
    (λ i. record { status = status i; text = text i })
