-- What `make` prints is read back, is bound to its signature, and computes what its kind does.
use Rattle.std.proofs.Common.{◌≡◌, ◌∙◌, ap, sym, refl, subst, ℕ, ◌≤◌, List, length, Some, Result, Ok, if◌then◌else◌}
use Rattle.lists.specs.Limits.{most_bytes}
use Rattle.job_io.specs.Shelf.{Files}
use Rattle.circuit_model.specs.JobOfBinding.{job_with}
use Rattle.circuit_model.specs.Out.{IsOut}
use Rattle.net_blif.specs.Design.{ModelValue}
use Rattle.net_blif.specs.Models.{BlifDesign}
use Rattle.net_core.specs.NetList.{NetList}
use Rattle.net_core.specs.Sound.{IsSound}
use Rattle.net_flat.specs.Flat.{Flattens}
use Rattle.make_laws.proofs.LawLemmas.{bound_alike}
use Rattle.net_words.specs.Binding.{BoundNet}
use Rattle.net_write.specs.Plain.{HasPlainNames}
use Rattle.net_write.specs.SameByName.{IsSameByName}
use Rattle.net_write.specs.Written.{written}
use Rattle.net_write.proofs.RoundTripLemmas.{is_flat, is_read, is_same}
use Rattle.job_words.specs.Command.{Job, Make, Over}
use Rattle.job_words.specs.Operands.{Word, IsBlifName, is_verilog}
use Rattle.job_words.specs.declared.file_fault.FileFault.{FileFault}
use Rattle.job_words.specs.declared.kind.Kind.{Kind}
use Rattle.job_words.specs.declared.kind.Kind.TheVariants.{Mastrovito, Montgomery, Composite, Normal, Adder, Squarer, Digit}
use Rattle.job_words.proofs.OneCommandLemmas.{one_job}
use Rattle.job_input.specs.JobOf.{job_of}
use Rattle.job_input.specs.NetlistOf.{Aiger, BoundNetOf, Blif, NetOf, NetlistText, Verilog, by_ending}
use Rattle.job_input.specs.SettingOf.{SettingOf}
use Rattle.job_input.specs.SettingValue.{SettingValue}
use Rattle.job_input.proofs.NetlistLemmas.{net_sound}
use Rattle.gf_abs.specs.Answer.{JobAnswer}
use Rattle.gf_abs.specs.MakeHeadline.{AnswersMake}
use Rattle.answer_makers.specs.Made.{ComputesKind, HoldKind, HoldMade}
use Rattle.answer_core.specs.Reply.{Reply}
use Rattle.gf_abs.proofs.AnswerDetermined.{read_determined}
use Rattle.answer_makers.proofs.MadeLemmas.{IsMadeRight, made_right}
use Rattle.answer_makers.proofs.MadeTextLemmas.{text_fits}

-- ---- a net that is read back

record IsReadBack (net : NetList) : Type 0 where
  other : NetList
  is_net : (design : List ModelValue) × BlifDesign (written net) (Ok design) × Flattens design 0 (Ok other)
  same : IsSameByName net other
  plain : HasPlainNames other

read_back : (net : NetList) → IsSound net → HasPlainNames net → IsReadBack net
read_back net sound plain =
    let design = is_read net sound plain in
    let flat = is_flat net sound plain design.0 design.1 in
    let same = is_same net sound plain design.0 flat.0 design.1 flat.1 in
    record { other = flat.0; is_net = (design.0, design.1, flat.1); same = same.0; plain = same.1 }

-- ---- what a job computes is kept

module _ (setting : SettingValue) (first second : BoundNet) (cycles : ℕ) (outputs : (k : ℕ) (product : ℕ → ℕ → ℕ) (bases : List (List ℕ)) (cycles : ℕ) (xs : List ℕ) (e : ℕ) → IsOut (job_with k product first bases cycles) xs e → IsOut (job_with k product second bases cycles) xs e) where
  kept : (kind : Kind) → ComputesKind setting kind (job_of setting first cycles) → ComputesKind setting kind (job_of setting second cycles)
  kept Mastrovito is = λ a b less less'. outputs _ _ _ _ _ _ (is a b less less')
  kept Montgomery is = record { inverse = is.inverse; is_inverse = is.is_inverse; output = λ a b less less'. outputs _ _ _ _ _ _ (is.output a b less less') }
  kept Composite is = λ a b less less'. outputs _ _ _ _ _ _ (is a b less less')
  kept Normal is = λ a b less less'. outputs _ _ _ _ _ _ (is a b less less')
  kept Adder is = λ a b less less'. outputs _ _ _ _ _ _ (is a b less less')
  kept Squarer is = λ a less. outputs _ _ _ _ _ _ (is a less)
  kept Digit is = λ a b less less'. outputs _ _ _ _ _ _ (is a b less less')

-- ---- from the files

pub blif_text : (net : Word) (text : List ℕ) → IsBlifName net → by_ending net text ≡ Blif text
blif_text net text name = (λ i. if name.no_aiger i then Aiger text else (if is_verilog net then Verilog text else Blif text)) ∙ (λ i. if name.no_verilog i then Verilog text else Blif text)

module _ (files others : Files) (signature net : Word) (kind : Kind) (reply : Reply) where
  job_makes : JobAnswer (Some files) (Over signature (Make kind)) (Ok reply) → HoldMade files others signature net reply.text → HoldKind others signature net kind
  job_makes (signed, (text, read, is), (setting, are, (list, (form, is_made), printed))) hold =
      let same_bytes : text ≡ hold.bytes = one_text text hold.bytes (read_determined files signature (Ok text) (Ok hold.bytes) read hold.signature_read) in
      let S : List ℕ → Type 0 = λ bytes. SettingOf bytes (Ok setting) in
      let right : IsMadeRight setting kind list = made_right setting text (signed, is, are) kind list form is_made in
      let back = read_back list right.sound right.plain in
      let again : NetOf (Blif (written list)) (Ok back.other) = back.is_net in
      let alike = bound_alike list back.other right.sound (net_sound (Blif (written list)) back.other again) right.plain back.plain back.same setting.signature.words setting.signature.feeds right.binding right.binds in
      let second : BoundNet = record { net = back.other; binding = alike.binding } in
      let print : reply.text ≡ written list = ap (λ (r : Reply). r.text) printed in
      let F : List ℕ → Type 0 = λ t. length t ≤ most_bytes in
      let fits : length reply.text ≤ most_bytes = subst F (sym print) (text_fits text setting (signed, is, are) kind list form is_made) in
      let N : NetlistText → Type 0 = λ t. BoundNetOf setting.signature t (Ok second) in
      record {
        setting = setting;
        cycles = right.cycles;
        are_cycles = right.are_cycles;
        job = job_of setting second right.cycles;
        held = record {
          bytes = hold.bytes;
          signature_read = hold.signature_too;
          text = reply.text;
          net_read = (hold.net_held, fits);
          is_job = record { is_setting = subst S same_bytes (signed, is, are); bound = second; is_bound = subst N (ap Blif (sym print) ∙ sym (blif_text net reply.text hold.name)) (back.other, again, (alike.binding, alike.bound, refl)); is_job = refl };
        };
        computes = kept setting (record { net = list; binding = right.binding }) second right.cycles alike.outputs kind right.computes;
      }
    where
      one_text : (a b : List ℕ) → ◌≡◌ {A = Result (List ℕ) FileFault} (Ok a) (Ok b) → a ≡ b
      one_text a b e = cc

  pub make_holds : (words : List Word) → AnswersMake files words kind signature reply → HoldMade files others signature net reply.text → HoldKind others signature net kind
  make_holds words is hold =
      let P : Job → Type 0 = λ job. JobAnswer (Some files) job (Ok reply) in
      let answer = is.answer in
      job_makes (subst P (one_job words answer.0 (Over signature (Make kind)) answer.1 is.spelled) answer.2) hold
