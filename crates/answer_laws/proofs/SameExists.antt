-- Some reply or some fault comes of `same`, over the setting of a text.
use Rattle.std.proofs.Common.{◌∙◌, sym, ℕ, Bool, List, Option, Ok}
use Rattle.outcome.specs.Outcome.{Exactly, Within}
use Rattle.outcome.proofs.SomeLemmas.{some_bind, some_exactly, some_within}
use Rattle.job_io.specs.Shelf.{Files}
use Rattle.net_words.specs.Binding.{BoundNet}
use Rattle.circuit_model.specs.Circuit.{Circuit, IsInput}
use Rattle.circuit_model.specs.Differing.{Difference}
use Rattle.circuit_model.specs.Out.{IsOut}
use Rattle.circuit_model.proofs.OutLemmas.{one_out, some_out}
use Rattle.stage_model.proofs.SearchLemmas.{both_decided}
use Rattle.job_words.specs.Operands.{Word}
use Rattle.job_words.specs.declared.fault.Fault.TheVariants as faults
use Rattle.job_input.specs.Labelling.{labels_of}
use Rattle.job_input.specs.NetlistOf.{NetlistIn}
use Rattle.job_input.specs.SettingOf.{SettingOf}
use Rattle.job_input.specs.SettingValue.{SettingValue}
use Rattle.answer_core.specs.Abstraction.{bits_stages, taken_circuit}
use Rattle.answer_core.specs.Printed.{IsTaken}
use Rattle.answer_core.specs.Simpler.{SimplerUnrolledIn}
use Rattle.answer_core.specs.Staged.{either_net_text}
use Rattle.answer_polynomials.specs.Same.{same_reply, same_stages, AreCompared, SameAnswer, SameBeside, SameOf, SameReply, SameSecond, SameUnrolled}
use Rattle.answer_polynomials.proofs.EqualLemmas.{count, well}
use Rattle.answer_polynomials.proofs.SomeComparisonLemmas.{compared}
use Rattle.reader_laws.proofs.NetlistExists.{some_netlist_in}
use Rattle.job_laws.specs.HasOutcome.{HasOutcome}
use Rattle.answer_laws.proofs.SomeCircuits.{bits_decided, some_simpler_unrolled}
use Rattle.answer_laws.proofs.SomeStaged.{some_staged}
use Rattle.answer_laws.proofs.TakenExists.{taken_bases, taken_from}

module _ (setting : SettingValue) (circuit other : BoundNet) (one : IsTaken setting circuit) (two : IsTaken setting other) (bound : ℕ) where
  outputs : (found : Option Difference) × AreCompared setting circuit other found
  outputs =
      let c : Circuit = taken_circuit setting circuit in
      let d : Circuit = taken_circuit setting other in
      let well_c = well setting circuit one in
      let well_d = well setting other two in
      compared c (IsOut c) (IsOut d) well_c (λ xs e o p q. one_out c xs e o well_c p q) (λ xs e o p q. one_out d xs e o well_d p q)
      (λ xs input. let found = some_out c xs well_c input in (found.0, found.1))
      (λ xs input.
      let there : IsInput d xs = record { long = input.long ∙ (count setting circuit one ∙ sym (count setting other two)); elements = input.elements } in
      let found = some_out d xs well_d there in
      (found.0, found.1))

  same_of : HasOutcome (SameOf setting circuit other bound)
  same_of =
      some_staged setting.k setting.product (same_stages setting circuit other) (either_net_text (labels_of setting.k setting.signature.words)) bound (AreCompared setting circuit other) outputs.0 outputs.1
      (both_decided setting.k setting.product (bits_stages setting circuit) (bits_stages setting other) bound (bits_decided setting circuit bound (well setting circuit one) (taken_bases setting circuit one))
      (bits_decided setting other bound (well setting other two) (taken_bases setting other two)))

  pub reply_of : HasOutcome (SameReply setting circuit other bound)
  reply_of =
      some_bind (Within faults.Stage (SameOf setting circuit other bound)) (λ found. Exactly (same_reply (labels_of setting.k setting.signature.words) found)) (some_within faults.Stage (SameOf setting circuit other bound) same_of)
      (λ found may. some_exactly (same_reply (labels_of setting.k setting.signature.words) found))

module _ (held : Option Files) (bytes : List ℕ) (setting : SettingValue) (is_setting : SettingOf bytes (Ok setting)) (net other : Word) (bound cycles : ℕ) (simple : Bool) where
  over_first : (circuit : BoundNet) → IsTaken setting circuit → (second : BoundNet) → NetlistIn held setting.signature other (Ok second) → HasOutcome (SameSecond setting circuit other second bound cycles simple)
  over_first circuit taken second second_in =
      some_bind (SimplerUnrolledIn other second cycles simple) (λ more. SameReply setting circuit more bound) (some_simpler_unrolled held bytes setting is_setting other cycles second second_in simple)
      (λ more of. reply_of setting circuit more taken (taken_from held bytes setting is_setting other cycles simple second second_in more of) bound)

  over_both : (netlist : BoundNet) → NetlistIn held setting.signature net (Ok netlist) → (second : BoundNet) → NetlistIn held setting.signature other (Ok second) → HasOutcome (SameUnrolled setting net netlist other second bound cycles simple)
  over_both netlist netlist_in second second_in =
      some_bind (SimplerUnrolledIn net netlist cycles simple) (λ circuit. SameSecond setting circuit other second bound cycles simple) (some_simpler_unrolled held bytes setting is_setting net cycles netlist netlist_in simple)
      (λ circuit of. over_first circuit (taken_from held bytes setting is_setting net cycles simple netlist netlist_in circuit of) second second_in)

  pub some_same : HasOutcome (SameAnswer held setting net other bound cycles simple)
  some_same =
      some_bind (NetlistIn held setting.signature net) (λ netlist. SameBeside held setting net netlist other bound cycles simple) (some_netlist_in held setting.signature net)
      (λ netlist netlist_in.
      some_bind (NetlistIn held setting.signature other) (λ second. SameUnrolled setting net netlist other second bound cycles simple) (some_netlist_in held setting.signature other)
      (λ second second_in. over_both netlist netlist_in second second_in))
