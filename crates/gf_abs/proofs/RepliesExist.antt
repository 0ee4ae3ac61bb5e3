-- Where nothing that a command reads is refused, a reply comes of it, or a stop at a stage.
use Rattle.std.proofs.Common.{refl, inl, inr, ℕ, Bool, false, List, Option, Ok, Err}
use Rattle.job_io.specs.Shelf.{Files}
use Rattle.net_words.specs.Binding.{BoundNet}
use Rattle.job_words.specs.Command.{Abstract, Action, Bits, Eval, Lift, Over, Same, Table, IsSpelled}
use Rattle.job_words.specs.Operands.{Word}
use Rattle.job_words.specs.declared.fault.Fault.{Fault}
use Rattle.job_words.specs.declared.fault.Fault.TheVariants as faults
use Rattle.job_words.specs.declared.stage_fault.StageFault.{StageFault}
use Rattle.job_input.specs.CircuitOf.{UnrolledIn}
use Rattle.job_input.specs.NetlistOf.{NetlistIn}
use Rattle.job_input.specs.SettingOf.{SettingOf}
use Rattle.job_input.specs.SettingValue.{SettingValue}
use Rattle.job_laws.specs.HasOutcome.{HasOutcome}
use Rattle.answer_core.specs.Reply.{Reply}
use Rattle.answer_core.specs.Simpler.{IsSimpler, SimplerIn, SimplerOf, SimplerUnrolledIn}
use Rattle.answer_polynomials.specs.Abstract.{AbstractReply}
use Rattle.answer_polynomials.specs.Bits.{BitsReply}
use Rattle.answer_polynomials.specs.Eval.{EvalReply}
use Rattle.answer_polynomials.specs.Same.{SameReply}
use Rattle.answer_polynomials.specs.Values.{ValuesOf}
use Rattle.answer_tables.specs.Lift.{LiftReply, table_words}
use Rattle.answer_tables.specs.Table.{TableReply}
use Rattle.answer_laws.proofs.PolynomialsExist.{abstract_reply, bits_reply}
use Rattle.answer_laws.proofs.SameExists.{reply_of}
use Rattle.answer_laws.proofs.SomeCircuits.{simpler_of}
use Rattle.answer_laws.proofs.TablesExist.{eval_reply, lift_reply, table_reply}
use Rattle.answer_laws.proofs.TakenExists.{taken_from, taken_in, taken_whole}
use Rattle.gf_abs.specs.Answer.{ActionAnswer}
use Rattle.gf_abs.specs.Refusals.{BothGiven, CircuitGiven, EvalGiven, HasReply, HasReplyOrStop, LiftGiven, OfAbstract, OfBits, OfEval, OfLift, OfSame, OfTable, Reads, SettingIn, TableGiven}
use Rattle.gf_abs.proofs.RefusalLemmas.{answered}

-- the circuit of all cycles has a simpler one, where it is asked for
simpler_value : (simple : Bool) (whole : BoundNet) → HasOutcome {F = Fault} (SimplerOf simple whole) → (circuit : BoundNet) × IsSimpler simple whole circuit
simpler_value simple whole (Ok circuit, is) = (circuit, is)
simpler_value simple whole (Err fault, never) = absurd never

-- the text of a signature's file gives the setting that comes of the file
setting_text : (held : Option Files) (signature : Word) (setting : SettingValue) → SettingIn held signature (Ok setting) → (bytes : List ℕ) × SettingOf bytes (Ok setting)
setting_text held signature setting (signed, (text, read, is), are) = (text, (signed, is, are))

-- ---- the steps of an answer

module _ (words : List Word) (held : Option Files) (signature : Word) (action : Action) (spelled : IsSpelled words (Over signature action)) (setting : SettingValue) (is : SettingIn held signature (Ok setting)) where
  replied : (reply : Reply) → ActionAnswer held setting action (Ok reply) → HasReply words held
  replied reply answer = (reply, (Over signature action, spelled, (is.0, is.1, (setting, is.2, answer))))

  stopped : (stage : StageFault) → ActionAnswer held setting action (Err (faults.Stage stage)) → HasReplyOrStop words held
  stopped stage answer = inr (stage, answered words held signature action spelled (faults.Stage stage) (inr (setting, is, answer)))

-- ---- one circuit

module _ (held : Option Files) (words : List Word) (signature net : Word) (bound cycles : ℕ) (simple : Bool) (setting : SettingValue) (is : SettingIn held signature (Ok setting)) (circuit : BoundNet) (of : SimplerIn held setting.signature net cycles simple (Ok circuit)) where
  bits_over : IsSpelled words (Over signature (Bits net bound cycles simple)) → HasOutcome (BitsReply setting circuit bound) → HasReplyOrStop words held
  bits_over spelled (Ok reply, told) = inl (replied words held signature (Bits net bound cycles simple) spelled setting is reply (circuit, of, told))
  bits_over spelled (Err fault, inl (stage, over, same)) = stopped words held signature (Bits net bound cycles simple) spelled setting is stage (inr (circuit, of, inl (stage, over, refl)))
  bits_over spelled (Err fault, inr (ts, told, never)) = absurd never

  abstract_over : IsSpelled words (Over signature (Abstract net bound cycles simple)) → HasOutcome (AbstractReply setting circuit bound) → HasReplyOrStop words held
  abstract_over spelled (Ok reply, told) = inl (replied words held signature (Abstract net bound cycles simple) spelled setting is reply (circuit, of, told))
  abstract_over spelled (Err fault, inl (stage, over, same)) = stopped words held signature (Abstract net bound cycles simple) spelled setting is stage (inr (circuit, of, inl (stage, over, refl)))
  abstract_over spelled (Err fault, inr (ts, told, never)) = absurd never

-- the circuit that `bits` and `abstract` take
module _ (held : Option Files) (signature net : Word) (cycles : ℕ) (simple : Bool) (reads : Reads held signature (CircuitGiven held net cycles)) where
  circuit_in : (circuit : BoundNet) × SimplerIn held reads.setting.signature net cycles simple (Ok circuit)
  circuit_in =
      let text = setting_text held signature reads.setting reads.setting_in in
      let netlist = reads.value_in in
      let found = simpler_value simple reads.value (simpler_of held text.0 reads.setting text.1 net cycles netlist.0 netlist.1 simple reads.value netlist.2) in
      (found.0, (reads.value, reads.value_in, found.1))

pub bits_replies : OfBits (λ held words signature net bound cycles simple. Reads held signature (CircuitGiven held net cycles) → HasReplyOrStop words held)
bits_replies held words signature net bound cycles simple spelled reads =
    let text = setting_text held signature reads.setting reads.setting_in in
    let found = circuit_in held signature net cycles simple reads in
    bits_over held words signature net bound cycles simple reads.setting reads.setting_in found.0 found.1 spelled (bits_reply reads.setting found.0 (taken_in held text.0 reads.setting text.1 net cycles simple found.0 found.1) bound)

pub abstract_replies : OfAbstract (λ held words signature net bound cycles simple. Reads held signature (CircuitGiven held net cycles) → HasReplyOrStop words held)
abstract_replies held words signature net bound cycles simple spelled reads =
    let text = setting_text held signature reads.setting reads.setting_in in
    let found = circuit_in held signature net cycles simple reads in
    abstract_over held words signature net bound cycles simple reads.setting reads.setting_in found.0 found.1 spelled (abstract_reply reads.setting found.0 (taken_in held text.0 reads.setting text.1 net cycles simple found.0 found.1) bound)

-- ---- two circuits

module _ (held : Option Files) (words : List Word) (signature net other : Word) (bound cycles : ℕ) (simple : Bool) (spelled : IsSpelled words (Over signature (Same net other bound cycles simple))) (setting : SettingValue) (is : SettingIn held signature (Ok setting))
    (netlist : BoundNet) (taken : NetlistIn held setting.signature net (Ok netlist)) (second : BoundNet) (more : NetlistIn held setting.signature other (Ok second)) where
  same_over : (circuit : BoundNet) → SimplerUnrolledIn net netlist cycles simple (Ok circuit) → (beside : BoundNet) → SimplerUnrolledIn other second cycles simple (Ok beside) → HasOutcome (SameReply setting circuit beside bound) → HasReplyOrStop words held
  same_over circuit of beside of' (Ok reply, told) = inl (replied words held signature (Same net other bound cycles simple) spelled setting is reply (netlist, taken, (second, more, (circuit, of, (beside, of', told)))))
  same_over circuit of beside of' (Err fault, inl (stage, over, same)) =
      stopped words held signature (Same net other bound cycles simple) spelled setting is stage (inr (netlist, taken, inr (second, more, inr (circuit, of, inr (beside, of', inl (stage, over, refl))))))
  same_over circuit of beside of' (Err fault, inr (found, told, never)) = absurd never

  over_wholes : (whole : BoundNet) → UnrolledIn net netlist cycles (Ok whole) → (another : BoundNet) → UnrolledIn other second cycles (Ok another) → HasReplyOrStop words held
  over_wholes whole of another of' =
      let text = setting_text held signature setting is in
      let one = simpler_value simple whole (simpler_of held text.0 setting text.1 net cycles netlist taken simple whole of) in
      let two = simpler_value simple another (simpler_of held text.0 setting text.1 other cycles second more simple another of') in
      let circuit_of : SimplerUnrolledIn net netlist cycles simple (Ok one.0) = (whole, of, one.1) in
      let beside_of : SimplerUnrolledIn other second cycles simple (Ok two.0) = (another, of', two.1) in
      same_over one.0 circuit_of two.0 beside_of
      (reply_of setting one.0 two.0 (taken_from held text.0 setting text.1 net cycles simple netlist taken one.0 circuit_of) (taken_from held text.0 setting text.1 other cycles simple second more two.0 beside_of) bound)

pub same_replies : OfSame (λ held words signature net other bound cycles simple. Reads held signature (BothGiven held net other cycles false) → HasReplyOrStop words held)
same_replies held words signature net other bound cycles simple spelled reads =
    let netlist = reads.value_in in
    let second = netlist.2 in
    let circuit = second.2 in
    let beside = circuit.2 in
    over_wholes held words signature net other bound cycles simple spelled reads.setting reads.setting_in netlist.0 netlist.1 second.0 second.1 circuit.1.0 circuit.1.1 beside.1.0 beside.1.1

-- ---- tables and values

module _ (held : Option Files) (words : List Word) (signature : Word) (setting : SettingValue) (is : SettingIn held signature (Ok setting)) where
  module _ (net : Word) (cycles : ℕ) (circuit : BoundNet) where
    table_over : IsSpelled words (Over signature (Table net cycles)) → TableGiven held net cycles setting (Ok circuit) → HasOutcome (TableReply setting circuit) → HasReply words held
    table_over spelled (u, small, of) (Ok reply, told) = replied words held signature (Table net cycles) spelled setting is reply (u, small, (circuit, of, told))
    table_over spelled given (Err fault, never) = absurd never

  lift_over : (file : Word) (table : List ℕ) → IsSpelled words (Over signature (Lift file)) → LiftGiven held file setting (Ok table) → HasOutcome (LiftReply setting table) → HasReply words held
  lift_over file table spelled (u, small, taken) (Ok reply, told) = replied words held signature (Lift file) spelled setting is reply (u, small, (table, taken, told))
  lift_over file table spelled given (Err fault, never) = absurd never

  module _ (net : Word) (values : List Word) (cycles : ℕ) (netlist : BoundNet) (taken : NetlistIn held setting.signature net (Ok netlist)) (xs : List ℕ) (circuit : BoundNet) (of : UnrolledIn net netlist cycles (Ok circuit)) where
    eval_over : IsSpelled words (Over signature (Eval net values cycles)) → ValuesOf setting.k (table_words setting) values (Ok xs) → HasOutcome (EvalReply setting circuit xs) → HasReply words held
    eval_over spelled are (Ok reply, told) = replied words held signature (Eval net values cycles) spelled setting is reply (netlist, taken, (xs, are, (circuit, of, told)))
    eval_over spelled are (Err fault, never) = absurd never

pub table_replies : OfTable (λ held words signature net cycles. Reads held signature (TableGiven held net cycles) → HasReply words held)
table_replies held words signature net cycles spelled reads =
    let text = setting_text held signature reads.setting reads.setting_in in
    let netlist = reads.value_in.2 in
    table_over held words signature reads.setting reads.setting_in net cycles reads.value spelled reads.value_in
    (table_reply reads.setting reads.value (taken_whole held text.0 reads.setting text.1 net cycles netlist.0 netlist.1 reads.value netlist.2))

pub lift_replies : OfLift (λ held words signature file. Reads held signature (LiftGiven held file) → HasReply words held)
lift_replies held words signature file spelled reads =
    let text = setting_text held signature reads.setting reads.setting_in in
    lift_over held words signature reads.setting reads.setting_in file reads.value spelled reads.value_in (lift_reply held text.0 reads.setting text.1 file reads.value reads.value_in.2)

pub eval_replies : OfEval (λ held words signature net values cycles. Reads held signature (EvalGiven held net values cycles) → HasReply words held)
eval_replies held words signature net values cycles spelled reads =
    let text = setting_text held signature reads.setting reads.setting_in in
    let netlist = reads.value_in in
    let values_are = netlist.2 in
    let circuit = values_are.2 in
    eval_over held words signature reads.setting reads.setting_in net values cycles netlist.0 netlist.1 values_are.0 circuit.0 circuit.1 spelled values_are.1
    (eval_reply reads.setting circuit.0 (taken_whole held text.0 reads.setting text.1 net cycles netlist.0 netlist.1 circuit.0 circuit.1) values values_are.0 values_are.1)
