use Rattle.std.proofs.Common.{◌∙◌, inl, inr, refl, sym}
use Rattle.net_verilog.specs.Tokens.{unless_end}
use Rattle.net_verilog.specs.private.Places.{left, value_of}
use Rattle.net_verilog.specs.declared.operator.Start.TheVariants as starts
use Rattle.net_verilog.proofs.KindLemmas.{begins_goes, begins_right}
use Rattle.net_verilog.proofs.StepLemmas.{group_step, literal_step, open_not_step, open_wrong, other_wrong, stack_more, target_step, target_wrong}
use Rattle.net_verilog.proofs.expression.begin.Goals as goal

pub open_frame-requires-clause-prints : goal.open_frame-requires-clause-prints
open_frame-requires-clause-prints c = c.next.ensures.prints (begins_right (value_of c.next.result.0) starts.Group (sym c.start_of.ensures ∙ c.in-Group.is) refl)

pub open_frame-requires-clause-opens : goal.open_frame-requires-clause-opens
open_frame-requires-clause-opens c = λ stack. refl

pub open_frame-requires-in-Not-clause-prints : goal.open_frame-requires-in-Not-clause-prints
open_frame-requires-in-Not-clause-prints c = c.next.ensures.prints (begins_right (value_of c.next.result.0) starts.Not (sym c.start_of.ensures ∙ c.in-Not.is) refl)

pub open_frame-requires-in-Not-clause-opens : goal.open_frame-requires-in-Not-clause-opens
open_frame-requires-in-Not-clause-opens c = λ stack. refl

pub returns-in-Ok-clause-met : goal.returns-in-Ok-clause-met
returns-in-Ok-clause-met c = group_step c.args.declared.now c.args.maker.now c.args.stack.now (left c.args.place.now) (value_of c.next.result.0) (left c.next.result.1) (c.next.ensures.more (begins_goes (value_of c.next.result.0) starts.Group (sym c.start_of.ensures ∙ c.in-Group.is) refl)) c.open_frame.new.stack (sym c.start_of.ensures ∙ c.in-Group.is) c.in-Ok.ensures.few c.in-Ok.ensures.pushed

pub returns-in-Ok-clause-shorter : goal.returns-in-Ok-clause-shorter
returns-in-Ok-clause-shorter c = c.next.ensures.shorter (begins_goes (value_of c.next.result.0) starts.Group (sym c.start_of.ensures ∙ c.in-Group.is) refl)

pub returns-in-Err-clause-fault : goal.returns-in-Err-clause-fault
returns-in-Err-clause-fault c = open_wrong c.args.declared.now c.args.maker.now c.args.stack.now (left c.args.place.now) (value_of c.next.result.0) (unless_end c.next.result.0.kind (left c.next.result.1)) c.next.ensures.next c.in-Err.fault (inl (sym c.start_of.ensures ∙ c.in-Group.is)) c.in-Err.ensures.fault

pub returns-in-Ok-open_frame-clause-met : goal.returns-in-Ok-open_frame-clause-met
returns-in-Ok-open_frame-clause-met c = open_not_step c.args.declared.now c.args.maker.now c.args.stack.now (left c.args.place.now) (value_of c.next.result.0) (left c.next.result.1) (c.next.ensures.more (begins_goes (value_of c.next.result.0) starts.Not (sym c.start_of.ensures ∙ c.in-Not.is) refl)) c.open_frame-in-Not.new.stack (sym c.start_of.ensures ∙ c.in-Not.is) c.in-Ok-open_frame.ensures.few c.in-Ok-open_frame.ensures.pushed

pub returns-in-Ok-open_frame-clause-shorter : goal.returns-in-Ok-open_frame-clause-shorter
returns-in-Ok-open_frame-clause-shorter c = c.next.ensures.shorter (begins_goes (value_of c.next.result.0) starts.Not (sym c.start_of.ensures ∙ c.in-Not.is) refl)

pub returns-in-Err-open_frame-clause-fault : goal.returns-in-Err-open_frame-clause-fault
returns-in-Err-open_frame-clause-fault c = open_wrong c.args.declared.now c.args.maker.now c.args.stack.now (left c.args.place.now) (value_of c.next.result.0) (unless_end c.next.result.0.kind (left c.next.result.1)) c.next.ensures.next c.in-Err-open_frame.fault (inr (sym c.start_of.ensures ∙ c.in-Not.is)) c.in-Err-open_frame.ensures.fault

pub returns-in-Bit-clause-met : goal.returns-in-Bit-clause-met
returns-in-Bit-clause-met c = literal_step c.args.declared.now c.args.maker.now c.args.stack.now (left c.args.place.now) (value_of c.next.result.0) (left c.next.result.1) (c.next.ensures.more (begins_goes (value_of c.next.result.0) (starts.Bit c.in-Bit.bit) (sym c.start_of.ensures ∙ c.in-Bit.is) refl)) c.in-Bit.bit (sym c.start_of.ensures ∙ c.in-Bit.is)

pub returns-in-Bit-clause-shorter : goal.returns-in-Bit-clause-shorter
returns-in-Bit-clause-shorter c = c.next.ensures.shorter (begins_goes (value_of c.next.result.0) (starts.Bit c.in-Bit.bit) (sym c.start_of.ensures ∙ c.in-Bit.is) refl)

pub returns-in-Ok-read_net-clause-met : goal.returns-in-Ok-read_net-clause-met
returns-in-Ok-read_net-clause-met c = target_step c.args.declared.now c.args.maker.now c.read_net.new.maker c.args.stack.now (left c.args.place.now) (left c.in-Ok-read_net.after) c.in-Ok-read_net.ensures.made.name c.in-Ok-read_net.net c.in-Ok-read_net.ensures.made.targets c.in-Ok-read_net.ensures.made.mentions

pub returns-in-Ok-read_net-clause-on : goal.returns-in-Ok-read_net-clause-on
returns-in-Ok-read_net-clause-on c = stack_more c.args.maker.now c.read_net.new.maker c.args.stack.now c.in-Ok-read_net.ensures.grows c.requires.on

pub returns-in-Err-read_net-clause-fault : goal.returns-in-Err-read_net-clause-fault
returns-in-Err-read_net-clause-fault c = target_wrong c.args.declared.now c.args.maker.now c.args.stack.now (left c.args.place.now) (value_of c.next.result.0) (unless_end c.next.result.0.kind (left c.next.result.1)) c.next.ensures.next c.in-Err-read_net.fault (sym c.start_of.ensures ∙ c.in-Target.is) c.in-Err-read_net.ensures.fault

pub returns-in-Other-clause-fault : goal.returns-in-Other-clause-fault
returns-in-Other-clause-fault c = other_wrong c.args.declared.now c.args.maker.now c.args.stack.now (left c.args.place.now) (value_of c.next.result.0) (unless_end c.next.result.0.kind (left c.next.result.1)) c.next.ensures.next c.wrong.result (sym c.start_of.ensures ∙ c.in-Other.is) c.wrong.ensures
