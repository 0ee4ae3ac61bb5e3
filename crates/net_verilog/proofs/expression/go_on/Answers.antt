use Rattle.std.proofs.Common.{rules, ◌∙◌, sym, refl}
use Rattle.net_verilog.specs.private.Places.{left, value_of}
use Rattle.net_verilog.specs.Tokens.{unless_end}
use Rattle.net_verilog.specs.declared.operator.Next.TheVariants as nexts
use Rattle.net_verilog.proofs.AfterLemmas.{end_fault, ends_before, operator_step, operator_fault, close_step, group_wrong, done_step, going, left_on}
use Rattle.net_verilog.proofs.StepLemmas.{on_popped}
use Rattle.net_verilog.proofs.expression.go_on.Goals as goal

pub returns-in-Err-clause-fault : goal.returns-in-Err-clause-fault
returns-in-Err-clause-fault c = end_fault c.looseness.result c.args.maker.now c.args.stack.now c.args.driver (left c.args.place.now) c.in-Err.fault (ends_before c.looseness.result (left c.args.place.now) (value_of c.next.result.0) (unless_end c.next.result.0.kind (left c.next.result.1)) (nexts.Operator c.in-Operator.operator) c.next.ensures.next (sym c.next_of.ensures ∙ c.in-Operator.is) c.looseness.ensures.same) c.in-Err.ensures.fault

pub returns-in-Err-settle-clause-fault : goal.returns-in-Err-settle-clause-fault
returns-in-Err-settle-clause-fault c = operator_fault c.looseness.result c.args.maker.now c.end_all.new.maker c.args.stack.now c.end_all.new.stack c.args.driver c.in-Ok.last (left c.args.place.now) (value_of c.next.result.0) (left c.next.result.1) (c.next.ensures.more (going c.next.result.0.kind (nexts.Operator c.in-Operator.operator) (sym c.next_of.ensures ∙ c.in-Operator.is) refl)) (ends_before c.looseness.result (left c.args.place.now) (value_of c.next.result.0) (unless_end c.next.result.0.kind (left c.next.result.1)) (nexts.Operator c.in-Operator.operator) c.next.ensures.next (sym c.next_of.ensures ∙ c.in-Operator.is) c.looseness.ensures.same) c.in-Ok.ensures.ended c.in-Operator.operator c.in-Err-settle.fault (sym c.next_of.ensures ∙ c.in-Operator.is) c.looseness.ensures.same c.in-Ok.ensures.room c.in-Err-settle.ensures.fault

pub returns-in-Err-end_all-clause-fault : goal.returns-in-Err-end_all-clause-fault
returns-in-Err-end_all-clause-fault c = end_fault 3 c.args.maker.now c.args.stack.now c.args.driver (left c.args.place.now) c.in-Err-end_all.fault (ends_before 3 (left c.args.place.now) (value_of c.next.result.0) (unless_end c.next.result.0.kind (left c.next.result.1)) nexts.Close c.next.ensures.next (sym c.next_of.ensures ∙ c.in-Close.is) refl) c.in-Err-end_all.ensures.fault

pub returns-in-Err-end_all-2-clause-fault : goal.returns-in-Err-end_all-2-clause-fault
returns-in-Err-end_all-2-clause-fault c = end_fault 3 c.args.maker.now c.args.stack.now c.args.driver (left c.args.place.now) c.in-Err-end_all-2.fault (ends_before 3 (left c.args.place.now) (value_of c.next.result.0) (unless_end c.next.result.0.kind (left c.next.result.1)) nexts.Other c.next.ensures.next (sym c.next_of.ensures ∙ c.in-Other.is) refl) c.in-Err-end_all-2.ensures.fault

pub returns-in_ok-push_left-in-Operator-clause-met : goal.returns-in_ok-push_left-in-Operator-clause-met
returns-in_ok-push_left-in-Operator-clause-met c = operator_step c.looseness.result c.args.maker.now c.end_all.new.maker c.args.stack.now c.end_all.new.stack c.args.driver c.in-Ok.last (left c.args.place.now) (value_of c.next.result.0) (left c.next.result.1) (c.next.ensures.more (going c.next.result.0.kind (nexts.Operator c.in-Operator.operator) (sym c.next_of.ensures ∙ c.in-Operator.is) refl)) (ends_before c.looseness.result (left c.args.place.now) (value_of c.next.result.0) (unless_end c.next.result.0.kind (left c.next.result.1)) (nexts.Operator c.in-Operator.operator) c.next.ensures.next (sym c.next_of.ensures ∙ c.in-Operator.is) c.looseness.ensures.same) c.in-Ok.ensures.ended c.in-Operator.operator c.settle.new.maker c.push_left.new.self c.in-Ok-settle.net (sym c.next_of.ensures ∙ c.in-Operator.is) c.looseness.ensures.same c.in-Ok.ensures.room c.in-Ok-settle.ensures.made (search rules)

pub returns-in_ok-push_left-in-Operator-clause-on : goal.returns-in_ok-push_left-in-Operator-clause-on
returns-in_ok-push_left-in-Operator-clause-on c = left_on c.end_all.new.maker c.settle.new.maker c.end_all.new.stack c.push_left.new.self c.next.result.0.line c.in-Operator.operator c.in-Ok-settle.net (search rules) c.in-Ok-settle.ensures.within c.in-Ok-settle.ensures.grows c.in-Ok.ensures.on

pub returns-in-None-clause-done : goal.returns-in-None-clause-done
returns-in-None-clause-done c = done_step 3 c.args.maker.now c.end_all-in-Close.new.maker c.args.stack.now c.end_all-in-Close.new.stack c.args.driver c.in-Ok-end_all.last (left c.args.place.now) (value_of c.next.result.0) (left c.next.result.1) (c.next.ensures.more (going c.next.result.0.kind nexts.Close (sym c.next_of.ensures ∙ c.in-Close.is) refl)) (ends_before 3 (left c.args.place.now) (value_of c.next.result.0) (unless_end c.next.result.0.kind (left c.next.result.1)) nexts.Close c.next.ensures.next (sym c.next_of.ensures ∙ c.in-Close.is) refl) c.in-Ok-end_all.ensures.ended nexts.Close c.in-None.ensures.none (sym c.next_of.ensures ∙ c.in-Close.is) refl

pub returns-in-Some-clause-met : goal.returns-in-Some-clause-met
returns-in-Some-clause-met c = close_step 3 c.args.maker.now c.end_all-in-Close.new.maker c.args.stack.now c.end_all-in-Close.new.stack c.args.driver c.in-Ok-end_all.last (left c.args.place.now) (value_of c.next.result.0) (left c.next.result.1) (c.next.ensures.more (going c.next.result.0.kind nexts.Close (sym c.next_of.ensures ∙ c.in-Close.is) refl)) (ends_before 3 (left c.args.place.now) (value_of c.next.result.0) (unless_end c.next.result.0.kind (left c.next.result.1)) nexts.Close c.next.ensures.next (sym c.next_of.ensures ∙ c.in-Close.is) refl) c.in-Ok-end_all.ensures.ended c.in-Some.field-0 c.pop.new.self c.in-Some.ensures.some (c.in-Ok-end_all.ensures.group refl) (sym c.next_of.ensures ∙ c.in-Close.is) c.pop.ensures

pub returns-in-None-top-clause-done : goal.returns-in-None-top-clause-done
returns-in-None-top-clause-done c = done_step 3 c.args.maker.now c.end_all-in-Other.new.maker c.args.stack.now c.end_all-in-Other.new.stack c.args.driver c.in-Ok-end_all-2.last (left c.args.place.now) (value_of c.next.result.0) (unless_end c.next.result.0.kind (left c.next.result.1)) c.next.ensures.next (ends_before 3 (left c.args.place.now) (value_of c.next.result.0) (unless_end c.next.result.0.kind (left c.next.result.1)) nexts.Other c.next.ensures.next (sym c.next_of.ensures ∙ c.in-Other.is) refl) c.in-Ok-end_all-2.ensures.ended nexts.Other c.in-None-top.ensures.none (sym c.next_of.ensures ∙ c.in-Other.is) refl

pub returns-in-Some-top-clause-fault : goal.returns-in-Some-top-clause-fault
returns-in-Some-top-clause-fault c = group_wrong 3 c.args.maker.now c.end_all-in-Other.new.maker c.args.stack.now c.end_all-in-Other.new.stack c.args.driver c.in-Ok-end_all-2.last (left c.args.place.now) (value_of c.next.result.0) (unless_end c.next.result.0.kind (left c.next.result.1)) c.next.ensures.next (ends_before 3 (left c.args.place.now) (value_of c.next.result.0) (unless_end c.next.result.0.kind (left c.next.result.1)) nexts.Other c.next.ensures.next (sym c.next_of.ensures ∙ c.in-Other.is) refl) c.in-Ok-end_all-2.ensures.ended c.in-Some-top.field-0 c.wrong.result c.in-Some-top.ensures.some (c.in-Ok-end_all-2.ensures.group refl) (sym c.next_of.ensures ∙ c.in-Other.is) c.wrong.ensures

pub returns-in_ok-push_left-in-Operator-clause-shorter : goal.returns-in_ok-push_left-in-Operator-clause-shorter
returns-in_ok-push_left-in-Operator-clause-shorter c = c.next.ensures.shorter (going c.next.result.0.kind (nexts.Operator c.in-Operator.operator) (sym c.next_of.ensures ∙ c.in-Operator.is) refl)

pub returns-in-Some-clause-shorter : goal.returns-in-Some-clause-shorter
returns-in-Some-clause-shorter c = c.next.ensures.shorter (going c.next.result.0.kind nexts.Close (sym c.next_of.ensures ∙ c.in-Close.is) refl)

pub returns-in-Some-clause-on : goal.returns-in-Some-clause-on
returns-in-Some-clause-on c = on_popped c.end_all-in-Close.new.maker c.end_all-in-Close.new.maker c.end_all-in-Close.new.stack c.pop.new.self c.in-Some.field-0 c.in-Some.ensures.some c.pop.ensures (search rules) c.in-Ok-end_all.ensures.on
