use Rattle.std.proofs.Common.{rules, ◌≡◌, ◌∙◌, ap, sym, true, false, Ok, Err}
use Rattle.net_verilog.specs.Several.{after_first}
use Rattle.net_verilog.specs.private.Places.{left}
use Rattle.net_verilog.proofs.AfterLemmas.{over}
use Rattle.verilog_reader.specs.Items.{endmodule_first}
use Rattle.verilog_reader.proofs.ItemLemmas.{items_end, items_fail, items_more, word_goes}
use Rattle.verilog_reader.proofs.items.read_items.Goals as goal

pub returns-then-is_endmodule-clause-made : goal.returns-then-is_endmodule-clause-made
returns-then-is_endmodule-clause-made c =
    let some : c.is_endmodule.result ≡ true = search rules in
    let more = c.next.ensures.more (word_goes c.next.result.0.kind c.next.result.0.text.now _ (sym c.is_endmodule.ensures ∙ some)) in
    c.loop-here.invariant (Ok ((c.loop-here.declared, c.loop-here.maker), left c.next.result.1)) (items_end (c.loop-here.declared, c.loop-here.maker) (left c.loop-here.here) (left c.next.result.1) (ap endmodule_first more ∙ sym c.is_endmodule.ensures ∙ some) (ap after_first more))

pub returns-in-Err-clause-fault : goal.returns-in-Err-clause-fault
returns-in-Err-clause-fault c =
    let none : c.is_endmodule.result ≡ false = search rules in
    over (λ refuses. c.loop-here.invariant (Err c.in-Err.fault) (items_fail (c.loop-here.declared, c.loop-here.maker) (left c.loop-here.here) c.in-Err.fault (ap endmodule_first c.next.ensures.next ∙ sym c.is_endmodule.ensures ∙ none) refuses)) c.in-Err.ensures.fault

pub loop-here-preserved : goal.loop-here-preserved
loop-here-preserved c = λ outcome rest.
    let none : c.is_endmodule.result ≡ false = search rules in
    c.loop-here.invariant outcome (items_more (c.loop-here.declared, c.loop-here.maker) (c.read_item.new.declared, c.read_item.new.maker) (left c.loop-here.here) (left c.in-Ok.next) outcome (ap endmodule_first c.next.ensures.next ∙ sym c.is_endmodule.ensures ∙ none) c.in-Ok.ensures.made rest)
