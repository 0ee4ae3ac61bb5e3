use Rattle.std.proofs.Common.{rules, ◌≡◌, ◌∙◌, ap, sym, ◌≤◌, Some, Ok, List, ℕ}
use Rattle.std.specs.Option.{option_map}
use Rattle.outcome.specs.Steps.{on_value}
use Rattle.net_verilog.specs.Tokens.{TokenValue}
use Rattle.net_verilog.specs.Targets.{decimal_kind}
use Rattle.net_verilog.specs.Declarations.{bit_name}
use Rattle.net_verilog.specs.private.Decimals.{short}
use Rattle.net_verilog.specs.private.Places.{left, value_of}
use Rattle.net_verilog.proofs.AfterLemmas.{over}
use Rattle.net_verilog.proofs.TargetLemmas.{decimal_goes, index_taken}
use Rattle.net_verilog.proofs.target.indexed.Goals as goal

pub returns-in_ok-bit_name-in-Ok-clause-found : goal.returns-in_ok-bit_name-in-Ok-clause-found
returns-in_ok-bit_name-in-Ok-clause-found c =
    let is : Some (Some c.in-Some-Some.index) ≡ option_map short (decimal_kind c.next.result.0.kind c.next.result.0.text.now) = search rules in
    let above : c.args.low ≤ c.in-Some-Some.index = search rules in
    let below : c.in-Some-Some.index ≤ c.args.high = search rules in
    index_taken c.args.name.now c.args.low c.args.high c.in-Some-Some.index (left c.args.place.now) (value_of c.next.result.0) (left c.next.result.1) (c.next.ensures.more (decimal_goes (value_of c.next.result.0) (Some c.in-Some-Some.index) is)) is above below ∙ ap (on_value (λ (p : ℕ × List TokenValue). Ok (bit_name c.args.name.now c.in-Some-Some.index, p.1))) c.in-Ok.ensures.found ∙ ap (λ net. Ok (net, left c.in-Ok.end)) (sym c.in_ok-bit_name-in-Ok.ensures)

pub returns-in-Err-clause-fault : goal.returns-in-Err-clause-fault
returns-in-Err-clause-fault c =
    let is : Some (Some c.in-Some-Some.index) ≡ option_map short (decimal_kind c.next.result.0.kind c.next.result.0.text.now) = search rules in
    let above : c.args.low ≤ c.in-Some-Some.index = search rules in
    let below : c.in-Some-Some.index ≤ c.args.high = search rules in
    over (λ e. index_taken c.args.name.now c.args.low c.args.high c.in-Some-Some.index (left c.args.place.now) (value_of c.next.result.0) (left c.next.result.1) (c.next.ensures.more (decimal_goes (value_of c.next.result.0) (Some c.in-Some-Some.index) is)) is above below ∙ ap (on_value (λ (p : ℕ × List TokenValue). Ok (bit_name c.args.name.now c.in-Some-Some.index, p.1))) e) c.in-Err.ensures.fault
