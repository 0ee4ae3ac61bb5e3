use Rattle.std.proofs.Common.{rules, ◌≡◌, ◌∙◌, ap, sym, false}
use Rattle.net_verilog.specs.private.Places.{left}
use Rattle.verilog_reader.specs.Modules.{open_first}
use Rattle.verilog_reader.proofs.PortListLemmas.{ports_none}
use Rattle.verilog_reader.proofs.port_list.read_port_list.Goals as goal

pub returns-then-not-is_sign-clause-made : goal.returns-then-not-is_sign-clause-made
returns-then-not-is_sign-clause-made c =
    let none : c.is_sign.result ≡ false = search rules in
    ports_none (c.args.declared.now, c.args.maker.now) (left c.args.place.now) (ap open_first c.next.ensures.next ∙ sym c.is_sign.ensures ∙ none)
