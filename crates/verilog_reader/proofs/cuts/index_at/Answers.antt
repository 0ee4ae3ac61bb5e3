use Rattle.verilog_reader.proofs.CutLemmas.{index_found, index_none}
use Rattle.verilog_reader.proofs.cuts.index_at.Goals as goal

pub returns-in-Some : goal.returns-in-Some
returns-in-Some c = λ before i few at same. index_found c.args.name.now before c.args.cut i c.in-Some.index few at same c.in-Some.ensures.found.0

pub returns-in-None : goal.returns-in-None
returns-in-None c = λ before i few at same. absurd (index_none c.args.name.now before c.args.cut i few at same c.in-None.ensures.none)
