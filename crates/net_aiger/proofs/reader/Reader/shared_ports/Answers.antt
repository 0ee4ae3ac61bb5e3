use Rattle.std.proofs.Common.{arith}
use Rattle.net_aiger.proofs.SharedLemmas.{noted_more}
use Rattle.net_aiger.proofs.reader.Reader.shared_ports.Goals as goal

pub loop-place-init : goal.loop-place-init
loop-place-init c = λ i symbol less at. absurd (omega (arith, less))

pub loop-place-preserved : goal.loop-place-preserved
loop-place-preserved c = noted_more c.args.self.now c.loop-place.ports c.add_shared.new.ports c.loop-place.place c.loop-place.invariant c.in_ok-add_shared.ensures.keeps c.in_ok-add_shared.ensures.noted

pub returns : goal.returns
returns c = λ i symbol less at. c.loop-place.invariant i symbol (omega (arith, less, c.loop-place-test.false, c.symbols-place-end.ensures)) at
