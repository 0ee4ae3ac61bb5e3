use Rattle.std.proofs.Common.{rules, ◌≡◌, ◌∙◌, ap, sym, ℕ, ◌<◌, ◌^◌, Bool, List, [], length}
use Rattle.net_core.specs.NetList.{nets}
use Rattle.net_core.specs.Value.{index_of}
use Rattle.irreducible.specs.Span.{combination}
use Rattle.gf_basis.specs.BasisParts.{elements_of}
use Rattle.poly_mixed.specs.Polynomial.{point}
use Rattle.circuit_model.specs.Word.{HasElement}
use Rattle.circuit_model.specs.Flat.{word_of}
use Rattle.circuit_model.proofs.WordLemmas.{index_small}
use Rattle.stage_model.proofs.PointLemmas.{point_bits_long}
use Rattle.plain_runs.proofs.cut_value.cut_value.Goals as goal

pub settled-requires-clause-long : goal.settled-requires-clause-long
settled-requires-clause-long g c = ap length (c.in_ok-start.ensures []) ∙ point_bits_long (nets c.args.net.now) c.args.variables.now (point [] c.args.bits.now)

pub returns-clause-cut : goal.returns-clause-cut
returns-clause-cut g c = λ ws.
    let found = c.in_ok-bits.ensures c.args.variables.now (point ws c.args.bits.now) (c.in_ok-start.ensures ws) in
    let bits : List Bool = c.in_ok-bits.bits.items in
    let ns : List ℕ = c.args.output.now.nets.items in
    let basis : List ℕ = elements_of c.args.output.now.basis in
    let long : length basis ≡ length ns = c.requires.over.elements.size ∙ sym c.requires.nets in
    let short : index_of bits ns < 2 ^ length basis = rw long (index_small bits ns) in
    let index : c.number_of_bits.result ≡ index_of bits ns = search rules in
    let sum : combination basis (index_of bits ns) ≡ c.element_of.result = ap (combination basis) (sym index) ∙ sym c.element_of.ensures.sum in
    let is : HasElement bits (word_of c.args.output.now) c.element_of.result = record { long = long; sum = record { short = short; is = sum } } in
    record { order = found.0; elimination = found.1; bits = bits; settled = found.2; element = is }
