use Rattle.std.proofs.Common.{◌≡◌, take}
use Rattle.irreducible.specs.Span.{combination}
use Rattle.gf_basis.specs.BasisParts.{elements_of}
use Rattle.net_core.specs.NetList.{nets}
use Rattle.net_words.specs.Variables.{variables}
use Rattle.poly_mixed.specs.Polynomial.{Point, IsPoint, IsReduced, value}
use Rattle.poly_mixed.specs.Table.{index}
use Rattle.stage_model.specs.Variables.{point_bit}
use Rattle.rato_reduce.proofs.in_buckets.put_bits.Given as goal

abbrev pub invariant-loop-place : goal.invariant-loop-place
invariant-loop-place g l =
    record {
      reduced : IsReduced (g.F.Ring.degree l.field) l.sum.terms;
      values : (p : Point) → IsPoint (g.F.Ring.degree l.field) p → value (g.F.Ring.product l.field) p l.sum.terms ≡ combination (take l.place (elements_of l.basis)) (index (point_bit (variables (nets l.circuit.net) l.circuit.binding.words) p) (take l.place l.list));
    }
