use Rattle.std.proofs.Common.{◌≡◌, ◌<◌, ◌∙◌, ℕ, List, length, length-set, bit_xor, arith}
use Rattle.std.specs.Prelude.{slice_index, slice_set}
use Rattle.std.proofs.lemmas.Grind.{get_or_default_zero}
use Rattle.cert_check.proofs.RowLemmas.{row_added, coefficients_are}
use Rattle.cert_check.proofs.row.Row.add.Goals as goal

pub returns-clause-row : goal.returns-clause-row
returns-clause-row g c =
    let old : List ℕ = c.args.self.now.coefficients.items in
    let i : ℕ = c.args.place in
    let room : i < length old = omega (arith, c.requires.place, c.requires.row.long) in
    let at : c.index.result.now ≡ slice_index old i = c.index.ensures ∙ get_or_default_zero old i c.index.result.now room in
    let is : slice_set old i (bit_xor c.index.result.now c.args.c) ≡ slice_set old i (bit_xor (slice_index old i) c.args.c) = λ j. slice_set old i (bit_xor (at j) c.args.c) in
    record {
      monomial = c.requires.row.monomial;
      word = c.requires.row.word;
      known = c.requires.row.known;
      long = length-set old i (bit_xor c.index.result.now c.args.c) ∙ c.requires.row.long;
      elements = coefficients_are (g.met.F.Ring.laws c.args._field.now) (g.met.F.Field.no_zero_divisors c.args._field.now) old (slice_set old i (bit_xor c.index.result.now c.args.c)) i c.args.c c.requires.row.long c.requires.place c.requires.element c.requires.row.elements is;
    }

pub returns-clause-value : goal.returns-clause-value
returns-clause-value g c dual p at_point =
    let old : List ℕ = c.args.self.now.coefficients.items in
    let i : ℕ = c.args.place in
    let room : i < length old = omega (arith, c.requires.place, c.requires.row.long) in
    let at : c.index.result.now ≡ slice_index old i = c.index.ensures ∙ get_or_default_zero old i c.index.result.now room in
    row_added (g.met.F.Ring.laws c.args._field.now) (g.met.F.Field.no_zero_divisors c.args._field.now) dual c.args.self.now (slice_set old i (bit_xor c.index.result.now c.args.c)) i c.args.c p at_point c.requires.place c.requires.row.long (λ j. slice_set old i (bit_xor (at j) c.args.c))
