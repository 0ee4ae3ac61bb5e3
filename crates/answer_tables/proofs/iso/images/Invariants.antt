use Rattle.std.proofs.Common.{◌≡◌, ◌^◌}
use Rattle.gf_basis.specs.Basis.{first_values}
use Rattle.gf_iso.specs.IsoParts.{there_of}
use Rattle.lift_table.specs.TableText.{value_lines}
use Rattle.answer_tables.proofs.iso.images.Given as goal

abbrev pub invariant-loop-i : goal.invariant-loop-i
invariant-loop-i l = l.text.items ≡ value_lines (first_values l.i (λ i. there_of l.iso (2 ^ i)))
