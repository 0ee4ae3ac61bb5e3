use Rattle.std.proofs.Common.{◌≡◌, map, drop, codes, string_bytes}
use Rattle.poly_mixed.specs.Parts.{parts_after}
use Rattle.poly_mixed.proofs.write.add_parts.Given as goal

abbrev pub invariant-loop-part : goal.invariant-loop-part
invariant-loop-part l = parts_after (codes "*") l.is_first l.out.items (map (λ s. string_bytes s) (drop l.part-index l.parts)) ≡ parts_after (codes "*") l.first l.initial.out.items (map (λ s. string_bytes s) l.parts)
