use Rattle.std.proofs.Common.{rules, suc}
use Rattle.std.specs.Int.Bits.{xor_lt}
use Rattle.gf_field.specs.Polynomial.{coefficient}
use Rattle.gf_iso.specs.Root.{value_at}
use Rattle.gf_iso.proofs.SliceLaws.{others_below, joined_at, skipped_at}
use Rattle.gf_iso.proofs.roots.+least_root.Goals as goal

pub least_root-requires : goal.least_root-requires
least_root-requires g t c κs within = (search rules, (search rules, (search rules, (xor_lt (g.F.Ring.degree c.args.field.now) _ _ c.requires.start (c.requires.vectors 0), (others_below (g.F.Ring.degree c.args.field.now) c.args.vectors.now c.requires.vectors, c.requires.small)))))

pub returns-else-first-eq0 : goal.returns-else-first-eq0
returns-else-first-eq0 g t c = joined_at (g.F.Ring.degree c.args.field.now) (value_at (g.F.Ring.product c.args.field.now) (suc c.args.n) (coefficient 1 c.args.modulus)) c.args.vectors.now c.args.start c.least_root-without.result c.least_root.result c.lesser.result c.in-len1-up.len_at_least c.least_root-without.ensures c.least_root.ensures c.lesser.ensures

pub returns-then-first-eq0 : goal.returns-then-first-eq0
returns-then-first-eq0 g t c = skipped_at (g.F.Ring.degree c.args.field.now) (value_at (g.F.Ring.product c.args.field.now) (suc c.args.n) (coefficient 1 c.args.modulus)) c.args.vectors.now c.args.start c.least_root-without.result c.in-len1-up.len_at_least c.if-first-eq0.true c.least_root-without.ensures
