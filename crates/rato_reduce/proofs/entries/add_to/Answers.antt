use Rattle.std.proofs.Common.{◌≡◌, Some, bit_xor, arith}
use Rattle.std.specs.Map.{lookup}
use Rattle.std.specs.Ordering.{eq_by_cmp}
use Rattle.rato_reduce.specs.private.CutKey.{key_cmp, key_cmp_total}
use Rattle.poly_mixed.proofs.TermLemmas.{plus_term-new, plus_term-old, plus_term-gone}
use Rattle.rato_reduce.proofs.entries.add_to.Goals as goal

pub returns-in-Vacant-clause-added : goal.returns-in-Vacant-clause-added
returns-in-Vacant-clause-added c =
    let found = c.in_ok-entry.ensures.found in
    let absent = rw (c.in-Vacant.is) at found in
    let more = plus_term-new key_cmp c.args.entries.now.entries c.args.key c.args.c absent in
    let writes = c.in_ok-entry.ensures.update.1 c.args.c in
    grind (arith, more, writes)

pub returns-then-sum-eq0-clause-added : goal.returns-then-sum-eq0-clause-added
returns-then-sum-eq0-clause-added c =
    let had : lookup (eq_by_cmp key_cmp c.args.key) c.args.entries.now.entries ≡ Some c.get.result.now = grind arith in
    let less = plus_term-gone key_cmp key_cmp_total c.args.entries.now.entries c.args.key c.args.c c.get.result.now c.in_ok-entry.ensures.ordered had c.if-sum-eq0.true in
    let removes = c.in_ok-entry.ensures.removal.1 in
    grind (arith, less, removes)

pub returns-else-sum-eq0-clause-added : goal.returns-else-sum-eq0-clause-added
returns-else-sum-eq0-clause-added c =
    let had : lookup (eq_by_cmp key_cmp c.args.key) c.args.entries.now.entries ≡ Some c.get.result.now = grind arith in
    let other = plus_term-old key_cmp key_cmp_total c.args.entries.now.entries c.args.key c.args.c c.get.result.now c.in_ok-entry.ensures.ordered had c.if-sum-eq0.false in
    let writes = c.in_ok-entry.ensures.update.1 (bit_xor c.get.result.now c.args.c) in
    grind (arith, other, writes)
