use Rattle.std.proofs.Common.{◌≡◌, ◌+◌, ◌∙◌, ℕ, length, ap, sym, subst}
use Rattle.poly_mixed.specs.Polynomial.{Terms}
use Rattle.rato_reduce.specs.private.Buckets.{IsCounted, IsMerged}
use Rattle.rato_reduce.proofs.buckets.merge_counted.Goals as goal

pub returns-clause-merged : goal.returns-clause-merged
returns-clause-merged c =
    let before : c.len-before.result ≡ length c.pack.new.self = c.len-before.ensures ∙ ap length (sym c.pack.ensures) in
    let made : IsMerged c.pack.new.self c.merge.new.self c.args.count c.more.result = record {
      sums = c.in_ok-merge.ensures.sums;
      each = c.in_ok-merge.ensures.each;
      counted = λ m counted.
          let P : ℕ → Type 0 = λ n. IsCounted c.args.count (m + n) in
          let Q : ℕ → Type 0 = λ n. IsCounted c.more.result (m + n) in
          subst Q c.len.ensures (c.more.ensures m (c.fewer-others.ensures m (subst P (sym before) counted)));
    } in
    let P : Terms → Type 0 = λ ts. IsMerged ts c.merge.new.self c.args.count c.more.result in
    subst P c.pack.ensures made
