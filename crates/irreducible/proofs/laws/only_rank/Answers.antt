use Rattle.std.proofs.Common.{ℕ, ◌∙◌, sym, List, length, ◌≤◌, le_antisymm}
use Rattle.irreducible.specs.Span.{combination, InSpan, IsRank}
use Rattle.irreducible.specs.laws.SpanLaws.{independent-le}
use Rattle.irreducible.proofs.laws.only_rank.Goals as goal

no_more : (rows : List ℕ) (r s : ℕ) (p : IsRank rows r) (q : IsRank rows s) → length p.basis ≤ length q.basis
no_more rows r s p q = independent-le p.basis q.basis p.independent (λ c. inside c)
  where
    inside : (c : ℕ) → InSpan q.basis (combination p.basis c)
    inside c = let i : InSpan rows (combination p.basis c) = p.inside c in let t : InSpan q.basis (combination rows i.choice) = q.spans i.choice in record { choice = t.choice; is = t.is ∙ i.is }

pub returns : goal.returns
returns c = λ rows r s p q. sym p.count ∙ le_antisymm (no_more rows r s p q) (no_more rows s r q p) ∙ q.count
