use Rattle.std.proofs.Common.{◌≡◌, ℕ, ◌<◌, ◌^◌, ◌∙◌, refl, sym, ap, arith, length, take, get_or, subst, length-set}
use Rattle.std.proofs.lemmas.List.{length-take-le, get_or-take}
use Rattle.std.proofs.lemmas.Nat.{one_shl}
use Rattle.irreducible.specs.Span.{combination}
use Rattle.irreducible.specs.private.Pivots.{IsCleared}
use Rattle.irreducible.specs.BitMatrix.{rows_of}
use Rattle.irreducible.proofs.MatrixLaws.{set_more}
use Rattle.irreducible.proofs.InverseMatrixLaws.{full_rank, rank_full, inverse_row, inverse_short, AreInverse-from_rows}
use Rattle.irreducible.proofs.bit_matrix.BitMatrix.inverse.Goals as goal

pub returns-then-pivots-self-clause-found : goal.returns-then-pivots-self-clause-found
returns-then-pivots-self-clause-found c =
    let count : length (rows_of c.args.self.now) ≡ c.args.self.now.count = length-take-le _ _ (omega (arith, c.args.self.now.few)) in
    (λ h. cc, λ free. absurd (c.if-pivots-self.true (rank_full (rows_of c.args.self.now) _ _ c.eliminated-pivots.ensures.rank free ∙ count)))

pub returns-clause-found : goal.returns-clause-found
returns-clause-found c =
    let count : length (rows_of c.args.self.now) ≡ c.args.self.now.count = length-take-le _ _ (omega (arith, c.args.self.now.few)) in
    (λ h. full_rank (rows_of c.args.self.now) _ _ c.eliminated-pivots.ensures.rank (c.if-pivots-self.false ∙ sym count), λ h. refl)

pub loop-i-preserved : goal.loop-i-preserved
loop-i-preserved c =
    let count : length (rows_of c.args.self.now) ≡ c.args.self.now.count = length-take-le _ _ (omega (arith, c.args.self.now.few)) in
    let unit : IsCleared c.eliminated-pivots.result.sums (2 ^ c.loop-i.i) c.reduced.result.left c.reduced.result.used 0 = rw (one_shl c.loop-i.i 64 (omega (arith, c.args.self.now.few))) at c.reduced.ensures in
    record {
      whole = length-set c.loop-i.rows c.loop-i.i c.combined.result ∙ c.loop-i.invariant.whole;
      undo = set_more (λ j x. combination (rows_of c.args.self.now) x ≡ 2 ^ j) c.loop-i.rows c.loop-i.i c.combined.result (omega arith) c.loop-i.invariant.undo
          (rw (c.combined.ensures) (inverse_row (rows_of c.args.self.now) c.eliminated-pivots.result.sums c.eliminated-pivots.result.choices c.args.self.now.square c.eliminated-pivots.result.rank c.eliminated-pivots.ensures.rank (c.if-pivots-self.false ∙ sym count) c.eliminated-pivots.ensures.choices (omega arith) c.loop-i.i c.reduced.result.left c.reduced.result.used (omega arith) unit));
      short = set_more (λ j x. x < 2 ^ length (rows_of c.args.self.now)) c.loop-i.rows c.loop-i.i c.combined.result (omega arith) c.loop-i.invariant.short
          (rw (c.combined.ensures) (inverse_short (rows_of c.args.self.now) c.eliminated-pivots.result.sums c.eliminated-pivots.result.choices c.args.self.now.square c.eliminated-pivots.result.rank c.eliminated-pivots.ensures.rank (c.if-pivots-self.false ∙ sym count) c.eliminated-pivots.ensures.choices (omega arith) c.reduced.result.used));
    }

pub invariant_of-result : goal.invariant_of-result
invariant_of-result c =
    let count : length (rows_of c.args.self.now) ≡ c.args.self.now.count = length-take-le _ _ (omega (arith, c.args.self.now.few)) in
    let taken : length (take c.args.self.now.count c.loop-i.rows) ≡ c.args.self.now.count = length-take-le _ _ (omega (arith, c.args.self.now.few, c.loop-i.invariant.whole)) in
    record {
      few = c.args.self.now.few;
      square = λ i h. rw (taken, get_or-take c.args.self.now.count c.loop-i.rows i 0 (omega (arith, taken))) (subst (λ (n : ℕ). get_or c.loop-i.rows i 0 < 2 ^ n) count (c.loop-i.invariant.short i (omega (arith, taken))));
    }

pub returns-clause-inverse : goal.returns-clause-inverse
returns-clause-inverse c =
    let count : length (rows_of c.args.self.now) ≡ c.args.self.now.count = length-take-le _ _ (omega (arith, c.args.self.now.few)) in
    let taken : length (take c.args.self.now.count c.loop-i.rows) ≡ c.args.self.now.count = length-take-le _ _ (omega (arith, c.args.self.now.few, c.loop-i.invariant.whole)) in
    AreInverse-from_rows (rows_of c.args.self.now) c.eliminated-pivots.result.sums c.eliminated-pivots.result.choices c.args.self.now.square c.eliminated-pivots.result.rank c.eliminated-pivots.ensures.rank (c.if-pivots-self.false ∙ sym count) c.eliminated-pivots.ensures.choices (omega arith)
    (take c.args.self.now.count c.loop-i.rows) (taken ∙ sym count)
    (λ i h. ap (combination (rows_of c.args.self.now)) (get_or-take c.args.self.now.count c.loop-i.rows i 0 (omega (arith, count))) ∙ c.loop-i.invariant.undo i (omega (arith, count)))
    (λ i h. rw (get_or-take c.args.self.now.count c.loop-i.rows i 0 (omega (arith, count))) (c.loop-i.invariant.short i (omega (arith, count))))
