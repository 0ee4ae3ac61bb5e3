-- The state of a check.
use Rattle.std.proofs.Common.{◌≡◌, ◌∙◌, ap, sym, refl, subst, ℕ, ◌<◌, ◌≤◌, zero, suc, List, [], ◌∷◌, ◌++◌, length, map, get_or, Result, Ok, Err, bit_xor, arith}
use Rattle.std.specs.List.{AllByRecursion}
use Rattle.std.specs.Prelude.{IfErr, OnOk}
use lib.Bits.{xor_assoc, xor_zero_l, xor_zero_r}
use Rattle.gf_basis.specs.declared.bases.Basis.{Basis}
use Rattle.net_words.specs.Binding.{BoundNet}
use Rattle.poly_mixed.specs.Labels.{Labelling}
use Rattle.poly_mixed.specs.Polynomial.{Polynomial, Terms, Point, IsPoint, IsReduced, value}
use Rattle.poly_mixed.specs.Steps.{Step}
use Rattle.poly_mixed.specs.declared.steps.Generator.{Generator}
use Rattle.cert_check.specs.Certificate.{Certificate, with_pair, with_shared}
use Rattle.cert_check.specs.Running.{generator_value, products, output_value, dual_words}
use Rattle.cert_check.specs.Fault.{refusal}
use Rattle.cert_check.specs.Verdict.{Verdict, IsRunningSum, AsksAtMost, VerdictFrom}
use Rattle.cert_check.specs.declared.line.Multiplier.{Multiplier}
use Rattle.cert_check.specs.declared.line.Multiplier.TheVariants.{Own, Shared}
use Rattle.cert_check.specs.declared.fault.CertFault.{CertFault}
use Rattle.cert_check.specs.declared.fault.CertFault.TheVariants.{OutOfMemory, TooManyTerms}
use Rattle.std.proofs.lemmas.List.{length-map}
use Rattle.outcome.specs.Outcome.{Outcome, Fits, MayRefuse}
use Rattle.gf_basis.specs.BasisParts.{duals_of}
use Rattle.poly_mixed.specs.Labels.{word_at}
use Rattle.poly_mixed.specs.declared.steps.Generator.TheVariants.{Net, Bit}
use Rattle.circuit_model.proofs.BoundLemmas.{count_of}
use Rattle.cert_check.specs.Labels.{NameWords}
use Rattle.cert_check.specs.declared.line.Line.{Line}
use Rattle.cert_check.specs.declared.line.Line.TheVariants.{Pair, Share}
use Rattle.cert_check.specs.declared.checking.Checking.{Checking}
use Rattle.cert_check.specs.declared.last.LastGenerator.{LastGenerator}
use Rattle.cert_check.specs.declared.running_sum.RunningSum.{RunningSum}
use Rattle.cert_check.specs.private.Held.{dual_of, whole, IsHeld, IsLast}
use Rattle.cert_check.specs.private.Kept.{terms_of, AddsLine, IsNumbered, IsKept, IsGeneratorOf, IsLineOf, IsShared, Keeps, LineAsks}
use Rattle.cert_check.specs.private.Reading.{multiplier_in, IsMultiplier, IsGenerator, IsLine}
use Rattle.poly_mixed.proofs.TextLemmas.{all_more}

module _ (k : ℕ) (mul : ℕ → ℕ → ℕ) (bound : BoundNet) (bases : List Basis) where
  products_more : (steps : List Step) (g : Generator) (m : Terms) (p : Point) → products k mul bound bases (steps ++ (g, m) ∷ []) p ≡ bit_xor (products k mul bound bases steps p) (mul (generator_value k mul bound bases g p) (value mul p m))
  products_more [] g m p =
      let x : ℕ = mul (generator_value k mul bound bases g p) (value mul p m) in
      xor_zero_r x ∙ sym (xor_zero_l x)
  products_more (s ∷ steps) g m p =
      let x : ℕ = mul (generator_value k mul bound bases g p) (value mul p m) in
      let y : ℕ = mul (generator_value k mul bound bases s.0 p) (value mul p s.1) in
      ap (bit_xor y) (products_more steps g m p) ∙ sym (xor_assoc y (products k mul bound bases steps p) x)

  -- the sum with one more product is that with one more pair
  pub sum_more : (c : Certificate) (g : Generator) (m old new : Terms) → IsRunningSum k mul bound bases c old → IsReduced k new
      → ((p : Point) → IsPoint k p → value mul p new ≡ bit_xor (value mul p old) (mul (generator_value k mul bound bases g p) (value mul p m)))
      → IsRunningSum k mul bound bases (with_pair c g m) new
  sum_more c g m old new is reduced values = record {
    reduced = reduced;
    values = λ p at.
        let x : ℕ = mul (generator_value k mul bound bases g p) (value mul p m) in
        let first : ℕ = bit_xor (output_value k mul bound bases p) (value mul p c.claim) in
        values p at
        ∙ (ap (λ v. bit_xor v x) (is.values p at)
        ∙ (xor_assoc first (products k mul bound bases c.pairs p) x
        ∙ ap (bit_xor first) (sym (products_more c.pairs g m p))));
  }

  next_sum : (most : ℕ) (c : Certificate) (g : Generator) (m : Multiplier) (factor claim : Terms) (shared : List Terms) (old new : Terms) → IsKept k mul bound bases most c claim shared old → factor ≡ multiplier_in shared m → IsReduced k new
      → ((p : Point) → IsPoint k p → value mul p new ≡ bit_xor (value mul p old) (mul (generator_value k mul bound bases g p) (value mul p factor))) → IsRunningSum k mul bound bases (with_pair c g (multiplier_in c.shared m)) new
  next_sum most c g m factor claim shared old new kept same reduced values =
      let equal : factor ≡ multiplier_in c.shared m = same ∙ ap (λ ts. multiplier_in ts m) kept.shared_are in
      sum_more c g (multiplier_in c.shared m) old new kept.sum_is reduced (λ p at. values p at ∙ ap (λ ts. bit_xor (value mul p old) (mul (generator_value k mul bound bases g p) (value mul p ts))) equal)

  -- what is asked after a pair, out of the comparison with the bound
  pub pair_asks : {X : Type 0} (n most : ℕ) (c : Certificate) (g : Generator) (m : Multiplier) (factor claim : Terms) (shared : List Terms) (old new : Terms) (r : Result X CertFault) → IsKept k mul bound bases most c claim shared old → factor ≡ multiplier_in shared m → IsReduced k new
      → ((p : Point) → IsPoint k p → value mul p new ≡ bit_xor (value mul p old) (mul (generator_value k mul bound bases g p) (value mul p factor)))
      → OnOk r (length new ≤ most) → IfErr r (λ fault. (fault ≡ TooManyTerms n (length new)) × (most < length new)) → Fits refusal (λ u. tt) r (AsksAtMost k mul bound bases most n (with_pair c g (multiplier_in c.shared m)))
  pair_asks n most c g m factor claim shared old new (Ok u) kept same reduced values within over =
      (new, next_sum most c g m factor claim shared old new kept same reduced values, within)
  pair_asks n most c g m factor claim shared old new (Err fault) kept same reduced values within over =
      let P : CertFault → Type 0 = λ f. MayRefuse (AsksAtMost k mul bound bases most n (with_pair c g (multiplier_in c.shared m))) (refusal f) in
      (subst P (sym over.0) (new, next_sum most c g m factor claim shared old new kept same reduced values, over.1, refl))

  -- and what is kept
  pub pair_kept : {X : Type 0} (most : ℕ) (c : Certificate) (g : Generator) (m : Multiplier) (factor claim : Terms) (shared : List Terms) (old new : Terms) (r : Result X CertFault) → IsKept k mul bound bases most c claim shared old → factor ≡ multiplier_in shared m → IsReduced k new
      → ((p : Point) → IsPoint k p → value mul p new ≡ bit_xor (value mul p old) (mul (generator_value k mul bound bases g p) (value mul p factor)))
      → OnOk r (length new ≤ most) → OnOk r (IsKept k mul bound bases most (with_pair c g (multiplier_in c.shared m)) claim shared new)
  pair_kept most c g m factor claim shared old new (Ok u) kept same reduced values within =
      record { claim_is = kept.claim_is; shared_are = kept.shared_are; reduced = kept.reduced; sum_is = next_sum most c g m factor claim shared old new kept same reduced values; within = within }
  pair_kept most c g m factor claim shared old new (Err fault) kept same reduced values within = tt

  -- where a check stands: some certificate is kept, and what may come of the rest may come of the whole
  pub record IsAt (labels : Labelling) (most version : ℕ) (whole : Outcome CertFault Verdict) (n : ℕ) (rest : List (List ℕ)) (claim : Terms) (shared : List Terms) (sum : Terms) : Type 0 where
    pub certificate : Certificate
    pub kept : IsKept k mul bound bases most certificate claim shared sum
    pub comes : (outcome : Result Verdict CertFault) → VerdictFrom k mul bound bases labels most version rest n certificate outcome → whole outcome

-- a multiplier that a line names is reduced
pub multiplier_reduced : (k : ℕ) (shared : List Terms) (m : Multiplier) → AllByRecursion (IsReduced k) shared → IsMultiplier k (length shared) m → IsReduced k (multiplier_in shared m)
multiplier_reduced k shared (Own p) all is = is
multiplier_reduced k shared (Shared n) all is = at_place shared n all is
  where
    at_place : (xs : List Terms) (n : ℕ) → AllByRecursion (IsReduced k) xs → n < length xs → IsReduced k (get_or xs n [])
    at_place [] n all less = absurd (omega arith)
    at_place (x ∷ xs) zero all less = all.0
    at_place (x ∷ xs) (suc n) all less = at_place xs n all.1 (omega arith)

-- and its number is one of those that there are
pub numbered : (k count : ℕ) (m : Multiplier) → IsMultiplier k count m → IsNumbered count m
numbered k count (Own p) is = tt
numbered k count (Shared n) is = is

pub bits_of : (k : ℕ) (ws : List (List ℕ × ℕ)) (w : ℕ) → AllByRecursion (λ (x : List ℕ × ℕ). x.1 ≡ k) ws → w < length ws → (word_at ws w).1 ≡ k
bits_of k [] w all less = absurd (omega arith)
bits_of k (x ∷ xs) zero all less = all.0
bits_of k (x ∷ xs) (suc w) all less = bits_of k xs w all.1 (omega arith)

-- what a line names is there, and so is its word
pub is_line : (k : ℕ) (mul : ℕ → ℕ → ℕ) (bound : BoundNet) (bases : List Basis) (labels : Labelling) (count : ℕ) (line : Line) → length bases ≡ length bound.binding.words → NameWords bound.binding labels → bound.binding.k ≡ k → length labels.words ≤ 8 → IsLine k bound.net labels count line → IsLineOf k bound bases count line
is_line k mul bound bases labels count (Pair g m) long names same few is = (there g is.0, is.1)
  where
    bits_at : (ws : List (List ℕ × ℕ)) (w : ℕ) → AllByRecursion (λ (x : List ℕ × ℕ). x.1 ≡ bound.binding.k) ws → w < length ws → (word_at ws w).1 ≡ bound.binding.k
    bits_at ws w all less = bits_of bound.binding.k ws w all less

    there : (h : Generator) → IsGenerator bound.net labels h → IsGeneratorOf k bound bases h
    there (Net n) own = own.0
    there (Bit w i) own =
        let words : length (dual_words bound bases) ≡ length labels.words = count_of bound.binding.words (map duals_of bases) (length-map bases duals_of ∙ long) ∙ sym names.count in
        (omega (arith, own.0, words), omega (arith, own.0, few), omega (arith, own.1, bits_at labels.words w names.bits own.0, same))
is_line k mul bound bases labels count (Share p) long names same few is = is

-- what a shared multiplier adds
pub share_adds : (k : ℕ) (mul : ℕ → ℕ → ℕ) (bound : BoundNet) (bases : List Basis) (most n : ℕ) (r : Result (Unit {0}) CertFault) (old new : Checking) (p : Polynomial) → IsHeld bound bases k old.sum → IsLast k mul bound bases old.last → IsReduced k p.terms → OnOk r (IsShared old new p.terms) → IfErr r (λ fault. fault ≡ OutOfMemory) → AddsLine k mul bound bases most n r old new (Share p)
share_adds k mul bound bases most n (Ok u) old new p held last reduced is memory =
    let H : RunningSum → Type 0 = IsHeld bound bases k in
    let L : LastGenerator → Type 0 = IsLast k mul bound bases in
    record { asks = λ c kept. refl; kept = λ c kept. with_share c kept; few = is.few; held = subst H (sym is.sum) held; last = subst L (sym is.last) last }
  where
    with_share : (c : Certificate) → Keeps k mul bound bases most old c → Keeps k mul bound bases most new (with_shared c p.terms)
    with_share c kept =
        let A : List Terms → Type 0 = AllByRecursion (IsReduced k) in
        let S : RunningSum → Type 0 = λ s. IsRunningSum k mul bound bases (with_shared c p.terms) (whole k mul (dual_of bound bases) s) in
        let W : RunningSum → Type 0 = λ s. length (whole k mul (dual_of bound bases) s) ≤ most in
        record {
          claim_is = ap (λ (q : Polynomial). q.terms) is.claim ∙ kept.claim_is;
          shared_are = is.shared ∙ ap (λ (xs : List Terms). xs ++ p.terms ∷ []) kept.shared_are;
          reduced = subst A (sym is.shared) (all_more (IsReduced k) (terms_of old.shared.items) p.terms kept.reduced reduced);
          sum_is = subst S (sym is.sum) (record { reduced = kept.sum_is.reduced; values = λ q at. kept.sum_is.values q at });
          within = subst W (sym is.sum) kept.within;
        }
share_adds k mul bound bases most n (Err fault) old new p held last reduced is memory = record { asks = λ c kept. refuses c; kept = λ c kept. tt; few = tt; held = tt; last = tt }
  where
    refuses : (c : Certificate) → Fits {X = Unit {0}} {A = Unit {0}} refusal (λ u. tt) (Err fault) (LineAsks k mul bound bases most n c (Share p))
    refuses c = let P : CertFault → Type 0 = λ x. Fits {X = Unit {0}} {A = Unit {0}} refusal (λ u. tt) (Err x) (LineAsks k mul bound bases most n c (Share p)) in subst P (sym memory) tt
