-- The latches of the product.
use Rattle.std.proofs.Common.{◌≡◌, ◌∙◌, ap, sym, ℕ, ◌<◌, List, [], ◌∷◌, length, map}
use Rattle.lists.specs.Lists.{Has}
use Rattle.net_core.specs.LatchValue.{LatchValue}
use Rattle.net_core.specs.declared.latch.Start.TheVariants.{Zero}
use Rattle.make_nets.specs.Plan.{gathered}
use Rattle.make_laws.specs.Held.{net_at}
use Rattle.mult_normal.proofs.LatchLemmas.{all_nets, gathered_at, gathered_is, outs_of}
use Rattle.mult_digit.specs.DigitPlan.{digit_latches}

module _ (k : ℕ) (sums z : List ℕ) where
  abbrev pub takes : ℕ → LatchValue
  takes l = record { next = net_at sums l; out = net_at z l; start = Zero }

  pub latch_at : (l : ℕ) → l < k → Has (digit_latches k sums z) (takes l)
  latch_at l less = gathered_at k takes l less

  pub latch_is : (latch : LatchValue) → Has (digit_latches k sums z) latch → (l : ℕ) × (l < k) × (takes l ≡ latch)
  latch_is latch has = gathered_is k takes latch has

  pub latch_outs : length z ≡ k → map (λ (l : LatchValue). l.out) (digit_latches k sums z) ≡ z
  latch_outs z_long = outs_of k takes ∙ (ap (λ n. gathered n (λ l. net_at z l ∷ [])) (sym z_long) ∙ all_nets z)
