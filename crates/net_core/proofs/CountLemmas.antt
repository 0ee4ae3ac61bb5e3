-- Counts of how often nets are driven, and what they say of a net list.
use Rattle.std.proofs.Common.{◌≡◌, ◌≢◌, ◌∙◌, ap, sym, subst, ℕ, ◌<◌, ◌≤◌, ◌+◌, List, length, replicate, take, get_or, min, map, Err, arith, length-set}
use Rattle.std.proofs.Math.ListN.{set}
use Rattle.std.proofs.lemmas.List.{get_or-replicate, length-replicate, take_all}
use Rattle.std.specs.Prelude.{slice_index}
use Rattle.lists.specs.Lists.{times}
use Rattle.lists.specs.laws.HasLaws.{times_append}
use Rattle.lists.specs.laws.TakeLaws.{take_none}
use Rattle.net_core.specs.GateValue.{GateValue}
use Rattle.net_core.specs.NetList.{NetList, nets, text_of}
use Rattle.net_core.specs.Sound.{sources, drivers, HasOneDriverEach}
use Rattle.net_core.specs.Driving.{roots_of}
use Rattle.net_core.specs.Finish.{Finishes}
use Rattle.net_core.specs.declared.fault.NetFault.TheVariants.{DrivenTwice, Undriven}
use Rattle.net_core.specs.private.Counts.{AreCounts}
use Rattle.net_core.proofs.DriverLemmas.{counts_read}

-- none was counted
pub no_counts : (driven : List ℕ) (bound : ℕ) (counts : List ℕ) → counts ≡ replicate bound 0 → AreCounts (take 0 driven) bound counts
no_counts driven bound counts is =
    record {
      long = ap length is ∙ length-replicate {A = ℕ} bound 0;
      each = λ n less. ap (λ (list : List ℕ). get_or list n 0) is ∙ (get_or-replicate bound n 0 0 less ∙ ap (λ (list : List ℕ). min 2 (times n list)) (sym (take_none driven)));
    }

-- one more was counted
pub one_count_more : (counts driven : List ℕ) (i net bound was new : ℕ) → was ≡ get_or counts net was → new ≡ min 2 (was + 1) → i < length driven → net ≡ get_or driven i 0 → net < bound → AreCounts (take i driven) bound counts → AreCounts (take (i + 1) driven) bound (set counts net new)
one_count_more counts driven i net bound was new read is less at below are =
    record {
      long = length-set counts net new ∙ are.long;
      each = λ n low. ap (λ (count : ℕ). get_or (set counts net count) n 0) is ∙ counts_read counts driven i net bound was read less at are.long below are.each n low;
    }

-- all were counted
pub all_counts : (driven : List ℕ) (bound : ℕ) (counts : List ℕ) (i : ℕ) → length driven ≤ i → AreCounts (take i driven) bound counts → AreCounts driven bound counts
all_counts driven bound counts i past are = let P : List ℕ → Type 0 = λ list. AreCounts list bound counts in subst P (take_all i driven past) are

-- counts of the roots
pub counts_of : (net : NetList) (driven counts read : List ℕ) (bound : ℕ) → driven ≡ roots_of net → bound ≡ nets net → read ≡ counts → AreCounts driven bound counts → AreCounts (roots_of net) (nets net) read
counts_of net driven counts read bound all count same are =
    let P : List ℕ → Type 0 = λ list. AreCounts list bound counts in
    let Q : ℕ → Type 0 = λ n. AreCounts (roots_of net) n counts in
    let R : List ℕ → Type 0 = AreCounts (roots_of net) (nets net) in
    subst R (sym same) (subst Q count (subst P all are))

-- the roots are the nets that are driven, in another order
times_roots : (net : NetList) (n : ℕ) → times n (roots_of net) ≡ drivers net n
times_roots net n = omega (arith, times_append n (map (λ (g : GateValue). g.out) net.gates) (sources net), times_append n (sources net) (map (λ (g : GateValue). g.out) net.gates))

module _ (net : NetList) (counts : List ℕ) (are : AreCounts (roots_of net) (nets net) counts) where
  counted : (n : ℕ) → n < nets net → slice_index counts n ≡ min 2 (drivers net n)
  counted n less = are.each n less ∙ ap (min 2) (times_roots net n)

  -- the least net that is driven twice
  pub twice_driven : (n : ℕ) (label : List ℕ) → n < length counts → slice_index counts n ≡ 2 → ((k : ℕ) → k < n → slice_index counts k ≢ 2) → label ≡ text_of net n → Finishes net (Err (DrivenTwice n label))
  twice_driven n label less two before named =
      let within : n < nets net = omega (arith, are.long) in
      (within, omega (arith, counted n within, two), (λ m low. omega (arith, counted m (omega arith), before m low)), named)

  -- the least net that is not driven, where none is driven twice
  pub never_driven : (n : ℕ) (label : List ℕ) → ((k : ℕ) → k < length counts → slice_index counts k ≢ 2) → n < length counts → slice_index counts n ≡ 0 → ((k : ℕ) → k < n → slice_index counts k ≢ 0) → label ≡ text_of net n → Finishes net (Err (Undriven n label))
  never_driven n label no_two less none before named =
      let within : n < nets net = omega (arith, are.long) in (
        within,
        (λ m low. omega (arith, counted m low, no_two m (omega (arith, are.long)))),
        omega (arith, counted n within, none),
        (λ m low. omega (arith, counted m (omega arith), no_two m (omega (arith, are.long)), before m low)),
        named,
      )

  -- no net is driven twice, and none is not driven
  pub once_driven : ((k : ℕ) → k < length counts → slice_index counts k ≢ 2) → ((k : ℕ) → k < length counts → slice_index counts k ≢ 0) → HasOneDriverEach net
  once_driven no_two no_zero n low = omega (arith, counted n low, no_two n (omega (arith, are.long)), no_zero n (omega (arith, are.long)))
