-- The plan is short, and so the text of the net fits a file.
use Rattle.std.proofs.Common.{◌≡◌, ap, ℕ, ◌≤◌, ◌+◌, ◌*◌, List, [], length, length-append, mul-le-mul_left, mul-suc, None, arith}
use Rattle.std.specs.Prelude.{◌==◌}
use Rattle.std.specs.Int.{bit_at}
use Rattle.std.proofs.lemmas.List.FromFn.{length-range_with_len}
use Rattle.lists.specs.Limits.{most_bytes}
use Rattle.lists.specs.laws.ListLaws.{length_map as map_long}
use Rattle.lists.specs.laws.NumberLaws.{square_few}
use Rattle.gf_field.specs.Power.{power}
use Rattle.net_core.specs.LatchValue.{LatchValue}
use Rattle.net_words.specs.declared.feed.FeedText.{FeedText}
use Rattle.net_words.specs.declared.word.Role.TheVariants.{Input, Output}
use Rattle.net_words.specs.declared.word.WordText.{WordText}
use Rattle.net_write.specs.Written.{written}
use Rattle.make_laws.specs.DigitRegisters.{HasUnitPowers}
use Rattle.make_laws.specs.Held.{net_at}
use Rattle.make_nets.specs.Plan.{begun, each, gathered, where_so}
use Rattle.make_nets.specs.MakerNames.{AreMakerNames}
use Rattle.make_nets.specs.Ports.{outer_names, role_nets, word_names}
use Rattle.make_nets.specs.ShortPlan.{IsShort, ReadTwo}
use Rattle.make_nets.proofs.EachLemmas.{each_keeps}
use Rattle.make_nets.proofs.ShapeLemmas.{chain_grows}
use Rattle.make_nets.proofs.ShortLemmas.{short_text}
use Rattle.make_nets.proofs.TwoLemmas.{begun_two, chain_two, each_two}
use Rattle.mult_gen.specs.Chains.{added_in_row}
use Rattle.mult_gen.specs.Form.{AreWide}
use Rattle.mult_gen.proofs.ChainLemmas.{where_few}
use Rattle.mult_gen.proofs.ShortLemmas.{added_in_rows, row_two}
use Rattle.mult_digit.specs.DigitForm.{AreDigitFeeds, AreDigitWords, digit_names}
use Rattle.mult_digit.specs.DigitNet.{digit_net, digit_sums_of, fed_nets}
use Rattle.mult_digit.specs.DigitPlan.{Sums, digit_latches, products_from, summands, sums_from, with_row, with_sum}
use Rattle.mult_digit.proofs.BindingLemmas.{fed_long, fits, narrow}
use Rattle.mult_digit.proofs.LatchLemmas.{latch_outs}
use Rattle.mult_digit.proofs.ShapeLemmas.{gathered_few}
use Rattle.mult_digit.proofs.ValueLemmas.{rows_next}
use Rattle.mult_digit.proofs.WordLemmas.{names_long, output_long}

-- ---- the sums

sums_two : (n k : ℕ) (mul : ℕ → ℕ → ℕ) (x : ℕ) (d b z : List ℕ) → ReadTwo (sums_from n k mul x d b z).plan
sums_two n k mul x d b z =
    each_keeps (λ l (sums : Sums). ReadTwo sums.plan) (λ l. with_sum (summands n k mul x (length d) z l)) (record { plan = products_from n k d b; nets = [] }) k
    (each_two (length d) (with_row k d b) (begun n) (begun_two n) (λ e plan. row_two k (net_at d e) b plan))
    (λ l sums less two. chain_two None (summands n k mul x (length d) z l) sums.plan two)

-- each power below the degree adds to one bit alone
summands_few : (n k : ℕ) (mul : ℕ → ℕ → ℕ) (x width : ℕ) (z : List ℕ) (l : ℕ) → HasUnitPowers k mul x → k ≤ 64 → width ≤ 64 → length (summands n k mul x width z l) ≤ 2144
summands_few n k mul x width z l units small narrow =
    omega (
      arith,
      length-append registers (gathered width (λ e. added_in_row (power mul x) (n + k * e) e l k)),
      gathered_few k 1 (λ i. where_so (bit_at (power mul x (i + width)) l == 1) (net_at z i)) (λ i less. where_few (bit_at (power mul x (i + width)) l == 1) (net_at z i)),
      added_in_rows k (power mul x) units l (λ e. n + k * e) width narrow,
      small,
    )
  where
    registers : List ℕ
    registers = gathered k (λ i. where_so (bit_at (power mul x (i + width)) l == 1) (net_at z i))

sums_few : (n k : ℕ) (mul : ℕ → ℕ → ℕ) (x : ℕ) (d b z : List ℕ) → HasUnitPowers k mul x → k ≤ 64 → length d ≤ 64 → (m : ℕ) → (each m (λ l. with_sum (summands n k mul x (length d) z l)) (record { plan = products_from n k d b; nets = [] })).plan.next ≤ n + k * length d + 2145 * m
sums_few n k mul x d b z units small narrow m =
    each_keeps (λ l (sums : Sums). sums.plan.next ≤ n + k * length d + 2145 * l) (λ l. with_sum (summands n k mul x (length d) z l)) (record { plan = products_from n k d b; nets = [] }) m
    (omega (arith, rows_next k d b n (length d)))
    (λ l sums less few. omega (arith, few, (chain_grows None (summands n k mul x (length d) z l) sums.plan).1, summands_few n k mul x (length d) z l units small narrow, mul-suc 2145 l))

-- ---- the net of a form

module _ (k : ℕ) (mul : ℕ → ℕ → ℕ) (x width : ℕ) (words : List WordText) (feeds : List FeedText) (are : AreDigitWords words) (wide : AreWide k words) (some : 1 ≤ k) (small : k ≤ 64) (fed : AreDigitFeeds k width feeds) (units : HasUnitPowers k mul x) (names : AreMakerNames (outer_names words (digit_names width feeds))) where
  abbrev sums : Sums
  sums = digit_sums_of k mul x width words

  abbrev latches : List LatchValue
  latches = digit_latches k (digit_sums_of k mul x width words).nets (role_nets Output 0 words)

  low : width ≤ k
  low = narrow k mul x width words feeds are wide some small fed names

  digit_long : length (fed_nets width words) ≡ width
  digit_long = length-range_with_len (length (word_names words)) width

  next_few : sums.plan.next ≤ length (word_names words) + width + 141376
  next_few =
      let few = sums_few (length (word_names words) + width) k mul x (fed_nets width words) (role_nets Input 0 words) (role_nets Output 0 words) units small (omega (arith, digit_long, low, small)) k in
      let products : k * length (fed_nets width words) ≤ k * k = mul-le-mul_left k (omega (arith, digit_long, low)) in
      omega (arith, few, products, square_few k small, small)

  short : IsShort sums.plan
  short =
      let plan_for = fits k mul x width words feeds are wide some small fed names in
      record {
        two = sums_two (length (word_names words) + width) k mul x (fed_nets width words) (role_nets Input 0 words) (role_nets Output 0 words);
        few = omega (arith, plan_for.shape.count, length-append (word_names words) (digit_names width feeds), next_few, low, small);
      }

  -- the text of the net
  pub digit_text : length (written (digit_net k mul x width words feeds)) ≤ most_bytes
  digit_text =
      short_text words (digit_names width feeds) latches [] sums.plan names (fits k mul x width words feeds are wide some small fed names) short
      (omega (arith, names_long k words are wide, fed_long k mul x width words feeds are wide some small fed names, low, small))
      (omega (
        arith,
        map_long (λ (l : LatchValue). l.out) latches,
        ap (λ (ns : List ℕ). length ns) (latch_outs k sums.nets (role_nets Output 0 words) (output_long k words are wide)),
        output_long k words are wide,
        small,
      ))
