-- The job of the net gives the product.
use Rattle.std.proofs.Common.{◌≡◌, ◌∙◌, ap, ap₂, sym, refl, subst, ℕ, zero, suc, ◌<◌, ◌≤◌, ◌+◌, ◌-◌, ◌*◌, ◌/◌, ◌%◌, ◌^◌, mul-suc, mul-le-mul_left, List, [], ◌∷◌, ◌++◌, length, map, get_or, append-nil, Result, Ok, Some, arith}
use Rattle.std.specs.Prelude.{slice_get}
use Rattle.std.specs.Option.{option_map}
use Rattle.std.specs.List.{range_with_len}
use Rattle.std.proofs.lemmas.Nat.{div-mul-add, mod-mul-add}
use Rattle.std.proofs.lemmas.List.FromFn.{length-range_with_len}
use Rattle.std.proofs.lemmas.Option.{slice_get-map, slice_get_within}
use Rattle.std.proofs.Math.Nat.{mul_comm, zero-add}
use Rattle.lists.specs.Lists.{Has}
use Rattle.lists.specs.laws.HasLaws.{Has_map, range_has}
use Rattle.lists.specs.laws.ListLaws.{length_map as map_long}
use Rattle.lists.specs.laws.ReadLaws.{get_below, from_map, get_back}
use Rattle.net_core.specs.NetList.{NetList}
use Rattle.net_core.specs.Sound.{IsSound}
use Rattle.net_words.specs.Bind.{BindingOf}
use Rattle.net_words.specs.Binding.{Binding}
use Rattle.net_words.specs.Feeds.{AreFeeds, IsSource, bound_feed}
use Rattle.net_words.specs.declared.feed.Feed.{Feed}
use Rattle.net_words.specs.declared.feed.FeedText.{FeedText}
use Rattle.net_words.specs.declared.bound.BoundWord.{BoundWord}
use Rattle.net_words.specs.declared.word.Role.TheVariants.{Input, Fed, Output}
use Rattle.net_words.specs.declared.word.WordText.{WordText}
use Rattle.net_words.proofs.BindDetermined.{binding_determined}
use Rattle.gf_field.specs.Ring.{IsRing}
use Rattle.gf_field.specs.Field.{HasNoZeroDivisors}
use Rattle.gf_basis.specs.Basis.{IsBasis}
use Rattle.gf_basis.proofs.BasisLaws.{IsBasis-from_independent}
use Rattle.gf_basis.proofs.CodeLaws.{AreElements-units, IsIndependent-powers, length-first_values}
use Rattle.circuit_model.specs.declared.circuit_feed.CircuitFeed.{CircuitFeed}
use Rattle.circuit_model.specs.declared.circuit_feed.FeedSource.TheVariants.{Bit as BitOf}
use Rattle.circuit_model.specs.Circuit.{Circuit, IsFed}
use Rattle.circuit_model.specs.Feeds.{source_at}
use Rattle.circuit_model.specs.Job.{IsJob}
use Rattle.circuit_model.specs.JobOfBinding.{inner_number, inner_source, job_feed, job_with}
use Rattle.circuit_model.specs.Out.{IsOut}
use Rattle.circuit_model.specs.Word.{word_nets}
use Rattle.circuit_model.proofs.TakenLemmas.{taken_job}
use Rattle.make_nets.specs.BindingOfMade.{binding_of}
use Rattle.make_nets.specs.Form.{same_bases}
use Rattle.make_nets.specs.MakerNames.{AreMakerNames}
use Rattle.make_nets.specs.Ports.{numbered, outer_names, role_nets, word_names}
use Rattle.make_nets.proofs.FormLemmas.{basis_is, output_nets}
use Rattle.make_nets.proofs.MadeLemmas.{made_sound}
use Rattle.make_laws.specs.DigitRegisters.{HasUnitPowers, digit_step_sum}
use Rattle.make_laws.specs.DigitNets.{AreDigitNets, DigitNets, HoldSumsSoFar, unit_basis}
use Rattle.make_laws.specs.Held.{bit_at_place, net_at, Multiplies}
use Rattle.make_laws.proofs.DigitRunLemmas.{digit_nets_hold, digit_nets_multiply}
use Rattle.mult_gen.specs.Form.{AreWide}
use Rattle.mult_digit.specs.ComputesFed.{ComputesFed}
use Rattle.mult_digit.specs.DigitForm.{AreDigitFeeds, AreDigitWords, digit_names, fed_names}
use Rattle.mult_digit.specs.DigitNet.{digit_net, digit_sums_of, fed_nets}
use Rattle.mult_digit.specs.DigitPlan.{digit_latches}
use Rattle.mult_digit.proofs.BindingLemmas.{binds, fits, name_at}
use Rattle.mult_digit.proofs.FeedLemmas.{bound_from, bound_get, found_source, get_bound, place_inside, place_low, same_line}
use Rattle.mult_digit.proofs.LatchLemmas.{latch_at, takes}
use Rattle.mult_digit.proofs.ValueLemmas.{sum_is}
use Rattle.mult_digit.proofs.WordLemmas.{bound_words, first_role, input_nets, job_words_are, one_output, output_at, range_at}

first_inner : (words : List BoundWord) → inner_number words 0 ≡ 0
first_inner [] = refl
first_inner (w ∷ words) = refl

-- a basis of the powers below k
units_basis : (k : ℕ) → IsBasis k (unit_basis k)
units_basis k = IsBasis-from_independent k (unit_basis k) (length-first_values k (λ i. 2 ^ i)) (AreElements-units k) (IsIndependent-powers k)

module _ (k : ℕ) (mul : ℕ → ℕ → ℕ) (ring : IsRing k mul) (field : HasNoZeroDivisors k mul) (x : ℕ) (units : HasUnitPowers k mul x) (width : ℕ)
    (words : List WordText) (feeds : List FeedText) (are : AreDigitWords words) (wide : AreWide k words) (fed_are : AreDigitFeeds k width feeds) (names : AreMakerNames (outer_names words (digit_names width feeds)))
  where
    abbrev net : NetList
    net = digit_net k mul x width words feeds

    abbrev number : ℕ → ℕ
    number i = length (word_names words) + i % width

    abbrev fed_feeds : List Feed
    fed_feeds = bound_from number 0 feeds

    abbrev binding : Binding
    binding = binding_of net words fed_feeds

    abbrev job : Circuit
    job = job_with k mul (record { net = net; binding = binding }) (same_bases (unit_basis k) words) fed_are.count

    -- ---- the line of a bit
    line_low : (t e : ℕ) → t < fed_are.count → e < width → t * width + e < k
    line_low t e early less =
        let room : width * suc t ≤ width * fed_are.count = mul-le-mul_left width early in
        omega (arith, room, fed_are.whole, mul-suc width t, mul_comm width t, less)

    -- the feed of line i
    record IsLine (i : ℕ) (f : CircuitFeed) : Type 0 where
      at : slice_get job.feeds i ≡ Some f
      net_is : f.net ≡ number i
      cycle_is : f.cycle ≡ i / width
      source_is : f.source ≡ BitOf 0 (k - width * suc (i / width) + i % width)

    line_at : (i : ℕ) → i < k → (f : CircuitFeed) × IsLine i f
    line_at i less =
        let feed = get_below feeds i (omega (arith, less, fed_are.long)) in
        let is = fed_are.each i feed.0 feed.1 in (
          job_feed (numbered 0 words) (bound_feed feed.0 (number i)),
          record {
            at = slice_get-map (job_feed (numbered 0 words)) fed_feeds i ∙ ap (option_map (job_feed (numbered 0 words))) (get_bound number 0 feeds i feed.0 feed.1 ∙ ap (λ n. Some (bound_feed feed.0 (number n))) (zero-add i));
            net_is = refl;
            cycle_is = is.cycle;
            source_is = ap (inner_source (numbered 0 words)) is.source ∙ ap (λ n. BitOf n (k - width * suc (i / width) + i % width)) (first_inner (numbered 0 words));
          },
        )

    -- each feed of the job is one of a line
    line_of : (j : ℕ) (g : CircuitFeed) → slice_get job.feeds j ≡ Some g → (g.net ≡ number j) × (g.cycle ≡ j / width)
    line_of j g got =
        let from = from_map (job_feed (numbered 0 words)) fed_feeds j g got in
        let text = bound_get number 0 feeds j from.0 from.1 in
        let is = fed_are.each j text.0 text.1 in (
          ap (λ (h : CircuitFeed). h.net) (sym from.2) ∙ (ap (λ (b : Feed). b.net) (sym text.2) ∙ ap number (zero-add j)),
          ap (λ (h : CircuitFeed). h.cycle) (sym from.2) ∙ (ap (λ (b : Feed). b.cycle) (sym text.2) ∙ is.cycle),
        )

    only_line : (i : ℕ) (f : CircuitFeed) → IsLine i f → (j : ℕ) (g : CircuitFeed) → slice_get job.feeds j ≡ Some g → g.net ≡ f.net → g.cycle ≡ f.cycle → j ≡ i
    only_line i f line j g got net_same cycle_same =
        let is = line_of j g got in
        same_line k width fed_are.count fed_are.some fed_are.whole j i
        (sym is.1 ∙ (cycle_same ∙ line.cycle_is))
        (cancel (length (word_names words)) (j % width) (i % width) (sym is.0 ∙ (net_same ∙ line.net_is)))
      where
        cancel : (n a b : ℕ) → n + a ≡ n + b → a ≡ b
        cancel n a b e = omega (arith, e)

    d_at : (e : ℕ) → e < width → net_at (fed_nets width words) e ≡ length (word_names words) + e
    d_at e less = range_at (length (word_names words)) width e less

    source_of_bit : (t e : ℕ) → t < fed_are.count → e < width → source_at job.feeds (net_at (fed_nets width words) e) t ≡ BitOf 0 (k - width * suc t + e)
    source_of_bit t e early less =
        let i : ℕ = t * width + e in
        let line = line_at (t * width + e) (line_low t e early less) in
        let digit : (t * width + e) / width ≡ t = div-mul-add t width e less in
        let place : (t * width + e) % width ≡ e = mod-mul-add t width e less in
        ap₂ (source_at job.feeds) (d_at e less ∙ (ap (λ r. length (word_names words) + r) (sym place) ∙ sym line.1.net_is)) (sym digit ∙ sym line.1.cycle_is)
        ∙ (found_source job.feeds (t * width + e) line.0 line.1.at (only_line (t * width + e) line.0 line.1)
        ∙ (line.1.source_is ∙ ap₂ (λ q r. BitOf 0 (k - width * suc q + r)) digit place))

    some_count : 1 ≤ fed_are.count
    some_count = by fed_are.count fed_are.whole
      where
        by : (n : ℕ) → k ≡ width * n → 1 ≤ n
        by zero whole = absurd (let s = ring.some in omega (arith, s, whole))
        by (suc n) whole = omega arith

    fed_bit : (e : ℕ) → e < width → IsFed job (net_at (fed_nets width words) e)
    fed_bit e less =
        let line = line_at (0 * width + e) (line_low 0 e some_count less) in
        let place : (0 * width + e) % width ≡ e = mod-mul-add 0 width e less in
        let named : line.0.net ≡ net_at (fed_nets width words) e = line.1.net_is ∙ (ap (λ r. length (word_names words) + r) place ∙ sym (d_at e less)) in
        subst (λ (n : ℕ). Has (map (λ (f : CircuitFeed). f.net) job.feeds) n) named (Has_map (λ (f : CircuitFeed). f.net) job.feeds line.0 (0 * width + e, line.1.at))

    -- ---- the nets of the job
    abbrev nets_are : DigitNets
    nets_are = record { d = fed_nets width words; b = role_nets Input 0 words; z = role_nets Output 0 words; sums = (digit_sums_of k mul x width words).nets }

    words_are : job.words ≡ record { role = Fed; nets = []; basis = unit_basis k } ∷ record { role = Input; nets = role_nets Input 0 words; basis = unit_basis k } ∷ []
    words_are = job_words_are k words are wide (unit_basis k) ∙ ap (λ (ns : List ℕ). record { role = Fed; nets = []; basis = unit_basis k } ∷ record { role = Input; nets = ns; basis = unit_basis k } ∷ []) (sym (input_nets k words are wide))

    named_low : (n : ℕ) → Has (word_nets job.words) n → n < k
    named_low n there =
        let own : word_nets job.words ≡ range_with_len 0 k ++ [] = ap word_nets (job_words_are k words are wide (unit_basis k)) in
        let low = range_has 0 k n (subst (λ (xs : List ℕ). Has xs n) (own ∙ append-nil (range_with_len 0 k)) there) in
        omega (arith, low.1)

    are_nets : AreDigitNets job x width nets_are
    are_nets = record {
      words = words_are;
      output_nets = output_nets 0 words;
      output_basis = basis_is 0 0 words (unit_basis k) (one_output k words are wide);
      cycles = fed_are.whole;
      are_fed = fed_bit;
      feeds = source_of_bit;
      unnamed = λ l less there. let low = named_low (net_at (role_nets Output 0 words) l) there in let place = output_at k words are wide l less in omega (arith, low, place);
      z_takes = λ l less. record { latch = takes k (digit_sums_of k mul x width words).nets (role_nets Output 0 words) l; has = latch_at k (digit_sums_of k mul x width words).nets (role_nets Output 0 words) l less; next_is = refl; out_is = refl; start = refl };
      sums = λ bits consistent l less.
          sum_is bits (length (word_names words) + width) k mul x (fed_nets width words) (role_nets Input 0 words) (role_nets Output 0 words) consistent.gates l less
          ∙ ap (λ w. digit_step_sum k mul x w (bit_at_place bits (role_nets Output 0 words)) (bit_at_place bits (fed_nets width words)) (bit_at_place bits (role_nets Input 0 words)) l) (length-range_with_len (length (word_names words)) width);
    }

    -- ---- the feeds can be bound
    source_inside : (i : ℕ) (feed : FeedText) → slice_get feeds i ≡ Some feed → IsSource k (map (λ (w : WordText). w.role) words) feed.source
    source_inside i feed got =
        let within : i < length feeds = slice_get_within feeds i feed got in
        subst (IsSource k (map (λ (w : WordText). w.role) words)) (sym (fed_are.each i feed got).source)
        (place_inside k width fed_are.count fed_are.some fed_are.whole i (omega (arith, within, fed_are.long)), first_role k words are wide)

    apart : (i j : ℕ) (f g : FeedText) → slice_get feeds i ≡ Some f → slice_get feeds j ≡ Some g → f.net ≡ g.net → f.cycle ≡ g.cycle → i ≡ j
    apart i j f g at_i at_j net_same cycle_same =
        let first = fed_are.each i f at_i in
        let second = fed_are.each j g at_j in
        let low_i = place_low k width fed_are.count fed_are.some fed_are.whole i in
        let low_j = place_low k width fed_are.count fed_are.some fed_are.whole j in
        let name_i = name_at k mul x width words feeds are wide ring.some ring.small fed_are names (i % width) low_i in
        let name_j = name_at k mul x width words feeds are wide ring.some ring.small fed_are names (j % width) low_j in
        let same : get_or (fed_names feeds) (j % width) [] ≡ get_or (fed_names feeds) (i % width) [] = sym second.net ∙ (sym net_same ∙ first.net) in
        same_line k width fed_are.count fed_are.some fed_are.whole i j
        (sym first.cycle ∙ (cycle_same ∙ second.cycle))
        (cancel (length (word_names words)) (i % width) (j % width)
        (names.apart (length (word_names words) + i % width) (length (word_names words) + j % width) (get_or (fed_names feeds) (i % width) [])
        (get_back (word_names words) (digit_names width feeds) (i % width) (get_or (fed_names feeds) (i % width) []) name_i)
        (get_back (word_names words) (digit_names width feeds) (j % width) (get_or (fed_names feeds) (i % width) []) (name_j ∙ ap Some same))))
      where
        cancel : (n a b : ℕ) → n + a ≡ n + b → a ≡ b
        cancel n a b e = omega (arith, e)

    are_feeds : AreFeeds k (map (λ (w : WordText). w.role) words) feeds
    are_feeds = record { sources = λ feed there. source_inside there.0 feed there.1; apart = apart }

    each_same : (ws : List WordText) (b : List ℕ) → Has (same_bases (unit_basis k) ws) b → IsBasis k b
    each_same [] b (i, got) = absurd (cc)
    each_same (w ∷ ws) b (zero, got) = let same : unit_basis k ≡ b = cc in subst (IsBasis k) same (units_basis k)
    each_same (w ∷ ws) b (suc i, got) = each_same ws b (i, got)

    is_bound : BindingOf net words feeds (Ok binding)
    is_bound = binds k mul x width words feeds are wide ring.some ring.small fed_are names

    pub sound : IsSound net
    sound = made_sound words (digit_names width feeds) (digit_latches k (digit_sums_of k mul x width words).nets (role_nets Output 0 words)) [] (digit_sums_of k mul x width words).plan names (fits k mul x width words feeds are wide ring.some ring.small fed_are names)

    is_job : IsJob job
    is_job =
        taken_job k mul (record { net = net; binding = binding }) words feeds (same_bases (unit_basis k) words) fed_are.count ring field sound
        (bound_words k words are wide ring.some ring.small) are_feeds is_bound (map_long (λ (w : WordText). unit_basis k) words) (each_same words)

    multiplies : Multiplies job
    multiplies = digit_nets_multiply job x width nets_are is_job units are_nets

    one_bound : (other : Binding) → BindingOf net words feeds (Ok other) → other ≡ binding
    one_bound other is = same (binding_determined net words feeds (Ok other) (Ok binding) is is_bound)
      where
        same : {F : Type 0} {p q : Binding} → ◌≡◌ {A = Result Binding F} (Ok p) (Ok q) → p ≡ q
        same e = cc

    -- after t cycles the latches hold what was fed so far, times the other factor
    pub sums_held : (other : Binding) → BindingOf net words feeds (Ok other) → HoldSumsSoFar (job_with k mul (record { net = net; binding = other }) (same_bases (unit_basis k) words) fed_are.count) x width (role_nets Output 0 words)
    sums_held other is =
        let P : Binding → Type 0 = λ c. HoldSumsSoFar (job_with k mul (record { net = net; binding = c }) (same_bases (unit_basis k) words) fed_are.count) x width (role_nets Output 0 words) in
        subst P (sym (one_bound other is)) (digit_nets_hold job x width nets_are is_job units are_nets)

    pub computes : ComputesFed k mul net words feeds (unit_basis k) fed_are.count mul
    computes = record {
      binding = binding;
      binds = is_bound;
      out = λ other is a b low high.
          let P : Binding → Type 0 = λ c. IsOut (job_with k mul (record { net = net; binding = c }) (same_bases (unit_basis k) words) fed_are.count) (a ∷ b ∷ []) (mul a b) in
          subst P (sym (one_bound other is)) (multiplies a b low high);
    }
