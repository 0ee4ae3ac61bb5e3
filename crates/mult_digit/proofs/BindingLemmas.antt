-- The words and the feeds bind to the net.
use Rattle.std.proofs.Common.{◌≡◌, ◌∙◌, ap, sym, refl, subst, ℕ, zero, suc, ◌<◌, ◌≤◌, ◌+◌, ◌-◌, ◌*◌, ◌%◌, mul-suc, Bool, true, false, List, [], length, get_or, Ok, Some, arith}
use Rattle.std.specs.Prelude.{slice_get, ◌==◌}
use Rattle.std.specs.List.{range_with_len}
use Rattle.std.proofs.Math.Nat.{mod-eq_of_lt}
use Rattle.std.proofs.lemmas.List.{get_or-take, length-take-le}
use Rattle.std.proofs.lemmas.Option.{slice_get-get_or}
use Rattle.std.proofs.lemmas.Bool.{eq-eqb}
use Rattle.lists.specs.Lists.{Has}
use Rattle.lists.specs.laws.HasLaws.{Has_right, any_has, range_has}
use Rattle.lists.specs.laws.ListLaws.{length_map as map_long}
use Rattle.lists.specs.laws.ReadLaws.{get_below}
use Rattle.net_core.specs.LatchValue.{LatchValue}
use Rattle.net_core.specs.NetList.{NetList, number_of}
use Rattle.net_words.specs.Bind.{BindingOf}
use Rattle.net_words.specs.Feeds.{FeedsOf, bound_feed, is_fed, is_free}
use Rattle.net_words.specs.Roles.{in_word}
use Rattle.net_words.specs.declared.feed.Feed.{Feed}
use Rattle.net_words.specs.declared.feed.FeedText.{FeedText}
use Rattle.net_words.specs.declared.word.Role.TheVariants.{Input, Output}
use Rattle.net_words.specs.declared.word.WordText.{WordText}
use Rattle.net_words.proofs.MemberLemmas.{has_stands, word_bits}
use Rattle.make_nets.specs.BindingOfMade.{binding_of}
use Rattle.make_nets.specs.MakerNames.{AreMakerNames}
use Rattle.make_nets.specs.Made.{IsPlanFor}
use Rattle.make_nets.specs.Ports.{inputs_of, numbered, outer_names, role_nets, word_names}
use Rattle.make_nets.proofs.MadeLemmas.{fed_found, made_binds}
use Rattle.mult_gen.specs.Form.{AreWide}
use Rattle.mult_digit.specs.DigitForm.{AreDigitFeeds, AreDigitWords, IsDigitFeed, digit_names, fed_names}
use Rattle.mult_digit.specs.DigitNet.{digit_net, digit_sums_of}
use Rattle.mult_digit.specs.DigitPlan.{digit_latches}
use Rattle.mult_digit.proofs.FeedLemmas.{bound_from, feeds_bind, get_bound, place_low}
use Rattle.mult_digit.proofs.PlanForLemmas.{are_held, plan_for}
use Rattle.mult_digit.proofs.WordLemmas.{bits_are, has_range, names_long}

-- a factor of a number that is not 0 is no larger
pub factor_low : (width count k : ℕ) → 1 ≤ k → k ≡ width * count → width ≤ k
factor_low width zero k some whole = absurd (omega (arith, some, whole))
factor_low width (suc count) k some whole = omega (arith, whole, mul-suc width count)

module _ (k : ℕ) (mul : ℕ → ℕ → ℕ) (x width : ℕ) (words : List WordText) (feeds : List FeedText) (are : AreDigitWords words) (wide : AreWide k words) (some : 1 ≤ k) (small : k ≤ 64)
    (fed_are : AreDigitFeeds k width feeds) (names : AreMakerNames (outer_names words (digit_names width feeds)))
  where
    abbrev net : NetList
    net = digit_net k mul x width words feeds

    abbrev fed : List (List ℕ)
    fed = digit_names width feeds

    abbrev latches : List LatchValue
    latches = digit_latches k (digit_sums_of k mul x width words).nets (role_nets Output 0 words)

    pub narrow : width ≤ k
    narrow = factor_low width fed_are.count k some fed_are.whole

    pub fed_long : length fed ≡ width
    fed_long = length-take-le width (fed_names feeds) (omega (arith, map_long (λ (f : FeedText). f.net) feeds, fed_are.long, narrow))

    pub fits : IsPlanFor words fed latches [] (digit_sums_of k mul x width words).plan
    fits = plan_for k mul x width words are wide small narrow fed fed_long

    -- the net of a line
    abbrev number : ℕ → ℕ
    number i = length (word_names words) + i % width

    inside : (i : ℕ) (feed : FeedText) → slice_get feeds i ≡ Some feed → IsDigitFeed k width feeds i feed
    inside i feed got = fed_are.each i feed got

    pub name_at : (e : ℕ) → e < width → slice_get fed e ≡ Some (get_or (fed_names feeds) e [])
    name_at e less = slice_get-get_or fed e [] (omega (arith, less, fed_long)) ∙ ap Some (get_or-take width (fed_names feeds) e [] less)

    line_named : (i : ℕ) (feed : FeedText) → slice_get feeds i ≡ Some feed → number_of net feed.net ≡ Some (number i)
    line_named i feed got =
        ap (number_of net) (inside i feed got).net
        ∙ fed_found words fed latches [] (digit_sums_of k mul x width words).plan names fits (i % width) (get_or (fed_names feeds) (i % width) []) (name_at (i % width) (place_low k width fed_are.count fed_are.some fed_are.whole i))

    line_free : (i : ℕ) → is_free net (numbered 0 words) (number i) ≡ true
    line_free i =
        let low = place_low k width fed_are.count fed_are.some fed_are.whole i in
        let input : Has (inputs_of words fed) (number i) = Has_right (role_nets Input 0 words) (range_with_len (length (word_names words)) (length fed)) (number i) (has_range (length (word_names words)) (length fed) (i % width) (omega (arith, low, fed_long))) in
        rw (has_stands (inputs_of words fed) (number i) input, outside (in_word Input (numbered 0 words) (number i)) refl) refl
      where
        outside : (b : Bool) → in_word Input (numbered 0 words) (number i) ≡ b → b ≡ false
        outside true is =
            let there : Has (range_with_len 0 k) (number i) = subst (λ (xs : List ℕ). Has xs (number i)) (bits_are k words are wide) (word_bits Input (numbered 0 words) (number i) refl is) in
            absurd (omega (arith, (range_has 0 k (number i) there).1, names_long k words are wide))
        outside false is = refl

    abbrev pub bound : List Feed
    bound = bound_from number 0 feeds

    feeding : FeedsOf net (numbered 0 words) [] feeds (Ok bound)
    feeding = feeds_bind net (numbered 0 words) number 0 [] feeds (λ j feed got.
        let plain : 0 + j ≡ j = omega arith in
        (line_named j feed got ∙ ap (λ n. Some (number n)) (sym plain), ap (λ n. is_free net (numbered 0 words) (number n)) plain ∙ line_free j))

    each_fed : (n : ℕ) → Has (range_with_len (length (word_names words)) (length fed)) n → is_fed bound n ≡ true
    each_fed n there =
        let low = range_has (length (word_names words)) (length fed) n there in
        let e : ℕ = n - length (word_names words) in
        let less : n - length (word_names words) < width = omega (arith, low.0, low.1, fed_long) in
        let at = get_below feeds (n - length (word_names words)) (omega (arith, less, narrow, fed_are.long)) in
        let plain : 0 + (n - length (word_names words)) ≡ n - length (word_names words) = omega arith in
        any_has (λ (f : Feed). f.net == n) bound (bound_feed at.0 (number (0 + (n - length (word_names words))))) (n - length (word_names words), get_bound number 0 feeds (n - length (word_names words)) at.0 at.1)
        (eq-eqb (number (0 + (n - length (word_names words)))) n (ap number plain ∙ (ap (λ r. length (word_names words) + r) (mod-eq_of_lt less) ∙ omega (arith, low.0))))

    pub binds : BindingOf net words feeds (Ok (binding_of net words bound))
    binds = made_binds words fed latches [] (digit_sums_of k mul x width words).plan names fits feeds bound (are_held k mul x width words are wide small narrow fed fed_long) feeding each_fed
