-- The job of words and feeds that are bound to a net list is one.
use Rattle.std.proofs.Common.{◌≡◌, ◌⊎◌, ◌∙◌, ap, sym, refl, subst, inl, inr, ℕ, zero, suc, ◌<◌, ◌≤◌, ◌&&◌, true, false, List, [], ◌∷◌, ◌++◌, length, map, take, Some, cond, arith}
use Rattle.std.specs.Prelude.{filter, not, slice_get}
use Rattle.std.proofs.lemmas.Bool.{true≢false}
use Rattle.lists.specs.Lists.{Has, times}
use Rattle.lists.specs.laws.HasLaws.{Has_cases, All_has, none_at, any_has, only_one}
use Rattle.lists.specs.laws.ReadLaws.{from_map, get_below}
use Rattle.net_core.specs.NetList.{NetList, nets}
use Rattle.net_core.specs.Sound.{IsSound}
use Rattle.net_words.specs.Binding.{BoundNet, HasWidth}
use Rattle.net_words.specs.BoundTo.{IsBoundTo, StandsOn, output_bits}
use Rattle.net_words.specs.Feeds.{IsSource as IsBoundSource, fed_nets as bound_fed_nets}
use Rattle.net_words.specs.Roles.{same_role, in_word, stands_in}
use Rattle.net_words.specs.Variables.{bits, bits_with}
use Rattle.net_words.specs.declared.bound.BoundWord.{BoundWord}
use Rattle.net_words.specs.declared.feed.Feed.{Feed}
use Rattle.net_words.specs.declared.feed.Source.{Source}
use Rattle.net_words.specs.declared.feed.Source.TheVariants.{Zero, One, Bit}
use Rattle.net_words.specs.declared.word.Role.{Role}
use Rattle.net_words.specs.declared.word.Role.TheVariants.{Input, State, Fed, Output}
use Rattle.net_words.proofs.MemberLemmas.{has_stands, output_width, output_bits_word}
use Rattle.gf_field.specs.Ring.{IsRing}
use Rattle.gf_field.specs.Field.{HasNoZeroDivisors}
use Rattle.gf_basis.specs.Basis.{IsBasis}
use Rattle.circuit_model.specs.declared.circuit_feed.CircuitFeed.{CircuitFeed}
use Rattle.circuit_model.specs.Feeds.{fed_nets}
use Rattle.circuit_model.specs.Word.{Word, IsFedWord, word_nets}
use Rattle.circuit_model.specs.OfBinding.{output_basis, HaveBases}
use Rattle.circuit_model.specs.JobOfBinding.{job_word_with, job_words_of, inner_number, inner_source, job_feed, job_with}
use Rattle.circuit_model.specs.Job.{IsJob, IsJobWord, IsFeed, IsSource, net_count}
use Rattle.circuit_model.proofs.BoundLemmas.{IsOutputWord, find_output}
use Rattle.circuit_model.proofs.SourceLemmas.{find_word, role_input}

nets_with : (r : Role) (ns basis : List ℕ) (ws : List Word) (rest : List ℕ) → word_nets ws ≡ rest → word_nets (job_word_with r ns basis ++ ws) ≡ bits_with r ns ++ rest
nets_with Input ns basis ws rest same = ap (λ ms. ns ++ ms) same
nets_with State ns basis ws rest same = ap (λ ms. ns ++ ms) same
nets_with Fed ns basis ws rest same = ap (λ ms. ns ++ ms) same
nets_with Output ns basis ws rest same = same

-- the words have the bits of the binding's input, state and fed words
pub job_nets_of : (words : List BoundWord) (bases : List (List ℕ)) → length bases ≡ length words → word_nets (job_words_of words bases) ≡ bits words
job_nets_of [] bases long = refl
job_nets_of (w ∷ ws) [] long = absurd (omega arith)
job_nets_of (w ∷ ws) (b ∷ bs) long = nets_with w.role w.nets b (job_words_of ws bs) (bits ws) (job_nets_of ws bs (omega arith))

count_with : (r : Role) (ns basis : List ℕ) (ws : List Word) (word : BoundWord) (rest : List BoundWord) → length ws ≡ length rest → length (job_word_with r ns basis ++ ws) ≡ length (cond (not (same_role r Output)) (word ∷ rest) rest)
count_with Input ns basis ws word rest same = ap suc same
count_with State ns basis ws word rest same = ap suc same
count_with Fed ns basis ws word rest same = ap suc same
count_with Output ns basis ws word rest same = same

-- there are as many words as input, state and fed words of the binding
pub job_count_of : (words : List BoundWord) (bases : List (List ℕ)) → length bases ≡ length words → length (job_words_of words bases) ≡ length (filter (λ word. not (same_role word.role Output)) words)
job_count_of [] bases long = refl
job_count_of (w ∷ ws) [] long = absurd (omega arith)
job_count_of (w ∷ ws) (b ∷ bs) long = count_with w.role w.nets b (job_words_of ws bs) w (filter (λ word. not (same_role word.role Output)) ws) (job_count_of ws bs (omega arith))

-- a word is that of a bound word, with its basis
find_bound : (words : List BoundWord) (bases : List (List ℕ)) (w : Word) → Has (job_words_of words bases) w → (word : BoundWord) × (basis : List ℕ) × Has words word × Has bases basis × Has (job_word_with word.role word.nets basis) w
find_bound [] bases w has = absurd (none_at w has)
find_bound (u ∷ us) [] w has = absurd (none_at w has)
find_bound (u ∷ us) (b ∷ bs) w has =
    elim (Has_cases (job_word_with u.role u.nets b) (job_words_of us bs) w has) [
      | inl own ↦ (u, b, (0, refl), (0, refl), own)
      | inr later ↦ let rest = find_bound us bs w later in (rest.0, rest.1, (suc rest.2.0, rest.2.1), (suc rest.3.0, rest.3.1), rest.4)
    ]

-- it keeps the bound word's role and nets, and is no output word
IsKept : Role → List ℕ → List ℕ → Word → Type 0
IsKept r ns basis w = (w.role ≡ r) × (w.nets ≡ ns) × (w.basis ≡ basis) × (r ≡ Output → ⊥)

kept : (r : Role) (ns basis : List ℕ) (w : Word) → Has (job_word_with r ns basis) w → IsKept r ns basis w
unfolding IsKept
kept Input ns basis w has = let same = sym (only_one _ w has) in (ap (λ (v : Word). v.role) same, ap (λ (v : Word). v.nets) same, ap (λ (v : Word). v.basis) same, λ e. absurd (cc))
kept State ns basis w has = let same = sym (only_one _ w has) in (ap (λ (v : Word). v.role) same, ap (λ (v : Word). v.nets) same, ap (λ (v : Word). v.basis) same, λ e. absurd (cc))
kept Fed ns basis w has = let same = sym (only_one _ w has) in (ap (λ (v : Word). v.role) same, ap (λ (v : Word). v.nets) same, ap (λ (v : Word). v.basis) same, λ e. absurd (cc))
kept Output ns basis w has = absurd (none_at w has)

-- a word with k nets, or fed and without, has as many as its role asks for
width : (net : NetList) (k : ℕ) (r : Role) (ns : List ℕ) → 1 ≤ k → ((length ns ≡ k) ⊎ ((r ≡ Fed) × (ns ≡ []))) → ((n : ℕ) → Has ns n → StandsOn net r n) → length ns ≡ net_count k r
width net k Input ns some (inl long) stands = long
width net k Input ns some (inr fed) stands = let e : Input ≡ Fed = fed.0 in absurd (cc)
width net k State ns some (inl long) stands = long
width net k State ns some (inr fed) stands = let e : State ≡ Fed = fed.0 in absurd (cc)
width net k Fed ns some (inl long) stands = let n = get_below ns 0 (omega (arith, long, some)) in absurd (stands n.0 (0, n.1))
width net k Fed ns some (inr fed) stands = ap length fed.1
width net k Output ns some (inl long) stands = long
width net k Output ns some (inr fed) stands = let e : Output ≡ Fed = fed.0 in absurd (cc)

-- one more word before it
later : (u : BoundWord) (b : List ℕ) (us : List BoundWord) (bs : List (List ℕ)) (w : ℕ) (r : Role) → ((v : Word) × (slice_get (job_words_of us bs) (inner_number us w) ≡ Some v) × IsFedWord v)
    → (v : Word) × (slice_get (job_word_with r u.nets b ++ job_words_of us bs) (length (cond (not (same_role r Output)) (u ∷ filter (λ word. not (same_role word.role Output)) (take w us)) (filter (λ word. not (same_role word.role Output)) (take w us)))) ≡ Some v) × IsFedWord v
later u b us bs w Input rest = rest
later u b us bs w State rest = rest
later u b us bs w Fed rest = rest
later u b us bs w Output rest = rest

-- the fed word with number w among all words is the word with its inner number among the words of the job
source_word : (words : List BoundWord) (bases : List (List ℕ)) → length bases ≡ length words → (w : ℕ) → slice_get (map (λ (word : BoundWord). word.role) words) w ≡ Some Fed → (v : Word) × (slice_get (job_words_of words bases) (inner_number words w) ≡ Some v) × IsFedWord v
source_word [] bases long w got = absurd (cc)
source_word (u ∷ us) [] long w got = absurd (omega arith)
source_word (u ∷ us) (b ∷ bs) long zero got = here u.role (cc)
  where
    here : (r : Role) → r ≡ Fed → (v : Word) × (slice_get (job_word_with r u.nets b ++ job_words_of us bs) 0 ≡ Some v) × IsFedWord v
    here Input is = absurd (cc)
    here State is = absurd (cc)
    here Fed is = (record { role = Fed; nets = u.nets; basis = b }, refl, refl)
    here Output is = absurd (cc)
source_word (u ∷ us) (b ∷ bs) long (suc w) got = later u b us bs w u.role (source_word us bs (omega arith) w got)

-- a net of a word with this role stands in one
pub in_word_has : (role : Role) (words : List BoundWord) (word : BoundWord) (n : ℕ) → Has words word → Has word.nets n → word.role ≡ role → in_word role words n ≡ true
in_word_has role words word n has in_it is = any_has (λ (w : BoundWord). same_role w.role role && stands_in w.nets n) words word has (both word.role role is (has_stands word.nets n in_it))
  where
    both : (a b : Role) → a ≡ b → stands_in word.nets n ≡ true → (same_role a b && stands_in word.nets n) ≡ true
    both Input Input e hit = hit
    both State State e hit = hit
    both Fed Fed e hit = hit
    both Output Output e hit = hit
    both Input State e hit = absurd (cc)
    both Input Fed e hit = absurd (cc)
    both Input Output e hit = absurd (cc)
    both State Input e hit = absurd (cc)
    both State Fed e hit = absurd (cc)
    both State Output e hit = absurd (cc)
    both Fed Input e hit = absurd (cc)
    both Fed State e hit = absurd (cc)
    both Fed Output e hit = absurd (cc)
    both Output Input e hit = absurd (cc)
    both Output State e hit = absurd (cc)
    both Output Fed e hit = absurd (cc)

-- the nets of the job's feeds are those of the binding's
fed_same : (words : List BoundWord) (feeds : List Feed) → fed_nets (map (job_feed words) feeds) ≡ bound_fed_nets feeds
fed_same words [] = refl
fed_same words (f ∷ fs) = ap (λ ns. f.net ∷ ns) (fed_same words fs)

module _ (k : ℕ) (product : ℕ → ℕ → ℕ) (bound : BoundNet) (bases : List (List ℕ)) (cycles : ℕ) (is : IsBoundTo bound.net bound.binding) (same : bound.binding.k ≡ k) (based : HaveBases k bound.binding.words bases) (sound : IsSound bound.net) where
  words : List Word
  words = job_words_of bound.binding.words bases

  some : 1 ≤ k
  some = omega (arith, same, is.parts.some)

  wide : (word : BoundWord) → Has bound.binding.words word → HasWidth k word
  wide word has = let P : ℕ → Type 0 = λ j. HasWidth j word in subst P same (All_has (HasWidth bound.binding.k) bound.binding.words word is.parts.each has)

  unnamed : (n : ℕ) → (Has (word_nets words) n → ⊥) → Has (bits bound.binding.words) n → ⊥
  unfolding words
  unnamed n none has = let P : List ℕ → Type 0 = λ ns. Has ns n in none (subst P (sym (job_nets_of bound.binding.words bases based.long)) has)

  fits : (w : Word) → Has words w → IsJobWord k w
  unfolding words IsKept
  fits w has =
      let found = find_bound bound.binding.words bases w has in
      let keeps = kept found.0.role found.0.nets found.1 w found.4 in
      let long = width bound.net k found.0.role found.0.nets some (wide found.0 found.2) (λ n in_it. is.places found.0 n found.2 in_it) in
      let P : List ℕ → Type 0 = IsBasis k in
      record { nets = ap length keeps.1 ∙ (long ∙ ap (net_count k) (sym keeps.0)); basis = subst P (sym keeps.2) (based.each found.1 found.3) }

  inner : (w : Word) → Has words w → w.role ≡ Output → ⊥
  unfolding words IsKept
  inner w has other =
      let found = find_bound bound.binding.words bases w has in
      let keeps = kept found.0.role found.0.nets found.1 w found.4 in
      keeps.3 (sym keeps.0 ∙ other)

  places : (w : Word) (n : ℕ) → Has words w → Has w.nets n → StandsOn bound.net w.role n
  unfolding words IsKept
  places w n has in_w =
      let found = find_bound bound.binding.words bases w has in
      let keeps = kept found.0.role found.0.nets found.1 w found.4 in
      let P : List ℕ → Type 0 = λ ns. Has ns n in
      let Q : Role → Type 0 = λ r. StandsOn bound.net r n in
      subst Q (sym keeps.0) (is.places found.0 n found.2 (subst P keeps.1 in_w))

  -- a primary input in no input word is in no word
  outside : (n : ℕ) → Has bound.net.inputs n → in_word Input bound.binding.words n ≡ false → Has (word_nets words) n → ⊥
  unfolding words IsKept
  outside n input unheld has =
      let at = find_word words n has in
      let in_words : Has words at.1 = (at.0, at.2) in
      let role : at.1.role ≡ Input = role_input bound.net at.1.role n sound (inner at.1 in_words) (places at.1 n in_words at.3) input in
      let found = find_bound bound.binding.words bases at.1 in_words in
      let keeps = kept found.0.role found.0.nets found.1 at.1 found.4 in
      let P : List ℕ → Type 0 = λ ns. Has ns n in
      true≢false (sym (in_word_has Input bound.binding.words found.0 n found.2 (subst P keeps.1 at.3) (sym keeps.0 ∙ role)) ∙ unheld)

  source : (s : Source) → IsBoundSource bound.binding.k (map (λ (word : BoundWord). word.role) bound.binding.words) s → IsSource k words (inner_source bound.binding.words s)
  unfolding words
  source Zero fine = tt
  source One fine = tt
  source (Bit w place) fine = (omega (arith, same, fine.0), source_word bound.binding.words bases based.long w fine.1)

  output : IsOutputWord bound.binding.words bases (output_bits bound.binding.words) (output_basis bound.binding.words bases)
  output = find_output bound.binding.words bases based.long is.parts.one

  output_inside : (n : ℕ) → Has (output_bits bound.binding.words) n → n < nets bound.net
  output_inside n has =
      let found = output_bits_word bound.binding.words n has in
      let P : Role → Type 0 = λ r. StandsOn bound.net r n in
      let stands : StandsOn bound.net Output n = subst P found.3 (is.places found.0 n found.1 found.2) in
      stands

  pub job_well : IsRing k product → HasNoZeroDivisors k product → IsJob (job_with k product bound bases cycles)
  unfolding words output
  job_well ring no_zero_divisors = record {
    ring = ring;
    no_zero_divisors = no_zero_divisors;
    sound = sound;
    few = omega (arith, is.parts.few, job_count_of bound.binding.words bases based.long);
    words = fits;
    inner = inner;
    once = λ n. let P : List ℕ → Type 0 = λ ns. times n ns ≤ 1 in subst P (sym (job_nets_of bound.binding.words bases based.long)) (is.once n);
    places = places;
    output = record { nets = ap length output.4 ∙ output_width k output.0 (wide output.0 output.1) output.3; basis = based.each (output_basis bound.binding.words bases) output.2 };
    output_role = refl;
    output_nets = output_inside;
    feeds = λ feed has.
        let found = from_map (job_feed bound.binding.words) bound.binding.feeds has.0 feed has.1 in
        let fine = is.feeds found.0 (has.0, found.1) in
        let P : CircuitFeed → Type 0 = IsFeed (job_with k product bound bases cycles) in
        subst P found.2 (record { input = fine.input; unnamed = outside found.0.net fine.input fine.unheld; source = source found.0.source fine.source });
    starts = λ l has none. is.starts l has (unnamed l.out none);
    covered = λ n free. is.covered n free.input (unnamed n free.unnamed) (λ fed. let P : List ℕ → Type 0 = λ ns. Has ns n in free.unfed (subst P (sym (fed_same bound.binding.words bound.binding.feeds)) fed));
  }
