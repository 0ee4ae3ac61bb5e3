-- The jobs of words and feeds that are bound to both net lists.
use Rattle.std.proofs.Common.{◌≡◌, ◌∙◌, ap, sym, refl, subst, inl, inr, ℕ, zero, suc, ◌<◌, not, true, false, List, [], ◌∷◌, ◌++◌, length, map, filter, take, cond}
use Rattle.lists.specs.Lists.{Has}
use Rattle.lists.specs.laws.HasLaws.{Has_cases, only_one}
use Rattle.lists.specs.laws.ReadLaws.{from_map}
use Rattle.net_core.specs.Inside.{IsInside}
use Rattle.net_core.specs.NetList.{NetList, nets}
use Rattle.net_words.specs.Binding.{Binding}
use Rattle.net_words.specs.BoundTo.{output_bits, output_bits_with}
use Rattle.net_words.specs.Roles.{same_role}
use Rattle.net_words.specs.declared.bound.BoundWord.{BoundWord}
use Rattle.net_words.specs.declared.feed.Feed.{Feed}
use Rattle.net_words.specs.declared.feed.Source.{Source}
use Rattle.net_words.specs.declared.feed.Source.TheVariants.{Zero, One, Bit}
use Rattle.net_words.specs.declared.word.Role.{Role}
use Rattle.net_words.specs.declared.word.Role.TheVariants.{Input, State, Fed, Output}
use Rattle.net_words.proofs.MemberLemmas.{output_bits_word}
use Rattle.circuit_model.specs.Circuit.{Circuit}
use Rattle.circuit_model.specs.JobOfBinding.{inner_number, inner_source, job_feed, job_with, job_word_with, job_words_of}
use Rattle.circuit_model.specs.OfBinding.{output_basis, output_basis_with, output_word}
use Rattle.circuit_model.specs.Out.{IsOut}
use Rattle.circuit_model.specs.Word.{Word}
use Rattle.circuit_model.specs.declared.circuit_feed.CircuitFeed.{CircuitFeed}
use Rattle.circuit_model.specs.declared.circuit_feed.FeedSource.TheVariants.{Bit as BitOf}
use Rattle.make_laws.specs.Renumbering.{IsRenumbering}
use Rattle.make_laws.proofs.BindingUnder.{IsBindingUnder, feed_under, word_under}
use Rattle.make_laws.proofs.JobUnder.{job_feed_under, job_word_under}
use Rattle.make_laws.proofs.NumberListLemmas.{map_join}
use Rattle.make_laws.proofs.MemberLemmas.{AreNets, FeedNets, StandOnNets}
use Rattle.make_laws.proofs.SameRunLemmas.{out_there}

-- ---- words and feeds of a job

module _ (f : ℕ → ℕ) where
  job_word : (role : Role) (ns basis : List ℕ) → job_word_with role (map f ns) basis ≡ map (job_word_under f) (job_word_with role ns basis)
  job_word Input ns basis = refl
  job_word State ns basis = refl
  job_word Fed ns basis = refl
  job_word Output ns basis = refl

  job_words : (words : List BoundWord) (bases : List (List ℕ)) → job_words_of (map (word_under f) words) bases ≡ map (job_word_under f) (job_words_of words bases)
  job_words [] bases = refl
  job_words (word ∷ words) [] = refl
  job_words (word ∷ words) (basis ∷ bases) =
      (λ i. job_word word.role word.nets basis i ++ job_words words bases i) ∙ sym (map_join (job_word_under f) (job_word_with word.role word.nets basis) (job_words_of words bases))

  output_with : (role : Role) (ns : List ℕ) → output_bits_with role (map f ns) ≡ map f (output_bits_with role ns)
  output_with Input ns = refl
  output_with State ns = refl
  output_with Fed ns = refl
  output_with Output ns = refl

  outputs : (words : List BoundWord) → output_bits (map (word_under f) words) ≡ map f (output_bits words)
  outputs [] = refl
  outputs (word ∷ words) = (λ i. output_with word.role word.nets i ++ outputs words i) ∙ sym (map_join f (output_bits_with word.role word.nets) (output_bits words))

  basis_same : (words : List BoundWord) (bases : List (List ℕ)) → output_basis (map (word_under f) words) bases ≡ output_basis words bases
  basis_same [] bases = refl
  basis_same (word ∷ words) [] = refl
  basis_same (word ∷ words) (basis ∷ bases) = ap (λ b. output_basis_with word.role basis b) (basis_same words bases)

  -- words are counted alike
  counted : (words : List BoundWord) (w : ℕ) → inner_number (map (word_under f) words) w ≡ inner_number words w
  counted words zero = refl
  counted [] (suc w) = refl
  counted (word ∷ words) (suc w) =
      elim (not (same_role word.role Output)) as (λ b. length (cond b (word_under f word ∷ filter (λ (v : BoundWord). not (same_role v.role Output)) (take w (map (word_under f) words))) (filter (λ (v : BoundWord). not (same_role v.role Output)) (take w (map (word_under f) words)))) ≡ length (cond b (word ∷ filter (λ (v : BoundWord). not (same_role v.role Output)) (take w words)) (filter (λ (v : BoundWord). not (same_role v.role Output)) (take w words)))) [
        | true ↦ ap suc (counted words w)
        | false ↦ counted words w
      ]

  source_same : (words : List BoundWord) (source : Source) → inner_source (map (word_under f) words) source ≡ inner_source words source
  source_same words Zero = refl
  source_same words One = refl
  source_same words (Bit w place) = ap (λ n. BitOf n place) (counted words w)

  job_feeds : (words : List BoundWord) (feeds : List Feed) → map (job_feed (map (word_under f) words)) (map (feed_under f) feeds) ≡ map (job_feed_under f) (map (job_feed words) feeds)
  job_feeds words [] = refl
  job_feeds words (feed ∷ feeds) = (λ i. record { net = f feed.net; cycle = feed.cycle; source = source_same words feed.source i } ∷ job_feeds words feeds i)

-- ---- their nets

one_low : (net : NetList) (role : Role) (ns basis : List ℕ) → AreNets net ns → (w : Word) → Has (job_word_with role ns basis) w → AreNets net w.nets
one_low net Input ns basis low w has = let P : Word → Type 0 = λ v. AreNets net v.nets in subst P (only_one _ w has) low
one_low net State ns basis low w has = let P : Word → Type 0 = λ v. AreNets net v.nets in subst P (only_one _ w has) low
one_low net Fed ns basis low w has = let P : Word → Type 0 = λ v. AreNets net v.nets in subst P (only_one _ w has) low
one_low net Output ns basis low w has = absurd (let got = has.1 in cc)

words_low : (net : NetList) (words : List BoundWord) (bases : List (List ℕ)) → StandOnNets net words → (w : Word) → Has (job_words_of words bases) w → AreNets net w.nets
words_low net [] bases low w has = absurd (let got = has.1 in cc)
words_low net (word ∷ words) [] low w has = absurd (let got = has.1 in cc)
words_low net (word ∷ words) (basis ∷ bases) low w has = elim (Has_cases (job_word_with word.role word.nets basis) (job_words_of words bases) w has) [
  | inl here ↦ one_low net word.role word.nets basis (low word (0, refl)) w here
  | inr later ↦ words_low net words bases (λ v at. low v (suc at.0, at.1)) w later
]

module _ (f : ℕ → ℕ) (from to : NetList) (is : IsRenumbering f from to) (inside : IsInside from) (k : ℕ) (product : ℕ → ℕ → ℕ) (bases : List (List ℕ)) (cycles : ℕ) (b b' : Binding) (under : IsBindingUnder f b' b) (low : StandOnNets from b'.words) (fed : FeedNets from b'.feeds) where
  -- the job over the second net list, by the words over the first
  abbrev moved : Circuit
  moved = record { k = k; product = product; net = to; words = map (job_word_under f) (job_words_of b'.words bases); output = job_word_under f (output_word b'.words (output_basis b'.words bases)); feeds = map (job_feed_under f) (map (job_feed b'.words) b'.feeds); cycles = cycles }

  is_moved : job_with k product (record { net = to; binding = b }) bases cycles ≡ moved
  is_moved =
      (λ i. job_with k product (record { net = to; binding = record { k = b.k; words = under.words i; feeds = under.feeds i; nets = b.nets } }) bases cycles)
      ∙ (λ i. record { k = k; product = product; net = to; words = job_words f b'.words bases i; output = record { role = Output; nets = outputs f b'.words i; basis = basis_same f b'.words bases i }; feeds = job_feeds f b'.words b'.feeds i; cycles = cycles })

  feeds_low : (feed : CircuitFeed) → Has (map (job_feed b'.words) b'.feeds) feed → feed.net < nets from
  feeds_low feed has =
      let was = from_map (job_feed b'.words) b'.feeds has.0 feed has.1 in
      let P : CircuitFeed → Type 0 = λ x. x.net < nets from in
      subst P was.2 (fed was.0 (has.0, was.1))

  outputs_low : AreNets from (output_bits b'.words)
  outputs_low n has = let word = output_bits_word b'.words n has in low word.0 word.1 n word.2

  pub same_output : (xs : List ℕ) (e : ℕ) → IsOut (job_with k product (record { net = to; binding = b }) bases cycles) xs e → IsOut (job_with k product (record { net = from; binding = b' }) bases cycles) xs e
  same_output xs e out =
      let P : Circuit → Type 0 = λ c. IsOut c xs e in
      out_there f from to is inside k product cycles (job_words_of b'.words bases) (output_word b'.words (output_basis b'.words bases)) (map (job_feed b'.words) b'.feeds) (words_low from b'.words bases low) outputs_low feeds_low xs e (subst P is_moved out)
