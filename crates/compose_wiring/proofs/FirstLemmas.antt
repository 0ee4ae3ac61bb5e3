-- Candidates stand in the order of their feeds.
use Rattle.std.proofs.Common.{◌≡◌, ◌∙◌, ap, sym, subst, ℕ, zero, suc, ◌<◌, ◌≤◌, ◌+◌, ◌⊎◌, inl, inr, List, [], ◌∷◌, ◌++◌, length, Option, None, Some, arith}
use Rattle.std.specs.Prelude.{slice_get}
use Rattle.std.specs.Option.{option_map_or}
use Rattle.std.proofs.lemmas.Option.{slice_get_within}
use Rattle.std.proofs.lemmas.Bool.{cases_lt}
use Rattle.lists.specs.Lists.{Has}
use Rattle.net_blif.specs.Statement.{Token}
use Rattle.compose_model.specs.NamedWord.{inputs_among, outputs_among, NamedWord}
use Rattle.compose_model.specs.declared.feeder.Feeder.{Feeder}
use Rattle.compose_model.specs.declared.feeder.Feeder.TheVariants.{InputWord, OutputOf}
use Rattle.compose_wiring.specs.Answer.{IsEarlierFeed}
use Rattle.compose_wiring.specs.private.Names.{actuals_by}
use Rattle.compose_wiring.specs.private.Plain.{candidates_of, output_by, output_candidates, word_candidates, CandidateValue, IsFirstOn, PlacedValue}
use Rattle.compose_wiring.proofs.PlainLemmas.{output_among, output_one}

-- ---- the order of feeds

in_order : (m n : ℕ) → (m < n) ⊎ ((n < m) ⊎ (m ≡ n))
in_order m n = parts (cases_lt m n) (cases_lt n m)
  where
    parts : (m < n) ⊎ (n ≤ m) → (n < m) ⊎ (m ≤ n) → (m < n) ⊎ ((n < m) ⊎ (m ≡ n))
    parts (inl less) other = inl less
    parts (inr least) (inl more) = inr (inl more)
    parts (inr least) (inr most) = inr (inr (omega (arith, least, most)))

-- of two feeds one is earlier, or they are the same
pub feeds_in_order : (f g : Feeder) → IsEarlierFeed f g ⊎ (IsEarlierFeed g f ⊎ (f ≡ g))
feeds_in_order (InputWord w) (InputWord v) = elim (in_order w v) [ inl less ↦ inl less | inr rest ↦ elim rest [ inl more ↦ inr (inl more) | inr same ↦ inr (inr (ap InputWord same)) ] ]
feeds_in_order (InputWord w) (OutputOf i) = inl tt
feeds_in_order (OutputOf i) (InputWord w) = inr (inl tt)
feeds_in_order (OutputOf i) (OutputOf j) = elim (in_order i j) [ inl less ↦ inl less | inr rest ↦ elim rest [ inl more ↦ inr (inl more) | inr same ↦ inr (inr (ap OutputOf same)) ] ]

-- not both are earlier
pub not_both_earlier : (f g : Feeder) → IsEarlierFeed f g → IsEarlierFeed g f → ⊥
not_both_earlier (InputWord w) (InputWord v) a b = omega (arith, a, b)
not_both_earlier (InputWord w) (OutputOf i) a b = b
not_both_earlier (OutputOf i) (InputWord w) a b = a
not_both_earlier (OutputOf i) (OutputOf j) a b = omega (arith, a, b)

earlier_as : (f g a b : Feeder) → f ≡ a → g ≡ b → IsEarlierFeed a b → IsEarlierFeed f g
earlier_as f g a b f_is g_is early =
    let P : Feeder → Type 0 = λ x. IsEarlierFeed x g in
    let Q : Feeder → Type 0 = λ x. IsEarlierFeed a x in
    subst P (sym f_is) (subst Q (sym g_is) early)

-- ---- the order of candidates

-- the feeds of candidates rise with their places
abbrev AreInOrder : List CandidateValue → Type 0
AreInOrder cs = (p q : ℕ) (c d : CandidateValue) → p < q → slice_get cs p ≡ Some c → slice_get cs q ≡ Some d → IsEarlierFeed c.feed d.feed

got_either : (xs ys : List CandidateValue) (p : ℕ) (c : CandidateValue) → slice_get (xs ++ ys) p ≡ Some c → (slice_get xs p ≡ Some c) ⊎ ((j : ℕ) × (p ≡ length xs + j) × (slice_get ys j ≡ Some c))
got_either [] ys p c got = inr (p, omega arith, got)
got_either (x ∷ xs) ys zero c got = inl got
got_either (x ∷ xs) ys (suc p) c got = elim (got_either xs ys p c got) [ inl front ↦ inl front | inr back ↦ inr (back.0, omega (arith, back.1), back.2) ]

joined_in_order : (xs ys : List CandidateValue) → AreInOrder xs → AreInOrder ys → ((c d : CandidateValue) → Has xs c → Has ys d → IsEarlierFeed c.feed d.feed) → AreInOrder (xs ++ ys)
joined_in_order xs ys front back across p q c d less at_p at_q = cases (got_either xs ys p c at_p) (got_either xs ys q d at_q)
  where
    cases : (slice_get xs p ≡ Some c) ⊎ ((j : ℕ) × (p ≡ length xs + j) × (slice_get ys j ≡ Some c)) → (slice_get xs q ≡ Some d) ⊎ ((j : ℕ) × (q ≡ length xs + j) × (slice_get ys j ≡ Some d)) → IsEarlierFeed c.feed d.feed
    cases (inl a) (inl b) = front p q c d less a b
    cases (inl a) (inr b) = across c d (p, a) (b.0, b.2)
    cases (inr a) (inl b) = absurd (omega (arith, a.1, less, slice_get_within xs q d b))
    cases (inr a) (inr b) = back a.0 b.0 c d (omega (arith, a.1, b.1, less)) a.2 b.2

word_feed : (n : ℕ) (words : List NamedWord) (p : ℕ) (c : CandidateValue) → slice_get (word_candidates n words) p ≡ Some c → c.feed ≡ InputWord (n + p)
word_feed n [] p c got = absurd (cc)
word_feed n (word ∷ words) zero c got =
    let same : ◌≡◌ {A = CandidateValue} (record { feed = InputWord n; nets = word.nets; basis = word.basis }) c = cc in
    let place : n ≡ n + 0 = omega arith in
    ap (λ (x : CandidateValue). x.feed) (sym same) ∙ ap InputWord place
word_feed n (word ∷ words) (suc p) c got =
    let place : (n + 1) + p ≡ n + suc p = omega arith in
    word_feed (n + 1) words p c got ∙ ap InputWord place

words_in_order : (n : ℕ) (words : List NamedWord) → AreInOrder (word_candidates n words)
words_in_order n words p q c d less at_p at_q =
    let rise : n + p < n + q = omega (arith, less) in
    earlier_as c.feed d.feed (InputWord (n + p)) (InputWord (n + q)) (word_feed n words p c at_p) (word_feed n words q d at_q) rise

-- an instance has one output at most
abbrev one_candidate : ℕ → List Token → List ℕ → List CandidateValue
one_candidate n nets basis = record { feed = OutputOf n; nets = nets; basis = basis } ∷ []

none_after : (n : ℕ) (connections : List Token) (outputs : List NamedWord) (q : ℕ) (d : CandidateValue) → slice_get (output_by n connections outputs) (suc q) ≡ Some d → ⊥
none_after n connections [] q d got = absurd (cc)
none_after n connections (word ∷ []) q d got = parts (actuals_by connections word.nets) got
  where
    parts : (o : Option (List Token)) → slice_get (option_map_or (λ (nets : List Token). one_candidate n nets word.basis) o []) (suc q) ≡ Some d → ⊥
    parts None got = absurd (cc)
    parts (Some nets) got = absurd (cc)
none_after n connections (word ∷ other ∷ words) q d got = absurd (cc)

output_in_order : (n : ℕ) (connections : List Token) (outputs : List NamedWord) → AreInOrder (output_by n connections outputs)
output_in_order n connections outputs p zero c d less at_p at_q = absurd (omega (arith, less))
output_in_order n connections outputs p (suc q) c d less at_p at_q = absurd (none_after n connections outputs q d at_q)

outputs_in_order : (n : ℕ) (placed : List PlacedValue) → AreInOrder (output_candidates n placed)
outputs_in_order n [] p q c d less at_p at_q = absurd (cc)
outputs_in_order n (x ∷ placed) p q c d less at_p at_q =
    joined_in_order (output_by n x.connections (outputs_among x.words)) (output_candidates (n + 1) placed) (output_in_order n x.connections (outputs_among x.words)) (outputs_in_order (n + 1) placed) across p q c d less at_p at_q
  where
    across : (a b : CandidateValue) → Has (output_by n x.connections (outputs_among x.words)) a → Has (output_candidates (n + 1) placed) b → IsEarlierFeed a.feed b.feed
    across a b has_a has_b =
        let here = output_one n x.connections (outputs_among x.words) a has_a in
        let later = output_among (n + 1) placed b has_b in
        let rise : n < (n + 1) + later.j = omega arith in
        earlier_as a.feed b.feed (OutputOf n) (OutputOf ((n + 1) + later.j)) (ap (λ (v : CandidateValue). v.feed) here.is) (ap (λ (v : CandidateValue). v.feed) later.by.is) rise

candidates_in_order : (top : List NamedWord) (placed : List PlacedValue) → AreInOrder (candidates_of top placed)
candidates_in_order top placed = joined_in_order (word_candidates 0 (inputs_among top)) (output_candidates 0 placed) (words_in_order 0 (inputs_among top)) (outputs_in_order 0 placed) across
  where
    across : (a b : CandidateValue) → Has (word_candidates 0 (inputs_among top)) a → Has (output_candidates 0 placed) b → IsEarlierFeed a.feed b.feed
    across a b has_a has_b =
        let later = output_among 0 placed b has_b in
        earlier_as a.feed b.feed (InputWord (0 + has_a.0)) (OutputOf (0 + later.j)) (word_feed 0 (inputs_among top) has_a.0 a has_a.1) (ap (λ (v : CandidateValue). v.feed) later.by.is) tt

-- ---- the first candidate has the first feed

module _ (top : List NamedWord) (placed : List PlacedValue) (nets : List Token) (basis : List ℕ) where
  abbrev on_nets : Feeder → CandidateValue
  on_nets feed = record { feed = feed; nets = nets; basis = basis }

  pub none_earlier : (feed other : Feeder) → IsFirstOn (candidates_of top placed) nets basis feed → IsEarlierFeed other feed → Has (candidates_of top placed) (on_nets other) → ⊥
  none_earlier feed other first early has = cases (in_order has.0 first.place)
    where
      cases : (has.0 < first.place) ⊎ ((first.place < has.0) ⊎ (has.0 ≡ first.place)) → ⊥
      cases (inl before) = first.before has.0 other before has.1
      cases (inr (inl after)) = not_both_earlier other feed early (candidates_in_order top placed first.place has.0 (on_nets feed) (on_nets other) after first.at has.1)
      cases (inr (inr same)) =
          let P : ℕ → Type 0 = λ q. slice_get (candidates_of top placed) q ≡ Some (on_nets other) in
          let here : slice_get (candidates_of top placed) first.place ≡ Some (on_nets other) = subst P same has.1 in
          let there : slice_get (candidates_of top placed) first.place ≡ Some (on_nets feed) = first.at in
          let equal : on_nets feed ≡ on_nets other = cc in
          let Q : Feeder → Type 0 = λ f. IsEarlierFeed other f in
          let again : IsEarlierFeed other other = subst Q (ap (λ (c : CandidateValue). c.feed) equal) early in
          not_both_earlier other other again again
