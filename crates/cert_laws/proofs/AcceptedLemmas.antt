-- The certificate of a circuit is accepted.
use Rattle.std.proofs.Common.{◌≡◌, ◌∙◌, ap, sym, refl, subst, ℕ, ◌+◌, ◌*◌, ◌≤◌, List, [], ◌∷◌, length, map, arith}
use Rattle.std.proofs.lemmas.List.{length-map, length-append}
use Rattle.gf_field.specs.Field.{HasNoZeroDivisors}
use Rattle.gf_field.specs.Ring.{IsRing}
use Rattle.gf_basis.specs.BasisParts.{elements_of, duals_of}
use Rattle.gf_basis.specs.declared.bases.Basis.{Basis}
use Rattle.net_core.specs.NetList.{nets}
use Rattle.net_core.specs.Sound.{IsSound}
use Rattle.net_words.specs.Binding.{BoundNet}
use Rattle.net_words.specs.OneCycle.{IsOneCycle}
use Rattle.net_words.specs.Variables.{variables}
use Rattle.net_words.specs.declared.bound.BoundWord.{BoundWord}
use Rattle.net_words.specs.declared.word.Role.{Role}
use Rattle.net_words.specs.declared.word.Role.TheVariants.{Input, State, Fed, Output}
use Rattle.poly_mixed.specs.Polynomial.{Terms, Point, value}
use Rattle.poly_mixed.specs.Steps.{Step}
use Rattle.circuit_model.specs.Bases.{AreBases, circuit_in}
use Rattle.circuit_model.specs.Circuit.{Circuit}
use Rattle.circuit_model.specs.OfBinding.{word_with, words_of, output_word, output_basis}
use Rattle.circuit_model.specs.WellFormed.{IsWellFormed}
use Rattle.stage_model.specs.CircuitListing.{circuit_stages}
use Rattle.stage_model.specs.Cut.{IsCut}
use Rattle.stage_model.specs.Listing.{AreAllWithin}
use Rattle.stage_model.specs.Mix.{IsMix}
use Rattle.stage_model.specs.Stage.{IsOfStage}
use Rattle.stage_model.proofs.BoundLemmas.{bound_cut}
use Rattle.stage_model.proofs.MixLemmas.{mix_none}
use Rattle.stage_model.proofs.WordStageLemmas.{one_terms}
use Rattle.cert_check.specs.Running.{dual_words, output_value}
use Rattle.cert_check.specs.Verdict.{AsksAtMost}
use Rattle.cert_check.proofs.SoundLemmas.{well}
use Rattle.cert_make.specs.Recorded.{IsCertificateOf}
use Rattle.cert_make.specs.Sharing.{shares_of}
use Rattle.cert_make.proofs.ReadBackLemmas.{text_read}
use Rattle.cert_laws.specs.Accepted.{IsAccepted}
use Rattle.cert_laws.proofs.CutWalkLemmas.{f, cuts_walk}
use Rattle.cert_laws.proofs.NamedLemmas.{is_named}
use Rattle.cert_laws.proofs.SmallLemmas.{low_cut, low_mix, all_small}
use Rattle.cert_laws.proofs.WalkLemmas.{Walk, walk_then, within, nothing_left_over}
use Rattle.cert_laws.proofs.WordWalkLemmas.{words_walk}

-- there are as many words whatever their bases are
as_many : (words : List BoundWord) (es ds : List (List ℕ)) → length es ≡ length words → length ds ≡ length words → length (words_of words es) ≡ length (words_of words ds)
as_many [] es ds one two = refl
as_many (u ∷ us) [] ds one two = absurd (omega (arith, one))
as_many (u ∷ us) (e ∷ es) [] one two = absurd (omega (arith, two))
as_many (u ∷ us) (e ∷ es) (d ∷ ds) one two =
    length-append (word_with u.role u.nets e) (words_of us es)
    ∙ (λ i. with_role u.role i + as_many us es ds (omega (arith, one)) (omega (arith, two)) i)
    ∙ sym (length-append (word_with u.role u.nets d) (words_of us ds))
  where
    with_role : (r : Role) → length (word_with r u.nets e) ≡ length (word_with r u.nets d)
    with_role Input = refl
    with_role State = refl
    with_role Fed = refl
    with_role Output = refl

module _ (k : ℕ) (mul : ℕ → ℕ → ℕ) (ring : IsRing k mul) (field : HasNoZeroDivisors k mul) (bound : BoundNet) (bases : List Basis) (sound : IsSound bound.net) (one : IsOneCycle bound.net bound.binding) (same : bound.binding.k ≡ k) (are : AreBases k mul bound bases) (n most : ℕ) (four : 4 * n ≤ most) (all : AreAllWithin k mul (circuit_stages (circuit_in k mul bound bases)) n) (claim : Terms) (pairs : List Step) (certificate : IsCertificateOf k mul bound bases claim pairs) where
  abbrev c : Circuit
  c = circuit_in k mul bound bases

  circuit : IsWellFormed c
  circuit = well k mul bound bases ring field sound one same are

  long : length (map elements_of bases) ≡ length bound.binding.words
  long = length-map bases elements_of ∙ are.long

  same_words : length (dual_words bound bases) ≡ length c.words
  same_words = as_many bound.binding.words (map duals_of bases) (map elements_of bases) (length-map bases duals_of ∙ are.long) long

  abbrev Cut : ℕ → Point → ℕ → Type 0
  Cut t = IsCut bound.net (variables (nets bound.net) bound.binding.words) (output_word bound.binding.words (output_basis bound.binding.words (map elements_of bases))) t

  cut_at : (t : ℕ) → t ≤ length bound.net.gates → (ts : Terms) × IsOfStage k mul (Cut t) ts × (length ts ≤ n)
  cut_at t less =
      let cut = low_cut c circuit one.flat.latches n all t less in
      (cut.0, record { reduced = cut.1.reduced; values = λ p at. (bound_cut k mul bound (map elements_of bases) t p (value mul p cut.0) long).1 (cut.1.values p at) }, cut.2)

  -- the polynomial of the last cut
  last : (ts : Terms) × IsOfStage k mul (Cut (length bound.net.gates)) ts × (length ts ≤ n)
  last = cut_at (length bound.net.gates) (omega arith)

  last_mix : IsOfStage k mul (IsMix c 0) last.0
  unfolding last
  last_mix = record {
    reduced = last.1.reduced;
    values = λ p at. (mix_none c circuit one.flat.latches p (value mul p last.0) at).1 ((bound_cut k mul bound (map elements_of bases) (length bound.net.gates) p (value mul p last.0) long).0 (last.1.values p at));
  }

  small : length claim ≤ n
  small =
      let mix = low_mix c circuit one.flat.latches n all (length c.words) (omega arith) in
      let equal : mix.0 ≡ claim = one_terms c circuit (length c.words) mix.0 claim mix.1 certificate.claims in
      let long : length mix.0 ≡ length claim = ap length equal in
      let most = mix.2 in
      omega (arith, long, most)

  pub walk : Walk k mul bound bases (f k mul ring field) claim most (output_value k mul bound bases) (λ p. value mul p claim) pairs
  walk =
      let P : List Step → Type 0 = λ steps. Walk k mul bound bases (f k mul ring field) claim most (output_value k mul bound bases) (λ p. value mul p claim) steps in
      let cuts = certificate.are_cuts in
      subst P (sym certificate.pairs_are)
      (walk_then k mul bound bases (f k mul ring field) claim most (output_value k mul bound bases) (λ p. value mul p last.0) (λ p. value mul p claim) certificate.cuts certificate.words
      (cuts_walk k mul ring field bound bases sound one claim n most certificate.claims.reduced small four cuts.order cuts.elimination (length bound.net.gates) (length bound.net.gates) certificate.cuts (omega arith) cut_at cuts.are last.0 last.1 last.2)
      (words_walk k mul ring field bound bases are circuit same_words claim n most certificate.claims.reduced small four (all_small c circuit one.flat.latches n all) (length c.words) (omega arith) certificate.words certificate.are_words last.0 last_mix last.2 claim certificate.claims small))

pub is_accepted : IsAccepted
is_accepted k mul bound bases labels claim pairs n most ring field sound one same are numbers names certificate all few four =
    let can = is_named k mul bound bases labels claim pairs ring field sound one same are numbers names certificate in
    let way = walk k mul ring field bound bases sound one same are n most four all claim pairs certificate in (
      record { claim = claim; shared = shares_of pairs; pairs = pairs },
      text_read k bound.net labels numbers.are_labels pairs claim (AsksAtMost k mul bound bases most) (λ m shared front back e. within k mul bound bases (f k mul ring field) claim most pairs way m shared front back e) can.writable can.no_bits can.generators few,
      (refl, nothing_left_over k mul bound bases (f k mul ring field) claim most pairs way (shares_of pairs)),
    )
