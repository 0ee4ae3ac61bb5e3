-- A verdict is that of the setting: of its bases alone, since a basis has one dual.
use Rattle.std.proofs.Common.{◌≡◌, ◌∙◌, ap, sym, refl, subst, inl, inr, ℕ, suc, ◌+◌, ◌*◌, bit_xor, slice_index, slice_get, List, [], ◌∷◌, drop, map, Result, Ok, Err}
use Rattle.std.specs.Str.Lines.{lines}
use Rattle.lists.specs.Lists.{Has}
use Rattle.lists.specs.laws.OptionLaws.{same_some}
use Rattle.outcome.specs.Outcome.{Outcome, Determined}
use Rattle.gf_field.specs.Field.{HasNoZeroDivisors}
use Rattle.gf_field.specs.Ring.{IsRing}
use Rattle.gf_basis.specs.BasisParts.{elements_of, duals_of, IsBasisOver}
use Rattle.gf_basis.specs.Dual.{AreDual}
use Rattle.gf_basis.specs.declared.bases.Basis.{Basis}
use Rattle.gf_basis.proofs.BasisLaws.{dual_unique}
use Rattle.net_core.specs.NetList.{NetList, nets}
use Rattle.net_words.specs.Binding.{BoundNet}
use Rattle.poly_mixed.specs.Labels.{Labelling}
use Rattle.poly_mixed.specs.Polynomial.{Point, Terms, value}
use Rattle.poly_mixed.specs.Steps.{Step}
use Rattle.poly_mixed.specs.declared.steps.Generator.{Generator}
use Rattle.poly_mixed.specs.declared.steps.Generator.TheVariants.{Net, Bit}
use Rattle.cert_check.specs.Certificate.{Certificate, Said, pairs, shares, ends, begun, with_pair, with_shared, AfterLine, CertificateBy, LinesOf}
use Rattle.irreducible.specs.Span.{combination}
use Rattle.net_words.specs.BoundTo.{output_bits}
use Rattle.net_words.specs.Variables.{variables}
use Rattle.poly_mixed.specs.Table.{index}
use Rattle.circuit_model.specs.OfBinding.{words_of, output_basis}
use Rattle.cert_check.specs.Running.{bit_value, dual_at, dual_form, generator_value, net_bit, products, running}
use Rattle.cert_check.specs.Verdict.{Verdict, valid, invalid, AsksAtMost, Check, IsRunningSum, VerdictOn}
use Rattle.cert_check.specs.declared.fault.CertFault.{CertFault}
use Rattle.cert_check.proofs.DeterminedLemmas.{one_verdict}
use Rattle.job_input.specs.SettingSound.{IsSoundSetting}
use Rattle.job_input.specs.SettingValue.{SettingValue}
use Rattle.answer_certificates.specs.Certificates.{HaveDuals, certificate_labels, sum_fault}
use Rattle.answer_certificates.specs.Verify.{VerdictOf}

-- ---- what is asked of a certificate, in place of what asks less

module _ (k : ℕ) (net : NetList) (labels : Labelling) (Asks Other : ℕ → Certificate → Outcome CertFault (Unit {0})) (each : (n : ℕ) (c : Certificate) (r : Result (Unit {0}) CertFault) → Asks n c r → Other n c r) where
  after_asked : (n : ℕ) (said : Said) (more : List (List ℕ)) (c : Certificate) (First Second : Certificate → Outcome CertFault Certificate) → ((d : Certificate) (r : Result Certificate CertFault) → First d r → Second d r) → (r : Result Certificate CertFault) → AfterLine k net labels Asks n said more c First r → AfterLine k net labels Other n said more c Second r
  after_asked n ends more c First Second rest r is = is
  after_asked n (shares m) more c First Second rest r is = rest (with_shared c m) r is
  after_asked n (pairs g m) more c First Second rest (Ok d) (met, asked, is) = (met, each n (with_pair c g m) (Ok met) asked, rest (with_pair c g m) (Ok d) is)
  after_asked n (pairs g m) more c First Second rest (Err f) (inl asked) = inl (each n (with_pair c g m) (Err f) asked)
  after_asked n (pairs g m) more c First Second rest (Err f) (inr (met, asked, is)) = inr (met, each n (with_pair c g m) (Ok met) asked, rest (with_pair c g m) (Err f) is)

  lines_asked : (version : ℕ) (whole : List (List ℕ)) (n : ℕ) (c : Certificate) (r : Result Certificate CertFault) → LinesOf k net labels Asks version whole n c r → LinesOf k net labels Other version whole n c r
  lines_asked version [] n c r is = is
  lines_asked version (line ∷ more) n c (Ok d) (said, here, is) = (said, here, after_asked n said more c (LinesOf k net labels Asks version more (n + 1)) (LinesOf k net labels Other version more (n + 1)) (lines_asked version more (n + 1)) (Ok d) is)
  lines_asked version (line ∷ more) n c (Err f) (inl here) = inl here
  lines_asked version (line ∷ more) n c (Err f) (inr (said, here, is)) = inr (said, here, after_asked n said more c (LinesOf k net labels Asks version more (n + 1)) (LinesOf k net labels Other version more (n + 1)) (lines_asked version more (n + 1)) (Err f) is)

  certificate_asked : (bytes : List ℕ) (r : Result Certificate CertFault) → CertificateBy k net labels Asks bytes r → CertificateBy k net labels Other bytes r
  certificate_asked bytes (Ok d) (head, is, (met, asked, rest)) = (head, is, (met, each 2 (begun head.1) (Ok met) asked, lines_asked head.0 (drop 2 (lines bytes)) 3 (begun head.1) (Ok d) rest))
  certificate_asked bytes (Err f) (inl is) = inl is
  certificate_asked bytes (Err f) (inr (head, is, inl asked)) = inr (head, is, inl (each 2 (begun head.1) (Err f) asked))
  certificate_asked bytes (Err f) (inr (head, is, inr (met, asked, rest))) = inr (head, is, inr (met, each 2 (begun head.1) (Ok met) asked, lines_asked head.0 (drop 2 (lines bytes)) 3 (begun head.1) (Err f) rest))

-- ---- bases with one list of elements have one list of duals

same_ends : {A : Type 0} (x y : A) (xs ys : List A) → x ∷ xs ≡ y ∷ ys → (x ≡ y) × (xs ≡ ys)
same_ends {A} x y xs ys e = (cc, cc)

module _ (k : ℕ) (mul : ℕ → ℕ → ℕ) (ring : IsRing k mul) (field : HasNoZeroDivisors k mul) where
  one_duals : (bases others : List Basis) → ((b : Basis) → Has bases b → IsBasisOver k mul b) → ((b : Basis) → Has others b → IsBasisOver k mul b) → map elements_of bases ≡ map elements_of others → map duals_of bases ≡ map duals_of others
  one_duals [] [] first second same = refl
  one_duals [] (b ∷ bs) first second same = absurd (cc)
  one_duals (a ∷ rest) [] first second same = absurd (cc)
  one_duals (a ∷ rest) (b ∷ bs) first second same =
      let parts = same_ends (elements_of a) (elements_of b) (map elements_of rest) (map elements_of bs) same in
      let over = first a (0, refl) in
      let more = second b (0, refl) in
      let P : List ℕ → Type 0 = λ es. AreDual k mul es (duals_of b) in
      let head : duals_of a ≡ duals_of b = dual_unique k mul ring field (elements_of a) (duals_of a) (duals_of b) over.elements over.dual (subst P (sym parts.0) more.dual) in
      let later = one_duals rest bs (λ c has. first c (suc has.0, has.1)) (λ c has. second c (suc has.0, has.1)) parts.1 in
      (λ i. head i ∷ later i)

-- ---- the running sum speaks of elements and duals alone

-- the generator of a bit, by the dual bases
abbrev bit_of_duals : ℕ → (ℕ → ℕ → ℕ) → BoundNet → List (List ℕ) → ℕ → ℕ → Point → ℕ
bit_of_duals k mul bound duals w i p = bit_xor (bit_value (p.is_one (k * w + i))) (dual_form k mul (dual_at (slice_get (words_of bound.binding.words duals) w) i) (slice_index p.words w))

module _ (k : ℕ) (mul : ℕ → ℕ → ℕ) (bound : BoundNet) (bases others : List Basis) (elements : map elements_of bases ≡ map elements_of others) (duals : map duals_of bases ≡ map duals_of others) where
  same_generator : (g : Generator) (p : Point) → generator_value k mul bound bases g p ≡ generator_value k mul bound others g p
  same_generator (Net n) p = refl
  same_generator (Bit w i) p = ap (λ (ds : List (List ℕ)). bit_of_duals k mul bound ds w i p) duals

  same_products : (steps : List Step) (p : Point) → products k mul bound bases steps p ≡ products k mul bound others steps p
  same_products [] p = refl
  same_products (s ∷ steps) p = (λ i. bit_xor (mul (same_generator s.0 p i) (value mul p s.1)) (same_products steps p i))

  same_running : (c : Certificate) (p : Point) → running k mul bound bases c p ≡ running k mul bound others c p
  same_running c p =
      (λ i. bit_xor (bit_xor (combination (output_basis bound.binding.words (elements i)) (index (net_bit (variables (nets bound.net) bound.binding.words) p) (output_bits bound.binding.words))) (value mul p c.claim)) (same_products c.pairs p i))

  same_sum : (c : Certificate) (sum : Terms) → IsRunningSum k mul bound bases c sum → IsRunningSum k mul bound others c sum
  same_sum c sum is = record { reduced = is.reduced; values = λ p at. is.values p at ∙ same_running c p }

  same_asks : (most n : ℕ) (c : Certificate) (r : Result (Unit {0}) CertFault) → AsksAtMost k mul bound bases most n c r → AsksAtMost k mul bound others most n c r
  same_asks most n c (Ok met) (sum, is, few) = (sum, same_sum c sum is, few)
  same_asks most n c (Err fault) (sum, is, many, same) = (sum, same_sum c sum is, many, same)

  same_on : (c : Certificate) (r : Result Verdict CertFault) → VerdictOn k mul bound bases c r → VerdictOn k mul bound others c r
  same_on c (Ok (valid claim)) is = (is.0, same_sum c [] is.1)
  same_on c (Ok (invalid remaining)) (sum, is, some, same) = (sum, same_sum c sum is, some, same)
  same_on c (Err fault) is = absurd is

  -- so a verdict over one list of bases is one over the other
  pub same_check : (labels : Labelling) (most : ℕ) (bytes : List ℕ) (r : Result Verdict CertFault) → Check k mul bound bases labels most bytes r → Check k mul bound others labels most bytes r
  same_check labels most bytes (Ok v) (c, read, is) = (c, certificate_asked k bound.net labels (AsksAtMost k mul bound bases most) (AsksAtMost k mul bound others most) (same_asks most) bytes (Ok c) read, same_on c (Ok v) is)
  same_check labels most bytes (Err f) (inl read) = inl (certificate_asked k bound.net labels (AsksAtMost k mul bound bases most) (AsksAtMost k mul bound others most) (same_asks most) bytes (Err f) read)
  same_check labels most bytes (Err f) (inr (c, read, is)) = inr (c, certificate_asked k bound.net labels (AsksAtMost k mul bound bases most) (AsksAtMost k mul bound others most) (same_asks most) bytes (Ok c) read, same_on c (Err f) is)

-- ---- at most one verdict or fault

module _ (setting : SettingValue) (circuit : BoundNet) (sound : IsSoundSetting setting) where
  -- a verdict over any bases of the setting is one over others of it
  pub moved : (bases others : List Basis) → HaveDuals setting circuit bases → HaveDuals setting circuit others → (most : ℕ) (bytes : List ℕ) (r : Result Verdict CertFault) → Check setting.k setting.product circuit bases (certificate_labels setting circuit) most bytes r → Check setting.k setting.product circuit others (certificate_labels setting circuit) most bytes r
  moved bases others first second most bytes r is =
      let elements : map elements_of bases ≡ map elements_of others = first.elements ∙ sym second.elements in
      let duals = one_duals setting.k setting.product sound.ring sound.field bases others first.are.each second.are.each elements in
      same_check setting.k setting.product circuit bases others elements duals (certificate_labels setting circuit) most bytes r is

  one_of : (bases others : List Basis) → HaveDuals setting circuit bases → HaveDuals setting circuit others → (most : ℕ) (bytes : List ℕ) (r s : Result Verdict CertFault) → Check setting.k setting.product circuit bases (certificate_labels setting circuit) most bytes r → Check setting.k setting.product circuit others (certificate_labels setting circuit) most bytes s → r ≡ s
  one_of bases others first second most bytes r s a b =
      one_verdict setting.k setting.product sound.ring sound.field circuit others (certificate_labels setting circuit) most bytes r s (moved bases others first second most bytes r a) b

  same_ok : (v w : Verdict) → ◌≡◌ {A = Result Verdict CertFault} (Ok v) (Ok w) → v ≡ w
  same_ok v w e = cc

  same_err : (f g : CertFault) → ◌≡◌ {A = Result Verdict CertFault} (Err f) (Err g) → f ≡ g
  same_err f g e = cc

  apart : (v : Verdict) (f : CertFault) → ◌≡◌ {A = Result Verdict CertFault} (Ok v) (Err f) → ⊥
  apart v f e = cc

  pub verdict_determined : (most : ℕ) (bytes : List ℕ) → Determined (VerdictOf setting circuit most bytes)
  verdict_determined most bytes (Ok v) (Ok w) (bases, a, is) (others, b, are) = ap Ok (same_ok v w (one_of bases others a b most bytes (Ok v) (Ok w) is are))
  verdict_determined most bytes (Ok v) (Err f) (bases, a, is) (others, b, found, are, same) = absurd (apart v found (one_of bases others a b most bytes (Ok v) (Err found) is are))
  verdict_determined most bytes (Err f) (Ok w) (bases, a, found, is, same) (others, b, are) = absurd (apart w found (one_of others bases b a most bytes (Ok w) (Err found) are is))
  verdict_determined most bytes (Err f) (Err g) (bases, a, found, is, same) (others, b, found', are, same') =
      let equal : found ≡ found' = same_err found found' (one_of bases others a b most bytes (Err found) (Err found') is are) in
      ap Err (same_some f g (sym same ∙ (ap (sum_fault most) equal ∙ same')))
