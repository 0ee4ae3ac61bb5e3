-- What the text of a certificate says can be written, and an upgraded text says the same.
use Rattle.std.proofs.Common.{◌≡◌, ◌∙◌, ap, sym, refl, subst, ℕ, zero, suc, ◌+◌, ◌<◌, ◌≤◌, ◌^◌, ◌==◌, true, false, cond, List, [], ◌∷◌, ◌++◌, length, drop, Option, Some, None, Result, Ok, Err, slice_get, arith}
use Rattle.std.specs.List.{AllByRecursion, slice_split, onto_first}
use Rattle.std.specs.Str.Lines.{lines, lines_of_parts}
use Rattle.std.proofs.lemmas.List.{length-append}
use Rattle.lists.specs.laws.ListLaws.{all_append}
use Rattle.outcome.specs.Outcome.{Outcome}
use Rattle.text_core.specs.Numbers.{value_of}
use Rattle.gf_field.specs.Field.{HasNoZeroDivisors}
use Rattle.gf_field.specs.Ring.{IsRing}
use Rattle.gf_field.specs.laws.RootsLaws.{HasFewRoots-from_field}
use Rattle.gf_basis.specs.declared.bases.Basis.{Basis}
use Rattle.net_core.specs.NetList.{NetList}
use Rattle.net_words.specs.Binding.{BoundNet}
use Rattle.poly_mixed.specs.Labels.{Labelling}
use Rattle.poly_mixed.specs.Polynomial.{Terms}
use Rattle.poly_mixed.specs.Steps.{Step}
use Rattle.poly_mixed.specs.TextOutcome.{IsRead}
use Rattle.poly_mixed.specs.laws.TextLaw.{IsWritten}
use Rattle.poly_mixed.specs.declared.steps.Generator.{Generator}
use Rattle.poly_mixed.specs.declared.steps.Generator.TheVariants.{Net, Bit}
use Rattle.poly_mixed.proofs.FieldLaws.{field_of}
use Rattle.poly_mixed.proofs.RootLemmas.{independent}
use Rattle.poly_mixed.proofs.UniquenessLemmas.{unique}
use Rattle.cert_check.specs.Certificate.{Said, pairs, shares, ends, Certificate, begun, with_shared, with_pair, shared_or, shared_by, after_hash, MultiplierBy, MultiplierOf, ClaimOf, FirstLine, NoLine, SaidBy, AfterLine, LinesOf, CertificateBy, CertificateOf, AsksNothing}
use Rattle.cert_check.specs.Frame.{Frame, pair_of, share_of, end_of, frame_of}
use Rattle.cert_check.specs.Scan.{is_blank, digits_first}
use Rattle.cert_check.specs.Verdict.{Verdict, valid, invalid, IsRunningSum, AsksAtMost, VerdictOn, Check}
use Rattle.cert_check.specs.private.Reading.{IsGenerator}
use Rattle.cert_check.specs.declared.fault.CertFault.{CertFault}
use Rattle.cert_check.specs.declared.fault.LineFault.{LineFault}
use Rattle.cert_check.specs.declared.fault.LineFault.TheVariants.{Syntax}
use Rattle.cert_check.proofs.DeterminedLemmas.{one_certificate}
use Rattle.cert_check.proofs.FrameLemmas.{frame_generator}
use Rattle.cert_check.proofs.WordsAloneLemmas.{no_bits}
use Rattle.cert_make.specs.CertText.{cert_text}
use Rattle.cert_make.specs.Sharing.{shares_of}
use Rattle.cert_make.specs.Upgrade.{UpgradeOf}
use Rattle.cert_make.specs.Writable.{IsWritable, IsWritablePair, IsOfNet, HasName, HaveNumbers}
use Rattle.cert_make.specs.laws.ReadBack.{AreAlike, WrittenIsRead}
use Rattle.cert_make.proofs.NamedLemmas.{read_written}
use Rattle.cert_make.proofs.ReadBackLemmas.{text_read}

-- ---- how many lines there are

onto_long : (b : ℕ) (ps : List (List ℕ)) (n : ℕ) → length ps ≤ n → 1 ≤ n → length (onto_first b ps) ≤ n
onto_long b [] n most some = some
onto_long b (p ∷ ps) n most some = most

split_long : (bs : List ℕ) → length (slice_split (λ b. b == 10) bs) ≤ length bs + 1
split_long [] = omega arith
split_long (b ∷ bs) =
    let rest = split_long bs in
    elim (b == 10) as (λ v. length (cond v ([] ∷ slice_split (λ b. b == 10) bs) (onto_first b (slice_split (λ b. b == 10) bs))) ≤ length (b ∷ bs) + 1) [
      | true ↦ omega (arith, rest)
      | false ↦ onto_long b (slice_split (λ b. b == 10) bs) (length (b ∷ bs) + 1) (omega (arith, rest)) (omega arith)
    ]

parts_long : (ps : List (List ℕ)) → length (lines_of_parts ps) ≤ length ps
parts_long [] = omega arith
parts_long (x ∷ []) = elim (length x == 0) as (λ v. length (cond v [] (x ∷ [])) ≤ 1) [ true ↦ omega arith | false ↦ omega arith ]
parts_long (x ∷ y ∷ more) = let rest = parts_long (y ∷ more) in omega (arith, rest)

lines_long : (bs : List ℕ) → length (lines bs) ≤ length bs + 1
lines_long bs = omega (arith, parts_long (slice_split (λ b. b == 10) bs), split_long bs)

drop_long : {A : Type 0} (n : ℕ) (xs : List A) → length (drop n xs) ≤ length xs
drop_long zero xs = omega arith
drop_long (suc n) [] = omega arith
drop_long (suc n) (x ∷ xs) = let rest = drop_long n xs in omega (arith, rest)

-- ---- what a text says

module _ (k : ℕ) (net : NetList) (l : Labelling) (are : HaveNumbers k net l) where
  of_net : (g : Generator) → IsGenerator net l g → IsOfNet net l g
  of_net (Net n) is = is
  of_net (Bit w i) is = is

  has_name : (g : Generator) → IsOfNet net l g → HasName l g
  has_name (Net n) is = let less = is.0 in let few = are.few in omega (arith, less, few)
  has_name (Bit w i) is = is.0

  -- the claim and the multipliers can be written, and the generators are there
  pub record IsGood (c : Certificate) : Type 0 where
    claim : IsWritten l k c.claim
    words : AllByRecursion (λ t. t.0.bits ≡ []) c.claim
    shared : AllByRecursion (IsWritten l k) c.shared
    pairs : AllByRecursion (IsWritablePair l k) c.pairs
    there : AllByRecursion (λ s. IsOfNet net l s.0) c.pairs

  shared_there : (before : List Terms) (n : ℕ) (m : Terms) → AllByRecursion (IsWritten l k) before → slice_get before n ≡ Some m → IsWritten l k m
  shared_there [] n m all at = absurd (cc)
  shared_there (x ∷ xs) zero m all at = let same : x ≡ m = cc in let P : Terms → Type 0 = IsWritten l k in subst P same all.0
  shared_there (x ∷ xs) (suc n) m all at = shared_there xs n m all.1 at

  by_number : (before : List Terms) (o : Option (List ℕ × List ℕ)) (m : Terms) → AllByRecursion (IsWritten l k) before → ◌≡◌ {A = Result Terms LineFault} (Ok m) (shared_by before o) → IsWritten l k m
  by_number before None m all is = absurd (cc)
  by_number before (Some found) m all is =
      (elim (is_blank found.1) as (λ v. ◌≡◌ {A = Result Terms LineFault} (Ok m) (cond v (shared_or (slice_get before (value_of 10 found.0))) (Err Syntax)) → IsWritten l k m) [
        | true ↦ λ e. (elim (slice_get before (value_of 10 found.0)) as (λ o. slice_get before (value_of 10 found.0) ≡ o → ◌≡◌ {A = Result Terms LineFault} (Ok m) (shared_or o) → IsWritten l k m) [
          | None ↦ λ at f. absurd (cc)
          | Some x ↦ λ at f. (let same : m ≡ x = cc in shared_there before (value_of 10 found.0) m all (at ∙ ap Some (sym same)))
        ]) refl e
        | false ↦ λ e. absurd (cc)
      ]) is

  polynomial_written : (text : List ℕ) (m : Terms) → IsRead l k text m → IsWritten l k m
  polynomial_written text m is = read_written l k text m are.some are.small are.are_labels are.ranks is

  multiplier_written : (version : ℕ) (before : List Terms) (text : List ℕ) (m : Terms) → AllByRecursion (IsWritten l k) before → MultiplierOf k l version before text (Ok m) → IsWritten l k m
  multiplier_written version before text m all is = by_text (after_hash version text) is
    where
      by_text : (o : Option (List ℕ)) → MultiplierBy k l before o text (Ok m) → IsWritten l k m
      by_text None is = polynomial_written text m is
      by_text (Some rest) is = by_number before (digits_first rest) m all is

  pair_good : (c : Certificate) (g : Generator) (m : Terms) → IsOfNet net l g → IsWritten l k m → IsGood c → IsGood (with_pair c g m)
  pair_good c g m of is good = record {
    claim = good.claim;
    words = good.words;
    shared = good.shared;
    pairs = all_append (IsWritablePair l k) c.pairs ((g, m) ∷ []) good.pairs ((has_name g of, is), tt);
    there = all_append (λ (s : Step). IsOfNet net l s.0) c.pairs ((g, m) ∷ []) good.there (of, tt);
  }

  share_good : (c : Certificate) (m : Terms) → IsWritten l k m → IsGood c → IsGood (with_shared c m)
  share_good c m is good = record { claim = good.claim; words = good.words; shared = all_append (IsWritten l k) c.shared (m ∷ []) good.shared (is, tt); pairs = good.pairs; there = good.there }

  -- what a line says
  IsSaid : List Terms → Said → Type 0
  IsSaid before (pairs g m) = IsOfNet net l g × IsWritten l k m
  IsSaid before (shares m) = IsWritten l k m
  IsSaid before ends = Unit {0}

  said_good : (version : ℕ) (before : List Terms) (frame : Frame) (said : Said) (line : List ℕ) → AllByRecursion (IsWritten l k) before → ◌≡◌ {A = Result Frame LineFault} (Ok frame) (frame_of net l version (length before) line) → SaidBy k net l version before frame (Ok said) → IsSaid before said
  unfolding IsSaid
  said_good version before (pair_of g text) said line all is by =
      let P : Said → Type 0 = IsSaid before in
      subst P (sym by.2) (of_net g (frame_generator net l version (length before) line (pair_of g text) is), multiplier_written version before text by.0 all by.1)
  said_good version before (share_of text) said line all is by =
      let P : Said → Type 0 = IsSaid before in
      subst P (sym by.2) (polynomial_written text by.0 by.1)
  said_good version before end_of said line all is by = let P : Said → Type 0 = IsSaid before in subst P (sym by) tt

  no_more : (n : ℕ) (more : List (List ℕ)) (c d : Certificate) → NoLine n more c (Ok d) → d ≡ c
  no_more n [] c d is = is
  no_more n (line ∷ more) c d is = absurd is

  claim_good : (ls : List (List ℕ)) (claim : Terms) → FirstLine 2 (ClaimOf k l) ls (Ok claim) → IsWritten l k claim × AllByRecursion (λ t. t.0.bits ≡ []) claim
  claim_good [] claim is = absurd is
  claim_good (line ∷ more) claim is =
      let words = is.2 in
      (polynomial_written is.0 claim words.0, no_bits l k is.0 claim words.1 words.0)

  module _ (Asks : ℕ → Certificate → Outcome CertFault (Unit {0})) where
    -- what a line adds, and then the lines after it
    after_good : (n : ℕ) (said : Said) (more : List (List ℕ)) (c d : Certificate) (Rest : Certificate → Outcome CertFault Certificate) → ((x : Certificate) → IsGood x → Rest x (Ok d) → IsGood d × (length d.pairs ≤ length x.pairs + length more))
        → IsGood c → IsSaid c.shared said → AfterLine k net l Asks n said more c Rest (Ok d) → IsGood d × (length d.pairs ≤ length c.pairs + suc (length more))
    unfolding IsSaid
    after_good n (pairs g m) more c d Rest rest good has (met, asked, later) =
        let after = rest (with_pair c g m) (pair_good c g m has.0 has.1 good) later in
        let long : length (c.pairs ++ (g, m) ∷ []) ≡ length c.pairs + 1 = length-append c.pairs ((g, m) ∷ []) in
        (after.0, (let most = after.1 in omega (arith, most, long)))
    after_good n (shares m) more c d Rest rest good has later =
        let after = rest (with_shared c m) (share_good c m has good) later in
        (after.0, (let most = after.1 in omega (arith, most)))
    after_good n ends more c d Rest rest good has done =
        let same : d ≡ c = no_more (n + 1) more c d done in
        let P : Certificate → Type 0 = IsGood in
        let long : length d.pairs ≡ length c.pairs = ap (λ (x : Certificate). length x.pairs) same in
        (subst P (sym same) good, omega (arith, long))

    -- all lines, and how many pairs they add
    lines_good : (version : ℕ) (ls : List (List ℕ)) (n : ℕ) (c d : Certificate) → IsGood c → LinesOf k net l Asks version ls n c (Ok d) → IsGood d × (length d.pairs ≤ length c.pairs + length ls)
    lines_good version [] n c d good is = absurd is
    lines_good version (line ∷ more) n c d good (said, by, after) =
        after_good n said more c d (LinesOf k net l Asks version more (n + 1)) (λ x good' later. lines_good version more (n + 1) x d good' later) good (said_good version c.shared by.0 said line good.shared by.1 by.2) after

    -- what a text says can be written
    pub text_good : (bytes : List ℕ) (c : Certificate) → CertificateBy k net l Asks bytes (Ok c) → IsGood c × (length c.pairs ≤ length bytes + 1)
    text_good bytes c (head, read, (met, asked, later)) =
        let claim = read.2 in
        let both = claim_good (drop 1 (lines bytes)) claim.0 claim.1 in
        let same : head.1 ≡ claim.0 = ap (λ (h : ℕ × Terms). h.1) claim.2 in
        let P : Terms → Type 0 = λ ts. IsWritten l k ts × AllByRecursion (λ t. t.0.bits ≡ []) ts in
        let moved = subst P (sym same) both in
        let start : IsGood (begun head.1) = record { claim = moved.0; words = moved.1; shared = tt; pairs = tt; there = tt } in
        let rest = lines_good head.0 (drop 2 (lines bytes)) 3 (begun head.1) c start later in
        (rest.0, (let most = rest.1 in omega (arith, most, drop_long 2 (lines bytes), lines_long bytes)))

    -- a certificate of which nothing else is asked
    lines_free : (version : ℕ) (ls : List (List ℕ)) (n : ℕ) (c d : Certificate) → LinesOf k net l Asks version ls n c (Ok d) → LinesOf k net l (AsksNothing k net l) version ls n c (Ok d)
    lines_free version [] n c d is = is
    lines_free version (line ∷ more) n c d (pairs g m, by, after) = (pairs g m, by, (tt, refl, lines_free version more (n + 1) (with_pair c g m) d after.2))
    lines_free version (line ∷ more) n c d (shares m, by, after) = (shares m, by, lines_free version more (n + 1) (with_shared c m) d after)
    lines_free version (line ∷ more) n c d (ends, by, after) = (ends, by, after)

    pub text_free : (bytes : List ℕ) (c : Certificate) → CertificateBy k net l Asks bytes (Ok c) → CertificateOf k net l bytes (Ok c)
    text_free bytes c (head, read, (met, asked, later)) = (head, read, (tt, refl, lines_free head.0 (drop 2 (lines bytes)) 3 (begun head.1) c later))

  -- what can be written of it
  pub good_writable : (c : Certificate) → IsGood c → IsWritable l k c.claim c.pairs × AllByRecursion (λ t. t.0.bits ≡ []) c.claim × AllByRecursion (λ s. IsOfNet net l s.0) c.pairs
  good_writable c good = (record { claimed = good.claim; each = good.pairs }, good.words, good.there)

  -- the text in version 2 of a certificate says the same
  again : (bytes : List ℕ) (c : Certificate) → length bytes < 2 ^ 32 → CertificateOf k net l bytes (Ok c) → CertificateOf k net l (cert_text l c.claim c.pairs) (Ok (record { claim = c.claim; shared = shares_of c.pairs; pairs = c.pairs }))
  again bytes c short is =
      let good = text_good (AsksNothing k net l) bytes c is in
      let can = good_writable c good.0 in
      text_read k net l are.are_labels c.pairs c.claim (AsksNothing k net l) (λ n shared front back e. refl) can.0 can.1 can.2 (let most = good.1 in omega (arith, most, short))

  pub keeps_pairs : (bytes upgraded : List ℕ) → length bytes < 2 ^ 32 → UpgradeOf k net l bytes (Ok upgraded)
      → (c : Certificate) × (d : Certificate) × CertificateOf k net l bytes (Ok c) × CertificateOf k net l upgraded (Ok d) × AreAlike c d
  keeps_pairs bytes upgraded short (c, is, same) =
      let d : Certificate = record { claim = c.claim; shared = shares_of c.pairs; pairs = c.pairs } in
      let P : List ℕ → Type 0 = λ text. CertificateOf k net l text (Ok d) in
      (c, d, is, subst P (sym same) (again bytes c short is), record { claim = refl; pairs = refl })

module _ (k : ℕ) (mul : ℕ → ℕ → ℕ) (ring : IsRing k mul) (field : HasNoZeroDivisors k mul) (bound : BoundNet) (bases : List Basis) where
  one_sum : (c : Certificate) (ts us : Terms) → IsRunningSum k mul bound bases c ts → IsRunningSum k mul bound bases c us → ts ≡ us
  one_sum c ts us a b =
      let f = field_of k mul ring field in
      unique f (independent f (HasFewRoots-from_field k mul ring field)) ts us a.reduced b.reduced (λ p at. a.values p at ∙ sym (b.values p at))

  verdict_one : (c : Certificate) (x y : Verdict) → VerdictOn k mul bound bases c (Ok x) → VerdictOn k mul bound bases c (Ok y) → x ≡ y
  verdict_one c (valid x) (valid y) h m = ap valid (h.0 ∙ sym m.0)
  verdict_one c (valid x) (invalid n) h (ts, b, some, is) = absurd (some (one_sum c ts [] b h.1))
  verdict_one c (invalid n) (valid y) (ts, b, some, is) m = absurd (some (one_sum c ts [] b m.1))
  verdict_one c (invalid n) (invalid m) (ts, a, some, is) (us, b, some', is') = ap invalid (is ∙ (ap length (one_sum c ts us a b) ∙ sym is'))

  -- the shared multipliers don't count
  verdict_alike : (c d : Certificate) (v : Verdict) → c.claim ≡ d.claim → c.pairs ≡ d.pairs → VerdictOn k mul bound bases d (Ok v) → VerdictOn k mul bound bases c (Ok v)
  verdict_alike c d (valid ts) claim steps is =
      let P : Terms → List Step → Type 0 = λ x ps. VerdictOn k mul bound bases (record { claim = x; shared = c.shared; pairs = ps }) (Ok (valid ts)) in
      let Q : Terms → Type 0 = λ x. P x c.pairs in
      let R : List Step → Type 0 = P d.claim in
      subst Q (sym claim) (subst R (sym steps) is)
  verdict_alike c d (invalid n) claim steps is =
      let P : Terms → List Step → Type 0 = λ x ps. VerdictOn k mul bound bases (record { claim = x; shared = c.shared; pairs = ps }) (Ok (invalid n)) in
      let Q : Terms → Type 0 = λ x. P x c.pairs in
      let R : List Step → Type 0 = P d.claim in
      subst Q (sym claim) (subst R (sym steps) is)

  pub keeps_verdict : (l : Labelling) (most other : ℕ) (bytes upgraded : List ℕ) (first second : Verdict) → HaveNumbers k bound.net l → length bytes < 2 ^ 32 → UpgradeOf k bound.net l bytes (Ok upgraded)
      → Check k mul bound bases l most bytes (Ok first) → Check k mul bound bases l other upgraded (Ok second) → first ≡ second
  keeps_verdict l most other bytes upgraded first second are short up (c, one, is) (d, two, also) =
      let kept = keeps_pairs k bound.net l are bytes upgraded short up in
      let alike = kept.4 in
      let read = text_free k bound.net l are (AsksAtMost k mul bound bases most) bytes c one in
      let again = text_free k bound.net l are (AsksAtMost k mul bound bases other) upgraded d two in
      let same : c ≡ kept.0 = one_ok c kept.0 (one_certificate k bound.net l bytes (Ok c) (Ok kept.0) read kept.2) in
      let same' : d ≡ kept.1 = one_ok d kept.1 (one_certificate k bound.net l upgraded (Ok d) (Ok kept.1) again kept.3) in
      let claims : c.claim ≡ d.claim = ap (λ (x : Certificate). x.claim) same ∙ alike.claim ∙ sym (ap (λ (x : Certificate). x.claim) same') in
      let pairs_same : c.pairs ≡ d.pairs = ap (λ (x : Certificate). x.pairs) same ∙ alike.pairs ∙ sym (ap (λ (x : Certificate). x.pairs) same') in
      verdict_one c first second is (verdict_alike c d second claims pairs_same also)
    where
      one_ok : (a b : Certificate) → ◌≡◌ {A = Result Certificate CertFault} (Ok a) (Ok b) → a ≡ b
      one_ok a b e = cc

pub written_is_read : WrittenIsRead
written_is_read k net l claim all written none of low = text_read k net l written.claimed.labels all claim (AsksNothing k net l) (λ n shared front back e. refl) written none of low
