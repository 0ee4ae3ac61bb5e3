-- What holds of a certificate that a text says: its generators are there, and its claim is in words alone.
use Rattle.std.proofs.Common.{◌≡◌, ◌∙◌, ap, sym, refl, subst, ℕ, ◌+◌, ◌≤◌, List, [], ◌∷◌, ◌++◌, length, drop, Ok}
use Rattle.std.specs.List.{AllByRecursion}
use Rattle.std.specs.Str.Lines.{lines}
use Rattle.outcome.specs.Outcome.{Outcome}
use Rattle.net_core.specs.NetList.{NetList}
use Rattle.poly_mixed.specs.Labels.{Labelling}
use Rattle.poly_mixed.specs.Polynomial.{Terms, IsReduced}
use Rattle.poly_mixed.specs.Steps.{Step}
use Rattle.poly_mixed.specs.declared.steps.Generator.{Generator}
use Rattle.poly_mixed.proofs.ReadReducedLemmas.{read_reduced}
use Rattle.cert_check.specs.Frame.{pair_of, share_of, end_of}
use Rattle.cert_check.specs.Certificate.{pairs, shares, ends, Certificate, begun, with_shared, with_pair, NoLine, FirstLine, ClaimOf, LineOf, LinesOf, CertificateBy}
use Rattle.cert_check.specs.declared.fault.CertFault.{CertFault}
use Rattle.cert_check.specs.private.Reading.{IsGenerator}
use Rattle.cert_check.proofs.FrameLemmas.{frame_generator}
use Rattle.cert_check.proofs.WordsAloneLemmas.{no_bits}

module _ (k : ℕ) (net : NetList) (labels : Labelling) where
  -- the generators of the pairs are there
  abbrev pub HaveGenerators : List Step → Type 0
  HaveGenerators steps = AllByRecursion (λ s. IsGenerator net labels s.0) steps

  one_more : (steps : List Step) (g : Generator) (m : Terms) → HaveGenerators steps → IsGenerator net labels g → HaveGenerators (steps ++ (g, m) ∷ [])
  one_more [] g m all is = (is, tt)
  one_more (s ∷ steps) g m all is = (all.0, one_more steps g m all.1 is)

  pair_generator : (version : ℕ) (shared : List Terms) (line : List ℕ) (g : Generator) (m : Terms) → LineOf k net labels version shared line (Ok (pairs g m)) → IsGenerator net labels g
  pair_generator version shared line g m (pair_of h text, is, (n, comes, same)) =
      let equal : g ≡ h = cc in
      let P : Generator → Type 0 = IsGenerator net labels in
      subst P (sym equal) (frame_generator net labels version (length shared) line (pair_of h text) is)
  pair_generator version shared line g m (share_of text, is, (n, comes, same)) = absurd (cc)
  pair_generator version shared line g m (end_of, is, same) = absurd (cc)

  -- what lines keep: the claim, and that the generators are there
  pub record IsFrom (before after : Certificate) : Type 0 where
    pub claim : after.claim ≡ before.claim
    pub generators : HaveGenerators before.pairs → HaveGenerators after.pairs

  module _ (Asks : ℕ → Certificate → Outcome CertFault (Unit {0})) (version : ℕ) where
    ended : (n : ℕ) (more : List (List ℕ)) (c d : Certificate) → NoLine n more c (Ok d) → IsFrom c d
    ended n [] c d is = let P : Certificate → Type 0 = IsFrom c in subst P (sym is) (record { claim = refl; generators = λ h. h })
    ended n (line ∷ more) c d is = absurd is

    pub lines_from : (whole : List (List ℕ)) (n : ℕ) (c d : Certificate) → LinesOf k net labels Asks version whole n c (Ok d) → IsFrom c d
    lines_from [] n c d is = absurd is
    lines_from (line ∷ more) n c d (ends, here, rest) = ended (n + 1) more c d rest
    lines_from (line ∷ more) n c d (shares m, here, rest) =
        let later = lines_from more (n + 1) (with_shared c m) d rest in
        record { claim = later.claim; generators = later.generators }
    lines_from (line ∷ more) n c d (pairs g m, here, (met, asked, rest)) =
        let later = lines_from more (n + 1) (with_pair c g m) d rest in
        record { claim = later.claim; generators = λ h. later.generators (one_more c.pairs g m h (pair_generator version c.shared line g m here)) }

  -- a polynomial over the field in words alone
  pub record IsClaim (claim : Terms) : Type 0 where
    pub reduced : IsReduced k claim
    pub no_bits : AllByRecursion (λ t. t.0.bits ≡ []) claim

  claim_is : 1 ≤ k → (text : List (List ℕ)) (claim : Terms) → FirstLine 2 (ClaimOf k labels) text (Ok claim) → IsClaim claim
  claim_is some [] claim is = absurd is
  claim_is some (line ∷ more) claim (text, at, (comes, alone)) = record { reduced = read_reduced labels k text claim some comes; no_bits = no_bits labels k text claim alone comes }

  pub record IsSaid (c : Certificate) : Type 0 where
    pub claim : IsClaim c.claim
    pub generators : HaveGenerators c.pairs

  pub said_is : (Asks : ℕ → Certificate → Outcome CertFault (Unit {0})) (bytes : List ℕ) (c : Certificate) → 1 ≤ k → CertificateBy k net labels Asks bytes (Ok c) → IsSaid c
  said_is Asks bytes c some (head, (version, first, (claim, second, same)), (met, asked, rest)) =
      let from = lines_from Asks head.0 (drop 2 (lines bytes)) 3 (begun head.1) c rest in
      let equal : c.claim ≡ claim = from.claim ∙ ap (λ (h : ℕ × Terms). h.1) same in
      let P : Terms → Type 0 = IsClaim in
      record { claim = subst P (sym equal) (claim_is some (drop 1 (lines bytes)) claim second); generators = from.generators tt }
