-- The law of texts.
use Rattle.std.proofs.Common.{◌≡◌, ℕ, ◌+◌, List, [], ◌∷◌, ◌++◌, length, drop, map, codes, true, Ok, Err, Result, refl, sym, ◌∙◌, ap, subst, arith}
use Rattle.std.proofs.lemmas.List.{append_assoc, append-nil}
use Rattle.std.specs.List.{AllByRecursion}
use Rattle.poly_mixed.specs.Labels.{Labelling}
use Rattle.poly_mixed.specs.Monomial.{Monomial}
use Rattle.poly_mixed.specs.Polynomial.{Terms, IsTerm}
use Rattle.poly_mixed.specs.Said.{one, added}
use Rattle.poly_mixed.specs.private.Reading.{exponent_in, next_at, step_at, term_at, read_on, reading}
use Rattle.text_core.specs.Scan.{skip}
use Rattle.poly_mixed.specs.Text.{joined, term_text, text, HasNames}
use Rattle.poly_mixed.specs.laws.TextLaw.{IsWritten, ReadsBack, OneText}
use Rattle.poly_mixed.specs.declared.fault.PolyFault.{PolyFault}
use Rattle.poly_mixed.proofs.ChainLemmas.{Leads, turn, term_lead}
use Rattle.poly_mixed.proofs.ReadBackLemmas.{factors, factors_chain, term_written, total, total_is}
use Rattle.poly_mixed.proofs.ReadPartLemmas.{done_stays}
use Rattle.text_core.proofs.RunLemmas.{skip_none, skip_space}
use Rattle.poly_mixed.proofs.ScannedLemmas.{IsEnd}
use Rattle.poly_mixed.proofs.ReadPlaceLemmas.{MayCome}
use Rattle.poly_mixed.proofs.ReadTurnLemmas.{reading_comes}

-- the terms after a first one
abbrev rest_text : Labelling → Terms → List ℕ
rest_text l [] = []
rest_text l (t ∷ ts) = 32 ∷ 43 ∷ 32 ∷ (term_text l t ++ rest_text l ts)

terms_joined : (l : Labelling) (x : List ℕ) (ts : Terms) → joined (codes " + ") (x ∷ map (term_text l) ts) ≡ x ++ rest_text l ts
terms_joined l x [] = sym (append-nil x)
terms_joined l x (t ∷ ts) = ap (λ (y : List ℕ). x ++ codes " + " ++ y) (terms_joined l (term_text l t) ts) ∙ append_assoc x (codes " + ") (term_text l t ++ rest_text l ts)

plus_front : (y : List ℕ) → skip (32 ∷ 43 ∷ y) ≡ 43 ∷ y
plus_front y = skip_space (43 ∷ y) ∙ skip_none 43 y refl

rest_end : (l : Labelling) (ts : Terms) → IsEnd (rest_text l ts)
rest_end l [] = record { name = tt; digit = tt; hex = tt; index = refl; caret = λ k. refl }
rest_end l (t ∷ ts) = let y = 32 ∷ (term_text l t ++ rest_text l ts) in record { name = refl; digit = refl; hex = refl; index = refl; caret = λ k. ap (exponent_in k (32 ∷ 43 ∷ y)) (plus_front y) }

module _ (l : Labelling) (k : ℕ) (all : Terms) (is : IsWritten l k all) where
  -- what holds of each term
  abbrev AreWritten : Terms → Type 0
  AreWritten ts = AllByRecursion (IsTerm k) ts × HasNames l ts × AllByRecursion (λ t. AllByRecursion (λ e. e ≡ 0) (drop (length l.words) t.0.exponents)) ts

  first_term : (t : Monomial × ℕ) (ts : Terms) (sum : Terms) (r : Result Terms PolyFault) → AreWritten (t ∷ ts)
      → Leads l k (length (rest_text l ts)) (next_at sum t.1 t.0 (skip (rest_text l ts))) r
      → Leads l k (length (term_text l t ++ rest_text l ts)) (term_at l k sum (skip (term_text l t ++ rest_text l ts))) r
  first_term t ts sum r w h =
      let m = w.0.0.monomial in
      let chain = factors_chain l k t.0 m.words m.exponents w.2.0 w.1.0 m.rising in
      let P : List ℕ → Type 0 = λ x. Leads l k (length (x ++ rest_text l ts)) (term_at l k sum (skip (x ++ rest_text l ts))) r in
      subst P (sym (term_written l t)) (term_lead l k is.labels is.some is.small is.few (factors l t.0) sum t.1 t.0 (rest_text l ts) r chain w.0.0.element (rest_end l ts) h)

  later_terms : (ts : Terms) (sum : Terms) (c : ℕ) (m : Monomial) → AreWritten ts → Leads l k (length (rest_text l ts)) (next_at sum c m (skip (rest_text l ts))) (Ok (total (added sum c m) ts))
  later_terms [] sum c m w n le = done_stays n l k (added sum c m)
  later_terms (t ∷ ts) sum c m w n le =
      let y = term_text l t ++ rest_text l ts in
      let first = first_term t ts (added sum c m) (Ok (total (added (added sum c m) t.1 t.0) ts)) w (later_terms ts (added sum c m) t.1 t.0 (w.0.1, w.1.1, w.2.1)) in
      let moved : Leads l k (length y) (step_at l k true (added sum c m) 1 one (32 ∷ y)) (Ok (total (added (added sum c m) t.1 t.0) ts)) =
      λ i h. ap (λ (x : List ℕ). read_on i l k (term_at l k (added sum c m) x)) (skip_space y) ∙ first i h in
      ap (λ (x : List ℕ). read_on n l k (next_at sum c m x)) (plus_front (32 ∷ y))
      ∙ turn l k (length y) true (added sum c m) 1 one (32 ∷ y) (Ok (total (added (added sum c m) t.1 t.0) ts)) moved n (omega arith)

zero_text : (l : Labelling) (k : ℕ) → reading l k (codes "0") ≡ Ok []
zero_text l k = refl

reading_back : (l : Labelling) (k : ℕ) (ts : Terms) → IsWritten l k ts → reading l k (text l ts) ≡ Ok ts
reading_back l k [] is = zero_text l k
reading_back l k (t ∷ ts) is =
    let w : AreWritten l k (t ∷ ts) is (t ∷ ts) = (is.reduced.terms, is.ranks, is.words) in
    let y = term_text l t ++ rest_text l ts in
    let lead = first_term l k (t ∷ ts) is t ts [] (Ok (total (added [] t.1 t.0) ts)) w (later_terms l k (t ∷ ts) is ts [] t.1 t.0 (w.0.1, w.1.1, w.2.1)) in
    ap (reading l k) (terms_joined l (term_text l t) ts)
    ∙ turn l k (length y) true [] 1 one y (Ok (total [] (t ∷ ts))) lead (length y + 1) (omega arith)
    ∙ ap Ok (total_is (t ∷ ts) is.reduced.is_map)

pub reads_back : ReadsBack
reads_back l k ts is =
    let P : Result Terms PolyFault → Type 0 = MayCome l k (text l ts) is.some is.labels in
    subst P (reading_back l k ts is) (reading_comes l k (text l ts) is.some is.labels)

pub one_text : OneText
one_text l k ts us is also e =
    let same : Ok ts ≡ Ok us = sym (reading_back l k ts is) ∙ ap (reading l k) e ∙ reading_back l k us also in
    ap (λ (r : Result Terms PolyFault). found r) same
  where
    found : Result Terms PolyFault → Terms
    found (Ok xs) = xs
    found (Err f) = []
