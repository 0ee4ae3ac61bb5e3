-- A written certificate is read back, line by line.
use Rattle.std.proofs.Common.{◌≡◌, ◌≢◌, ◌∙◌, ap, sym, refl, subst, ℕ, zero, suc, ◌+◌, ◌-◌, ◌<◌, ◌≤◌, ◌^◌, ◌==◌, ◌&&◌, Bool, true, false, cond, not, List, [], ◌∷◌, ◌++◌, length, drop, get_or, Option, Some, None, is_some, Ok, slice_get, arith, decimal, codes, append_assoc, append-nil, nat_lt}
use Rattle.std.specs.List.{AllByRecursion}
use Rattle.std.specs.Option.{option_map, unwrap_or}
use Rattle.std.specs.Str.Lines.{lines, strip_carriage_return}
use Rattle.std.proofs.lemmas.Bool.{eq-eqb, ltb-true, true≢false, ne_eqb}
use Rattle.std.proofs.lemmas.Grind.{common_steps}
use Rattle.std.proofs.lemmas.List.{length-append}
use Rattle.lists.specs.laws.LineLaws.{front_byte, line_end, after_line_plus, line_within}
use Rattle.lists.specs.laws.ListLaws.{all_append}
use Rattle.lists.specs.laws.TakeLaws.{front_of}
use Rattle.outcome.specs.Outcome.{Outcome}
use Rattle.text_core.proofs.LineLemmas.{lines_at}
use Rattle.net_core.specs.NetList.{NetList}
use Rattle.poly_mixed.specs.Labels.{Labelling, AreLabels, IsWord, bit_text, word_at}
use Rattle.poly_mixed.specs.Polynomial.{Terms}
use Rattle.text_core.specs.Scan.{is_name_byte}
use Rattle.poly_mixed.specs.Steps.{Step}
use Rattle.poly_mixed.specs.Text.{text}
use Rattle.poly_mixed.specs.laws.TextLaw.{IsWritten}
use Rattle.cert_check.specs.Certificate.{pairs, shares, ends, Certificate, begun, IsInWords, LinesOf, CertificateBy, HeadOf, MultiplierOf}
use Rattle.cert_check.specs.Frame.{pair_of, share_of, end_of}
use Rattle.cert_check.specs.declared.fault.CertFault.{CertFault}
use Rattle.poly_mixed.specs.declared.steps.Generator.{Generator}
use Rattle.poly_mixed.specs.declared.steps.Generator.TheVariants.{Net, Bit}
use Rattle.cert_make.specs.CertText.{text_of_lines, generator_text, let_of, claim_line, multiplier_text, pair_line, lines_at as lines_of_pair, lines_from, cert_text, number_text}
use Rattle.cert_make.specs.Sharing.{are_same, is_shared, number_of, is_first, shares_with, shares_from, shares_of}
use Rattle.cert_make.specs.Writable.{IsWritable, IsWritablePair, IsOfNet, HasName}
use Rattle.cert_make.proofs.BytesLemmas.{name_is, decimal_is, text_is, words_text_is}
use Rattle.cert_make.proofs.FrameReadLemmas.{generator_read, end_read, let_read, version_read, claim_read, polynomial_read, claim_in_words, own_read, number_is_read}
use Rattle.cert_make.proofs.SameLemmas.{same_equal}
use Rattle.cert_make.proofs.SharingLemmas.{number_added}

-- ---- lines

abbrev IsLine : List ℕ → Type 0
IsLine line = AllByRecursion (λ b. 32 ≤ b) line

at : (bytes : List ℕ) (k : ℕ) → IsLine bytes → (get_or bytes k 0 ≢ 13) × (get_or bytes k 0 ≢ 10)
at [] k all = ((λ e. omega (arith, e)), (λ e. omega (arith, e)))
at (b ∷ bs) zero all = ((λ e. (let h = all.0 in omega (arith, e, h))), (λ e. (let h = all.0 in omega (arith, e, h))))
at (b ∷ bs) (suc k) all = at bs k all.1

no_return : (bytes : List ℕ) → IsLine bytes → strip_carriage_return bytes ≡ bytes
no_return bytes all = rw (ne_eqb (get_or bytes (length bytes - 1) 0) 13 (at bytes (length bytes - 1) all).0) refl

first_line : (bytes rest : List ℕ) → IsLine bytes → lines (bytes ++ 10 ∷ rest) ≡ bytes ∷ lines rest
first_line bytes rest all =
    lines_at (bytes ++ 10 ∷ rest) (length bytes) (λ k less found. (at bytes k all).1 (sym (front_byte bytes (10 ∷ rest) k less) ∙ found)) (line_within bytes rest) (line_end bytes rest)
    ∙ ap (λ (l : List ℕ). strip_carriage_return l ∷ lines (drop (length bytes + 1) (bytes ++ 10 ∷ rest))) (front_of bytes (10 ∷ rest))
    ∙ ap (λ (l : List ℕ). l ∷ lines (drop (length bytes + 1) (bytes ++ 10 ∷ rest))) (no_return bytes all)
    ∙ ap (λ (l : List ℕ). bytes ∷ lines l) (after_line_plus bytes rest)

-- the lines of a text of lines
lines_back : (ls : List (List ℕ)) → AllByRecursion IsLine ls → lines (text_of_lines ls) ≡ ls
lines_back [] all = refl
lines_back (l ∷ ls) all =
    ap lines (append_assoc l (10 ∷ []) (text_of_lines ls)) ∙ first_line l (text_of_lines ls) all.0 ∙ ap (λ (more : List (List ℕ)). l ∷ more) (lines_back ls all.1)

-- ---- numbers of shared multipliers

mapped : (o : Option ℕ) (i : ℕ) → option_map (λ j. j + 1) o ≡ Some i → (j : ℕ) × (o ≡ Some j) × (i ≡ suc j)
mapped None i e = absurd (cc)
mapped (Some j) i e = (j, refl, (let same : j + 1 ≡ i = cc in omega (arith, same)))

-- under its number stands the multiplier
number_got : (shares : List Terms) (m : Terms) (i : ℕ) → number_of shares m ≡ Some i → (slice_get shares i ≡ Some m) × (i < length shares)
number_got [] m i e = absurd (cc)
number_got (x ∷ xs) m i e =
    (elim (are_same m x) as (λ b. are_same m x ≡ b → cond b (Some 0) (option_map (λ j. j + 1) (number_of xs m)) ≡ Some i → (slice_get (x ∷ xs) i ≡ Some m) × (i < length (x ∷ xs))) [
      | true ↦ λ same f. (let here : 0 ≡ i = cc in let P : ℕ → Type 0 = λ n. (slice_get (x ∷ xs) n ≡ Some m) × (n < length (x ∷ xs)) in subst P here (ap Some (sym (same_equal m x same)), omega arith))
      | false ↦ λ other f. (
          let one = mapped (number_of xs m) i f in
          let later = number_got xs m one.0 one.1 in
          let P : ℕ → Type 0 = λ n. (slice_get (x ∷ xs) n ≡ Some m) × (n < length (x ∷ xs)) in
          subst P (sym one.2) (later.0, (let h = later.1 in omega (arith, h)))
          )
    ]) refl e

-- at its pair a shared multiplier has a number
shared_number : (all : List Step) (before : List Terms) (m : Terms) → is_shared all m ≡ true → (i : ℕ) × (number_of (shares_with all before m) m ≡ Some i)
shared_number all before m shared =
    (elim (number_of before m) as (λ o. number_of before m ≡ o → (i : ℕ) × (number_of (cond (is_shared all m && not (is_some o)) (before ++ m ∷ []) before) m ≡ Some i)) [
      | None ↦ λ e. (length before, ap (λ b. number_of (cond (b && true) (before ++ m ∷ []) before) m) shared ∙ number_added before m e)
      | Some i ↦ λ e. (i, ap (λ b. number_of (cond (b && false) (before ++ m ∷ []) before) m) shared ∙ e)
    ]) refl

shares_long : (all : List Step) (before : List Terms) (m : Terms) → length (shares_with all before m) ≤ length before + 1
shares_long all before m = elim (is_first all before m) as (λ b. length (cond b (before ++ m ∷ []) before) ≤ length before + 1) [
  | true ↦ omega (arith, length-append before (m ∷ []))
  | false ↦ omega arith
]

-- ---- which bytes stand in the lines

name_low : (b : ℕ) → is_name_byte b ≡ true → 32 ≤ b
name_low b h = grind (arith, common_steps)

name_no_hash : (b : ℕ) → is_name_byte b ≡ true → b ≢ 35
name_no_hash b h e = true≢false (sym h ∙ ap is_name_byte e)

name_in_words : (b : ℕ) → is_name_byte b ≡ true → (b ≢ 91) × (b ≢ 64)
name_in_words b h = (λ e. true≢false (sym h ∙ ap is_name_byte e), λ e. true≢false (sym h ∙ ap is_name_byte e))

differs : (a b : ℕ) → (a == b) ≡ false → a ≢ b
differs a b test e = true≢false (sym (eq-eqb a b e) ∙ test)

abbrev all_low : List ℕ → Bool
all_low [] = true
all_low (b ∷ bs) = nat_lt 31 b && all_low bs

-- a text of which a test says that its bytes may stand in a line
literal : (bs : List ℕ) → all_low bs ≡ true → IsLine bs
literal [] e = tt
literal (b ∷ bs) e =
    (elim (nat_lt 31 b) as (λ v. nat_lt 31 b ≡ v → (v && all_low bs) ≡ true → IsLine (b ∷ bs)) [
      | true ↦ λ less f. ((let h = ltb-true 31 b less in omega (arith, h)), literal bs f)
      | false ↦ λ less f. absurd (true≢false (sym f))
    ]) refl e

module _ (k : ℕ) (l : Labelling) where
  pub plain_text : (ts : Terms) → IsWritten l k ts → AllByRecursion (λ b. b ≢ 35) (text l ts)
  plain_text ts is = text_is (λ b. b ≢ 35) name_no_hash (differs 32 35 refl) (differs 43 35 refl) (differs 42 35 refl) (differs 94 35 refl) l is.labels (differs 91 35 refl) (differs 93 35 refl) (differs 64 35 refl) k is.small ts is.reduced is.ranks

  line_text : (ts : Terms) → IsWritten l k ts → IsLine (text l ts)
  line_text ts is = text_is (λ b. 32 ≤ b) name_low (omega arith) (omega arith) (omega arith) (omega arith) l is.labels (omega arith) (omega arith) (omega arith) k is.small ts is.reduced is.ranks

  pub words_text : (ts : Terms) → IsWritten l k ts → AllByRecursion (λ t. t.0.bits ≡ []) ts → IsInWords (text l ts)
  words_text ts is none = words_text_is (λ b. (b ≢ 91) × (b ≢ 64)) name_in_words (differs 32 91 refl, differs 32 64 refl) (differs 43 91 refl, differs 43 64 refl) (differs 42 91 refl, differs 42 64 refl) (differs 94 91 refl, differs 94 64 refl) l is.labels k is.small ts is.reduced none

line_append : (xs ys : List ℕ) → IsLine xs → IsLine ys → IsLine (xs ++ ys)
line_append xs ys one two = all_append (λ b. 32 ≤ b) xs ys one two

line_decimal : (n : ℕ) → n < 2 ^ 64 → IsLine (decimal n)
line_decimal n low = decimal_is (λ b. 32 ≤ b) name_low n low

module _ (net : NetList) (l : Labelling) (are : AreLabels l) where
  word_named : (ws : List (List ℕ × ℕ)) (w : ℕ) → AllByRecursion IsWord ws → w < length ws → IsLine (word_at ws w).0 × ((word_at ws w).1 ≤ 64)
  word_named [] w all less = absurd (omega (arith, less))
  word_named (x ∷ ws) zero all less = (name_is (λ b. 32 ≤ b) name_low x.0 all.0.0, all.0.2)
  word_named (x ∷ ws) (suc w) all less = word_named ws w all.1 (omega (arith, less))

  generator_line : (g : Generator) → HasName l g → IsOfNet net l g → IsLine (generator_text l g)
  generator_line (Net n) low is = line_append (codes "net ") (decimal n) (literal (codes "net ") refl) (line_decimal n (omega (arith, low)))
  generator_line (Bit w i) low is =
      let word = word_named l.words w are.words is.0 in
      let name : List ℕ = (word_at l.words w).0 in
      line_append (codes "bit ") (bit_text name i) (literal (codes "bit ") refl)
      (line_append (name ++ codes "[" ++ decimal i) (codes "]") (line_append (name ++ codes "[") (decimal i) (line_append name (codes "[") word.0 (literal (codes "[") refl)) (line_decimal i (let less = is.1 in let most = word.1 in omega (arith, less, most)))) (literal (codes "]") refl))

  module _ (k : ℕ) (all : List Step) where
    -- a multiplier as it is written
    multiplier_line : (before : List Terms) (m : Terms) → IsWritten l k m → length before + 1 < 2 ^ 64 → IsLine (multiplier_text l all (shares_with all before m) m)
    multiplier_line before m is low =
        (elim (is_shared all m) as (λ b. is_shared all m ≡ b → IsLine (cond b (number_text (shares_with all before m) m) (text l m))) [
          | true ↦ λ shared. (
              let number = shared_number all before m shared in
              let got = number_got (shares_with all before m) m number.0 number.1 in
              let long = shares_long all before m in
              let P : Option ℕ → Type 0 = λ o. IsLine (codes "#" ++ decimal (unwrap_or o 0)) in
              subst P (sym number.1) (line_append (codes "#") (decimal number.0) (literal (codes "#") refl) (line_decimal number.0 (let less = got.1 in omega (arith, less, long, low))))
              )
          | false ↦ λ alone. line_text k l m is
        ]) refl

    pair_is_line : (before : List Terms) (s : Step) → IsWritablePair l k s → IsOfNet net l s.0 → length before + 1 < 2 ^ 64 → IsLine (pair_line l all (shares_with all before s.1) s)
    pair_is_line before s is of low =
        line_append (generator_text l s.0) (codes " : " ++ multiplier_text l all (shares_with all before s.1) s.1) (generator_line s.0 is.0 of)
        (line_append (codes " : ") (multiplier_text l all (shares_with all before s.1) s.1) (literal (codes " : ") refl) (multiplier_line before s.1 is.1 low))

    let_is_line : (before : List Terms) (m : Terms) → IsWritten l k m → length before < 2 ^ 64 → IsLine (let_of (length before) (text l m))
    let_is_line before m is low =
        line_append (codes "let ") (decimal (length before) ++ (codes " : " ++ text l m)) (literal (codes "let ") refl)
        (line_append (decimal (length before)) (codes " : " ++ text l m) (line_decimal (length before) low) (line_append (codes " : ") (text l m) (literal (codes " : ") refl) (line_text k l m is)))

    -- the lines of pairs
    pairs_lines : (rest : List Step) (before : List Terms) → AllByRecursion (IsWritablePair l k) rest → AllByRecursion (λ s. IsOfNet net l s.0) rest → length before + length rest < 2 ^ 64 → AllByRecursion IsLine (lines_from l all before rest)
    pairs_lines [] before written of low = (literal (codes "end") refl, tt)
    pairs_lines (s ∷ rest) before written of low =
        let long = shares_long all before s.1 in
        let more = pairs_lines rest (shares_with all before s.1) written.1 of.1 (omega (arith, long, low)) in
        let line = pair_is_line before s written.0 of.0 (omega (arith, low)) in
        all_append IsLine (lines_of_pair l all before s) (lines_from l all (shares_with all before s.1) rest)
        (elim (is_first all before s.1) as (λ b. AllByRecursion IsLine (cond b (let_of (length before) (text l s.1) ∷ []) [] ++ pair_line l all (shares_with all before s.1) s ∷ [])) [
          | true ↦ (let_is_line before s.1 written.0.1 (omega (arith, low)), (line, tt))
          | false ↦ (line, tt)
        ])
        more

-- ---- what the lines say

module _ (k : ℕ) (net : NetList) (l : Labelling) (are : AreLabels l) (all : List Step) (claim : Terms) (Asks : ℕ → Certificate → Outcome CertFault (Unit {0})) where
  -- so many shared multipliers and these pairs
  abbrev state : List Terms → List Step → Certificate
  state before front = record { claim = claim; shared = before; pairs = front }

  -- what is asked after each pair is met
  abbrev pub AreAsked : Type 0
  AreAsked = (n : ℕ) (shared : List Terms) (front back : List Step) → all ≡ front ++ back → Asks n (record { claim = claim; shared = shared; pairs = front }) (Ok tt)

  module _ (asks : AreAsked) where
    multiplier_read : (before : List Terms) (m : Terms) → IsWritten l k m → length before + 1 < 2 ^ 64 → MultiplierOf k l 2 (shares_with all before m) (32 ∷ multiplier_text l all (shares_with all before m) m) (Ok m)
    multiplier_read before m is low =
        (elim (is_shared all m) as (λ b. is_shared all m ≡ b → MultiplierOf k l 2 (shares_with all before m) (32 ∷ cond b (number_text (shares_with all before m) m) (text l m)) (Ok m)) [
          | true ↦ λ shared. (
              let number = shared_number all before m shared in
              let got = number_got (shares_with all before m) m number.0 number.1 in
              let long = shares_long all before m in
              let P : Option ℕ → Type 0 = λ o. MultiplierOf k l 2 (shares_with all before m) (32 ∷ (codes "#" ++ decimal (unwrap_or o 0))) (Ok m) in
              subst P (sym number.1) (number_is_read k l (shares_with all before m) m number.0 (let less = got.1 in omega (arith, less, long, low)) got.0)
              )
          | false ↦ λ alone. own_read k l (shares_with all before m) m is (plain_text k l m is)
        ]) refl

    pair_step : (before : List Terms) (front : List Step) (s : Step) (rest : List Step) (more : List (List ℕ)) (n : ℕ) (d : Certificate) → IsWritablePair l k s → IsOfNet net l s.0 → length before + 1 < 2 ^ 64 → all ≡ front ++ s ∷ rest
        → LinesOf k net l Asks 2 more (n + 1) (state (shares_with all before s.1) (front ++ s ∷ [])) (Ok d) → LinesOf k net l Asks 2 (pair_line l all (shares_with all before s.1) s ∷ more) n (state (shares_with all before s.1) front) (Ok d)
    pair_step before front s rest more n d is of low same later =
        let shared : List Terms = shares_with all before s.1 in
        let m : List ℕ = multiplier_text l all shared s.1 in
        let whole : all ≡ (front ++ s ∷ []) ++ rest = same ∙ sym (append_assoc front (s ∷ []) rest) in (
          pairs s.0 s.1,
          (pair_of s.0 (32 ∷ m), sym (generator_read net l 2 (length shared) s.0 m are is.0 of), (s.1, multiplier_read before s.1 is.1 low, refl)),
          (tt, asks n shared (front ++ s ∷ []) rest whole, later),
        )

    let_step : (before : List Terms) (front : List Step) (m : Terms) (more : List (List ℕ)) (n : ℕ) (d : Certificate) → IsWritten l k m → length before < 2 ^ 64
        → LinesOf k net l Asks 2 more (n + 1) (state (before ++ m ∷ []) front) (Ok d) → LinesOf k net l Asks 2 (let_of (length before) (text l m) ∷ more) n (state before front) (Ok d)
    let_step before front m more n d is low later = (
      shares m,
      (share_of (32 ∷ text l m), sym (let_read net l (length before) (text l m) low), (m, polynomial_read k l m is, refl)),
      later,
    )

    pub lines_read : (rest front : List Step) (before : List Terms) (n : ℕ) → all ≡ front ++ rest → AllByRecursion (IsWritablePair l k) rest → AllByRecursion (λ s. IsOfNet net l s.0) rest → length before + length rest < 2 ^ 64
        → LinesOf k net l Asks 2 (lines_from l all before rest) n (state before front) (Ok (state (shares_from all before rest) all))
    lines_read [] front before n same written of low = (
      ends,
      (end_of, sym (end_read net l 2 (length before)), refl),
      ap (state before) (same ∙ append-nil front),
    )
    lines_read (s ∷ rest) front before n same written of low =
        let d : Certificate = state (shares_from all before (s ∷ rest)) all in
        let long = shares_long all before s.1 in
        let whole : all ≡ (front ++ s ∷ []) ++ rest = same ∙ sym (append_assoc front (s ∷ []) rest) in
        let more : List (List ℕ) = lines_from l all (shares_with all before s.1) rest in
        let later : (m : ℕ) → LinesOf k net l Asks 2 more m (state (shares_with all before s.1) (front ++ s ∷ [])) (Ok d) =
        λ m. lines_read rest (front ++ s ∷ []) (shares_with all before s.1) m whole written.1 of.1 (omega (arith, long, low)) in
        let line : (m : ℕ) → LinesOf k net l Asks 2 (pair_line l all (shares_with all before s.1) s ∷ more) m (state (shares_with all before s.1) front) (Ok d) =
        λ m. pair_step before front s rest more m d written.0 of.0 (omega (arith, low)) same (later (m + 1)) in
        (elim (is_first all before s.1) as (λ b. ((m : ℕ) → LinesOf k net l Asks 2 (pair_line l all (shares_with all before s.1) s ∷ more) m (state (cond b (before ++ s.1 ∷ []) before) front) (Ok d))
        → LinesOf k net l Asks 2 ((cond b (let_of (length before) (text l s.1) ∷ []) [] ++ pair_line l all (shares_with all before s.1) s ∷ []) ++ more) n (state before front) (Ok d)) [
          | true ↦ λ after. let_step before front s.1 (pair_line l all (shares_with all before s.1) s ∷ more) n d written.0.1 (omega (arith, low)) (after (n + 1))
          | false ↦ λ after. after n
        ]) line

    -- the whole text
    pub text_read : IsWritable l k claim all → AllByRecursion (λ t. t.0.bits ≡ []) claim → AllByRecursion (λ s. IsOfNet net l s.0) all → length all < 2 ^ 64
        → CertificateBy k net l Asks (cert_text l claim all) (Ok (state (shares_of all) all))
    text_read written none of low =
        let ls : List (List ℕ) = codes "gfcert 2" ∷ claim_line l claim ∷ lines_from l all [] all in
        let first : IsLine (claim_line l claim) =
        line_append (codes "claim ") (l.output ++ (codes " = " ++ text l claim)) (literal (codes "claim ") refl)
        (line_append l.output (codes " = " ++ text l claim) (name_is (λ b. 32 ≤ b) name_low l.output are.output) (line_append (codes " = ") (text l claim) (literal (codes " = ") refl) (line_text k l claim written.claimed))) in
        let back : lines (cert_text l claim all) ≡ ls = lines_back ls (literal (codes "gfcert 2") refl, (first, pairs_lines net l are k all all [] written.each of (omega (arith, low)))) in
        let P : List (List ℕ) → Type 0 = λ text. HeadOf k l text (Ok (2, claim)) × ((met : Unit {0}) × Asks 2 (begun claim) (Ok met) × LinesOf k net l Asks 2 (drop 2 text) 3 (begun claim) (Ok (state (shares_of all) all))) in
        let head : HeadOf k l ls (Ok (2, claim)) = (2, sym version_read, (claim, (32 ∷ text l claim, sym (claim_read l claim are), claim_in_words k l claim written.claimed (words_text k l claim written.claimed none)), refl)) in
        let both : P (lines (cert_text l claim all)) = subst P (sym back) (head, (tt, asks 2 [] [] all refl, lines_read all [] [] 3 refl written.each of (omega (arith, low)))) in
        ((2, claim), both.0, both.1)
