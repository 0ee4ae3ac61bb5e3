-- A written line, read: what it begins with, and its multiplier.
use Rattle.std.proofs.Common.{◌≡◌, ◌≢◌, ◌∙◌, ap, sym, refl, subst, ℕ, zero, suc, ◌<◌, ◌^◌, ◌==◌, ◌&&◌, true, false, cond, List, [], ◌∷◌, ◌++◌, length, drop, nat_lt, Option, Some, None, Ok, Err, slice_get, arith, decimal, codes, bytes_eq, append_assoc, append-nil}
use Rattle.std.specs.List.{AllByRecursion}
use Rattle.std.proofs.lemmas.Bool.{lt-ltb, eq-eqb, ne_eqb}
use Rattle.std.proofs.lemmas.Grind.{common_steps}
use Rattle.std.proofs.lemmas.Slice.Eq.{bytes_eq-Decides}
use Rattle.std.proofs.Math.Seq.{drop-append_seam}
use Rattle.std.proofs.Math.Bool.{and-false}
use Rattle.text_core.specs.Lines.{is_blank as is_space}
use Rattle.text_core.specs.Names.{IsName}
use Rattle.text_core.specs.Numbers.{value_of}
use Rattle.net_core.specs.NetList.{NetList, nets}
use Rattle.poly_mixed.specs.Labels.{Labelling, AreLabels, IsWord, bit_text, word_at}
use Rattle.poly_mixed.specs.Polynomial.{Terms}
use Rattle.text_core.specs.Scan.{run, after, skip, name_of, index_of, closed_by, is_digit, is_hex_digit, is_letter, is_name_byte, begins_hex}
use Rattle.poly_mixed.specs.Text.{text}
use Rattle.poly_mixed.specs.TextOutcome.{IsRead}
use Rattle.poly_mixed.specs.Token.{Token, token_front, AreFront}
use Rattle.poly_mixed.specs.laws.TextLaw.{IsWritten}
use Rattle.poly_mixed.specs.declared.steps.Generator.{Generator}
use Rattle.poly_mixed.specs.declared.steps.Generator.TheVariants.{Net, Bit}
use Rattle.text_core.proofs.RunLemmas.{Passes, Stops, run_front, after_front, skip_none, skip_space}
use Rattle.text_core.proofs.WrittenLemmas.{decimal_digits}
use Rattle.poly_mixed.proofs.SpelledLemmas.{name_front, word_at_place}
use Rattle.text_core.proofs.ByteLemmas.{letter, name_passes}
use Rattle.poly_mixed.proofs.TextLaws.{reads_back}
use Rattle.cert_check.specs.Certificate.{PolynomialOf, MultiplierOf, MultiplierBy, shared_or, shared_by, after_hash, InWords, IsInWords}
use Rattle.cert_check.specs.Driver.{is_driven}
use Rattle.cert_check.specs.Frame.{pair_of, share_of, end_of, after_generator, net_named, bit_found, bit_named, after_number, let_named, paired, shared, after_or, ended, let_line, frame_of, version_of, claim_text, after_output, after_claim}
use Rattle.cert_check.specs.Scan.{after_word, after_first, after_sign, digits_first, digits_in, digits_at, indexed, indexed_in, indexed_at}
use Rattle.cert_check.specs.declared.fault.LineFault.TheVariants.{Syntax, NoSuchNet, NoSuchBit, NotDriven}
use Rattle.cert_make.specs.CertText.{generator_text, line_of, let_of, claim_line}
use Rattle.cert_make.specs.Writable.{IsOfNet, HasName}
use Rattle.poly_mixed.proofs.ScannedLemmas.{skip_digits}

-- ---- words

front_word : (word rest : List ℕ) → Passes is_name_byte word → Stops is_name_byte rest → skip (word ++ rest) ≡ word ++ rest → (w : List ℕ) → after_word w (word ++ rest) ≡ cond (bytes_eq word w) (Some rest) None
front_word word rest pass stop still w =
    (λ i. cond (bytes_eq (run is_name_byte (still i)) w) (Some (after is_name_byte (still i))) None)
    ∙ (λ i. cond (bytes_eq (run_front is_name_byte word rest pass stop i) w) (Some (after_front is_name_byte word rest pass stop i)) None)

net_word : (rest w : List ℕ) → after_word w (codes "net" ++ 32 ∷ rest) ≡ cond (bytes_eq (codes "net") w) (Some (32 ∷ rest)) None
net_word rest w = front_word (codes "net") (32 ∷ rest) (refl, (refl, (refl, tt))) refl (skip_none 110 _ refl) w

bit_word : (rest w : List ℕ) → after_word w (codes "bit" ++ 32 ∷ rest) ≡ cond (bytes_eq (codes "bit") w) (Some (32 ∷ rest)) None
bit_word rest w = front_word (codes "bit") (32 ∷ rest) (refl, (refl, (refl, tt))) refl (skip_none 98 _ refl) w

let_word : (rest w : List ℕ) → after_word w (codes "let" ++ 32 ∷ rest) ≡ cond (bytes_eq (codes "let") w) (Some (32 ∷ rest)) None
let_word rest w = front_word (codes "let") (32 ∷ rest) (refl, (refl, (refl, tt))) refl (skip_none 108 _ refl) w

claim_word : (rest : List ℕ) → after_word (codes "claim") (codes "claim" ++ 32 ∷ rest) ≡ Some (32 ∷ rest)
claim_word rest = front_word (codes "claim") (32 ∷ rest) (refl, (refl, (refl, (refl, (refl, tt))))) refl (skip_none 99 _ refl) (codes "claim")

-- ---- numbers

digit_still : (b : ℕ) → is_digit b ≡ true → is_space b ≡ false
digit_still b h = grind (arith, common_steps)

no_x : (b : ℕ) → is_digit b ≡ true → (b == 120) ≡ false
no_x b h = grind (arith, common_steps)

not_hex : (ds s : List ℕ) → Passes is_digit ds → begins_hex (ds ++ 32 ∷ s) ≡ false
not_hex [] s pass = refl
not_hex (d ∷ []) s pass = and-false (d == 48)
not_hex (d ∷ e ∷ ds) s pass = ap (λ v. (d == 48) && (v && nat_lt 0 (length (run is_hex_digit (ds ++ 32 ∷ s))))) (no_x e pass.1.0) ∙ and-false (d == 48)

digits_front : (ds s : List ℕ) → 0 < length ds → Passes is_digit ds → Stops is_digit s → digits_first (ds ++ s) ≡ Some (ds, s)
digits_front ds s some pass stop =
    (λ i. cond (nat_lt 0 (length (run_front is_digit ds s pass stop i))) (Some (run_front is_digit ds s pass stop i, after_front is_digit ds s pass stop i)) None)
    ∙ ap (λ v. cond v (Some (ds, s)) None) (lt-ltb 0 (length ds) some)

number_read : (n : ℕ) (s : List ℕ) → n < 2 ^ 64 → digits_at (32 ∷ (decimal n ++ 32 ∷ s)) ≡ Some (decimal n, 32 ∷ s)
number_read n s low =
    let d = decimal_digits n low in
    ap digits_in (skip_space (decimal n ++ 32 ∷ s) ∙ skip_digits (decimal n) (32 ∷ s) d.some d.pass)
    ∙ ap (λ v. cond v None (digits_first (decimal n ++ 32 ∷ s))) (not_hex (decimal n) s d.pass)
    ∙ digits_front (decimal n) (32 ∷ s) d.some d.pass refl

sign_read : (b : ℕ) (s : List ℕ) → is_space b ≡ false → after_sign b (32 ∷ b ∷ s) ≡ Some s
sign_read b s still = ap (after_first b) (skip_space (b ∷ s) ∙ skip_none b s still) ∙ ap (λ v. cond v (Some s) None) (eq-eqb b b refl)

-- ---- what a line begins with

module _ (net : NetList) (labels : Labelling) (version count : ℕ) where
  net_read : (n : ℕ) (m : List ℕ) → n < 2 ^ 64 → n < nets net → is_driven net n ≡ true → frame_of net labels version count (line_of (generator_text labels (Net n)) m) ≡ Ok (pair_of (Net n) (32 ∷ m))
  net_read n m low inside driven =
      let rest : List ℕ = decimal n ++ 32 ∷ 58 ∷ 32 ∷ m in
      let d = decimal_digits n low in
      ap (λ o. after_or o (λ (r : List ℕ). paired (net_named net (digits_at r))) (after_or (after_word (codes "bit") (codes "net" ++ 32 ∷ rest)) (λ r. paired (bit_named labels (indexed_at r)))
      (after_or (after_word (codes "let") (codes "net" ++ 32 ∷ rest)) (let_line version count) (after_or (after_word (codes "end") (codes "net" ++ 32 ∷ rest)) ended (Err Syntax))))) (net_word rest (codes "net"))
      ∙ ap (λ o. paired (net_named net o)) (number_read n (58 ∷ 32 ∷ m) low)
      ∙ ap (λ v. paired (cond (nat_lt v (nets net)) (cond (is_driven net v) (after_generator (Net v) (after_sign 58 (32 ∷ 58 ∷ 32 ∷ m))) (Err NotDriven)) (Err NoSuchNet))) d.value
      ∙ (λ i. paired (cond (lt-ltb n (nets net) inside i) (cond (driven i) (after_generator (Net n) (sign_read 58 (32 ∷ m) refl i)) (Err NotDriven)) (Err NoSuchNet)))

  letter_still : (b : ℕ) → is_letter b ≡ true → is_space b ≡ false
  letter_still b h = grind (arith, common_steps)

  index_read : (place : ℕ) (s : List ℕ) → place < 2 ^ 64 → index_of (91 ∷ (decimal place ++ 93 ∷ s)) ≡ Some (decimal place, s)
  index_read place s low =
      let d = decimal_digits place low in
      (λ i. closed_by (run_front is_digit (decimal place) (93 ∷ s) d.pass refl i) (after_front is_digit (decimal place) (93 ∷ s) d.pass refl i))
      ∙ ap (λ v. cond v (Some (decimal place, s)) None) (lt-ltb 0 (length (decimal place)) d.some)

  indexed_read : (name t : List ℕ) → IsName name → Stops is_name_byte t → indexed_at (32 ∷ (name ++ t)) ≡ indexed name (index_of t)
  indexed_read [] t is stop = absurd (let h = is.some in omega arith)
  indexed_read (b ∷ bs) t is stop =
      let x : List ℕ = b ∷ (bs ++ t) in
      let front : name_of x ≡ b ∷ bs = name_front (b ∷ bs) t is stop in
      let rest : drop (length (name_of x)) x ≡ t = ap (λ (n : List ℕ). drop (length n) x) front ∙ drop-append_seam (b ∷ bs) t in
      ap indexed_in (skip_space x ∙ skip_none b (bs ++ t) (letter_still b (letter b is.letter)))
      ∙ ap (λ v. cond v (indexed (name_of x) (index_of (drop (length (name_of x)) x))) None) (letter b is.letter)
      ∙ (λ i. indexed (front i) (index_of (rest i)))

  bit_read : (w place : ℕ) (m : List ℕ) → AreLabels labels → place < 2 ^ 64 → w < length labels.words → place < (word_at labels.words w).1 → frame_of net labels version count (line_of (generator_text labels (Bit w place)) m) ≡ Ok (pair_of (Bit w place) (32 ∷ m))
  bit_read w place m are low inside below =
      let name : List ℕ = (word_at labels.words w).0 in
      let s : List ℕ = 32 ∷ 58 ∷ 32 ∷ m in
      let rest : List ℕ = bit_text name place ++ s in
      let d = decimal_digits place low in
      let shape : rest ≡ name ++ 91 ∷ (decimal place ++ 93 ∷ s) =
      append_assoc (name ++ codes "[" ++ decimal place) (codes "]") s ∙ append_assoc (name ++ codes "[") (decimal place) (93 ∷ s) ∙ append_assoc name (codes "[") (decimal place ++ 93 ∷ s) in
      let found : indexed_at (32 ∷ rest) ≡ Some (name, decimal place, s) =
      ap (λ (r : List ℕ). indexed_at (32 ∷ r)) shape ∙ indexed_read name (91 ∷ (decimal place ++ 93 ∷ s)) (word_is_name labels.words w are.words inside) refl ∙ ap (indexed name) (index_read place s low) in
      (λ i. after_or (bit_word rest (codes "net") i) (λ (r : List ℕ). paired (net_named net (digits_at r))) (after_or (bit_word rest (codes "bit") i) (λ (r : List ℕ). paired (bit_named labels (indexed_at r)))
      (after_or (after_word (codes "let") (codes "bit" ++ 32 ∷ rest)) (let_line version count) (after_or (after_word (codes "end") (codes "bit" ++ 32 ∷ rest)) ended (Err Syntax)))))
      ∙ ap (λ o. paired (bit_named labels o)) found
      ∙ (λ i. paired (bit_found labels (word_at_place labels.words w ([], 0) are.names inside i) (d.value i) s))
      ∙ (λ i. paired (cond (lt-ltb place (word_at labels.words w).1 below i) (after_generator (Bit w place) (sign_read 58 (32 ∷ m) refl i)) (Err NoSuchBit)))
    where
      word_is_name : (ws : List (List ℕ × ℕ)) (w : ℕ) → AllByRecursion IsWord ws → w < length ws → IsName (word_at ws w).0
      word_is_name [] w all less = absurd (omega (arith, less))
      word_is_name (x ∷ ws) zero all less = all.0.0
      word_is_name (x ∷ ws) (suc w) all less = word_is_name ws w all.1 (omega (arith, less))

  -- a written line of a pair begins with its generator
  pub generator_read : (g : Generator) (m : List ℕ) → AreLabels labels → HasName labels g → IsOfNet net labels g → frame_of net labels version count (line_of (generator_text labels g) m) ≡ Ok (pair_of g (32 ∷ m))
  generator_read (Net n) m are low is = net_read n m (omega (arith, low)) is.0 is.1
  generator_read (Bit w place) m are low is = bit_read w place m are (few_places labels.words w place are.words is.0 is.1) is.0 is.1
    where
      few_places : (ws : List (List ℕ × ℕ)) (w place : ℕ) → AllByRecursion IsWord ws → w < length ws → place < (word_at ws w).1 → place < 2 ^ 64
      few_places [] w place all less below = absurd (omega (arith, less))
      few_places (x ∷ ws) zero place all less below = (let most = all.0.2 in omega (arith, most, below))
      few_places (x ∷ ws) (suc w) place all less below = few_places ws w place all.1 (omega (arith, less)) below

  pub end_read : frame_of net labels version count (codes "end") ≡ Ok end_of
  end_read = refl

pub let_read : (net : NetList) (labels : Labelling) (count : ℕ) (m : List ℕ) → count < 2 ^ 64 → frame_of net labels 2 count (let_of count m) ≡ Ok (share_of (32 ∷ m))
let_read net labels count m low =
    let rest : List ℕ = decimal count ++ 32 ∷ 58 ∷ 32 ∷ m in
    let d = decimal_digits count low in
    (λ i. after_or (let_word rest (codes "net") i) (λ (r : List ℕ). paired (net_named net (digits_at r))) (after_or (let_word rest (codes "bit") i) (λ (r : List ℕ). paired (bit_named labels (indexed_at r)))
    (after_or (let_word rest (codes "let") i) (let_line 2 count) (after_or (after_word (codes "end") (codes "let" ++ 32 ∷ rest)) ended (Err Syntax)))))
    ∙ ap (λ o. shared (let_named count o)) (number_read count (58 ∷ 32 ∷ m) low)
    ∙ ap (λ v. shared (cond v (after_number (after_sign 58 (32 ∷ 58 ∷ 32 ∷ m))) (Err Syntax))) (eq-eqb (value_of 10 (decimal count)) count d.value)
    ∙ ap (λ o. shared (after_number o)) (sign_read 58 (32 ∷ m) refl)

pub version_read : version_of (codes "gfcert 2") ≡ Ok 2
version_read = refl

pub claim_read : (labels : Labelling) (claim : Terms) → AreLabels labels → claim_text labels (claim_line labels claim) ≡ Ok (32 ∷ text labels claim)
claim_read labels claim are =
    let s : List ℕ = 32 ∷ 61 ∷ 32 ∷ text labels claim in
    ap (λ o. after_number (after_claim labels o)) (claim_word (labels.output ++ s))
    ∙ ap (λ o. after_number (after_output o)) (output_read labels.output are.output)
    ∙ ap after_number (sign_read 61 (32 ∷ text labels claim) refl)
  where
    still : (b : ℕ) → is_letter b ≡ true → is_space b ≡ false
    still b h = grind (arith, common_steps)

    output_read : (name : List ℕ) → IsName name → after_word name (32 ∷ (name ++ 32 ∷ 61 ∷ 32 ∷ text labels claim)) ≡ Some (32 ∷ 61 ∷ 32 ∷ text labels claim)
    output_read [] is = absurd (let h = is.some in omega arith)
    output_read (b ∷ bs) is =
        let t : List ℕ = 32 ∷ 61 ∷ 32 ∷ text labels claim in
        let kept = skip_none b (bs ++ t) (still b (letter b is.letter)) in
        (λ i. cond (bytes_eq (run is_name_byte (skip_space (b ∷ (bs ++ t)) i)) (b ∷ bs)) (Some (after is_name_byte (skip_space (b ∷ (bs ++ t)) i))) None)
        ∙ front_word (b ∷ bs) t (name_passes (b ∷ bs) is.each) refl kept (b ∷ bs)
        ∙ ap (λ v. cond v (Some t) None) ((bytes_eq-Decides (b ∷ bs) (b ∷ bs)).1 refl)

-- ---- polynomials and numbers behind a space

front_space : (tokens : List Token) (bs rest : List ℕ) → AreFront bs tokens rest → skip rest ≡ [] → (left : List ℕ) × AreFront (32 ∷ bs) tokens left × (skip left ≡ [])
front_space [] bs rest is whole = (32 ∷ bs, refl, skip_space bs ∙ ap skip (sym is) ∙ whole)
front_space (t ∷ ts) bs rest is whole = (rest, (is.0, ap token_front (skip_space bs) ∙ is.1, is.2), whole)

-- a text that is read as a polynomial is so behind a space
behind_space : (l : Labelling) (k : ℕ) (bs : List ℕ) (said : Terms) → IsRead l k bs said → IsRead l k (32 ∷ bs) said
behind_space l k bs said is =
    let moved = front_space is.tokens bs is.rest is.so_far.front is.whole in
    record { tokens = is.tokens; rest = moved.0; so_far = record { front = moved.1; fits = is.so_far.fits; known = is.so_far.known }; whole = moved.2; terms = is.terms; grammar = is.grammar; said_is = is.said_is }

pub polynomial_read : (k : ℕ) (l : Labelling) (ts : Terms) → IsWritten l k ts → PolynomialOf k l (32 ∷ text l ts) (Ok ts)
polynomial_read k l ts is = behind_space l k (text l ts) ts (reads_back l k ts is)

pub claim_in_words : (k : ℕ) (l : Labelling) (ts : Terms) → IsWritten l k ts → IsInWords (text l ts) → InWords k l (32 ∷ text l ts) (Ok ts)
claim_in_words k l ts is words = (behind_space l k (text l ts) ts (reads_back l k ts is), ((λ e. omega (arith, e), λ e. omega (arith, e)), words))

no_hash : (bs : List ℕ) → AllByRecursion (λ b. b ≢ 35) bs → after_first 35 bs ≡ None
no_hash [] all = refl
no_hash (b ∷ bs) all = ap (λ v. cond v (Some bs) None) (ne_eqb b 35 all.0)

dropped : (P : ℕ → Type 0) (n : ℕ) (bs : List ℕ) → AllByRecursion P bs → AllByRecursion P (drop n bs)
dropped P zero bs all = all
dropped P (suc n) [] all = tt
dropped P (suc n) (b ∷ bs) all = dropped P n bs all.1

-- a multiplier that is written as a polynomial
pub own_read : (k : ℕ) (l : Labelling) (before : List Terms) (ts : Terms) → IsWritten l k ts → AllByRecursion (λ b. b ≢ 35) (text l ts) → MultiplierOf k l 2 before (32 ∷ text l ts) (Ok ts)
own_read k l before ts is plain =
    let bs : List ℕ = text l ts in
    let none : after_hash 2 (32 ∷ bs) ≡ None = ap (after_first 35) (skip_space bs) ∙ no_hash (skip bs) (dropped (λ b. b ≢ 35) (length (run is_space bs)) bs plain) in
    let P : Option (List ℕ) → Type 0 = λ o. MultiplierBy k l before o (32 ∷ bs) (Ok ts) in
    subst P (sym none) (polynomial_read k l ts is)

-- a multiplier that is written by its number
pub number_is_read : (k : ℕ) (l : Labelling) (before : List Terms) (ts : Terms) (n : ℕ) → n < 2 ^ 64 → slice_get before n ≡ Some ts → MultiplierOf k l 2 before (32 ∷ (codes "#" ++ decimal n)) (Ok ts)
number_is_read k l before ts n low at =
    let d = decimal_digits n low in
    let hash : after_hash 2 (32 ∷ 35 ∷ decimal n) ≡ Some (decimal n) = sign_read 35 (decimal n) refl in
    let front : digits_first (decimal n) ≡ Some (decimal n, []) = ap digits_first (sym (append-nil (decimal n))) ∙ digits_front (decimal n) [] d.some d.pass tt in
    let P : Option (List ℕ) → Type 0 = λ o. MultiplierBy k l before o (32 ∷ 35 ∷ decimal n) (Ok ts) in
    let said : Ok ts ≡ shared_by before (digits_first (decimal n)) =
    sym (ap (shared_by before) front ∙ ap (λ v. shared_or (slice_get before v)) d.value ∙ ap shared_or at) in
    subst P (sym hash) said
