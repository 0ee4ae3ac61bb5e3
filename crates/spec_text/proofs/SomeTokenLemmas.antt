-- Each text has tokens; white bytes before a text move its tokens.
use Rattle.std.proofs.Common.{◌≡◌, ◌∙◌, ap, sym, refl, subst, inl, inr, ℕ, zero, suc, ◌+◌, ◌-◌, ◌<◌, ◌≤◌, true, List, [], ◌∷◌, length, take, drop, Option, Some, None, arith, length-drop}
use Rattle.std.proofs.lemmas.Bool.{cases_lt}
use Rattle.std.proofs.lemmas.Grind.{common_steps}
use Rattle.std.proofs.Math.Seq.{take-length}
use Rattle.text_core.specs.Scan.{run, is_white}
use Rattle.spec_text.specs.Token.{Token, IsWhite, AreWhite, IsFront, HasNoFront}
use Rattle.spec_text.specs.Tokens.{Stop, ended, stuck, AreTokens}
use Rattle.spec_text.specs.private.Scanning.{front_of}
use Rattle.text_core.proofs.RunLemmas.{run_within, run_pass, take_run, run_ends, each_passes, passes_each}
use Rattle.spec_text.proofs.FrontLemmas.{front_some, front_none}
use Rattle.spec_text.proofs.TextTokenLemmas.{nothing, more_white, tail_white}

is_white_byte : (b : ℕ) → IsWhite b → is_white b ≡ true
is_white_byte b h = grind (arith, common_steps)

white_rest : (b : ℕ) → (b ≡ 32 → ⊥) → (b ≡ 9 → ⊥) → (b ≡ 10 → ⊥) → is_white b ≡ true → b ≡ 13
white_rest b p q r e = grind (arith, common_steps)

decide : (b c : ℕ) (A : Type 0) → (b ≡ c → A) → ((b ≡ c → ⊥) → A) → A
decide b c A p q = elim (cases_lt b c) [ inl l ↦ q (λ e. omega (arith, l, e)) | inr g ↦ elim (cases_lt c b) [ inl l ↦ q (λ e. omega (arith, l, e)) | inr h ↦ p (omega (arith, g, h)) ] ]

white_byte_is : (b : ℕ) → is_white b ≡ true → IsWhite b
white_byte_is b e =
    decide b 32 (IsWhite b) (λ p. inl p) (λ np.
    decide b 9 (IsWhite b) (λ p. inr (inl p)) (λ nq.
    decide b 10 (IsWhite b) (λ p. inr (inr (inl p))) (λ nr. inr (inr (inr (white_rest b np nq nr e))))))

-- the white run at the front is white
pub white_run : (bs : List ℕ) → AreWhite (take (length (run is_white bs)) bs)
white_run bs =
    let P : List ℕ → Type 0 = AreWhite in
    let same : take (length (run is_white bs)) bs ≡ run is_white bs = take_run is_white bs (length (run is_white bs)) (omega arith) ∙ take-length (run is_white bs) in
    subst P (sym same) (passes_each is_white IsWhite white_byte_is (run is_white bs) (run_pass is_white bs))

pub white_ends : (bs : List ℕ) → length (run is_white bs) < length bs → AreWhite (take (length (run is_white bs) + 1) bs) → ⊥
white_ends bs less all = run_ends is_white bs less (each_passes is_white IsWhite is_white_byte (take (length (run is_white bs) + 1) bs) all)

-- ---- white bytes before a text

pub no_white : AreWhite []
no_white = λ k less. absurd (omega (arith, less))

join_white : (w : ℕ) (bs : List ℕ) → AreWhite (take w bs) → AreWhite (drop w bs) → AreWhite bs
join_white zero bs p q = q
join_white (suc w) [] p q = no_white
join_white (suc w) (b ∷ bs) p q = more_white b bs (p 0 (omega arith)) (join_white w bs (tail_white b (take w bs) p) q)

pub join_taken : (w n : ℕ) (bs : List ℕ) → AreWhite (take w bs) → AreWhite (take n (drop w bs)) → AreWhite (take (w + n) bs)
join_taken zero n bs p q = let P : ℕ → Type 0 = λ i. AreWhite (take i bs) in let e : n ≡ 0 + n = omega arith in subst P e q
join_taken (suc w) n [] p q = let P : ℕ → Type 0 = λ i. AreWhite (take i []) in let e : suc (w + n) ≡ suc w + n = omega arith in subst P e no_white
join_taken (suc w) n (b ∷ bs) p q =
    let P : ℕ → Type 0 = λ i. AreWhite (take i (b ∷ bs)) in
    let e : suc (w + n) ≡ suc w + n = omega arith in
    subst P e (more_white b (take (w + n) bs) (p 0 (omega arith)) (join_taken w n bs (tail_white b (take w bs) p) q))

part_white : (w n : ℕ) (bs : List ℕ) → AreWhite (take (w + n) bs) → AreWhite (take n (drop w bs))
part_white zero n bs p = let P : ℕ → Type 0 = λ i. AreWhite (take i bs) in let e : 0 + n ≡ n = omega arith in subst P e p
part_white (suc w) zero [] p = no_white
part_white (suc w) (suc n) [] p = no_white
part_white (suc w) n (b ∷ bs) p =
    let P : ℕ → Type 0 = λ i. AreWhite (take i (b ∷ bs)) in
    let e : suc w + n ≡ suc (w + n) = omega arith in
    part_white w n bs (tail_white b (take (w + n) bs) (subst P e p))

pub dropped : (w n : ℕ) (bs : List ℕ) → drop n (drop w bs) ≡ drop (w + n) bs
dropped zero n bs = let e : n ≡ 0 + n = omega arith in ap (λ i. drop i bs) e
dropped (suc w) zero [] = let e : suc w ≡ suc w + 0 = omega arith in ap (λ (i : ℕ). drop i []) e
dropped (suc w) (suc n) [] = let e : suc (w + suc n) ≡ suc w + suc n = omega arith in ap (λ (i : ℕ). drop i []) e
dropped (suc w) n (b ∷ bs) = let e : suc (w + n) ≡ suc w + n = omega arith in dropped w n bs ∙ ap (λ i. drop i (b ∷ bs)) e

pub after_white : (place w : ℕ) (bs : List ℕ) (ts : List (Token × ℕ)) (stop : Stop) → w ≤ length bs → AreWhite (take w bs) → AreTokens (place + w) (drop w bs) ts stop → AreTokens place bs ts stop
after_white place w bs [] (ended at) low p is = (join_white w bs p is.0, omega (arith, is.1, length-drop w bs, low))
after_white place w bs [] (stuck at) low p is =
    let P : List ℕ → Type 0 = HasNoFront in
    let up : w + (is.0 + 1) ≡ w + is.0 + 1 = omega arith in
    let Q : ℕ → Type 0 = λ i. AreWhite (take i bs) in
    (w + is.0, omega (arith, is.1, length-drop w bs), join_taken w is.0 bs p is.2, omega (arith, is.3), (λ all. is.4 (part_white w (is.0 + 1) bs (subst Q (sym up) all))), subst P (dropped w is.0 bs) is.5)
after_white place w bs (t ∷ ts) stop low p is =
    let P : List ℕ → Type 0 = λ cs. IsFront cs t.0 is.1 in
    let Q : List ℕ → Type 0 = λ cs. AreTokens (t.1 + is.1) cs ts stop in
    let up : w + (is.0 + is.1) ≡ w + is.0 + is.1 = omega arith in
    (w + is.0, is.1, join_taken w is.0 bs p is.2, omega (arith, is.3), subst P (dropped w is.0 bs) is.4, subst Q (dropped w (is.0 + is.1) bs ∙ ap (λ i. drop i bs) up) is.5)

-- a token at the front, and the tokens after it
pub with_front : (place n : ℕ) (bs : List ℕ) (t : Token) (ts : List (Token × ℕ)) (stop : Stop) → IsFront bs t n → AreTokens (place + n) (drop n bs) ts stop → AreTokens place bs ((t, place) ∷ ts) stop
with_front place n bs t ts stop front rest =
    let e : n ≡ 0 + n = omega arith in
    let P : ℕ → Type 0 = λ i. AreTokens (place + n) (drop i bs) ts stop in
    (0, n, no_white, omega arith, front, subst P e rest)

-- ---- some tokens

pub front_length : (bs : List ℕ) (t : Token) (n : ℕ) → IsFront bs t n → 1 ≤ n
front_length bs t zero front = absurd (nothing t front.spelling)
front_length bs t (suc n) front = omega arith

pub record HaveTokens (place : ℕ) (bs : List ℕ) : Type 0 where
  pub tokens : List (Token × ℕ)
  pub stop : Stop
  pub are : AreTokens place bs tokens stop

all_white : (place : ℕ) (bs : List ℕ) → length bs ≤ length (run is_white bs) → HaveTokens place bs
all_white place bs all =
    let P : ℕ → Type 0 = λ n. AreWhite (take n bs) in
    let Q : List ℕ → Type 0 = AreWhite in
    let same : length (run is_white bs) ≡ length bs = omega (arith, all, run_within is_white bs) in
    record { tokens = []; stop = ended (place + length bs); are = (subst Q (take-length bs) (subst P same (white_run bs)), refl) }

module _ (fuel : ℕ) (rest_of : (place : ℕ) (bs : List ℕ) → length bs ≤ fuel → HaveTokens place bs) where
  tokens_step : (place : ℕ) (bs : List ℕ) → length bs ≤ suc fuel → length (run is_white bs) < length bs → (found : Option (Token × ℕ)) → front_of (drop (length (run is_white bs)) bs) ≡ found → HaveTokens place bs
  tokens_step place bs low less None e =
      let w : ℕ = length (run is_white bs) in
      record { tokens = []; stop = stuck (place + w); are = (w, less, white_run bs, refl, white_ends bs less, front_none (drop w bs) e) }
  tokens_step place bs low less (Some f) e =
      let w : ℕ = length (run is_white bs) in
      let front : IsFront (drop w bs) f.0 f.1 = front_some (drop w bs) f.0 f.1 e in
      let some : 1 ≤ f.1 = front_length (drop w bs) f.0 f.1 front in
      let rest : HaveTokens (place + w + f.1) (drop f.1 (drop w bs)) = rest_of (place + w + f.1) (drop f.1 (drop w bs)) (omega (arith, some, low, less, length-drop w bs, length-drop f.1 (drop w bs))) in
      record {
        tokens = (f.0, place + w) ∷ rest.tokens;
        stop = rest.stop;
        are = after_white place w bs ((f.0, place + w) ∷ rest.tokens) rest.stop (omega (arith, less)) (white_run bs) (with_front (place + w) f.1 (drop w bs) f.0 rest.tokens rest.stop front rest.are);
      }

tokens_within : (fuel place : ℕ) (bs : List ℕ) → length bs ≤ fuel → HaveTokens place bs
tokens_within zero place bs low = all_white place bs (omega (arith, low))
tokens_within (suc fuel) place bs low =
    elim (cases_lt (length (run is_white bs)) (length bs)) [
      | inl less ↦ tokens_step fuel (tokens_within fuel) place bs low less (front_of (drop (length (run is_white bs)) bs)) refl
      | inr all ↦ all_white place bs all
    ]

pub some_tokens : (place : ℕ) (bs : List ℕ) → HaveTokens place bs
some_tokens place bs = tokens_within (length bs) place bs (omega arith)
