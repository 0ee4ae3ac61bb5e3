-- Parts joined by a separator, and lists that grow by one.
use Rattle.std.proofs.Common.{◌≡◌, ◌≢◌, ℕ, zero, suc, get_or, drop, ◌+◌, Bool, true, false, cond, ◌&&◌, not, List, [], ◌∷◌, ◌++◌, length, ◌==◌, ◌<◌, ◌≤◌, ◌^◌, ◌*◌, map, refl, subst, arith, length-append, sym, ◌∙◌, ap, codes, append_assoc, append-nil}
use Rattle.std.specs.List.{AllByRecursion}
use Rattle.lists.specs.laws.ListLaws.{map_push}
use Rattle.poly_mixed.specs.Labels.{Labelling, AreLabels, Differs, AreDifferent, IsWord, bit_count}
use Rattle.poly_mixed.specs.Parts.{parts_after}
use Rattle.poly_mixed.specs.Text.{joined, is_none, factor_texts, term_text, text}
use Rattle.text_core.specs.Numbers.{hex_text}
use Rattle.poly_mixed.specs.Polynomial.{Terms}

later_parts : (sep out x : List ℕ) (xs : List (List ℕ)) → parts_after sep false out (x ∷ xs) ≡ out ++ sep ++ joined sep (x ∷ xs)
later_parts sep out x [] = refl
later_parts sep out x (y ∷ ys) = later_parts sep (out ++ sep ++ x) y ys ∙ moved (out ++ sep) x sep (joined sep (y ∷ ys))
  where
    moved : (out x sep rest : List ℕ) → out ++ x ++ sep ++ rest ≡ out ++ (x ++ sep ++ rest)
    moved out x sep rest = ap (λ t. t ++ rest) (append_assoc out x sep) ∙ append_assoc out (x ++ sep) rest

pub all_parts : (sep out : List ℕ) (xs : List (List ℕ)) → parts_after sep true out xs ≡ out ++ joined sep xs
all_parts sep out [] = sym (append-nil out)
all_parts sep out (x ∷ []) = refl
all_parts sep out (x ∷ y ∷ ys) = later_parts sep (out ++ x) y ys ∙ ap (λ t. t ++ joined sep (y ∷ ys)) (append_assoc out x sep) ∙ append_assoc out (x ++ sep) (joined sep (y ∷ ys))

pub some_text : (l : Labelling) (ts : Terms) → (length ts ≡ 0 → ⊥) → joined (codes " + ") (map (term_text l) ts) ≡ text l ts
some_text l [] h = absurd (h refl)
some_text l (t ∷ ts) h = refl

-- the factors of a term, after the coefficient where it is written
pub factor_parts : (c : ℕ) (bare : Bool) (start : List ℕ) (vs : List (List ℕ)) → bare ≡ ((c == 1) && not (is_none vs)) → start ≡ cond bare [] (hex_text c) → parts_after (codes "*") bare start vs ≡ joined (codes "*") (factor_texts c vs)
factor_parts c true start vs e s =
    ap (λ t. parts_after (codes "*") true t vs) s ∙ all_parts (codes "*") [] vs
    ∙ ap (λ b. joined (codes "*") (cond b vs (hex_text c ∷ vs))) e
factor_parts c false start [] e s = s ∙ ap (λ b. joined (codes "*") (cond b [] (hex_text c ∷ []))) e
factor_parts c false start (v ∷ vs) e s =
    ap (λ t. parts_after (codes "*") false t (v ∷ vs)) s ∙ later_parts (codes "*") (hex_text c) v vs
    ∙ ap (λ b. joined (codes "*") (cond b (v ∷ vs) (hex_text c ∷ v ∷ vs))) e

-- ---- one more at the end

pub all_more : {A : Type 0} (P : A → Type 0) (xs : List A) (x : A) → AllByRecursion P xs → P x → AllByRecursion P (xs ++ x ∷ [])
all_more P [] x all h = (h, tt)
all_more P (y ∷ ys) x all h = (all.0, all_more P ys x all.1 h)

pub different_more : {A : Type 0} (xs : List A) (x : A) → AreDifferent xs → Differs x xs → AreDifferent (xs ++ x ∷ [])
different_more [] x all d = (tt, tt)
different_more (y ∷ ys) x all d = (all_more (λ z. y ≢ z) ys x all.0 (λ e. d.0 (sym e)), different_more ys x all.1 d.1)

pub labels_with_net : (l : Labelling) (n : ℕ) (nets : List ℕ) → AreLabels l → n < 2 ^ 32 → Differs n l.nets → nets ≡ l.nets ++ n ∷ [] → AreLabels (record { output = l.output; words = l.words; nets = nets })
labels_with_net l n nets are small d e =
    let P : List ℕ → Type 0 = λ ns. AreLabels (record { output = l.output; words = l.words; nets = ns }) in
    subst P (sym e) (record {
      output = are.output;
      words = are.words;
      few = are.few;
      names = are.names;
      numbers = all_more (λ m. m < 2 ^ 32) l.nets n are.numbers small;
      nets = different_more l.nets n are.nets d;
    })

pub labels_with_word : (l : Labelling) (w : List ℕ × ℕ) (ws : List (List ℕ × ℕ)) → AreLabels l → IsWord w → Differs w.0 (map (λ w. w.0) l.words) → length l.words < 8 → ws ≡ l.words ++ w ∷ [] → AreLabels (record { output = l.output; words = ws; nets = l.nets })
labels_with_word l w ws are is d few e =
    let P : List (List ℕ × ℕ) → Type 0 = λ vs. AreLabels (record { output = l.output; words = vs; nets = l.nets }) in
    let N : List (List ℕ) → Type 0 = AreDifferent in
    subst P (sym e) (record {
      output = are.output;
      words = all_more IsWord l.words w are.words is;
      few = omega (arith, length-append l.words (w ∷ []));
      names = subst N (sym (map_push (λ (w : List ℕ × ℕ). w.0) l.words w)) (different_more (map (λ w. w.0) l.words) w.0 are.names d);
      numbers = are.numbers;
      nets = are.nets;
    })

pub bits_small : (ws : List (List ℕ × ℕ)) → AllByRecursion IsWord ws → bit_count ws ≤ 64 * length ws
bits_small [] all = omega arith
bits_small (w ∷ ws) all = let rest = bits_small ws all.1 in let here = all.0.2 in omega arith

bits_at : (ws : List (List ℕ × ℕ)) (i : ℕ) (w : List ℕ × ℕ) → i < length ws → w ≡ get_or ws i w → w.1 ≤ bit_count (drop i ws)
bits_at [] i w h e = absurd (omega arith)
bits_at (v ∷ ws) zero w h e = let same : w.1 ≡ v.1 = ap (λ (x : List ℕ × ℕ). x.1) e in omega arith
bits_at (v ∷ ws) (suc i) w h e = bits_at ws i w (omega arith) e

-- the bits of the words before one, and its own, are at most 512
pub few_bits : (ws vs : List (List ℕ × ℕ)) (i first b : ℕ) (n : List ℕ) (w : List ℕ × ℕ) → vs ≡ ws → AllByRecursion IsWord ws → length ws ≤ 8 → i < length vs → first + bit_count (drop i vs) ≡ bit_count vs → (n, b) ≡ w → w ≡ get_or vs i w → first + b ≤ 512
few_bits ws vs i first b n w same all few h sum is e =
    let all' = (let P : List (List ℕ × ℕ) → Type 0 = AllByRecursion IsWord in subst P (sym same) all) in
    let l : length vs ≡ length ws = ap length same in
    let here : b ≡ w.1 = ap (λ (x : List ℕ × ℕ). x.1) is in
    omega (arith, bits_small vs all', bits_at vs i w h e)
