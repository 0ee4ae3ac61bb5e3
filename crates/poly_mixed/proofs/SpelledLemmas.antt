-- What a printed variable is read as.
use Rattle.std.proofs.Common.{◌≡◌, ◌≢◌, ℕ, zero, suc, ◌+◌, ◌-◌, ◌^◌, ◌<◌, true, cond, List, [], ◌∷◌, ◌++◌, length, take, map, nat_lt, Some, None, bytes_eq, slice_index, get_or, inl, inr, ◌⊎◌, refl, ◌∙◌, ap, arith, add-one}
use Rattle.std.proofs.lemmas.Bool.{lt-ltb, le-ltb, cases_lt}
use Rattle.std.proofs.lemmas.List.{take_all}
use Rattle.std.proofs.lemmas.Slice.Eq.{bytes_eq-Decides}
use Rattle.std.specs.List.{AllByRecursion}
use Rattle.std.specs.Option.{option_map}
use Rattle.lists.specs.laws.TestLaws.{other_bytes}
use Rattle.text_core.specs.Names.{IsName, IsNameByte}
use Rattle.poly_mixed.specs.Labels.{Differs, AreDifferent, IsWord, bit_count, rank_text, bit_text, net_text, word_of, bit_of, net_of}
use Rattle.text_core.specs.Scan.{name_of, is_name_byte}
use Rattle.text_core.proofs.RunLemmas.{Passes, Stops, run_front}
use Rattle.poly_mixed.proofs.ScanLemmas.{net_at_place}
use Rattle.text_core.proofs.ByteLemmas.{is_name as name_byte}

abbrev names : List (List ℕ × ℕ) → List (List ℕ)
names ws = map (λ w. w.0) ws

same_bytes : (xs : List ℕ) → bytes_eq xs xs ≡ true
same_bytes xs = (bytes_eq-Decides xs xs).1 refl

-- ---- names

name_bytes : (xs : List ℕ) → ((i : ℕ) → i < length xs → IsNameByte (slice_index xs i)) → Passes is_name_byte xs
name_bytes [] each = tt
name_bytes (x ∷ xs) each = (name_byte x (each 0 (omega arith)), name_bytes xs (λ i h. each (suc i) (omega arith)))

pub name_front : (name rest : List ℕ) → IsName name → Stops is_name_byte rest → name_of (name ++ rest) ≡ name
name_front name rest is s = ap (λ (bs : List ℕ). take 255 bs) (run_front is_name_byte name rest (name_bytes name is.each) s) ∙ take_all 255 name is.short

-- ---- words

-- a word at its place among different ones
pub word_at_place : (ws : List (List ℕ × ℕ)) (i : ℕ) (d : List ℕ × ℕ) → AreDifferent (names ws) → i < length ws → word_of ws (get_or ws i d).0 ≡ Some i
word_at_place [] i d all h = absurd (omega arith)
word_at_place (w ∷ ws) zero d all h = ap (λ b. cond b (Some 0) (option_map (λ j. j + 1) (word_of ws w.0))) (same_bytes w.0)
word_at_place (w ∷ ws) (suc i) d all h =
    ap (λ b. cond b (Some 0) (option_map (λ j. j + 1) (word_of ws (get_or ws i d).0))) (other_bytes w.0 (get_or ws i d).0 (apart w.0 ws i d all.0 (omega arith)))
    ∙ ap (option_map (λ j. j + 1)) (word_at_place ws i d all.1 (omega arith))
    ∙ ap Some (add-one i)
  where
    apart : (x : List ℕ) (ws : List (List ℕ × ℕ)) (i : ℕ) (d : List ℕ × ℕ) → Differs x (names ws) → i < length ws → x ≢ (get_or ws i d).0
    apart x [] i d dif h = absurd (omega arith)
    apart x (v ∷ vs) zero d dif h = dif.0
    apart x (v ∷ vs) (suc i) d dif h = apart x vs i d dif.1 (omega arith)

-- ---- ranks

pub record IsBitText (ws : List (List ℕ × ℕ)) (nets : List ℕ) (r : ℕ) : Type 0 where
  pub name : List ℕ
  pub place : ℕ
  pub is_name : IsName name
  pub text : rank_text ws nets r ≡ bit_text name place
  pub small : place < 64
  pub found : bit_of ws name place ≡ Some r
  pub other : (x : List ℕ) → Differs x (names ws) → x ≢ name

pub record IsNetText (ws : List (List ℕ × ℕ)) (nets : List ℕ) (r : ℕ) : Type 0 where
  pub number : ℕ
  pub place : ℕ
  pub text : rank_text ws nets r ≡ net_text number
  pub small : number < 2 ^ 32
  pub found : net_of nets number ≡ Some place
  pub rank : bit_count ws + place ≡ r

below_at : (nets : List ℕ) (i : ℕ) → AllByRecursion (λ n. n < 2 ^ 32) nets → i < length nets → slice_index nets i < 2 ^ 32
below_at [] i all h = absurd (omega arith)
below_at (n ∷ ns) zero all h = all.0
below_at (n ∷ ns) (suc i) all h = below_at ns i all.1 (omega arith)

pub rank_spelled : (ws : List (List ℕ × ℕ)) (nets : List ℕ) (r : ℕ) → AllByRecursion IsWord ws → AreDifferent (names ws) → AllByRecursion (λ n. n < 2 ^ 32) nets → AreDifferent nets → r < bit_count ws + length nets → IsBitText ws nets r ⊎ IsNetText ws nets r
rank_spelled [] nets r all dif small apart h = inr (record {
  number = slice_index nets r;
  place = r;
  text = refl;
  small = below_at nets r small (omega arith);
  found = net_at_place nets (slice_index nets r) r apart (omega arith) refl;
  rank = omega arith;
})
rank_spelled (w ∷ ws) nets r all dif small apart h =
    elim (cases_lt r w.1) [
      | inl l ↦ inl (record {
        name = w.0;
        place = r;
        is_name = all.0.0;
        text = ap (λ b. cond b (bit_text w.0 r) (rank_text ws nets (r - w.1))) (lt-ltb r w.1 l);
        small = (let le = all.0.2 in omega arith);
        found = (λ i. cond (same_bytes w.0 i) (cond (lt-ltb r w.1 l i) (Some r) None) (option_map (λ q. w.1 + q) (bit_of ws w.0 r)));
        other = λ x d. d.0;
      })
      | inr g ↦
          let text : rank_text (w ∷ ws) nets r ≡ rank_text ws nets (r - w.1) = ap (λ b. cond b (bit_text w.0 r) (rank_text ws nets (r - w.1))) (le-ltb r w.1 g) in
          let back : w.1 + (r - w.1) ≡ r = omega arith in
          elim (rank_spelled ws nets (r - w.1) all.1 dif.1 small apart (omega arith)) [
            | inl b ↦ inl (record {
              name = b.name;
              place = b.place;
              is_name = b.is_name;
              text = text ∙ b.text;
              small = b.small;
              found = (λ i. cond (other_bytes w.0 b.name (b.other w.0 dif.0) i) (cond (nat_lt b.place w.1) (Some b.place) None) (option_map (λ q. w.1 + q) (b.found i))) ∙ ap Some back;
              other = λ x d. b.other x d.1;
            })
            | inr n ↦ inr (record {
              number = n.number;
              place = n.place;
              text = text ∙ n.text;
              small = n.small;
              found = n.found;
              rank = (let e = n.rank in omega arith);
            })
          ]
    ]
