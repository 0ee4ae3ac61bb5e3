-- A monomial that is read holds exactly the variables that were read.
use Rattle.std.proofs.Common.{◌≡◌, ◌≢◌, ℕ, zero, suc, ◌+◌, ◌<◌, ◌≤◌, ◌^◌, Bool, true, false, cond, ◌&&◌, ◌||◌, not, List, [], ◌∷◌, ◌++◌, length, nat_lt, ◌==◌, Option, Some, None, slice_set, get_or, refl, sym, ◌∙◌, ap, subst, arith}
use Rattle.std.specs.Prelude.{bytes_eq}
use Rattle.std.specs.Option.{option_map, option_and_then}
use Rattle.std.proofs.lemmas.Bool.{ne_eqb, eq-eqb, lt-ltb, eqb-true, ltb-true}
use Rattle.std.proofs.lemmas.List.{get_or-set_same, get_or-set_other}
use Rattle.std.proofs.lemmas.Slice.Eq.{bytes_eq-Decides}
use Rattle.std.proofs.Math.Bool.{or-false, or-true}
use Rattle.lists.specs.laws.ListLaws.{length-slice_set}
use Rattle.lists.specs.laws.OptionLaws.{same_some as some_is, none_is_some}
use Rattle.poly_mixed.specs.Labels.{Labelling, bit_count, word_of, bit_of, net_of}
use Rattle.poly_mixed.specs.Monomial.{Monomial, has_bit}
use Rattle.poly_mixed.specs.Product.{with_rank}
use Rattle.poly_mixed.specs.Said.{net_rank, one}
use Rattle.poly_mixed.specs.Token.{Named, word, bit, net}
use Rattle.poly_mixed.proofs.IndexLemmas.{is_in-with_rank}
use Rattle.poly_mixed.proofs.MachineLemmas.{same_name, has, same_itself, is_same, other_name}

has_more : (x : Named) (vs : List Named) (v : Named) → has x (vs ++ v ∷ []) ≡ (has x vs || same_name x v)
has_more x [] v = elim (same_name x v) as (λ b. (b || false) ≡ b) [ true ↦ refl | false ↦ refl ]
has_more x (w ∷ ws) v = elim (same_name x w) as (λ b. (b || has x (ws ++ v ∷ [])) ≡ ((b || has x ws) || same_name x v)) [ true ↦ refl | false ↦ has_more x ws v ]

-- ---- different names have different numbers and ranks

shifted : (o : Option ℕ) (n w : ℕ) → option_map (λ i. i + n) o ≡ Some w → (v : ℕ) × (o ≡ Some v) × (v + n ≡ w)
shifted None n w e = none_is_some w e
shifted (Some v) n w e = (v, refl, some_is (v + n) w e)

lifted : (o : Option ℕ) (n w : ℕ) → option_map (λ r. n + r) o ≡ Some w → (v : ℕ) × (o ≡ Some v) × (n + v ≡ w)
lifted None n w e = none_is_some w e
lifted (Some v) n w e = (v, refl, some_is (n + v) w e)

pub word_small : (ws : List (List ℕ × ℕ)) (a : List ℕ) (w : ℕ) → word_of ws a ≡ Some w → w < length ws
word_small [] a w e = none_is_some w e
word_small (x ∷ xs) a w e =
    (elim (bytes_eq x.0 a) as (λ b. cond b (Some 0) (option_map (λ i. i + 1) (word_of xs a)) ≡ Some w → w < suc (length xs)) [
      | true ↦ λ f. (let is : 0 ≡ w = some_is 0 w f in omega (arith, is))
      | false ↦ λ f. (let found = shifted (word_of xs a) 1 w f in omega (arith, word_small xs a found.0 found.1, found.2))
    ]) e

word_once : (ws : List (List ℕ × ℕ)) (a b : List ℕ) (w : ℕ) → word_of ws a ≡ Some w → word_of ws b ≡ Some w → a ≡ b
word_once [] a b w e f = none_is_some w e
word_once (x ∷ xs) a b w e f =
    (elim (bytes_eq x.0 a) as (λ p. bytes_eq x.0 a ≡ p → cond p (Some 0) (option_map (λ i. i + 1) (word_of xs a)) ≡ Some w → a ≡ b) [
      | true ↦ λ is g. (elim (bytes_eq x.0 b) as (λ q. bytes_eq x.0 b ≡ q → cond q (Some 0) (option_map (λ i. i + 1) (word_of xs b)) ≡ Some w → a ≡ b) [
        | true ↦ λ also h. sym ((bytes_eq-Decides x.0 a).0 is) ∙ (bytes_eq-Decides x.0 b).0 also
        | false ↦ λ also h. (let found = shifted (word_of xs b) 1 w h in absurd (omega (arith, some_is 0 w g, found.2)))
      ]) refl f
      | false ↦ λ is g. (elim (bytes_eq x.0 b) as (λ q. cond q (Some 0) (option_map (λ i. i + 1) (word_of xs b)) ≡ Some w → a ≡ b) [
        | true ↦ λ h. (let found = shifted (word_of xs a) 1 w g in absurd (omega (arith, some_is 0 w h, found.2)))
        | false ↦ λ h.
            let found = shifted (word_of xs a) 1 w g in
            let other = shifted (word_of xs b) 1 w h in
            let same : other.0 ≡ found.0 = omega (arith, found.2, other.2) in
            word_once xs a b found.0 found.1 (other.1 ∙ ap Some same)
      ]) f
    ]) refl e

placed : (i n r : ℕ) → cond (nat_lt i n) (Some i) None ≡ Some r → (i ≡ r) × (r < n)
placed i n r f = (elim (nat_lt i n) as (λ b. nat_lt i n ≡ b → cond b (Some i) None ≡ Some r → (i ≡ r) × (r < n)) [
  | true ↦ λ e g. (let same : i ≡ r = some_is i r g in (same, omega (arith, ltb-true i n e, same)))
  | false ↦ λ e g. none_is_some r g
]) refl f

-- the bits of words are below those that come after them
pub bit_small : (ws : List (List ℕ × ℕ)) (a : List ℕ) (i r : ℕ) → bit_of ws a i ≡ Some r → r < bit_count ws
bit_small [] a i r e = none_is_some r e
bit_small (x ∷ xs) a i r e =
    (elim (bytes_eq x.0 a) as (λ b. cond b (cond (nat_lt i x.1) (Some i) None) (option_map (λ q. x.1 + q) (bit_of xs a i)) ≡ Some r → r < x.1 + bit_count xs) [
      | true ↦ λ f. (let found = placed i x.1 r f in omega (arith, found.1))
      | false ↦ λ f. (let found = lifted (bit_of xs a i) x.1 r f in omega (arith, bit_small xs a i found.0 found.1, found.2))
    ]) e

bit_once : (ws : List (List ℕ × ℕ)) (a b : List ℕ) (i j r : ℕ) → bit_of ws a i ≡ Some r → bit_of ws b j ≡ Some r → bit a i ≡ bit b j
bit_once [] a b i j r e f = none_is_some r e
bit_once (x ∷ xs) a b i j r e f =
    (elim (bytes_eq x.0 a) as (λ p. bytes_eq x.0 a ≡ p → cond p (cond (nat_lt i x.1) (Some i) None) (option_map (λ q. x.1 + q) (bit_of xs a i)) ≡ Some r → bit a i ≡ bit b j) [
      | true ↦ λ is g. (elim (bytes_eq x.0 b) as (λ q. bytes_eq x.0 b ≡ q → cond q (cond (nat_lt j x.1) (Some j) None) (option_map (λ y. x.1 + y) (bit_of xs b j)) ≡ Some r → bit a i ≡ bit b j) [
        | true ↦ λ also h.
            let name : a ≡ b = sym ((bytes_eq-Decides x.0 a).0 is) ∙ (bytes_eq-Decides x.0 b).0 also in
            let place : i ≡ j = (placed i x.1 r g).0 ∙ sym (placed j x.1 r h).0 in
            λ n. bit (name n) (place n)
        | false ↦ λ also h. (let found = lifted (bit_of xs b j) x.1 r h in absurd (omega (arith, (placed i x.1 r g).1, found.2)))
      ]) refl f
      | false ↦ λ is g. (elim (bytes_eq x.0 b) as (λ q. cond q (cond (nat_lt j x.1) (Some j) None) (option_map (λ y. x.1 + y) (bit_of xs b j)) ≡ Some r → bit a i ≡ bit b j) [
        | true ↦ λ h. (let found = lifted (bit_of xs a i) x.1 r g in absurd (omega (arith, (placed j x.1 r h).1, found.2)))
        | false ↦ λ h.
            let found = lifted (bit_of xs a i) x.1 r g in
            let other = lifted (bit_of xs b j) x.1 r h in
            let same : other.0 ≡ found.0 = omega (arith, found.2, other.2) in
            bit_once xs a b i j found.0 found.1 (other.1 ∙ ap Some same)
      ]) f
    ]) refl e

net_once : (ns : List ℕ) (m n i : ℕ) → net_of ns m ≡ Some i → net_of ns n ≡ Some i → m ≡ n
net_once [] m n i e f = none_is_some i e
net_once (x ∷ xs) m n i e f =
    (elim (x == m) as (λ p. (x == m) ≡ p → cond p (Some 0) (option_map (λ i. i + 1) (net_of xs m)) ≡ Some i → m ≡ n) [
      | true ↦ λ is g. (elim (x == n) as (λ q. (x == n) ≡ q → cond q (Some 0) (option_map (λ i. i + 1) (net_of xs n)) ≡ Some i → m ≡ n) [
        | true ↦ λ also h. sym (eqb-true x m is) ∙ eqb-true x n also
        | false ↦ λ also h. (let found = shifted (net_of xs n) 1 i h in absurd (omega (arith, some_is 0 i g, found.2)))
      ]) refl f
      | false ↦ λ is g. (elim (x == n) as (λ q. cond q (Some 0) (option_map (λ i. i + 1) (net_of xs n)) ≡ Some i → m ≡ n) [
        | true ↦ λ h. (let found = shifted (net_of xs m) 1 i g in absurd (omega (arith, some_is 0 i h, found.2)))
        | false ↦ λ h.
            let found = shifted (net_of xs m) 1 i g in
            let other = shifted (net_of xs n) 1 i h in
            let same : other.0 ≡ found.0 = omega (arith, found.2, other.2) in
            net_once xs m n found.0 found.1 (other.1 ∙ ap Some same)
      ]) f
    ]) refl e

-- the place of a net, and its rank behind the bits of all words
ranked : (l : Labelling) (n r : ℕ) → net_rank l n ≡ Some r → (i : ℕ) × (net_of l.nets n ≡ Some i) × (bit_count l.words + i ≡ r)
ranked l n r e =
    (elim (net_of l.nets n) as (λ (o : Option ℕ). net_of l.nets n ≡ o → option_and_then (λ i. cond (nat_lt (bit_count l.words + i) (2 ^ 32)) (Some (bit_count l.words + i)) None) o ≡ Some r → (i : ℕ) × (net_of l.nets n ≡ Some i) × (bit_count l.words + i ≡ r)) [
      | None ↦ λ is f. none_is_some r f
      | Some i ↦ λ is f. (i, is, (placed (bit_count l.words + i) (2 ^ 32) r f).0)
    ]) refl e

-- ---- the rank of a bit or a net

abbrev pub rank_of : Labelling → Named → Option ℕ
rank_of l (word n) = None
rank_of l (bit n i) = bit_of l.words n i
rank_of l (net n) = net_rank l n

rank_once : (l : Labelling) (v w : Named) (r : ℕ) → rank_of l v ≡ Some r → rank_of l w ≡ Some r → v ≡ w
rank_once l (word a) w r e f = none_is_some r e
rank_once l (bit a i) (word b) r e f = none_is_some r f
rank_once l (bit a i) (bit b j) r e f = bit_once l.words a b i j r e f
rank_once l (bit a i) (net n) r e f = let found = ranked l n r f in absurd (omega (arith, bit_small l.words a i r e, found.2))
rank_once l (net m) (word b) r e f = none_is_some r f
rank_once l (net m) (bit b j) r e f = let found = ranked l m r e in absurd (omega (arith, bit_small l.words b j r f, found.2))
rank_once l (net m) (net n) r e f =
    let found = ranked l m r e in
    let other = ranked l n r f in
    let same : other.0 ≡ found.0 = omega (arith, found.2, other.2) in
    ap net (net_once l.nets m n found.0 found.1 (other.1 ∙ ap Some same))

-- ---- what a monomial holds

abbrev pub holds_word : Monomial → Option ℕ → Bool
holds_word m None = false
holds_word m (Some w) = not (nat_lt w 8 && (get_or m.exponents w 0 == 0))

pub record Tracks (l : Labelling) (vs : List Named) (m : Monomial) : Type 0 where
  pub long : length m.exponents ≡ 8
  pub words : (n : List ℕ) → has (word n) vs ≡ holds_word m (word_of l.words n)
  pub ranks : (v : Named) (r : ℕ) → rank_of l v ≡ Some r → has v vs ≡ has_bit r m
  pub unknown : (v : Named) → rank_of l v ≡ None → ((n : List ℕ) → v ≢ word n) → has v vs ≡ false

zeros : (w : ℕ) → get_or one.exponents w 0 ≡ 0
zeros zero = refl
zeros (suc zero) = refl
zeros (suc (suc zero)) = refl
zeros (suc (suc (suc zero))) = refl
zeros (suc (suc (suc (suc zero)))) = refl
zeros (suc (suc (suc (suc (suc zero))))) = refl
zeros (suc (suc (suc (suc (suc (suc zero)))))) = refl
zeros (suc (suc (suc (suc (suc (suc (suc zero))))))) = refl
zeros (suc (suc (suc (suc (suc (suc (suc (suc w)))))))) = refl

pub tracks_nothing : (l : Labelling) → length l.words ≤ 8 → Tracks l [] one
tracks_nothing l few = record {
  long = refl;
  words = λ n. (elim (word_of l.words n) as (λ (o : Option ℕ). word_of l.words n ≡ o → false ≡ holds_word one o) [
    | None ↦ λ e. refl
    | Some w ↦ λ e.
        let small : w < 8 = omega (arith, word_small l.words n w e, few) in
        sym (λ i. not (lt-ltb w 8 small i && eq-eqb (get_or one.exponents w 0) 0 (zeros w) i))
  ]) refl;
  ranks = λ v r e. refl;
  unknown = λ v e ne. refl;
}

other_word : (l : Labelling) (a b : List ℕ) → same_name (word a) (word b) ≡ false → a ≢ b
other_word l a b e same = let P : List ℕ → Type 0 = λ x. same_name (word a) (word x) ≡ true in let bad : true ≡ false = sym (subst P same (same_itself (word a))) ∙ e in absurd (cc)

pub tracks_word : (l : Labelling) (vs : List Named) (m : Monomial) (n : List ℕ) (w e : ℕ) → length l.words ≤ 8 → Tracks l vs m → word_of l.words n ≡ Some w → 0 < e
    → Tracks l (vs ++ word n ∷ []) (record { exponents = slice_set m.exponents w e; bits = m.bits })
tracks_word l vs m n w e few t is pos =
    let small : w < 8 = omega (arith, word_small l.words n w is, few) in
    let set = slice_set m.exponents w e in
    record {
      long = length-slice_set m.exponents w e ∙ t.long;
      words = λ x.
          has_more (word x) vs (word n)
          ∙ (elim (same_name (word x) (word n)) as (λ b. same_name (word x) (word n) ≡ b → (has (word x) vs || b) ≡ holds_word (record { exponents = set; bits = m.bits }) (word_of l.words x)) [
            | true ↦ λ same.
                let P : List ℕ → Type 0 = λ y. word_of l.words y ≡ Some w in
                let name : n ≡ x = sym ((bytes_eq-Decides x n).0 same) in
                let found : word_of l.words x ≡ Some w = subst P name is in
                or-true (has (word x) vs)
                ∙ sym (ap (holds_word (record { exponents = set; bits = m.bits })) found
                ∙ (λ i. not (lt-ltb w 8 small i && (get_or-set_same m.exponents w e 0 (omega (arith, small, t.long)) i == 0)))
                ∙ ap not (ne_eqb e 0 (λ z. omega (arith, z, pos))))
            | false ↦ λ same.
                or-false (has (word x) vs) ∙ t.words x
                ∙ (elim (word_of l.words x) as (λ (o : Option ℕ). word_of l.words x ≡ o → holds_word m o ≡ holds_word (record { exponents = set; bits = m.bits }) o) [
                  | None ↦ λ f. refl
                  | Some u ↦ λ f.
                      let apart : u ≢ w = (λ z. other_word l x n same (word_once l.words x n w (f ∙ ap Some z) is)) in
                      sym (λ i. not (nat_lt u 8 && (get_or-set_other m.exponents w u e 0 apart i == 0)))
                ]) refl
          ]) refl;
      ranks = λ v r f. has_more v vs (word n) ∙ ap (λ b. has v vs || b) (other_name v (word n) (λ z. (let P : Named → Type 0 = λ y. rank_of l y ≡ Some r in none_is_some r (subst P z f)))) ∙ or-false (has v vs) ∙ t.ranks v r f;
      unknown = λ v f ne. has_more v vs (word n) ∙ ap (λ b. has v vs || b) (other_name v (word n) (ne n)) ∙ or-false (has v vs) ∙ t.unknown v f ne;
    }

pub tracks_rank : (l : Labelling) (vs : List Named) (m : Monomial) (v : Named) (r : ℕ) → Tracks l vs m → rank_of l v ≡ Some r
    → Tracks l (vs ++ v ∷ []) (record { exponents = m.exponents; bits = with_rank m.bits r })
tracks_rank l vs m v r t is =
    let new : Monomial = record { exponents = m.exponents; bits = with_rank m.bits r } in
    record {
      long = t.long;
      words = λ x. has_more (word x) vs v ∙ ap (λ b. has (word x) vs || b) (other_name (word x) v (λ z. (let P : Named → Type 0 = λ y. rank_of l y ≡ Some r in none_is_some r (subst P (sym z) is)))) ∙ or-false (has (word x) vs) ∙ t.words x ∙ same_words (word_of l.words x);
      ranks = λ x q f.
          has_more x vs v
          ∙ (elim (same_name x v) as (λ b. same_name x v ≡ b → (has x vs || b) ≡ has_bit q new) [
            | true ↦ λ same.
                let P : Named → Type 0 = λ y. rank_of l y ≡ Some q in
                let rank : r ≡ q = some_is r q (sym is ∙ subst P (is_same x v same) f) in
                or-true (has x vs) ∙ sym (is_in-with_rank m.bits r q ∙ ap (λ b. b || has_bit q m) (eq-eqb r q rank))
            | false ↦ λ same.
                let apart : r ≢ q = (λ z. (let Q : Named → Type 0 = λ y. same_name x y ≡ false in let bad : true ≡ false = sym (same_itself x) ∙ subst Q (sym (rank_once l x v r (f ∙ ap Some (sym z)) is)) same in absurd (cc))) in
                or-false (has x vs) ∙ t.ranks x q f ∙ sym (is_in-with_rank m.bits r q ∙ ap (λ b. b || has_bit q m) (ne_eqb r q apart))
          ]) refl;
      unknown = λ x f ne. has_more x vs v ∙ ap (λ b. has x vs || b) (other_name x v (λ z. (let P : Named → Type 0 = λ y. rank_of l y ≡ None in none_is_some r (sym (subst P z f) ∙ is)))) ∙ or-false (has x vs) ∙ t.unknown x f ne;
    }
  where
    same_words : (o : Option ℕ) → holds_word m o ≡ holds_word (record { exponents = m.exponents; bits = with_rank m.bits r }) o
    same_words None = refl
    same_words (Some w) = refl
