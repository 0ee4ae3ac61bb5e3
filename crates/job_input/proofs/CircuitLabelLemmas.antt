-- The labels of a circuit's other nets, net by net.
use Rattle.std.proofs.Common.{◌≡◌, ◌∙◌, ap, sym, refl, inl, inr, ℕ, zero, suc, ◌<◌, ◌≤◌, ◌+◌, ◌==◌, ◌||◌, nat_lt, Bool, true, false, not, cond, List, [], ◌∷◌, ◌++◌, length, filter, arith}
use Rattle.std.specs.List.{range_with_len}
use Rattle.std.proofs.lemmas.Bool.{cases_lt, eq-eqb, le-ltb, lt-ltb}
use Rattle.std.proofs.lemmas.List.{length-append}
use Rattle.std.proofs.lemmas.List.Elements.{filter-append}
use Rattle.lists.specs.Lists.{Has}
use Rattle.lists.specs.laws.BoolLaws.{not_true}
use Rattle.lists.specs.laws.ListLaws.{range_more}
use Rattle.net_words.specs.Roles.{stands_in}
use Rattle.net_words.specs.Variables.{bits, bits_with, others, IsRanked}
use Rattle.net_words.specs.declared.bound.BoundWord.{BoundWord}
use Rattle.net_words.specs.declared.word.Role.{Role}
use Rattle.net_words.specs.declared.word.Role.TheVariants.{Input, State, Fed, Output}
use Rattle.net_words.specs.declared.word.WordText.{WordText}
use Rattle.poly_mixed.specs.Labels.{Differs, Labelling, bit_count}
use Rattle.job_input.specs.Labelling.{word_label, word_labels}
use Rattle.job_input.specs.Setting.{HaveRoles}

-- ---- the bits of the words, counted by their nets and by their labels

count_with : (r : Role) (name nets : List ℕ) (k : ℕ) → length nets ≡ k → (ls : List (List ℕ × ℕ)) → length (bits_with r nets) + bit_count ls ≡ bit_count (word_label r name k ++ ls)
count_with Input name nets k long ls = ap (λ n. n + bit_count ls) long
count_with State name nets k long ls = ap (λ n. n + bit_count ls) long
count_with Fed name nets k long ls = ap (λ n. n + bit_count ls) long
count_with Output name nets k long ls = omega arith

pub counted : (k : ℕ) (bound : List BoundWord) (words : List WordText) → ((word : BoundWord) → Has bound word → length word.nets ≡ k) → HaveRoles words bound → length (bits bound) ≡ bit_count (word_labels k words)
counted k [] [] each same = refl
counted k [] (w ∷ ws) each same = absurd (cc)
counted k (b ∷ bs) [] each same = absurd (cc)
counted k (b ∷ bs) (w ∷ ws) each same =
    length-append (bits_with b.role b.nets) (bits bs)
    ∙ (ap (λ n. length (bits_with b.role b.nets) + n) (counted k bs ws (λ u has. each u (suc has.0, has.1)) (ap rest same))
    ∙ (ap (λ r. length (bits_with r b.nets) + bit_count (word_labels k ws)) head
    ∙ count_with w.role w.name b.nets k (each b (0, refl)) (word_labels k ws)))
  where
    rest : List Role → List Role
    rest [] = []
    rest (r ∷ rs) = rs

    first : List Role → Role
    first [] = Output
    first (r ∷ rs) = r

    head : b.role ≡ w.role
    head = ap first same

-- ---- the other nets, one after another

-- one more net that may be none of the bits
pub others_more : (list : List ℕ) (n : ℕ) → others (n + 1) list ≡ others n list ++ cond (stands_in list n) [] (n ∷ [])
others_more list n =
    let p : ℕ → Bool = λ m. not (stands_in list m) in
    let next : n + 1 ≡ suc n = omega arith in
    ap (filter p) (ap (range_with_len 0) next ∙ range_more 0 n ∙ ap (λ m. range_with_len 0 n ++ m ∷ []) (omega arith))
    ∙ (filter-append p (range_with_len 0 n) (n ∷ []) ∙ ap (λ xs. others n list ++ xs) (turned (stands_in list n)))
  where
    turned : (b : Bool) → cond (not b) (n ∷ []) [] ≡ cond b [] (n ∷ [])
    turned true = refl
    turned false = refl

-- a net differs from those before it
apart : (p : ℕ → Bool) (a m n : ℕ) → a + m ≤ n → Differs n (filter p (range_with_len a m))
apart p a zero n low = tt
apart p a (suc m) n low =
    let rest : Differs n (filter p (range_with_len (a + 1) m)) = apart p (a + 1) m n (omega arith) in
    elim (p a) as (λ b. Differs n (cond b (a ∷ filter p (range_with_len (a + 1) m)) (filter p (range_with_len (a + 1) m)))) [
      | true ↦ ((λ same. absurd (omega (arith, same))), rest)
      | false ↦ rest
    ]

pub differs_others : (list : List ℕ) (n : ℕ) → Differs n (others n list)
differs_others list n = apart (λ m. not (stands_in list m)) 0 n n (omega arith)

-- ---- whether a net is a bit, by its rank

stands_ranked : (list : List ℕ) (r n : ℕ) → IsRanked list r n → stands_in list n ≡ true
stands_ranked [] r n at = absurd (omega (arith, at.0))
stands_ranked (x ∷ xs) zero n at = ap (λ b. b || stands_in xs n) (eq-eqb x n at.1)
stands_ranked (x ∷ xs) (suc r) n at = elim (x == n) as (λ b. (b || stands_in xs n) ≡ true) [ true ↦ refl | false ↦ stands_ranked xs r n (omega (arith, at.0), at.1) ]

later : (xs ys : List ℕ) (r n : ℕ) → length xs ≤ r → IsRanked (xs ++ ys) r n → (k : ℕ) × IsRanked ys k n
later [] ys r n high at = (r, at)
later (x ∷ xs) ys zero n high at = absurd (omega (arith, high))
later (x ∷ xs) ys (suc r) n high at = later xs ys r n (omega (arith, high)) (omega (arith, at.0), at.1)

early : (xs ys : List ℕ) (r n : ℕ) → r < length xs → IsRanked (xs ++ ys) r n → IsRanked xs r n
early [] ys r n low at = absurd (omega (arith, low))
early (x ∷ xs) ys zero n low at = (omega arith, at.1)
early (x ∷ xs) ys (suc r) n low at = let rest = early xs ys r n (omega (arith, low)) (omega (arith, at.0), at.1) in (omega (arith, rest.0), rest.1)

-- what a test leaves passes it
passes : (p : ℕ → Bool) (xs : List ℕ) (r n : ℕ) → IsRanked (filter p xs) r n → p n ≡ true
passes p [] r n at = absurd (omega (arith, at.0))
passes p (x ∷ xs) r n at = by (λ q. passes p xs q n) (p x) refl at
  where
    hit : ((q : ℕ) → IsRanked (filter p xs) q n → p n ≡ true) → (r : ℕ) → p x ≡ true → IsRanked (x ∷ filter p xs) r n → p n ≡ true
    hit rest zero is at = ap p (sym at.1) ∙ is
    hit rest (suc r) is at = rest r (omega (arith, at.0), at.1)

    by : ((q : ℕ) → IsRanked (filter p xs) q n → p n ≡ true) → (b : Bool) → p x ≡ b → IsRanked (cond b (x ∷ filter p xs) (filter p xs)) r n → p n ≡ true
    by rest true is at = hit rest r is at
    by rest false is at = rest r at

pub bit_by_rank : (list : List ℕ) (count r n : ℕ) → IsRanked (list ++ others count list) r n → nat_lt r (length list) ≡ stands_in list n
bit_by_rank list count r n at = elim (cases_lt r (length list)) [
  | inl less ↦ lt-ltb r (length list) less ∙ sym (stands_ranked list r n (early list (others count list) r n less at))
  | inr high ↦ (let found = later list (others count list) r n high at in le-ltb r (length list) high ∙ sym (not_true (stands_in list n) (passes (λ m. not (stands_in list m)) (range_with_len 0 count) found.0 n found.1)))
]

-- the labels with one more net, where it is no bit
pub labels_step : (start old new : Labelling) (list : List ℕ) (n : ℕ) (b : Bool) → b ≡ stands_in list n → old ≡ record { output = start.output; words = start.words; nets = others n list } → new ≡ record { output = old.output; words = old.words; nets = old.nets ++ cond b [] (n ∷ []) }
    → new ≡ record { output = start.output; words = start.words; nets = others (n + 1) list }
labels_step start old new list n b is before more =
    more
    ∙ (ap (λ (l : Labelling). record { output = l.output; words = l.words; nets = l.nets ++ cond b [] (n ∷ []) }) before
    ∙ (ap (λ (c : Bool). record { output = start.output; words = start.words; nets = others n list ++ cond c [] (n ∷ []) }) is
    ∙ ap (λ (ns : List ℕ). record { output = start.output; words = start.words; nets = ns }) (sym (others_more list n))))
