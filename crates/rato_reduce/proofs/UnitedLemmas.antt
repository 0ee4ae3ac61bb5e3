-- A bit more among those at the end of a list.
use Rattle.std.proofs.Common.{◌≡◌, ℕ, ◌+◌, ◌-◌, ◌<◌, ◌≤◌, ◌==◌, cond, List, [], ◌∷◌, ◌++◌, length, take, drop, get_or, inl, inr, refl, sym, ◌∙◌, ap, arith}
use Rattle.std.specs.List.{insert}
use Rattle.std.proofs.lemmas.Bool.{cases_order, eq-eqb, lt-ltb, le-ltb}
use Rattle.std.proofs.lemmas.List.{drop_all, drop_at, drop_more, get_or-drop, length-drop, length-take-le, take-append-drop, take_at}
use Rattle.std.proofs.lemmas.List.Edits.{insert-append_right, insert_end, length-insert}
use Rattle.poly_mixed.specs.Product.{with_rank, union}
use Rattle.rato_reduce.specs.private.Rows.{IsLonger}

pub with_same : (r : ℕ) (rs : List ℕ) → with_rank (r ∷ rs) r ≡ r ∷ rs
with_same r rs =
    ap (λ b. cond b (r ∷ r ∷ rs) (cond (r == r) (r ∷ rs) (r ∷ with_rank rs r))) (le-ltb r r (omega arith))
    ∙ ap (λ b. cond b (r ∷ rs) (r ∷ with_rank rs r)) (eq-eqb r r refl)

pub with_lower : (x r : ℕ) (rs : List ℕ) → r < x → with_rank (x ∷ rs) r ≡ r ∷ x ∷ rs
with_lower x r rs less = ap (λ b. cond b (r ∷ x ∷ rs) (cond (r == x) (x ∷ rs) (x ∷ with_rank rs r))) (lt-ltb r x less)

pub below : (r x : ℕ) → r ≤ x → (x ≡ r → ⊥) → r < x
below r x up other =
    elim (cases_order r x) [
      | inl same ↦ absurd (other (sym same))
      | inr apart ↦ elim apart [ inl before ↦ before | inr after ↦ absurd (omega (arith, up, after)) ]
    ]

-- the bits from a place on, and where one more belongs among them
module _ (xs rest : List ℕ) (start place rank : ℕ) (low : start ≤ length xs) (same : rest ≡ drop start xs) (near : place ≤ length rest) where
  long : length rest ≡ length xs - start
  long = ap length same ∙ length-drop start xs

  item : get_or rest place 0 ≡ get_or xs (start + place) 0
  item = ap (λ (ys : List ℕ). get_or ys place 0) same ∙ get_or-drop start xs place 0

  pub place_inside : start + place ≤ length xs
  place_inside = omega (arith, low, near, long)

  inserted : insert xs (start + place) rank ≡ take start xs ++ insert rest place rank
  inserted =
      let back : start + place - start ≡ place = omega arith in
      ap (λ (zs : List ℕ). insert zs (start + place) rank) (sym (take-append-drop start xs))
      ∙ insert-append_right (take start xs) (drop start xs) start (start + place) rank (length-take-le start xs low) (omega arith)
      ∙ (λ i. take start xs ++ insert (sym same i) (back i) rank)

  pub at_end : start + place ≡ length xs → xs ++ rank ∷ [] ≡ insert xs (start + place) rank
  at_end end = sym (ap (λ (n : ℕ). insert xs n rank) end ∙ insert_end xs rank)

  pub front_stays : (new : List ℕ) → new ≡ insert xs (start + place) rank → take start new ≡ take start xs
  front_stays new put = ap (take start) (put ∙ inserted) ∙ take_at (take start xs) (insert rest place rank) start (length-take-le start xs low)

  pub not_shorter : (new : List ℕ) → new ≡ insert xs (start + place) rank → start ≤ length new
  not_shorter new put = omega (arith, low, ap length put, length-insert xs (start + place) rank place_inside)

  -- it is there
  pub is_there : with_rank rest rank ≡ take place rest ++ with_rank (drop place rest) rank → start + place < length xs → get_or xs (start + place) 0 ≡ rank → drop start xs ≡ with_rank (drop start xs) rank
  is_there is less found =
      let tail : List ℕ = drop (place + 1) rest in
      let here : drop place rest ≡ rank ∷ tail = drop_more rest place 0 (omega (arith, less, long)) ∙ ap (λ (x : ℕ). x ∷ tail) (item ∙ found) in
      let kept : with_rank (drop place rest) rank ≡ drop place rest = ap (λ (ys : List ℕ). with_rank ys rank) here ∙ with_same rank tail ∙ sym here in
      sym same ∙ sym (is ∙ ap (λ (ys : List ℕ). take place rest ++ ys) kept ∙ take-append-drop place rest) ∙ ap (λ (ys : List ℕ). with_rank ys rank) same

  lower : (place < length rest → rank ≤ get_or rest place 0) → (start + place < length xs → get_or xs (start + place) 0 ≡ rank → ⊥) → rank ∷ drop place rest ≡ with_rank (drop place rest) rank
  lower stop other =
      elim (cases_order place (length rest)) [
        | inl end ↦
            (let none : drop place rest ≡ [] = drop_all place rest (omega (arith, end)) in
            ap (λ (ys : List ℕ). rank ∷ ys) none ∙ sym (ap (λ (ys : List ℕ). with_rank ys rank) none))
        | inr apart ↦ elim apart [
          | inl before ↦
              (let x : ℕ = get_or rest place 0 in
              let tail : List ℕ = drop (place + 1) rest in
              let here : drop place rest ≡ x ∷ tail = drop_more rest place 0 before in
              let less : rank < x = below rank x (stop before) (λ e. other (omega (arith, before, long)) (sym item ∙ e)) in
              ap (λ (ys : List ℕ). rank ∷ ys) here ∙ sym (ap (λ (ys : List ℕ). with_rank ys rank) here ∙ with_lower x rank tail less))
          | inr after ↦ absurd (omega (arith, after, near))
        ]
      ]

  -- it is put in
  pub is_put : with_rank rest rank ≡ take place rest ++ with_rank (drop place rest) rank → (new : List ℕ) → new ≡ insert xs (start + place) rank → (place < length rest → rank ≤ get_or rest place 0)
      → (start + place < length xs → get_or xs (start + place) 0 ≡ rank → ⊥) → drop start new ≡ with_rank (drop start xs) rank
  is_put is new put stop other =
      ap (drop start) (put ∙ inserted)
      ∙ drop_at (take start xs) (insert rest place rank) start (length-take-le start xs low)
      ∙ ap (λ (ys : List ℕ). take place rest ++ ys) (lower stop other)
      ∙ sym is
      ∙ ap (λ (ys : List ℕ). with_rank ys rank) same

-- what stands behind the first items is united
module _ (old bits new : List ℕ) (start : ℕ) (first : start ≡ length old) (front : take start new ≡ take start (old ++ bits)) where
  fore : take start new ≡ old
  fore = front ∙ take_at old bits start (sym first)

  split : new ≡ old ++ drop start new
  split = sym (take-append-drop start new) ∙ ap (λ (ys : List ℕ). ys ++ drop start new) fore

  pub united_more : IsLonger old new
  united_more = record { more = drop start new; is = split }

  pub united_is : (set : List ℕ) → drop start new ≡ union (drop start (old ++ bits)) set → new ≡ old ++ union bits set
  united_is set united =
      let all : drop start new ≡ union bits set = united ∙ ap (λ (ys : List ℕ). union ys set) (drop_at old bits start (sym first)) in
      split ∙ ap (λ (ys : List ℕ). old ++ ys) all
