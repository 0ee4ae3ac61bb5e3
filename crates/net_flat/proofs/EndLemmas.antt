-- Lists by their first and their last elements.
use Rattle.std.proofs.Common.{◌≡◌, ◌∙◌, ap, sym, ℕ, ◌≤◌, ◌+◌, ◌-◌, List, ◌++◌, take, drop, take-append-drop, arith}
use Rattle.std.proofs.lemmas.List.{drop-drop}

module _ {A : Type 0} where
  -- the first m elements are the same, and so are those from a place on that is not behind them
  pub same_by_ends : (m n : ℕ) (xs ys : List A) → n ≤ m → take m xs ≡ take m ys → drop n xs ≡ drop n ys → xs ≡ ys
  same_by_ends m n xs ys le first last =
      let to : n + (m - n) ≡ m = omega (arith, le) in
      let rest : (zs : List A) → drop (m - n) (drop n zs) ≡ drop m zs = λ zs. drop-drop (m - n) n zs ∙ ap (λ k. drop k zs) to in
      sym (take-append-drop m xs)
      ∙ (ap (λ (front : List A). front ++ drop m xs) first
      ∙ (ap (λ (back : List A). take m ys ++ back) (sym (rest xs) ∙ (ap (λ (zs : List A). drop (m - n) zs) last ∙ rest ys))
      ∙ take-append-drop m ys))
