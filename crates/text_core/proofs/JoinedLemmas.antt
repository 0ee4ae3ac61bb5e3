-- Parts that a sign joins: one part more, and that tokens are joined in one way where no part has the sign.
use Rattle.std.proofs.Common.{◌≡◌, ◌≢◌, ◌∙◌, ap, sym, refl, subst, List, [], ◌∷◌, ◌++◌, append_assoc}
use Rattle.std.specs.List.{AllByRecursion}
use Rattle.text_core.specs.Joined.{AreJoined}

-- parts, each with a sign after it
unfoldable pub AreClosed : {T A : Type 0} → T → (List T → A → Type 0) → List T → List A → Type 0
AreClosed sign Is ts [] = ts ≡ []
AreClosed {T} {A} sign Is ts (a ∷ more) = (front : List T) × (rest : List T) × (ts ≡ front ++ sign ∷ rest) × Is front a × AreClosed sign Is rest more

module _ {T A : Type 0} (sign : T) (Is : List T → A → Type 0) where
  pub none_closed : AreClosed sign Is [] []
  unfolding AreClosed
  none_closed = refl

  -- one part more, with the sign after it
  pub closed_more : (ts part : List T) (xs : List A) (a : A) → AreClosed sign Is ts xs → Is part a → AreClosed sign Is (ts ++ (part ++ sign ∷ [])) (xs ++ a ∷ [])
  unfolding AreClosed
  closed_more ts part [] a is p = (part, [], ap (λ (us : List T). us ++ (part ++ sign ∷ [])) is, p, refl)
  closed_more ts part (x ∷ xs) a is p =
      (is.0, is.1 ++ (part ++ sign ∷ []), ap (λ (us : List T). us ++ (part ++ sign ∷ [])) is.2 ∙ append_assoc is.0 (sign ∷ is.1) (part ++ sign ∷ []), is.3, closed_more is.1 part xs a is.4 p)

  join_first : (front rest : List T) (a : A) (xs : List A) (x : A) → Is front a → AreJoined sign Is rest (xs ++ x ∷ []) → AreJoined sign Is (front ++ sign ∷ rest) (a ∷ (xs ++ x ∷ []))
  join_first front rest a [] x p q = (front, rest, refl, p, q)
  join_first front rest a (y ∷ ys) x p q = (front, rest, refl, p, q)

  -- one part more, the last
  pub closed_last : (ts part : List T) (xs : List A) (a : A) → AreClosed sign Is ts xs → Is part a → AreJoined sign Is (ts ++ part) (xs ++ a ∷ [])
  unfolding AreClosed
  closed_last ts part [] a is p = let P : List T → Type 0 = λ us. Is (us ++ part) a in subst P (sym is) p
  closed_last ts part (x ∷ xs) a is p =
      let P : List T → Type 0 = λ us. AreJoined sign Is us (x ∷ (xs ++ a ∷ [])) in
      subst P (sym (ap (λ (us : List T). us ++ part) is.2 ∙ append_assoc is.0 (sign ∷ is.1) part)) (join_first is.0 (is.1 ++ part) x xs a is.3 (closed_last is.1 part xs a is.4 p))

  -- joined parts with a sign after the last
  pub joined_closed : (ts : List T) (xs : List A) → AreJoined sign Is ts xs → AreClosed sign Is (ts ++ sign ∷ []) xs
  unfolding AreClosed
  joined_closed ts [] is = absurd is
  joined_closed ts (a ∷ []) is = (ts, [], refl, is, refl)
  joined_closed ts (a ∷ b ∷ xs) is =
      (is.0, is.1 ++ sign ∷ [], ap (λ (us : List T). us ++ sign ∷ []) is.2 ∙ append_assoc is.0 (sign ∷ is.1) (sign ∷ []), is.3, joined_closed is.1 (b ∷ xs) is.4)

-- ---- in one way

-- the sign is none of these tokens
abbrev pub Lacks : {T : Type 0} → T → List T → Type 0
Lacks sign ts = AllByRecursion (λ t. t ≢ sign) ts

module _ {T : Type 0} (sign : T) where
  -- the first sign parts a list in one way
  parted : (xs ys us vs : List T) → Lacks sign xs → Lacks sign ys → xs ++ sign ∷ us ≡ ys ++ sign ∷ vs → (xs ≡ ys) × (us ≡ vs)
  parted [] [] us vs p q e = let tails : us ≡ vs = cc in (refl, tails)
  parted [] (y ∷ ys) us vs p q e = let heads : sign ≡ y = cc in absurd (q.0 (sym heads))
  parted (x ∷ xs) [] us vs p q e = let heads : x ≡ sign = cc in absurd (p.0 heads)
  parted (x ∷ xs) (y ∷ ys) us vs p q e =
      let heads : x ≡ y = cc in
      let tails : xs ++ sign ∷ us ≡ ys ++ sign ∷ vs = cc in
      let rest = parted xs ys us vs p.1 q.1 tails in
      (λ i. heads i ∷ rest.0 i, rest.1)

  has_sign : (xs us : List T) → Lacks sign (xs ++ sign ∷ us) → ⊥
  has_sign [] us p = p.0 refl
  has_sign (x ∷ xs) us p = has_sign xs us p.1

  lacks_both : (xs ys : List T) → Lacks sign xs → Lacks sign ys → Lacks sign (xs ++ ys)
  lacks_both [] ys p q = q
  lacks_both (x ∷ xs) ys p q = (p.0, lacks_both xs ys p.1 q)

module _ {T A : Type 0} (sign : T) (Is : List T → A → Type 0) (lacks : (ts : List T) (a : A) → Is ts a → Lacks sign ts) (one : (ts : List T) (a b : A) → Is ts a → Is ts b → a ≡ b) where
  -- parts that lack the sign are joined by it in one way
  pub one_joined : (ts : List T) (xs bs : List A) → AreJoined sign Is ts xs → AreJoined sign Is ts bs → xs ≡ bs
  one_joined ts [] bs p q = absurd p
  one_joined ts (a ∷ []) [] p q = absurd q
  one_joined ts (a ∷ []) (b ∷ []) p q = ap (λ x. x ∷ []) (one ts a b p q)
  one_joined ts (a ∷ []) (b ∷ c ∷ bs) p q = let P : List T → Type 0 = Lacks sign in absurd (has_sign sign q.0 q.1 (subst P q.2 (lacks ts a p)))
  one_joined ts (a ∷ c ∷ xs) [] p q = absurd q
  one_joined ts (a ∷ c ∷ xs) (b ∷ []) p q = let P : List T → Type 0 = Lacks sign in absurd (has_sign sign p.0 p.1 (subst P p.2 (lacks ts b q)))
  one_joined ts (a ∷ c ∷ xs) (b ∷ d ∷ bs) p q =
      let cut = parted sign p.0 q.0 p.1 q.1 (lacks p.0 a p.3) (lacks q.0 b q.3) (sym p.2 ∙ q.2) in
      let P : List T → Type 0 = λ us. Is us a in
      let Q : List T → Type 0 = λ us. AreJoined sign Is us (c ∷ xs) in
      let here : a ≡ b = one q.0 a b (subst P cut.0 p.3) q.3 in
      let rest : c ∷ xs ≡ d ∷ bs = one_joined q.1 (c ∷ xs) (d ∷ bs) (subst Q cut.1 p.4) q.4 in
      λ i. here i ∷ rest i

-- another sign that the parts lack is lacking where they are joined
pub joined_lacks : {T A : Type 0} (sign other : T) (Is : List T → A → Type 0) → ((ts : List T) (a : A) → Is ts a → Lacks other ts) → sign ≢ other → (ts : List T) (xs : List A) → AreJoined sign Is ts xs → Lacks other ts
joined_lacks sign other Is lacks apart ts [] p = absurd p
joined_lacks sign other Is lacks apart ts (a ∷ []) p = lacks ts a p
joined_lacks {T} sign other Is lacks apart ts (a ∷ b ∷ xs) p =
    let P : List T → Type 0 = Lacks other in
    subst P (sym p.2) (lacks_both other p.0 (sign ∷ p.1) (lacks p.0 a p.3) (apart, joined_lacks sign other Is lacks apart p.1 (b ∷ xs) p.4))
