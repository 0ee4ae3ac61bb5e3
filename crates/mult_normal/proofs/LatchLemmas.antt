-- The latches of a multiplier in a normal basis: their outputs, and which they are.
use Rattle.std.proofs.Common.{◌≡◌, ◌⊎◌, ◌∙◌, ap, ap₂, sym, refl, inl, inr, ℕ, zero, suc, ◌<◌, ◌+◌, List, [], ◌∷◌, ◌++◌, length, map, Some, arith}
use Rattle.std.proofs.lemmas.List.{append_assoc, map-append}
use Rattle.lists.specs.Lists.{Has}
use Rattle.lists.specs.laws.HasLaws.{Has_cases, Has_left, Has_right, only_one}
use Rattle.lists.specs.laws.NumberLaws.{nat_eq_or}
use Rattle.net_core.specs.LatchValue.{LatchValue}
use Rattle.net_core.specs.declared.latch.Start.TheVariants.{Zero, Unknown}
use Rattle.make_nets.specs.Plan.{gathered}
use Rattle.make_nets.proofs.EachLemmas.{gathered_has}
use Rattle.make_laws.specs.Held.{net_at}
use Rattle.make_laws.specs.NormalNets.{place_before}
use Rattle.mult_normal.specs.NormalPlan.{moved_from, moving, normal_latches, turning}

-- the first list taken apart
gathered_first : {A : Type 0} (k : ℕ) (f : ℕ → List A) → gathered (suc k) f ≡ f 0 ++ gathered k (λ i. f (suc i))
gathered_first zero f = only (f 0)
  where
    only : {A : Type 0} (xs : List A) → [] ++ xs ≡ xs ++ []
    only [] = refl
    only (x ∷ xs) = ap (λ ys. x ∷ ys) (only xs)
gathered_first (suc k) f =
    ap (λ xs. xs ++ f (suc k)) (gathered_first k f)
    ∙ append_assoc (f 0) (gathered k (λ i. f (suc i))) (f (suc k))

-- the nets by place
pub all_nets : (a : List ℕ) → gathered (length a) (λ i. net_at a i ∷ []) ≡ a
all_nets [] = refl
all_nets (x ∷ a) = gathered_first (length a) (λ i. net_at (x ∷ a) i ∷ []) ∙ ap (λ xs. x ∷ xs) (all_nets a)

-- what latches drive that are one after the other
pub outs_of : (k : ℕ) (f : ℕ → LatchValue) → map (λ (l : LatchValue). l.out) (gathered k (λ i. f i ∷ [])) ≡ gathered k (λ i. (f i).out ∷ [])
outs_of zero f = refl
outs_of (suc k) f = map-append (λ (l : LatchValue). l.out) (gathered k (λ i. f i ∷ [])) (f k ∷ []) ∙ ap (λ xs. xs ++ (f k).out ∷ []) (outs_of k f)

-- each of them is there
pub gathered_at : (k : ℕ) (f : ℕ → LatchValue) (i : ℕ) → i < k → Has (gathered k (λ j. f j ∷ [])) (f i)
gathered_at zero f i less = absurd (omega arith)
gathered_at (suc k) f i less = elim (nat_eq_or i k) [
  | inl same ↦ Has_right (gathered k (λ j. f j ∷ [])) (f k ∷ []) (f i) (0, ap (λ j. Some (f j)) (sym same))
  | inr other ↦ Has_left (gathered k (λ j. f j ∷ [])) (f k ∷ []) (f i) (gathered_at k f i (omega (arith, less, other)))
]

-- and no other
pub gathered_is : (k : ℕ) (f : ℕ → LatchValue) (l : LatchValue) → Has (gathered k (λ j. f j ∷ [])) l → (i : ℕ) × (i < k) × (f i ≡ l)
gathered_is k f l has = let found = gathered_has (λ j. f j ∷ []) k l has in (found.0, found.1, only_one (f found.0) l found.2)

-- one more of them
pub more_latches : (f : ℕ → LatchValue) (i : ℕ) (old list new : List LatchValue) (l : LatchValue) → list ≡ old ++ gathered i (λ j. f j ∷ []) → l ≡ f i → new ≡ list ++ l ∷ [] → new ≡ old ++ gathered (i + 1) (λ j. f j ∷ [])
more_latches f i old list new l before is pushed =
    let next : i + 1 ≡ suc i = omega arith in
    rw next (pushed ∙ (ap₂ (λ xs x. xs ++ x ∷ []) before is ∙ append_assoc old (gathered i (λ j. f j ∷ [])) (f i ∷ [])))

module _ (k sum : ℕ) (a b z : List ℕ) where
  -- latch i of those that turn a word, and of those that move the product on
  abbrev pub turn : List ℕ → ℕ → LatchValue
  turn list i = record { next = net_at list (place_before k i); out = net_at list i; start = Unknown }

  abbrev pub move : ℕ → LatchValue
  move i = record { next = moved_from sum z i; out = net_at z i; start = Zero }

  pub first_turn : (i : ℕ) → i < k → Has (normal_latches k sum a b z) (turn a i)
  first_turn i less = Has_left (turning k a ++ turning k b) (moving k sum z) (turn a i) (Has_left (turning k a) (turning k b) (turn a i) (gathered_at k (turn a) i less))

  pub second_turn : (i : ℕ) → i < k → Has (normal_latches k sum a b z) (turn b i)
  second_turn i less = Has_left (turning k a ++ turning k b) (moving k sum z) (turn b i) (Has_right (turning k a) (turning k b) (turn b i) (gathered_at k (turn b) i less))

  pub each_move : (i : ℕ) → i < k → Has (normal_latches k sum a b z) (move i)
  each_move i less = Has_right (turning k a ++ turning k b) (moving k sum z) (move i) (gathered_at k move i less)

  -- which latches there are
  pub latch_cases : (l : LatchValue) → Has (normal_latches k sum a b z) l
      → ((i : ℕ) × (i < k) × (turn a i ≡ l)) ⊎ ((i : ℕ) × (i < k) × (turn b i ≡ l)) ⊎ ((i : ℕ) × (i < k) × (move i ≡ l))
  latch_cases l has = elim (Has_cases (turning k a ++ turning k b) (moving k sum z) l has) [
    | inl factors ↦ elim (Has_cases (turning k a) (turning k b) l factors) [
      | inl first ↦ inl (gathered_is k (turn a) l first)
      | inr second ↦ inr (inl (gathered_is k (turn b) l second))
    ]
    | inr last ↦ inr (inr (gathered_is k move l last))
  ]

  -- what they drive
  pub latch_outs : length a ≡ k → length b ≡ k → length z ≡ k → map (λ (l : LatchValue). l.out) (normal_latches k sum a b z) ≡ a ++ b ++ z
  latch_outs a_long b_long z_long =
      map-append (λ (l : LatchValue). l.out) (turning k a ++ turning k b) (moving k sum z)
      ∙ ap₂ ◌++◌
      (map-append (λ (l : LatchValue). l.out) (turning k a) (turning k b)
      ∙ ap₂ ◌++◌ (outs_of k (turn a) ∙ (ap (λ n. gathered n (λ i. net_at a i ∷ [])) (sym a_long) ∙ all_nets a))
      (outs_of k (turn b) ∙ (ap (λ n. gathered n (λ i. net_at b i ∷ [])) (sym b_long) ∙ all_nets b)))
      (outs_of k move ∙ (ap (λ n. gathered n (λ i. net_at z i ∷ [])) (sym z_long) ∙ all_nets z))
