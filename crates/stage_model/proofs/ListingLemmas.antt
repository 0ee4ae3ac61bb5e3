-- Listings of stages in general: one first over a bound at most, one listing after another, and the search for the first one.
use Rattle.std.proofs.Common.{◌≡◌, ◌⊎◌, ◌↔◌, ap, sym, subst, inl, inr, ℕ, ◌<◌, arith}
use Rattle.stage_model.specs.Stage.{HasSize, IsWithin}
pub use Rattle.stage_model.specs.Listing.{IsOrdered}
use Rattle.stage_model.specs.Listing.{Listing, Joined, Earlier, Later, followed_by, is_in_either, stage_of_either, AreAllWithin, IsOver}

module _ (k : ℕ) (mul : ℕ → ℕ → ℕ) where
  -- a listed stage has one size at most
  abbrev pub HaveOneSize : {N : Type 0} → Listing N → Type 0
  HaveOneSize {N = N} listing = (name : N) (m n : ℕ) → listing.is_listed name → HasSize k mul (listing.stage_of name) m → HasSize k mul (listing.stage_of name) n → m ≡ n

  module _ {N : Type 0} (listing : Listing N) (bound : ℕ) where
    not_both : HaveOneSize listing → (name : N) (n : ℕ) → listing.is_listed name → HasSize k mul (listing.stage_of name) n → bound < n → IsWithin k mul (listing.stage_of name) bound → ⊥
    not_both sizes name n listed has over within = let same = sizes name within.size n listed within.has has in let small = within.within in omega arith

    -- one is first over a bound at most
    pub one_over : IsOrdered listing → HaveOneSize listing → (a b : N) (m n : ℕ) → IsOver k mul listing bound a m → IsOver k mul listing bound b n → (a ≡ b) × (m ≡ n)
    one_over ordered sizes a b m n x y =
        elim (ordered a b x.listed y.listed) [
          | inl same ↦
              let P : N → Type 0 = λ name. HasSize k mul (listing.stage_of name) n in
              (same, sizes a m n x.listed x.size (subst P (sym same) y.size))
          | inr other ↦ elim other [
            | inl low ↦ absurd (not_both sizes a m x.listed x.size x.over (y.before a x.listed low))
            | inr high ↦ absurd (not_both sizes b n y.listed y.size y.over (x.before b y.listed high))
          ]
        ]

    -- where one is over, not all are within
    pub over_not_all : HaveOneSize listing → (a : N) (m : ℕ) → IsOver k mul listing bound a m → AreAllWithin k mul listing bound → ⊥
    over_not_all sizes a m x all = not_both sizes a m x.listed x.size x.over (all a x.listed)

  module _ {A B : Type 0} (first : Listing A) (second : Listing B) where
    pub both_ordered : IsOrdered first → IsOrdered second → IsOrdered (followed_by first second)
    both_ordered one two (Earlier a) (Earlier b) x y = elim (one a b x y) [ inl same ↦ inl (ap (λ n. Earlier n) same) | inr other ↦ inr other ]
    both_ordered one two (Earlier a) (Later b) x y = inr (inl tt)
    both_ordered one two (Later a) (Earlier b) x y = inr (inr tt)
    both_ordered one two (Later a) (Later b) x y = elim (two a b x y) [ inl same ↦ inl (ap (λ n. Later n) same) | inr other ↦ inr other ]

    pub both_sizes : HaveOneSize first → HaveOneSize second → HaveOneSize (followed_by first second)
    both_sizes one two (Earlier a) m n = one a m n
    both_sizes one two (Later b) m n = two b m n

    module _ (bound : ℕ) where
      pub both_within : AreAllWithin k mul first bound → AreAllWithin k mul second bound → AreAllWithin k mul (followed_by first second) bound
      both_within one two (Earlier a) listed = one a listed
      both_within one two (Later b) listed = two b listed

      pub all_of_both : AreAllWithin k mul (followed_by first second) bound ↔ (AreAllWithin k mul first bound × AreAllWithin k mul second bound)
      all_of_both = ((λ all. ((λ a listed. all (Earlier a) listed), (λ b listed. all (Later b) listed))), λ both. both_within both.0 both.1)

      -- the first listing is over
      pub earlier_over : (a : A) (n : ℕ) → IsOver k mul (followed_by first second) bound (Earlier a) n ↔ IsOver k mul first bound a n
      earlier_over a n = (
        (λ x. record { listed = x.listed; size = x.size; over = x.over; before = λ other listed low. x.before (Earlier other) listed low }),
        λ x. record { listed = x.listed; size = x.size; over = x.over; before = before x },
      )
        where
          before : IsOver k mul first bound a n → (other : Joined A B) → is_in_either first second other → (followed_by first second).comes_before other (Earlier a) → IsWithin k mul (stage_of_either first second other) bound
          before x (Earlier other) listed low = x.before other listed low
          before x (Later other) listed low = absurd low

      -- the first listing is within, and the second over
      pub later_over : (b : B) (n : ℕ) → IsOver k mul (followed_by first second) bound (Later b) n ↔ (AreAllWithin k mul first bound × IsOver k mul second bound b n)
      later_over b n = (
        (λ x. ((λ other listed. x.before (Earlier other) listed tt), record { listed = x.listed; size = x.size; over = x.over; before = λ other listed low. x.before (Later other) listed low })),
        λ both. record { listed = both.1.listed; size = both.1.size; over = both.1.over; before = before both.0 both.1 },
      )
        where
          before : AreAllWithin k mul first bound → IsOver k mul second bound b n → (other : Joined A B) → is_in_either first second other → (followed_by first second).comes_before other (Later b) → IsWithin k mul (stage_of_either first second other) bound
          before all x (Earlier other) listed low = all other listed
          before all x (Later other) listed low = x.before other listed low
