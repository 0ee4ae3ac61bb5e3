-- The lists of slots by bit after one of them was written.
use Rattle.std.proofs.Common.{◌≡◌, ℕ, zero, suc, ◌+◌, ◌<◌, ◌≤◌, length, drop, slice_index, arith, true, false, cond, List, [], ◌∷◌, map, Option, Some, None, refl, sym, ◌∙◌, ap, subst}
use Rattle.std.proofs.Math.ListN.{drop_of_length-le}
use Rattle.std.specs.List.Sorted.{IsStrictlySortedBy}
use Rattle.std.specs.Map.{lookup}
use Rattle.std.specs.Option.{unwrap_or, option_map}
use Rattle.std.specs.Ordering.{nat_cmp, eq_by_cmp}
use Rattle.std.specs.Cmp.{ranked}
use Rattle.std.specs.declared.cmp.Ordering.TheVariants.{Equal}
use Rattle.std.proofs.lemmas.Map.Made.{lookup-map_values}
use Rattle.lists.specs.laws.OrderingLaws.{is_equal}
use Rattle.poly_mixed.specs.private.Listed.{list_at, AreRising, changed, all_changed}

pub same_bit : (x y : ℕ) → eq_by_cmp nat_cmp x y ≡ true → x ≡ y
same_bit x y e = ranked x y Equal (sym (is_equal (nat_cmp x y) e))

-- lists that one change of rising lists gives rise
pub stays_rising : (f : List ℕ → List ℕ) (bit : ℕ) (old new : List (ℕ × List ℕ)) → ((xs : List ℕ) → IsStrictlySortedBy nat_cmp xs → IsStrictlySortedBy nat_cmp (f xs)) → AreRising old
    → ((b : ℕ) → list_at new b ≡ changed f bit (list_at old) b) → AreRising new
stays_rising f bit old new keeps up e b =
    let P : List ℕ → Type 0 = λ xs. IsStrictlySortedBy nat_cmp xs in
    subst P (sym (e b)) (elim (eq_by_cmp nat_cmp bit b) as (λ t. IsStrictlySortedBy nat_cmp (cond t (f (list_at old bit)) (list_at old b))) [ true ↦ keeps (list_at old bit) (up bit) | false ↦ up b ])

module _ {V : Type 0} (g : V → List ℕ) where
  abbrev pub lists_of : List (ℕ × V) → List (ℕ × List ℕ)
  lists_of es = map (λ e. (e.0, g e.1)) es

  abbrev pub items_or : Option V → List ℕ
  items_or o = unwrap_or (option_map g o) []

  pub at_is : (es : List (ℕ × V)) (b : ℕ) → list_at (lists_of es) b ≡ items_or (lookup (eq_by_cmp nat_cmp b) es)
  at_is es b = ap (λ o. unwrap_or o []) (lookup-map_values g (eq_by_cmp nat_cmp b) es)

  -- w was written at the bit
  pub after_write : (f : List ℕ → List ℕ) (bit : ℕ) (es ns : List (ℕ × V)) (xs : List ℕ) (w : V) → list_at (lists_of es) bit ≡ xs → g w ≡ f xs
      → ((q : ℕ) → lookup (eq_by_cmp nat_cmp q) ns ≡ cond (eq_by_cmp nat_cmp bit q) (Some w) (lookup (eq_by_cmp nat_cmp q) es))
      → (b : ℕ) → list_at (lists_of ns) b ≡ changed f bit (list_at (lists_of es)) b
  after_write f bit es ns xs w there gives writes b =
      at_is ns b ∙ ap items_or (writes b)
      ∙ elim (eq_by_cmp nat_cmp bit b) as (λ t. items_or (cond t (Some w) (lookup (eq_by_cmp nat_cmp b) es)) ≡ cond t (f (list_at (lists_of es) bit)) (list_at (lists_of es) b)) [
        | true ↦ gives ∙ ap f (sym there)
        | false ↦ sym (at_is es b)
      ]

  -- the bit has no list, and an empty one would stay
  pub after_none : (f : List ℕ → List ℕ) (bit : ℕ) (es : List (ℕ × V)) → lookup (eq_by_cmp nat_cmp bit) es ≡ None → f [] ≡ [] → (b : ℕ) → list_at (lists_of es) b ≡ changed f bit (list_at (lists_of es)) b
  after_none f bit es had stays b =
      let there : list_at (lists_of es) bit ≡ [] = at_is es bit ∙ ap items_or had in
      elim (eq_by_cmp nat_cmp bit b) as (λ t. eq_by_cmp nat_cmp bit b ≡ t → list_at (lists_of es) b ≡ cond t (f (list_at (lists_of es) bit)) (list_at (lists_of es) b)) [
        | true ↦ λ e. let P : ℕ → Type 0 = λ n. list_at (lists_of es) n ≡ f (list_at (lists_of es) bit) in subst P (same_bit bit b e) (there ∙ sym (ap f there ∙ stays))
        | false ↦ λ e. refl
      ] refl

-- ---- several bits

-- changing equal lists
pub changed_alike : (f : List ℕ → List ℕ) (bit : ℕ) (l m : ℕ → List ℕ) → ((b : ℕ) → l b ≡ m b) → (b : ℕ) → changed f bit l b ≡ changed f bit m b
changed_alike f bit l m e b = λ i. cond (eq_by_cmp nat_cmp bit b) (f (e bit i)) (e b i)

pub all_changed_alike : (f : List ℕ → List ℕ) (bits : List ℕ) (l m : ℕ → List ℕ) → ((b : ℕ) → l b ≡ m b) → (b : ℕ) → all_changed f bits l b ≡ all_changed f bits m b
all_changed_alike f [] l m e b = e b
all_changed_alike f (bit ∷ bits) l m e b = all_changed_alike f bits (changed f bit l) (changed f bit m) (changed_alike f bit l m e) b

-- one bit further
pub one_further : (f : List ℕ → List ℕ) (bits : List ℕ) (i : ℕ) (l m : ℕ → List ℕ) → i < length bits → ((b : ℕ) → m b ≡ changed f (slice_index bits i) l b) → (b : ℕ) → all_changed f (drop (i + 1) bits) m b ≡ all_changed f (drop i bits) l b
one_further f [] i l m h e b = absurd (omega (arith, h))
one_further f (x ∷ bits) zero l m h e b = all_changed_alike f bits m (changed f x l) e b
one_further f (x ∷ bits) (suc i) l m h e b =
    let same : suc (i + 1) ≡ suc i + 1 = omega arith in
    let P : ℕ → Type 0 = λ n. all_changed f (drop n (x ∷ bits)) m b ≡ all_changed f (drop i bits) l b in
    subst P same (one_further f bits i l m (omega (arith, h)) e b)

-- and none are left
pub none_left : (f : List ℕ → List ℕ) (bits : List ℕ) (i : ℕ) (l : ℕ → List ℕ) → length bits ≤ i → (b : ℕ) → all_changed f (drop i bits) l b ≡ l b
none_left f bits i l h b = ap (λ rs. all_changed f rs l b) (drop_of_length-le bits h)
