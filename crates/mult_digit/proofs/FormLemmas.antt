-- How feeds of digits are recognized.
use Rattle.std.proofs.Common.{◌≡◌, ◌∙◌, ap, sym, subst, inl, inr, ℕ, suc, ◌<◌, ◌≤◌, ◌+◌, ◌-◌, ◌*◌, ◌/◌, ◌%◌, ◌↔◌, Bool, true, false, List, [], length, get_or, Some, arith}
use Rattle.std.specs.Prelude.{slice_get, IsTrue}
use Rattle.std.proofs.Math.Nat.{div-add-mod, div-eq_of_lt, add-zero}
use Rattle.std.proofs.lemmas.Nat.{div-mul-add}
use Rattle.std.proofs.lemmas.List.{get_or-map}
use Rattle.std.proofs.lemmas.Option.{get_or_from_slice_get, slice_get_within}
use Rattle.std.proofs.lemmas.Bool.{cases_lt}
use Rattle.lists.specs.laws.NumberLaws.{nat_eq_or, once_plus_zero}
use Rattle.lists.specs.laws.ReadLaws.{get_below}
use Rattle.net_words.specs.declared.feed.FeedText.{FeedText}
use Rattle.net_words.specs.declared.feed.Source.{Source}
use Rattle.net_words.specs.declared.feed.Source.TheVariants.{Bit}
use Rattle.mult_digit.specs.DigitForm.{AreDigitFeeds, IsDigitFeed, fed_names}
use Rattle.mult_digit.proofs.BindingLemmas.{factor_low}

-- a line that is read
pub line_is : (k width : ℕ) (feeds : List FeedText) (i : ℕ) (feed item other : FeedText) (name : List ℕ) (p q r all : Bool)
    → slice_get feeds i ≡ Some feed → item ≡ get_or feeds i item → other ≡ get_or feeds (i % width) other → name ≡ other.net → i % width < length feeds
    → IsTrue p ↔ (item.cycle ≡ i / width) → IsTrue q ↔ (item.source ≡ Bit 0 (k - width * (i / width + 1) + i % width)) → IsTrue r ↔ (item.net ≡ name) → IsTrue all ↔ (IsTrue p × IsTrue q × IsTrue r)
    → IsTrue all ↔ IsDigitFeed k width feeds i feed
line_is k width feeds i feed item other name p q r all got here there named inside cycle source net both =
    let same : item ≡ feed = here ∙ get_or_from_slice_get feeds i feed item got in
    let name_is : name ≡ get_or (fed_names feeds) (i % width) [] = named ∙ (ap (λ (f : FeedText). f.net) there ∙ sym (get_or-map (λ (f : FeedText). f.net) feeds (i % width) other [] inside)) in
    let more : i / width + 1 ≡ suc (i / width) = omega arith in
    let place : ◌≡◌ {A = Source} (Bit 0 (k - width * (i / width + 1) + i % width)) (Bit 0 (k - width * suc (i / width) + i % width)) = ap (λ n. Bit 0 (k - width * n + i % width)) more in (
      (λ yes'. let parts = both.0 yes' in record {
        cycle = ap (λ (f : FeedText). f.cycle) (sym same) ∙ cycle.0 parts.0;
        source = ap (λ (f : FeedText). f.source) (sym same) ∙ (source.0 parts.1 ∙ place);
        net = ap (λ (f : FeedText). f.net) (sym same) ∙ (net.0 parts.2 ∙ name_is);
      }),
      λ is. both.1 (
        cycle.1 (ap (λ (f : FeedText). f.cycle) same ∙ is.cycle),
        source.1 (ap (λ (f : FeedText). f.source) same ∙ (is.source ∙ sym place)),
        net.1 (ap (λ (f : FeedText). f.net) same ∙ (is.net ∙ sym name_is)),
      ),
    )

-- all lines
pub lines_are : (k width : ℕ) (feeds : List FeedText) → 1 ≤ width → length feeds ≡ k → k % width ≡ 0 → ((i : ℕ) (feed : FeedText) → i < k → slice_get feeds i ≡ Some feed → IsDigitFeed k width feeds i feed) → AreDigitFeeds k width feeds
lines_are k width feeds some long divides each = record {
  some = some;
  count = k / width;
  whole = sym (div-add-mod k width) ∙ (ap (λ r. width * (k / width) + r) divides ∙ add-zero (width * (k / width)));
  long = long;
  each = λ i feed got. each i feed (omega (arith, slice_get_within feeds i feed got, long)) got;
}

-- no width so far, and not this one
pub not_now : (k width : ℕ) (feeds : List FeedText) (found : Bool) → found ≡ false → (AreDigitFeeds k width feeds → IsTrue found) → ((w : ℕ) → w < width → AreDigitFeeds k w feeds → ⊥) → (w : ℕ) → w < width + 1 → AreDigitFeeds k w feeds → ⊥
not_now k width feeds found missed complete before w less are = elim (nat_eq_or w width) [
  | inl same ↦ let here : found ≡ true = complete (subst (λ (n : ℕ). AreDigitFeeds k n feeds) same are) in cc
  | inr other ↦ before w (omega (arith, less, other)) are
]

-- a smaller width feeds another cycle in the line after its first digit
smaller : (k v w : ℕ) (feeds : List FeedText) → 1 ≤ k → AreDigitFeeds k v feeds → AreDigitFeeds k w feeds → v < w → ⊥
smaller k v w feeds some first second less =
    let low : w ≤ k = factor_low w second.count k some second.whole in
    let feed = get_below feeds v (omega (arith, less, low, first.long)) in
    let one : v / v ≡ 1 = ap (λ n. n / v) (once_plus_zero v) ∙ div-mul-add 1 v 0 (omega (arith, first.some)) in
    let none : v / w ≡ 0 = div-eq_of_lt less in
    let same : v / v ≡ v / w = sym (first.each v feed.0 feed.1).cycle ∙ (second.each v feed.0 feed.1).cycle in
    omega (arith, one, none, same)

-- digits have one width
pub one_width : (k v w : ℕ) (feeds : List FeedText) → 1 ≤ k → AreDigitFeeds k v feeds → AreDigitFeeds k w feeds → v ≡ w
one_width k v w feeds some first second = elim (nat_eq_or v w) [
  | inl same ↦ same
  | inr other ↦ elim (cases_lt v w) [
    | inl less ↦ absurd (smaller k v w feeds some first second less)
    | inr more ↦ absurd (smaller k w v feeds some second first (omega (arith, other, more)))
  ]
]
