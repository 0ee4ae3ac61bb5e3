-- Nets of which nothing is left to unroll.
use Rattle.std.proofs.Common.{◌≡◌, ap, refl, inl, inr, ℕ, ◌&&◌, Bool, true, false, not, List, [], ◌∷◌, length, arith}
use Rattle.std.specs.Prelude.{if◌then◌else◌}
use Rattle.std.specs.List.{list_any}
use Rattle.lists.specs.Lists.{Has}
use Rattle.lists.specs.laws.BoolLaws.{both_true as both, not_true}
use Rattle.lists.specs.laws.HasLaws.{all_from, All_has, any_has, has_any}
use Rattle.net_core.specs.LatchValue.{LatchValue}
use Rattle.net_core.specs.NetList.{NetList}
use Rattle.net_words.specs.Binding.{Binding, HasWidth}
use Rattle.net_words.specs.BoundTo.{IsBoundTo}
use Rattle.net_words.specs.OneCycle.{IsFlat}
use Rattle.net_words.specs.Roles.{same_role}
use Rattle.net_words.specs.declared.bound.BoundWord.{BoundWord}
use Rattle.net_words.specs.declared.feed.Feed.{Feed}
use Rattle.net_words.specs.declared.word.Role.{Role}
use Rattle.net_words.specs.declared.word.Role.TheVariants.{Input, State, Fed, Output}
use Rattle.unroll.specs.Unrolled.{in_one_cycle, is_empty, is_flat, unrolled}
use Rattle.unroll.proofs.WordLemmas.{fed_bare}

empty_is : {X : Type 0} (xs : List X) → is_empty xs ≡ true → xs ≡ []
empty_is [] is = refl
empty_is (x ∷ xs) is = absurd (cc)

role_of : (r : Role) → same_role r Fed ≡ true → r ≡ Fed
role_of Input is = absurd (cc)
role_of State is = absurd (cc)
role_of Fed is = refl
role_of Output is = absurd (cc)

-- whether nothing is left to unroll
pub flat_from : (net : NetList) (b : Binding) → IsBoundTo net b → is_flat net b ≡ true → IsFlat net b
flat_from net b bound is =
    let first = both (is_empty net.latches) (is_empty b.feeds && not (list_any (λ word. same_role word.role Fed) b.words)) is in
    let second = both (is_empty b.feeds) (not (list_any (λ word. same_role word.role Fed) b.words)) first.1 in
    let none : list_any (λ (word : BoundWord). same_role word.role Fed) b.words ≡ false = not_true (list_any (λ word. same_role word.role Fed) b.words) second.1 in
    record {
      latches = empty_is net.latches first.0;
      feeds = empty_is b.feeds second.0;
      named = all_from (λ word. length word.nets ≡ b.k) b.words (λ word has. named none word has (All_has (HasWidth b.k) b.words word bound.parts.each has));
    }
  where
    named : list_any (λ (word : BoundWord). same_role word.role Fed) b.words ≡ false → (word : BoundWord) → Has b.words word → HasWidth b.k word → length word.nets ≡ b.k
    named none word has (inl long) = long
    named none word has (inr w) =
        let hit : list_any (λ (word : BoundWord). same_role word.role Fed) b.words ≡ true = any_has (λ (u : BoundWord). same_role u.role Fed) b.words word has (ap (λ r. same_role r Fed) w.0) in
        absurd (cc)

pub flat_to : (net : NetList) (b : Binding) → IsBoundTo net b → IsFlat net b → is_flat net b ≡ true
flat_to net b bound flat =
    let one : is_empty net.latches ≡ true = ap (λ (ls : List LatchValue). is_empty ls) flat.latches in
    let two : is_empty b.feeds ≡ true = ap (λ (fs : List Feed). is_empty fs) flat.feeds in
    join (is_empty net.latches) (is_empty b.feeds) (list_any (λ word. same_role word.role Fed) b.words) one two (λ hit. fed hit)
  where
    join : (x y z : Bool) → x ≡ true → y ≡ true → (z ≡ true → ⊥) → (x && (y && not z)) ≡ true
    join true true true x y none = absurd (none refl)
    join true true false x y none = refl
    join true false z x y none = absurd (cc)
    join false y z x other none = absurd (cc)

    fed : list_any (λ (word : BoundWord). same_role word.role Fed) b.words ≡ true → ⊥
    fed hit =
        let found = has_any (λ (word : BoundWord). same_role word.role Fed) b.words hit in
        let bare : found.0.nets ≡ [] = fed_bare net b bound found.0 found.1 (role_of found.0.role found.2) in
        let long : length found.0.nets ≡ b.k = All_has (λ (word : BoundWord). length word.nets ≡ b.k) b.words found.0 flat.named found.1 in
        omega (arith, long, ap (λ (ns : List ℕ). length ns) bare, bound.parts.some)

-- where nothing is left to unroll, the net and its words are kept
pub unrolled_flat : (net : NetList) (b : Binding) (c : ℕ) → IsBoundTo net b → IsFlat net b → unrolled net b c ≡ record { net = net; binding = b }
unrolled_flat net b c bound flat = ap (λ (r : Bool). if r then (record { net = net; binding = b }) else in_one_cycle net b c) (flat_to net b bound flat)

-- and else they are laid out cycle by cycle
pub unrolled_laid : (net : NetList) (b : Binding) (c : ℕ) → IsBoundTo net b → (IsFlat net b → ⊥) → unrolled net b c ≡ in_one_cycle net b c
unrolled_laid net b c bound left = by (is_flat net b) refl
  where
    by : (r : Bool) → is_flat net b ≡ r → (if r then (record { net = net; binding = b }) else in_one_cycle net b c) ≡ in_one_cycle net b c
    by true is = absurd (left (flat_from net b bound is))
    by false is = refl
