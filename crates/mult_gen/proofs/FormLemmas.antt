-- Forms of signatures.
use Rattle.std.proofs.Common.{◌≡◌, ◌∙◌, ap, ap₂, inl, inr, sym, subst, ℕ, ◌<◌, ◌≤◌, ◌^◌, List, [], length, map, Result, Ok, Err, arith}
use Rattle.std.specs.Prelude.{IfOk, OnOk}
use Rattle.lists.specs.laws.NumberLaws.{mul_few}
use Rattle.net_core.specs.LatchValue.{LatchValue}
use Rattle.net_core.specs.NetList.{NetList}
use Rattle.net_words.specs.declared.feed.FeedText.{FeedText}
use Rattle.net_words.specs.declared.word.Role.TheVariants.{Input, State}
use Rattle.net_words.specs.declared.word.WordText.{WordText}
use Rattle.make_nets.specs.Form.{AllWide, HasWords}
use Rattle.make_nets.specs.Made.{IsPlanFor, made_of}
use Rattle.make_nets.specs.MadeNet.{outer_net}
use Rattle.make_nets.specs.MakerNames.{AreMakerNames}
use Rattle.make_nets.specs.Plan.{Plan}
use Rattle.make_nets.specs.Ports.{outer_names}
use Rattle.make_nets.proofs.FormLemmas.{names_long, words_one_of}
use Rattle.mult_gen.specs.Form.{AreWide}
use Rattle.mult_gen.proofs.PlanLemmas.{outer_are}

-- the names of the words are few
pub names_few : (words list : List WordText) (fs : List FeedText) (k count : ℕ) → list ≡ words → fs ≡ [] → HasWords Input count words → AllWide k words → k ≤ 64 → count < 8 → length (outer_names list (map (λ (f : FeedText). f.net) fs)) ≤ 2 ^ 20
names_few words list fs k count same none has wide small few =
    let P : List WordText → Type 0 = λ ws. length (outer_names ws (map (λ (f : FeedText). f.net) fs)) ≤ 2 ^ 20 in
    let Q : List FeedText → Type 0 = λ v. length (outer_names words (map (λ (f : FeedText). f.net) v)) ≤ 2 ^ 20 in
    subst P (sym same) (subst Q (sym none) (omega (arith, outer_are words, names_long k words wide, has.all, mul_few (length words) k 8 64 (omega (arith, has.all, few)) small)))

-- inputs and the output word have k nets each
pub wide_of : (k count : ℕ) (words : List WordText) → HasWords Input count words → AreWide k words → AllWide k words
wide_of k count words has wide word there =
    wide word there (λ fed. elim (words_one_of Input count words (λ e. absurd (cc)) has word there) [ inl w ↦ absurd (cc) | inr w ↦ absurd (cc) ])

-- so have states and the output word
pub states_wide : (k count : ℕ) (words : List WordText) → HasWords State count words → AreWide k words → AllWide k words
states_wide k count words has wide word there =
    wide word there (λ fed. elim (words_one_of State count words (λ e. absurd (cc)) has word there) [ inl w ↦ absurd (cc) | inr w ↦ absurd (cc) ])

-- what comes of a value and of the form that all of them have
pub with_form : {T E : Type 0} (r : Result T E) (P R : T → Type 0) (Q : Type 0) → ((x : T) → P x → Q → R x) → IfOk r P → OnOk r Q → IfOk r R
with_form (Ok x) P R Q f value form = f x value form
with_form (Err e) P R Q f value form = tt

-- the net over the nets of the words, whose parts are given by equations
module _ (words list : List WordText) (feeds : List FeedText) (latches : List LatchValue) (list_is : list ≡ words) (none : feeds ≡ []) (empty : latches ≡ []) where
  names_same : outer_names list (map (λ (f : FeedText). f.net) feeds) ≡ outer_names words []
  names_same = ap₂ (λ u v. outer_names u (map (λ (f : FeedText). f.net) v)) list_is none

  pub maker_for : (maker : NetList) → maker ≡ outer_net (outer_names words []) → maker ≡ outer_net (outer_names list (map (λ (f : FeedText). f.net) feeds))
  maker_for maker is = is ∙ ap outer_net (sym names_same)

  pub names_for : AreMakerNames (outer_names words []) → AreMakerNames (outer_names list (map (λ (f : FeedText). f.net) feeds))
  names_for are = subst AreMakerNames (sym names_same) are

  pub fits_for : (targets : List ℕ) (plan : Plan) → IsPlanFor words [] [] targets plan → IsPlanFor list (map (λ (f : FeedText). f.net) feeds) latches targets plan
  fits_for targets plan fits =
      let P : List WordText → Type 0 = λ v. IsPlanFor v (map (λ (f : FeedText). f.net) feeds) latches targets plan in
      let Q : List FeedText → Type 0 = λ v. IsPlanFor words (map (λ (f : FeedText). f.net) v) latches targets plan in
      let R : List LatchValue → Type 0 = λ v. IsPlanFor words [] v targets plan in
      subst P (sym list_is) (subst Q (sym none) (subst R (sym empty) fits))

  pub made_for : (plan : Plan) → made_of list (map (λ (f : FeedText). f.net) feeds) latches plan ≡ made_of words [] [] plan
  made_for plan =
      ap₂ (λ u v. made_of u (map (λ (f : FeedText). f.net) v) latches plan) list_is none
      ∙ ap (λ v. made_of words [] v plan) empty
