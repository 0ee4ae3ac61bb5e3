-- Plans over the nets of a signature's words are nets.
use Rattle.std.proofs.Common.{◌≡◌, ◌∙◌, ap, sym, refl, subst, inl, inr, ℕ, zero, suc, ◌<◌, ◌≤◌, ◌+◌, Bool, true, false, cond, List, [], ◌∷◌, ◌++◌, length, map, Some, arith}
use Rattle.std.specs.List.{range_with_len}
use Rattle.lists.specs.Lists.{Has, times}
use Rattle.lists.specs.laws.HasLaws.{Has_cases, range_has}
use Rattle.lists.specs.laws.ReadLaws.{from_map}
use Rattle.lists.specs.laws.TestLaws.{none_here}
use Rattle.net_core.specs.LatchValue.{LatchValue}
use Rattle.net_core.specs.NetList.{NetList}
use Rattle.net_words.specs.Roles.{same_role}
use Rattle.net_words.specs.declared.word.Role.{Role}
use Rattle.net_words.specs.declared.word.Role.TheVariants.{Input, Output}
use Rattle.net_words.specs.declared.word.WordText.{WordText}
use Rattle.make_nets.specs.Plan.{Plan}
use Rattle.make_nets.specs.MadeNet.{made_net, names_in, outer_net}
use Rattle.make_nets.specs.Makeable.{IsMakeable, driven_outside}
use Rattle.make_nets.proofs.LabelLemmas.{append_long}
use Rattle.make_nets.specs.Made.{made_of, IsPlanFor}
use Rattle.make_nets.specs.MakerNames.{AreMakerNames}
use Rattle.make_nets.specs.Ports.{inputs_of, outer_names, outputs_of, role_nets, word_names}
use Rattle.make_nets.specs.Prefix.{prefix_of}
use Rattle.make_nets.proofs.MostLemmas.{are_names, prefix_fits}

cond_low : (b : Bool) (a k n : ℕ) → Has (cond b (range_with_len a k) []) n → (a ≤ n) × (n < a + k)
cond_low true a k n has = range_has a k n has
cond_low false a k n has = absurd (let got = has.1 in cc)

-- the nets of words are numbered from there
pub role_low : (role : Role) (m : ℕ) (words : List WordText) (n : ℕ) → Has (role_nets role m words) n → (m ≤ n) × (n < m + length (word_names words))
role_low role m [] n has = absurd (let got = has.1 in cc)
role_low role m (word ∷ words) n has =
    elim (Has_cases (cond (same_role word.role role) (range_with_len m (length word.nets)) []) (role_nets role (m + length word.nets) words) n has) [
      | inl w ↦ let low = cond_low (same_role word.role role) m (length word.nets) n w in (low.0, omega (arith, low.1, append_long word.nets (word_names words)))
      | inr w ↦ let low = role_low role (m + length word.nets) words n w in (omega (arith, low.0), omega (arith, low.1, append_long word.nets (word_names words)))
    ]

pub names_of_outer : (ns : List (List ℕ)) → names_in (outer_net ns) ≡ ns
names_of_outer [] = refl
names_of_outer (n ∷ ns) = ap (λ (xs : List (List ℕ)). n ∷ xs) (names_of_outer ns)

module _ (words : List WordText) (fed : List (List ℕ)) (latches : List LatchValue) (targets : List ℕ) (plan : Plan) (are : AreMakerNames (outer_names words fed)) (fits : IsPlanFor words fed latches targets plan) where
  names_long : length (outer_names words fed) ≡ length (word_names words) + length fed
  names_long = append_long (word_names words) fed

  -- and how many they are at most
  pub outer_few : length (word_names words) + length fed ≤ 1048576
  outer_few = omega (arith, names_long, fits.shape.from, fits.few)

  input_low : (n : ℕ) → Has (inputs_of words fed) n → n < length (outer_names words fed)
  input_low n has = elim (Has_cases (role_nets Input 0 words) (range_with_len (length (word_names words)) (length fed)) n has) [
    | inl w ↦ omega (arith, (role_low Input 0 words n w).1, names_long)
    | inr w ↦ omega (arith, (range_has (length (word_names words)) (length fed) n w).1, names_long)
  ]

  driven_low : (n : ℕ) → Has (driven_outside (inputs_of words fed) latches) n → n < length (outer_names words fed)
  driven_low n has = elim (Has_cases (inputs_of words fed) (map (λ (l : LatchValue). l.out) latches) n has) [
    | inl w ↦ input_low n w
    | inr w ↦ let from = from_map (λ (l : LatchValue). l.out) latches w.0 n w.1 in omega (arith, fits.latch_outs from.0 (w.0, from.1), from.2)
  ]

  pub makeable : IsMakeable (outer_names words fed) (prefix_of (outer_names words fed)) (inputs_of words fed) (outputs_of words) latches targets plan
  makeable = record {
    names_fit = are_names (outer_names words fed) are;
    prefix_fits = prefix_fits (outer_names words fed) are;
    made = fits.shape;
    once = fits.once;
    driven_low = driven_low;
    outputs_low = λ n has. omega (arith, (role_low Output 0 words n has).1, names_long, fits.shape.from);
    nexts_low = fits.nexts;
    few = fits.few;
  }

times_range_none : (a k n : ℕ) → (Has (range_with_len a k) n → ⊥) → times n (range_with_len a k) ≡ 0
times_range_none a zero n none = refl
times_range_none a (suc k) n none = omega (arith, none_here n a (λ e. none (0, ap Some e)), times_range_none (a + 1) k n (λ has. none (suc has.0, has.1)))

pub inputs_at : (words : List WordText) (fed : List (List ℕ)) (list new : List ℕ) (count long : ℕ) → list ≡ role_nets Input 0 words → count ≡ length (word_names words) → long ≡ length fed → new ≡ list ++ range_with_len count long → new ≡ inputs_of words fed
inputs_at words fed list new count long is counted fits more =
    more ∙ (ap (λ (v : List ℕ). v ++ range_with_len count long) is ∙ (ap (λ n. role_nets Input 0 words ++ range_with_len n long) counted ∙ ap (λ n. role_nets Input 0 words ++ range_with_len (length (word_names words)) n) fits))

-- what can be made, where the parts are given by equations
module _ (words : List WordText) (fed : List (List ℕ)) (latches : List LatchValue) (plan : Plan) (maker : NetList) (prefix inputs outputs : List ℕ) (made : maker ≡ outer_net (outer_names words fed)) (prefixed : prefix ≡ prefix_of (outer_names words fed)) (ins : inputs ≡ inputs_of words fed) (outs : outputs ≡ outputs_of words) where
  names_at : names_in maker ≡ outer_names words fed
  names_at = ap names_in made ∙ names_of_outer (outer_names words fed)

  pub outer_at : (count long outer : ℕ) → count ≡ length (word_names words) → long ≡ length fed → outer ≡ count + long → outer ≡ length (names_in maker)
  outer_at count long outer counted long_is is = omega (arith, ap (λ (v : List (List ℕ)). length v) names_at, append_long (word_names words) fed, counted, long_is, is)

  pub maker_at : maker ≡ outer_net (names_in maker)
  maker_at = made ∙ ap outer_net (sym names_at)

  pub makeable_at : (targets : List ℕ) → AreMakerNames (outer_names words fed) → IsPlanFor words fed latches targets plan → IsMakeable (names_in maker) prefix inputs outputs latches targets plan
  makeable_at targets are fits =
      let P : List (List ℕ) → Type 0 = λ names. IsMakeable names prefix inputs outputs latches targets plan in
      let Q : List ℕ → Type 0 = λ p. IsMakeable (outer_names words fed) p inputs outputs latches targets plan in
      let R : List ℕ → Type 0 = λ i. IsMakeable (outer_names words fed) (prefix_of (outer_names words fed)) i outputs latches targets plan in
      let S : List ℕ → Type 0 = λ o. IsMakeable (outer_names words fed) (prefix_of (outer_names words fed)) (inputs_of words fed) o latches targets plan in
      subst P (sym names_at) (subst Q (sym prefixed) (subst R (sym ins) (subst S (sym outs) (makeable words fed latches targets plan are fits))))

  pub made_at : made_net (names_in maker) prefix inputs outputs latches plan ≡ made_of words fed latches plan
  made_at =
      ap (λ (names : List (List ℕ)). made_net names prefix inputs outputs latches plan) names_at
      ∙ (ap (λ (p : List ℕ). made_net (outer_names words fed) p inputs outputs latches plan) prefixed
      ∙ (ap (λ (i : List ℕ). made_net (outer_names words fed) (prefix_of (outer_names words fed)) i outputs latches plan) ins
      ∙ ap (λ (o : List ℕ). made_net (outer_names words fed) (prefix_of (outer_names words fed)) (inputs_of words fed) o latches plan) outs))
