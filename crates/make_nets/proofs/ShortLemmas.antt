-- The text of the net of a short plan fits a file.
use Rattle.std.proofs.Common.{◌≡◌, ◌∙◌, ap, refl, inl, inr, ℕ, ◌+◌, ◌-◌, ◌≤◌, ◌^◌, Bool, true, false, List, [], ◌∷◌, ◌++◌, length, Option, None, Some, arith}
use Rattle.std.specs.Prelude.{slice_get, if◌then◌else◌}
use Rattle.std.specs.Fmt.{decimal}
use Rattle.std.specs.List.{range_with_len}
use Rattle.std.specs.Option.{option_map_or}
use Rattle.std.proofs.lemmas.Fmt.{length-decimal-le}
use Rattle.lists.specs.Limits.{most_bytes}
use Rattle.lists.specs.Lists.{Has}
use Rattle.net_core.specs.LatchValue.{LatchValue}
use Rattle.net_core.specs.NetList.{LabelValue, NetList, text_of}
use Rattle.net_words.specs.Roles.{same_role}
use Rattle.net_words.specs.declared.word.Role.{Role}
use Rattle.net_words.specs.declared.word.Role.TheVariants.{Input, Output}
use Rattle.net_words.specs.declared.word.WordText.{WordText}
use Rattle.net_write.specs.Written.{written}
use Rattle.make_nets.specs.Made.{IsPlanFor, made_of}
use Rattle.make_nets.specs.MakerNames.{AreMakerNames}
use Rattle.make_nets.specs.Plan.{Plan}
use Rattle.make_nets.specs.Ports.{inputs_of, outer_names, outputs_of, role_nets, word_names}
use Rattle.make_nets.specs.Prefix.{prefix_of}
use Rattle.make_nets.specs.ShortPlan.{IsShort}
use Rattle.make_nets.proofs.LabelLemmas.{append_long, label_is, range_long}
use Rattle.make_nets.proofs.MostLemmas.{are_names, prefix_fits, prefix_long}
use Rattle.make_nets.proofs.TextLemmas.{text_few}

-- the words have no more nets of a role than nets
role_few : (role : Role) (n : ℕ) (words : List WordText) → length (role_nets role n words) ≤ length (word_names words)
role_few role n [] = omega arith
role_few role n (word ∷ words) =
    omega (
      arith,
      append_long (chosen (same_role word.role role)) (role_nets role (n + length word.nets) words),
      append_long word.nets (word_names words),
      chosen_few (same_role word.role role),
      role_few role (n + length word.nets) words,
    )
  where
    chosen : Bool → List ℕ
    chosen so = if so then range_with_len n (length word.nets) else []

    chosen_few : (so : Bool) → length (if so then range_with_len n (length word.nets) else []) ≤ length word.nets
    chosen_few true = omega (arith, range_long n (length word.nets))
    chosen_few false = omega arith

module _ (words : List WordText) (fed : List (List ℕ)) (latches : List LatchValue) (targets : List ℕ) (plan : Plan) (are : AreMakerNames (outer_names words fed)) (fits : IsPlanFor words fed latches targets plan) where
  abbrev names : List (List ℕ)
  names = outer_names words fed

  few : length (outer_names words fed) + (plan.next - length (outer_names words fed)) ≤ 2 ^ 20
  few = omega (arith, fits.few, fits.shape.from)

  label_short : (n : ℕ) (label : LabelValue) → slice_get (made_of words fed latches plan).labels n ≡ Some label → length label.text ≤ 136
  label_short n label got =
      elim (label_is names (prefix_of names) (plan.next - length names) (are_names names are) (prefix_fits names are) few n label got) [
        | inl w ↦ omega (arith, ap (λ (l : LabelValue). length l.text) w.2, (are.each w.0 (n, w.1)).most)
        | inr w ↦
            omega (
              arith,
              ap (λ (l : LabelValue). length l.text) w.3,
              append_long (prefix_of names) (decimal w.0),
              prefix_long names are,
              length-decimal-le 7 w.0 (omega arith) (omega (arith, w.1, few)) (omega (arith, w.1, few)),
            )
      ]

  names_short : (n : ℕ) → length (text_of (made_of words fed latches plan) n) ≤ 136
  names_short n = by (slice_get (made_of words fed latches plan).labels n) refl
    where
      by : (found : Option LabelValue) → slice_get (made_of words fed latches plan).labels n ≡ found → length (option_map_or (λ (l : LabelValue). l.text) found []) ≤ 136
      by None e = omega arith
      by (Some label) e = label_short n label e

  -- the text of the net has at most 67,108,864 bytes
  pub short_text : IsShort plan → length (word_names words) + length fed ≤ 256 → length latches ≤ 256 → length (written (made_of words fed latches plan)) ≤ most_bytes
  short_text short outer held =
      omega (
        arith,
        text_few (made_of words fed latches plan) names_short short.two,
        append_long (role_nets Input 0 words) (range_with_len (length (word_names words)) (length fed)),
        range_long (length (word_names words)) (length fed),
        role_few Input 0 words,
        role_few Output 0 words,
        short.few,
        outer,
        held,
      )
