-- The generators that lines name are there.
use Rattle.std.proofs.Common.{◌≡◌, sym, refl, subst, ℕ, suc, ◌<◌, ◌+◌, true, false, cond, ◌==◌, List, length, nat_lt, Some, None, codes, Result, Ok, Err, arith}
use Rattle.std.specs.Prelude.{Option}
use Rattle.std.specs.Option.{option_map}
use Rattle.std.proofs.lemmas.Bool.{ltb-true}
use Rattle.text_core.specs.Numbers.{value_of}
use Rattle.net_core.specs.NetList.{NetList, nets}
use Rattle.poly_mixed.specs.Labels.{Labelling, word_at, word_of}
use Rattle.poly_mixed.specs.declared.steps.Generator.{Generator}
use Rattle.poly_mixed.specs.declared.steps.Generator.TheVariants.{Net, Bit}
use Rattle.cert_check.specs.Driver.{is_driven}
use Rattle.cert_check.specs.Scan.{is_blank, after_word, after_sign, digits_at, indexed_at}
use Rattle.cert_check.specs.Frame.{Frame, end_of, after_generator, net_named, bit_found, bit_named, let_named, paired, shared, after_or, ended, let_line, frame_of}
use Rattle.cert_check.specs.declared.fault.LineFault.{LineFault}
use Rattle.cert_check.specs.declared.fault.LineFault.TheVariants.{Syntax, NoSuchNet, NoSuchBit, NotDriven}
use Rattle.cert_check.specs.private.Reading.{IsGenerator}
use Rattle.cert_check.proofs.FrameGenerator.{HasGenerator}
use Rattle.poly_mixed.proofs.TrackLemmas.{word_small}

later : (n w : ℕ) (o : Option ℕ) → ((v : ℕ) → o ≡ Some v → v < n) → option_map (λ i. i + 1) o ≡ Some w → w < suc n
later n w None below e = absurd (cc)
later n w (Some v) below e = (let same : v + 1 ≡ w = cc in omega (arith, same, below v refl))

module _ (net : NetList) (labels : Labelling) where
  IsGood : Result Frame LineFault → Type 0
  IsGood (Ok frame) = HasGenerator net labels frame
  IsGood (Err fault) = Unit {0}

  after_good : (g : Generator) → IsGenerator net labels g → (o : Option (List ℕ)) → IsGood (paired (after_generator g o))
  unfolding IsGood
  after_good g is None = tt
  after_good g is (Some rest) = is

  net_good : (o : Option (List ℕ × List ℕ)) → IsGood (paired (net_named net o))
  unfolding IsGood
  net_good None = tt
  net_good (Some found) =
      let n : ℕ = value_of 10 found.0 in
      elim (nat_lt n (nets net)) as (λ v. nat_lt n (nets net) ≡ v → IsGood (paired (cond v (cond (is_driven net n) (after_generator (Net n) (after_sign 58 found.1)) (Err NotDriven)) (Err NoSuchNet)))) [
        | true ↦ λ e. elim (is_driven net n) as (λ v. is_driven net n ≡ v → IsGood (paired (cond v (after_generator (Net n) (after_sign 58 found.1)) (Err NotDriven)))) [
          | true ↦ λ f. after_good (Net n) (ltb-true n (nets net) e, f) (after_sign 58 found.1)
          | false ↦ λ f. tt
        ] refl
        | false ↦ λ e. tt
      ] refl

  place_good : (place : ℕ) (rest : List ℕ) (o : Option ℕ) → ((w : ℕ) → o ≡ Some w → w < length labels.words) → IsGood (paired (bit_found labels o place rest))
  unfolding IsGood
  place_good place rest None below = tt
  place_good place rest (Some w) below =
      elim (nat_lt place (word_at labels.words w).1) as (λ v. nat_lt place (word_at labels.words w).1 ≡ v → IsGood (paired (cond v (after_generator (Bit w place) (after_sign 58 rest)) (Err NoSuchBit)))) [
        | true ↦ λ e. after_good (Bit w place) (below w refl, ltb-true place (word_at labels.words w).1 e) (after_sign 58 rest)
        | false ↦ λ e. tt
      ] refl

  bit_good : (o : Option (List ℕ × List ℕ × List ℕ)) → IsGood (paired (bit_named labels o))
  unfolding IsGood
  bit_good None = tt
  bit_good (Some found) = place_good (value_of 10 found.1) found.2 (word_of labels.words found.0) (λ w e. word_small labels.words found.0 w e)

  share_good : (r : Result (List ℕ) LineFault) → IsGood (shared r)
  unfolding IsGood
  share_good (Ok rest) = tt
  share_good (Err fault) = tt

  let_good : (version count : ℕ) (rest : List ℕ) → IsGood (let_line version count rest)
  unfolding IsGood
  let_good version count rest = elim (version == 2) as (λ v. IsGood (cond v (shared (let_named count (digits_at rest))) (Err Syntax))) [
    | true ↦ share_good (let_named count (digits_at rest))
    | false ↦ tt
  ]

  end_good : (rest : List ℕ) → IsGood (ended rest)
  unfolding IsGood
  end_good rest = elim (is_blank rest) as (λ v. IsGood (cond v (Ok end_of) (Err Syntax))) [ true ↦ tt | false ↦ tt ]

  or_good : (o : Option (List ℕ)) (here : List ℕ → Result Frame LineFault) (other : Result Frame LineFault) → ((rest : List ℕ) → IsGood (here rest)) → IsGood other → IsGood (after_or o here other)
  or_good None here other each last = last
  or_good (Some rest) here other each last = each rest

  all_good : (version count : ℕ) (line : List ℕ) → IsGood (frame_of net labels version count line)
  unfolding IsGood
  all_good version count line =
      or_good (after_word (codes "net") line) (λ rest. paired (net_named net (digits_at rest)))
      (after_or (after_word (codes "bit") line) (λ rest. paired (bit_named labels (indexed_at rest))) (after_or (after_word (codes "let") line) (let_line version count) (after_or (after_word (codes "end") line) ended (Err Syntax))))
      (λ rest. net_good (digits_at rest))
      (or_good (after_word (codes "bit") line) (λ rest. paired (bit_named labels (indexed_at rest))) (after_or (after_word (codes "let") line) (let_line version count) (after_or (after_word (codes "end") line) ended (Err Syntax)))
      (λ rest. bit_good (indexed_at rest))
      (or_good (after_word (codes "let") line) (let_line version count) (after_or (after_word (codes "end") line) ended (Err Syntax)) (let_good version count)
      (or_good (after_word (codes "end") line) ended (Err Syntax) end_good tt)))

  -- the generator that a line begins with is there
  pub frame_generator : (version count : ℕ) (line : List ℕ) (frame : Frame) → Ok frame ≡ frame_of net labels version count line → HasGenerator net labels frame
  unfolding IsGood
  frame_generator version count line frame is =
      let P : Result Frame LineFault → Type 0 = IsGood in
      subst P (sym is) (all_good version count line)
