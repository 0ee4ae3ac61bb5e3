-- The name of the output word, found word by word.
use Rattle.std.proofs.Common.{◌≡◌, ◌≢◌, ◌∙◌, ap, sym, refl, subst, ℕ, zero, suc, ◌+◌, ◌≤◌, Bool, false, cond, List, [], ◌∷◌, length, drop, filter, Some, arith, drop_of_length-le}
use Rattle.std.specs.Prelude.{slice_get}
use Rattle.net_words.specs.Roles.{is_output, same_role}
use Rattle.net_words.specs.declared.word.Role.{Role}
use Rattle.net_words.specs.declared.word.Role.TheVariants.{Input, State, Fed, Output}
use Rattle.net_words.specs.declared.word.WordText.{WordText}
use Rattle.job_input.specs.Labelling.{name_with, output_name}

-- the output word is the first that is left
pub named_here : (words : List WordText) (i : ℕ) (word : WordText) → slice_get words i ≡ Some word → word.role ≡ Output → output_name (drop i words) ≡ word.name
named_here [] i word got is = absurd (cc)
named_here (u ∷ us) zero word got is =
    let same : u ≡ word = cc in
    let role : u.role ≡ Output = ap (λ (w : WordText). w.role) same ∙ is in
    ap (λ (r : Role). name_with r u.name (output_name us)) role ∙ ap (λ (w : WordText). w.name) same
named_here (u ∷ us) (suc i) word got is = named_here us i word got is

other_name : (r : Role) (name rest : List ℕ) → r ≢ Output → rest ≡ name_with r name rest
other_name Input name rest other = refl
other_name State name rest other = refl
other_name Fed name rest other = refl
other_name Output name rest other = absurd (other refl)

other_role : (r : Role) → r ≢ Output → same_role r Output ≡ false
other_role Input other = refl
other_role State other = refl
other_role Fed other = refl
other_role Output other = absurd (other refl)

-- the words from a place on are named as those behind it, and have as many outputs
pub record IsPassed (words rest : List WordText) : Type 0 where
  pub name : output_name rest ≡ output_name words
  pub count : length (filter is_output rest) ≡ length (filter is_output words)

passed_one : (u : WordText) (us : List WordText) → u.role ≢ Output → IsPassed (u ∷ us) us
passed_one u us other = record { name = other_name u.role u.name (output_name us) other; count = ap (λ (b : Bool). length (cond b (u ∷ filter is_output us) (filter is_output us))) (sym (other_role u.role other)) }

-- a word that is not the output is passed
pub passed : (words : List WordText) (i : ℕ) (word : WordText) → slice_get words i ≡ Some word → word.role ≢ Output → IsPassed (drop i words) (drop (i + 1) words)
passed words i word got other =
    let up : suc i ≡ i + 1 = omega arith in
    let P : ℕ → Type 0 = λ n. IsPassed (drop i words) (drop n words) in
    subst P up (next words i got)
  where
    next : (us : List WordText) (j : ℕ) → slice_get us j ≡ Some word → IsPassed (drop j us) (drop (suc j) us)
    next [] j got = absurd (cc)
    next (u ∷ us) zero got = let same : u ≡ word = cc in passed_one u us (λ is. other (ap (λ (w : WordText). w.role) (sym same) ∙ is))
    next (u ∷ us) (suc j) got = next us j got

-- behind the last word there is no output
pub none_left : (words : List WordText) (i : ℕ) → length words ≤ i → length (filter is_output (drop i words)) ≡ 0
none_left words i past = ap (λ us. length (filter is_output us)) (drop_of_length-le words past)
