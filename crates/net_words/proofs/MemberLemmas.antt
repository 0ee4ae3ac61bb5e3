-- What stands in lists and in the bits of words.
use Rattle.std.proofs.Common.{◌≡◌, ◌∙◌, ap, sym, refl, inl, inr, length, ⊎_elim, ℕ, suc, ◌+◌, ◌==◌, ◌&&◌, ◌||◌, List, [], ◌∷◌, Bool, true, false, cond, Some, arith}
use Rattle.std.proofs.lemmas.Bool.{eqb-true}
use Rattle.std.proofs.lemmas.Bool.Decides.{nat_tests}
use Rattle.lists.specs.Lists.{Has, times}
use Rattle.lists.specs.laws.HasLaws.{Has_left, Has_right, Has_cases, any_has, has_any}
use Rattle.net_words.specs.Roles.{stands_in, same_role, in_word}
use Rattle.net_words.specs.Binding.{HasWidth}
use Rattle.net_words.specs.BoundTo.{output_bits, output_bits_with}
use Rattle.net_words.specs.Variables.{bits, bits_with}
use Rattle.net_words.specs.declared.bound.BoundWord.{BoundWord}
use Rattle.net_words.specs.declared.word.Role.{Role}
use Rattle.net_words.specs.declared.word.Role.TheVariants.{Input, State, Fed, Output}

pub stands_has : (list : List ℕ) (n : ℕ) → stands_in list n ≡ true → Has list n
stands_has list n hit =
    let found = has_any (λ m. m == n) list hit in
    let same : found.0 ≡ n = eqb-true found.0 n found.2 in
    (found.1.0, found.1.1 ∙ ap Some same)

pub has_stands : (list : List ℕ) (n : ℕ) → Has list n → stands_in list n ≡ true
has_stands list n has = any_has (λ m. m == n) list n has (grind (arith, nat_tests))

-- a number that does not stand in a list stands there no time
pub stands_none : (list : List ℕ) (n : ℕ) → stands_in list n ≡ false → times n list ≡ 0
stands_none [] n miss = refl
stands_none (m ∷ ms) n miss =
    elim (m == n) as (λ b. (b || stands_in ms n) ≡ false → cond b 1 0 + times n ms ≡ 0) [
      | true ↦ λ e. absurd (cc)
      | false ↦ λ e. omega (arith, stands_none ms n e)
    ] miss

-- a bit of a word with this role
bit_in : (r role : Role) (list : List ℕ) (n : ℕ) → same_role role Output ≡ false → (same_role r role && stands_in list n) ≡ true → Has (bits_with r list) n
bit_in Input Input list n other hit = stands_has list n hit
bit_in Input State list n other hit = absurd (cc)
bit_in Input Fed list n other hit = absurd (cc)
bit_in Input Output list n other hit = absurd (cc)
bit_in State Input list n other hit = absurd (cc)
bit_in State State list n other hit = stands_has list n hit
bit_in State Fed list n other hit = absurd (cc)
bit_in State Output list n other hit = absurd (cc)
bit_in Fed Input list n other hit = absurd (cc)
bit_in Fed State list n other hit = absurd (cc)
bit_in Fed Fed list n other hit = stands_has list n hit
bit_in Fed Output list n other hit = absurd (cc)
bit_in Output Input list n other hit = absurd (cc)
bit_in Output State list n other hit = absurd (cc)
bit_in Output Fed list n other hit = absurd (cc)
bit_in Output Output list n other hit = absurd (cc)

-- a net in an input, state or fed word is one of the bits
pub word_bits : (role : Role) (words : List BoundWord) (n : ℕ) → same_role role Output ≡ false → in_word role words n ≡ true → Has (bits words) n
word_bits role [] n other hit = absurd (cc)
word_bits role (word ∷ words) n other hit =
    elim (same_role word.role role && stands_in word.nets n) as (λ b. (same_role word.role role && stands_in word.nets n) ≡ b → (b || in_word role words n) ≡ true → Has (bits (word ∷ words)) n) [
      | true ↦ λ e h. Has_left (bits_with word.role word.nets) (bits words) n (bit_in word.role role word.nets n other e)
      | false ↦ λ e h. Has_right (bits_with word.role word.nets) (bits words) n (word_bits role words n other h)
    ] refl hit

output_in : (r : Role) (list : List ℕ) (n : ℕ) → Has (output_bits_with r list) n → (same_role r Output && stands_in list n) ≡ true
output_in Input list n has = absurd (let got = has.1 in cc)
output_in State list n has = absurd (let got = has.1 in cc)
output_in Fed list n has = absurd (let got = has.1 in cc)
output_in Output list n has = has_stands list n has

-- a bit of the output word is a net in a word with this role
pub output_word : (words : List BoundWord) (n : ℕ) → Has (output_bits words) n → in_word Output words n ≡ true
output_word [] n has = absurd (let got = has.1 in cc)
output_word (word ∷ words) n has =
    ⊎_elim (λ here. ap (λ b. b || in_word Output words n) (output_in word.role word.nets n here)) (λ there. later (same_role word.role Output && stands_in word.nets n) (output_word words n there)) (Has_cases (output_bits_with word.role word.nets) (output_bits words) n has)
  where
    later : (b : Bool) → in_word Output words n ≡ true → (b || in_word Output words n) ≡ true
    later true hit = refl
    later false hit = hit

bit_word : (role : Role) (list : List ℕ) (n : ℕ) → Has (bits_with role list) n → Has list n × (same_role role Output ≡ false)
bit_word Input list n has = (has, refl)
bit_word State list n has = (has, refl)
bit_word Fed list n has = (has, refl)
bit_word Output list n has = absurd (let got = has.1 in cc)

-- a bit is a net of a word that is not the output word
pub bits_word : (words : List BoundWord) (n : ℕ) → Has (bits words) n → (word : BoundWord) × Has words word × Has word.nets n × (same_role word.role Output ≡ false)
bits_word [] n has = absurd (let got = has.1 in cc)
bits_word (word ∷ words) n has =
    ⊎_elim (λ here. let own = bit_word word.role word.nets n here in (word, (0, refl), own.0, own.1)) (λ there. let rest = bits_word words n there in (rest.0, (suc rest.1.0, rest.1.1), rest.2, rest.3)) (Has_cases (bits_with word.role word.nets) (bits words) n has)

output_bit : (role : Role) (list : List ℕ) (n : ℕ) → Has (output_bits_with role list) n → Has list n × (role ≡ Output)
output_bit Input list n has = absurd (let got = has.1 in cc)
output_bit State list n has = absurd (let got = has.1 in cc)
output_bit Fed list n has = absurd (let got = has.1 in cc)
output_bit Output list n has = (has, refl)

-- a bit of the output word is a net of a word with this role
pub output_bits_word : (words : List BoundWord) (n : ℕ) → Has (output_bits words) n → (word : BoundWord) × Has words word × Has word.nets n × (word.role ≡ Output)
output_bits_word [] n has = absurd (let got = has.1 in cc)
output_bits_word (word ∷ words) n has =
    ⊎_elim (λ here. let own = output_bit word.role word.nets n here in (word, (0, refl), own.0, own.1)) (λ there. let rest = output_bits_word words n there in (rest.0, (suc rest.1.0, rest.1.1), rest.2, rest.3)) (Has_cases (output_bits_with word.role word.nets) (output_bits words) n has)

-- the output word has k nets
pub output_width : (k : ℕ) (word : BoundWord) → HasWidth k word → word.role ≡ Output → length word.nets ≡ k
output_width k word (inl long) is = long
output_width k word (inr (fed, none)) is = let same : Output ≡ Fed = sym is ∙ fed in absurd (cc)
