-- What a multiplier is known by: its coefficient and its bit where it is a term without words and with at most one bit,
-- a bit of a word, and else its text. Source: this project's own.
use Rattle.std.specs.Prelude.{ℕ, Bool, ◌+◌, ◌-◌, ◌==◌, cond, codes, List, [], ◌∷◌, ◌++◌, map, replicate, nat_lt, Option, Some, None}
use Rattle.std.specs.Cmp.{IsTotalOrder, nat_cmp_total, on_total, then_total}
use Rattle.std.specs.Cmp.Lexicographic.{slice_cmp, nat_list_cmp_total}
use Rattle.std.specs.Option.{option_map}
use Rattle.std.specs.Ordering.{nat_cmp, on, then_cmp, is_eq}
use Rattle.std.specs.Str.{bytes_eq}
use Rattle.std.specs.declared.cmp.Ordering.{Ordering}
use Rattle.poly_mixed.specs.Labels.{Labelling, bit_count, rank_text}
use Rattle.poly_mixed.specs.Monomial.{Monomial}
use Rattle.poly_mixed.specs.Polynomial.{Terms}
use Rattle.poly_mixed.specs.Steps.{Step}
use Rattle.poly_mixed.specs.Text.{text}
use Rattle.text_core.specs.Numbers.{hex_text}

-- a coefficient and a place, where 0 is no bit and n + 1 the bit of rank n; with the coefficient 0, a text
pub record KeyParts : Type 0 where
  pub coefficient : ℕ
  pub place : ℕ
  pub bytes : List ℕ

-- the order of keys after their coefficients
abbrev pub rest_cmp : KeyParts → KeyParts → Ordering
rest_cmp = then_cmp (on (λ k. k.place) nat_cmp) (on (λ k. k.bytes) (slice_cmp nat_cmp))

-- keys in an order of their own, by numbers first
abbrev pub key_cmp : KeyParts → KeyParts → Ordering
key_cmp = then_cmp (on (λ k. k.coefficient) nat_cmp) rest_cmp

-- it is a total order
pub key_cmp_total : IsTotalOrder key_cmp
key_cmp_total =
    then_total (on_total (λ k. k.coefficient) nat_cmp_total)
    (then_total (on_total (λ k. k.place) nat_cmp_total) (on_total (λ k. k.bytes) nat_list_cmp_total))

-- whether a key is this one
abbrev pub is_key : KeyParts → KeyParts → Bool
is_key t q = is_eq (key_cmp t q)

-- the place of a rank below a bound
abbrev pub place_below : ℕ → ℕ → Option ℕ
place_below bound r = cond (nat_lt r bound) (Some (r + 1)) None

-- the place of at most one rank
abbrev pub place_of_bits : ℕ → List ℕ → Option ℕ
place_of_bits bound [] = Some 0
place_of_bits bound (r ∷ []) = place_below bound r
place_of_bits bound (r ∷ s ∷ rs) = None

-- the place of a monomial without words
abbrev pub place_of_monomial : ℕ → Monomial → Option ℕ
place_of_monomial bound m = cond (bytes_eq m.exponents (replicate 8 0)) (place_of_bits bound m.bits) None

-- the coefficient and the place of the only term, where its monomial has a place
abbrev pub short_form : ℕ → Terms → Option (ℕ × ℕ)
short_form bound [] = None
short_form bound (t ∷ []) = option_map (λ p. (t.1, p)) (place_of_monomial bound t.0)
short_form bound (t ∷ u ∷ ts) = None

abbrev pub key_from : Option (ℕ × ℕ) → List ℕ → KeyParts
key_from None bytes = record { coefficient = 0; place = 0; bytes = bytes }
key_from (Some s) bytes = record { coefficient = s.0; place = s.1; bytes = [] }

-- what a multiplier is known by
unfoldable pub key_by : Labelling → Terms → KeyParts
key_by labels ts = key_from (short_form (bit_count labels.words) ts) (text labels ts)

-- what the multipliers of pairs are known by
abbrev pub keys : Labelling → List Step → List KeyParts
keys labels pairs = map (λ (s : Step). key_by labels s.1) pairs

-- a coefficient before a bit; 1 is left out
abbrev pub factor_text : ℕ → List ℕ
factor_text c = cond (c == 1) [] (hex_text c ++ codes "*")

-- a coefficient with what stands at a place
abbrev pub short_text : Labelling → ℕ → ℕ → List ℕ
short_text labels c place = cond (place == 0) (hex_text c) (factor_text c ++ rank_text labels.words labels.nets (place - 1))

-- how a multiplier that is known by this is written
abbrev pub key_text : Labelling → KeyParts → List ℕ
key_text labels key = cond (key.coefficient == 0) key.bytes (short_text labels key.coefficient key.place)
