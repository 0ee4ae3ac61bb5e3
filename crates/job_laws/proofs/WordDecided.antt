-- Whether a word stands for a file, for a value, or for a kind of netlists.
use Rattle.std.proofs.Common.{◌≡◌, ◌≢◌, ◌⊎◌, refl, inl, inr, ℕ, ◌≤◌, false, [], codes, length}
use Rattle.std.specs.Prelude.{nat_eq}
use Rattle.std.specs.List.{starts_with}
use Rattle.text_core.specs.Numbers.{AreDigits, IsHex, value_of}
use Rattle.job_words.specs.declared.kind.Kind.{Kind}
use Rattle.job_words.specs.declared.kind.Kind.TheVariants as kinds
use Rattle.job_words.specs.Kind.{kind_name}
use Rattle.job_words.specs.MadeWords.{IsValueOf}
use Rattle.job_words.specs.Operands.{HasPlainBytes, IsBlifName, IsOperand, IsValue, Word, is_aiger, is_verilog}
use Rattle.reader_laws.proofs.DecidedLemmas.{IsDecided, all_decided, behind_decided, both_decided, bytes_decided, digits_decided, even_decided, most_decided, moved_decided, one_decided}
use Rattle.job_laws.proofs.Searches.{not_decided, truth_decided}

-- ---- files

plain_decided : (word : Word) → IsDecided (HasPlainBytes word)
plain_decided = all_decided (λ b. (32 ≤ b) × (b ≢ 127)) (λ b. both_decided (most_decided 32 b) (not_decided (even_decided b 127)))

pub operand_decided : (word : Word) → IsDecided (IsOperand word)
operand_decided word =
    moved_decided (λ is. record { not_empty = is.0; no_option = is.1.0; plain = is.1.1 }) (λ is. (is.not_empty, (is.no_option, is.plain)))
    (both_decided (not_decided (bytes_decided word [])) (both_decided (truth_decided (starts_with nat_eq word (codes "--")) false) (plain_decided word)))

pub blif_decided : (word : Word) → IsDecided (IsBlifName word)
blif_decided word =
    moved_decided (λ is. record { no_verilog = is.0; no_aiger = is.1 }) (λ is. (is.no_verilog, is.no_aiger)) (both_decided (truth_decided (is_verilog word) false) (truth_decided (is_aiger word) false))

-- ---- values

pub any_hex_decided : (word : Word) → IsDecided ((n : ℕ) × IsHex word n)
any_hex_decided word = moved_decided (λ is. (value_of 16 is.0, (is.0, is.1, is.2, refl))) (λ is. (is.1.0, is.1.1, is.1.2)) (behind_decided (codes "0x") word (AreDigits 16) (digits_decided 16))

pub value_decided : (word : Word) → IsDecided (IsValue word)
value_decided word =
    moved_decided (λ is. record { number = is.0.0; hex = is.0.1; short = is.1 }) (λ is. ((is.number, is.hex), is.short)) (both_decided (any_hex_decided word) (most_decided (length word) 34))

pub value_of_decided : (word : Word) → IsDecided ((n : ℕ) × IsValueOf word n)
value_of_decided word =
    moved_decided (λ is. (is.0.0, record { hex = is.0.1; short = is.1 })) (λ is. ((is.0, is.1.hex), is.1.short)) (both_decided (any_hex_decided word) (most_decided (length word) 34))

-- ---- kinds

module _ (name : Word) where
  abbrev IsOne : Type 0
  IsOne = (name ≡ codes "mastrovito") ⊎ (name ≡ codes "montgomery") ⊎ (name ≡ codes "composite") ⊎ (name ≡ codes "normal") ⊎ (name ≡ codes "adder") ⊎ (name ≡ codes "squarer") ⊎ (name ≡ codes "digit")

  there : IsOne → (kind : Kind) × (name ≡ kind_name kind)
  there (inl e) = (kinds.Mastrovito, e)
  there (inr (inl e)) = (kinds.Montgomery, e)
  there (inr (inr (inl e))) = (kinds.Composite, e)
  there (inr (inr (inr (inl e)))) = (kinds.Normal, e)
  there (inr (inr (inr (inr (inl e))))) = (kinds.Adder, e)
  there (inr (inr (inr (inr (inr (inl e)))))) = (kinds.Squarer, e)
  there (inr (inr (inr (inr (inr (inr e)))))) = (kinds.Digit, e)

  back : (kind : Kind) → name ≡ kind_name kind → IsOne
  back kinds.Mastrovito e = inl e
  back kinds.Montgomery e = inr (inl e)
  back kinds.Composite e = inr (inr (inl e))
  back kinds.Normal e = inr (inr (inr (inl e)))
  back kinds.Adder e = inr (inr (inr (inr (inl e))))
  back kinds.Squarer e = inr (inr (inr (inr (inr (inl e)))))
  back kinds.Digit e = inr (inr (inr (inr (inr (inr e)))))

  pub kind_decided : IsDecided ((kind : Kind) × (name ≡ kind_name kind))
  kind_decided =
      moved_decided there (λ is. back is.0 is.1)
      (one_decided (bytes_decided name (codes "mastrovito")) (one_decided (bytes_decided name (codes "montgomery")) (one_decided (bytes_decided name (codes "composite")) (one_decided (bytes_decided name (codes "normal")) (one_decided (bytes_decided name (codes "adder")) (one_decided (bytes_decided name (codes "squarer")) (bytes_decided name (codes "digit"))))))))
