-- The command `iso`: the isomorphism from a tower to a field of polynomials over 0 and 1.
-- Source: Lidl and Niederreiter, Finite Fields, chapter 2, theorem 2.5.
use Rattle.std.specs.Prelude.{◌≡◌, ℕ, ◌^◌, [], length, Option, Ok, Err}
use Rattle.outcome.specs.Outcome.{Outcome, ◌>>=◌}
use Rattle.job_io.specs.Shelf.{Files}
use Rattle.net_signature.specs.Signature.{SignatureValue}
use Rattle.gf_field.specs.Bit.{bit_mul}
use Rattle.gf_field.specs.Quotient.{product}
use Rattle.gf_tower.specs.FieldName.{IsFieldModulus, IsFieldTower}
use Rattle.gf_basis.specs.Basis.{first_values}
use Rattle.gf_iso.specs.Fits.{Fits}
use Rattle.gf_iso.specs.Isomorphism.{IsIsoOf}
use Rattle.lift_table.specs.TableText.{value_lines}
use Rattle.job_words.specs.declared.fault.Fault.{Fault}
use Rattle.job_words.specs.declared.fault.Fault.TheVariants.{Fields}
use Rattle.job_words.specs.Operands.{Word}
use Rattle.job_input.specs.SignedIn.{SecondIn}
use Rattle.answer_core.specs.Reply.{Reply}

-- the first names a field of polynomials of this degree, the second a tower of one step over one of that degree, and the
-- two have as many elements, at most 2 to the 32
pub record AreFitting (first second : SignatureValue) (big base : ℕ) : Type 0 where
  pub modulus : IsFieldModulus big first.modulus
  pub no_tower : first.tower ≡ []
  pub base_modulus : IsFieldModulus base second.modulus
  pub tower : IsFieldTower base second.modulus second.tower
  pub one_step : second.upper ≡ []
  pub fits : Fits big base (length second.tower)

-- line i has the image of 2 to the i under the isomorphism that takes x and Y to the least roots
pub record AreImages (first second : SignatureValue) (reply : Reply) : Type 0 where
  pub big : ℕ
  pub base : ℕ
  pub fit : AreFitting first second big base
  pub there : ℕ → ℕ
  pub back : ℕ → ℕ
  pub iso : IsIsoOf base second.modulus second.tower (product 1 big bit_mul first.modulus) there back
  pub text : reply ≡ record { status = 0; text = value_lines (first_values big (λ i. there (2 ^ i))) }

-- its reply over two signatures, or fault 45
abbrev pub IsoReply : SignatureValue → SignatureValue → Outcome Fault Reply
IsoReply first second (Ok reply) = AreImages first second reply
IsoReply first second (Err fault) = (fault ≡ Fields) × ((big base : ℕ) → AreFitting first second big base → ⊥)

-- its answer, after its first signature was taken: its input is a second signature
abbrev pub IsoAnswer : Option Files → SignatureValue → Word → Outcome Fault Reply
IsoAnswer held first file = do
  second ← SecondIn held file
  IsoReply first second
