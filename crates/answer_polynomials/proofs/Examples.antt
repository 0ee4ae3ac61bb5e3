-- Small worked examples of the definitions of specs/, which the check computes: printed lines.
use Rattle.std.proofs.Common.{◌≡◌, ℕ, [], ◌∷◌, List, None, Some, codes, refl}
use Rattle.std.specs.Fmt.{digits}
use Rattle.gf_field.specs.Bit.{bit_mul}
use Rattle.net_words.specs.declared.word.BasisText.TheVariants.{Poly}
use Rattle.net_words.specs.declared.word.Role.{Role}
use Rattle.net_words.specs.declared.word.Role.TheVariants.{Input, Output}
use Rattle.net_words.specs.declared.word.WordText.{WordText}
use Rattle.job_words.specs.Fault.{fault_line}
use Rattle.job_words.specs.declared.fault.Fault.TheVariants.{Specification}
use Rattle.job_words.specs.declared.specification_fault.SpecificationFault.TheVariants.{Syntax}
use Rattle.job_input.specs.SettingValue.{SettingValue}
use Rattle.job_input.specs.Labelling.{labels_of}
use Rattle.answer_core.specs.DifferingLines.{differing_lines}
use Rattle.answer_core.specs.Reply.{Reply, polynomial_line}
use Rattle.answer_polynomials.specs.Check.{check_reply}

abbrev word : List ℕ → Role → WordText
word name role = record { line = 3; name = name; role = role; basis = Poly; nets = name ∷ [] }

-- over the field of 0 and 1, with input words A and B and the output word Z
abbrev setting : SettingValue
setting = record {
  signature = record { modulus = 3; tower = []; upper = []; words = word (codes "A") Input ∷ word (codes "B") Input ∷ word (codes "Z") Output ∷ []; feeds = []; blocks = [] };
  k = 1;
  product = bit_mul;
  bases = (1 ∷ []) ∷ (1 ∷ []) ∷ (1 ∷ []) ∷ [];
}

-- the polynomial A*B is printed as `Z = A*B`
line_of_product : polynomial_line setting ((record { exponents = 1 ∷ 1 ∷ 0 ∷ 0 ∷ 0 ∷ 0 ∷ 0 ∷ 0 ∷ []; bits = [] }, 1) ∷ []) ≡ codes "Z = A*B\n"
line_of_product = refl

-- and A[0]*B[0], whose ranks are 0 and 1, as `Z = A[0]*B[0]`
line_of_bits : polynomial_line setting ((record { exponents = 0 ∷ 0 ∷ 0 ∷ 0 ∷ 0 ∷ 0 ∷ 0 ∷ 0 ∷ []; bits = 0 ∷ 1 ∷ [] }, 1) ∷ []) ≡ codes "Z = A[0]*B[0]\n"
unfolding digits
line_of_bits = refl

-- where A is 1 and B is 0, and two functions have the values 1 and 0
lines_of_difference : differing_lines (labels_of 1 setting.signature.words) (codes "first") (codes "second") (record { input = 1 ∷ 0 ∷ []; left = 1; right = 0 }) ≡ codes "A = 0x1\nB = 0x0\nfirst 0x1\nsecond 0x0\n"
unfolding digits
lines_of_difference = refl

-- a specification that ends too early, at byte 6
line_of_cut_off : fault_line (Specification (Syntax 6)) ≡ codes "fault 40: syntax at byte 6\n"
unfolding digits
line_of_cut_off = refl

-- the netlist with the line `Z = A` is accepted
reply_of_accepted : ◌≡◌ {A = Reply} (check_reply (labels_of 1 setting.signature.words) (codes "Z = A\n") None) (record { status = 0; text = codes "accepted\nZ = A\n" })
reply_of_accepted = refl

-- or rejected, where at A = 1 and B = 0 it has 1 and its specification 0
reply_of_rejected : ◌≡◌ {A = Reply} (check_reply (labels_of 1 setting.signature.words) (codes "Z = A\n") (Some (record { input = 1 ∷ 0 ∷ []; left = 1; right = 0 }))) (record { status = 1; text = codes "rejected\nZ = A\nA = 0x1\nB = 0x0\nnetlist 0x1\nspecification 0x0\n" })
unfolding digits
reply_of_rejected = refl
