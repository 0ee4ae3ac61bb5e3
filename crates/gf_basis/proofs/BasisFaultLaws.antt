-- A list has at most one fault, and so has the first element of a normal basis.
use Rattle.std.proofs.Common.{ℕ, refl, ap, sym, ◌∙◌, arith}
use Rattle.gf_field.proofs.FirstOutsideLemmas.{first_clash, first_unique}
use Rattle.gf_basis.specs.BasisFault.{HasOneListFault, HasOneNormalFault}
use Rattle.gf_basis.specs.declared.bases.BasisFault.TheVariants.{WrongCount, BadElement, Dependent}

pub one_list_fault : (k : ℕ) → HasOneListFault k
one_list_fault k list (WrongCount m) (WrongCount n) a b = ap (λ count. WrongCount count) (a.1 ∙ sym b.1)
one_list_fault k list (WrongCount m) (BadElement q) a b = absurd (a.0 b.0)
one_list_fault k list (WrongCount m) Dependent a b = absurd (a.0 b.0)
one_list_fault k list (BadElement p) (WrongCount n) a b = absurd (b.0 a.0)
one_list_fault k list (BadElement p) (BadElement q) a b = ap (λ place. BadElement place) (first_unique k list p q a.1 b.1)
one_list_fault k list (BadElement p) Dependent a b = absurd (first_clash k list p b.1 a.1)
one_list_fault k list Dependent (WrongCount n) a b = absurd (b.0 a.0)
one_list_fault k list Dependent (BadElement q) a b = absurd (first_clash k list q a.1 b.1)
one_list_fault k list Dependent Dependent a b = refl

pub one_normal_fault : (k : ℕ) (mul : ℕ → ℕ → ℕ) → HasOneNormalFault k mul
one_normal_fault k mul gamma (WrongCount m) h a b = absurd a
one_normal_fault k mul gamma (BadElement p) (WrongCount n) a b = absurd b
one_normal_fault k mul gamma (BadElement p) (BadElement q) a b = ap (λ place. BadElement place) (a.0 ∙ sym b.0)
one_normal_fault k mul gamma (BadElement p) Dependent a b = absurd (omega (arith, a.1, b.0))
one_normal_fault k mul gamma Dependent (WrongCount n) a b = absurd b
one_normal_fault k mul gamma Dependent (BadElement q) a b = absurd (omega (arith, a.0, b.1))
one_normal_fault k mul gamma Dependent Dependent a b = refl
