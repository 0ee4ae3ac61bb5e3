-- Faults exclude each other.
use Rattle.std.proofs.Common.{ℕ, ◌*◌, List, [], refl, ap, subst, length}
use Rattle.gf_field.specs.Element.{IsFirstOutside}
use Rattle.gf_field.proofs.FirstOutsideLemmas.{first_clash, first_unique}
use Rattle.gf_tower.specs.Tower.{IsLength}
use Rattle.gf_tower.specs.FieldName.{IsFieldModulus}
use Rattle.gf_tower.specs.FieldFault.{HasOneFieldFault, IsFieldFault, HasTower}
use Rattle.gf_tower.specs.declared.any_field.FieldFault.{FieldFault}
use Rattle.gf_tower.specs.declared.any_field.FieldFault.TheVariants.{BadDegree, NotIrreducible, BadLength, BadCoefficient, TowerNotIrreducible, UpperBadLength, UpperBadCoefficient, UpperNotIrreducible}
use Rattle.gf_tower.proofs.FieldNameLaws.{degree_unique, fault_clash, name_of}

-- what holds at one degree of a modulus holds at each
at_degree : (P : ℕ → Type 0) (g d e : ℕ) → IsFieldModulus d g → IsFieldModulus e g → P d → P e
at_degree P g d e a b p = subst P (degree_unique d e g a.modulus b.modulus) p

-- below a tower there is no fault of its modulus and coefficients
below_tower : (g : ℕ) (cs us : List ℕ) (fault : FieldFault) (d : ℕ) → IsFieldFault g cs [] fault → HasTower d g cs → ⊥
below_tower g cs us fault d f has = fault_clash g cs [] fault f (name_of d g cs has)

pub one_field_fault : HasOneFieldFault
one_field_fault g cs us BadDegree BadDegree a b = refl
one_field_fault g cs us BadDegree NotIrreducible a b = absurd (a b.0)
one_field_fault g cs us BadDegree BadLength a b = absurd (a (b.0, b.1.0.modulus))
one_field_fault g cs us BadDegree (BadCoefficient q) a b = absurd (a (b.0, b.1.0.modulus))
one_field_fault g cs us BadDegree TowerNotIrreducible a b = absurd (a (b.0, b.1.0.modulus))
one_field_fault g cs us NotIrreducible BadDegree a b = absurd (b a.0)
one_field_fault g cs us NotIrreducible NotIrreducible a b = refl
one_field_fault g cs us NotIrreducible BadLength a b = absurd (a.1 b.1.0.irreducible)
one_field_fault g cs us NotIrreducible (BadCoefficient q) a b = absurd (a.1 b.1.0.irreducible)
one_field_fault g cs us NotIrreducible TowerNotIrreducible a b = absurd (a.1 b.1.0.irreducible)
one_field_fault g cs us BadLength BadDegree a b = absurd (b (a.0, a.1.0.modulus))
one_field_fault g cs us BadLength NotIrreducible a b = absurd (b.1 a.1.0.irreducible)
one_field_fault g cs us BadLength BadLength a b = refl
one_field_fault g cs us BadLength (BadCoefficient q) a b = absurd (a.1.2 (at_degree (λ d. IsLength d (length cs)) g b.0 a.0 b.1.0 a.1.0 b.1.1))
one_field_fault g cs us BadLength TowerNotIrreducible a b = absurd (a.1.2 (at_degree (λ d. IsLength d (length cs)) g b.0 a.0 b.1.0 a.1.0 b.1.1.size))
one_field_fault g cs us (BadCoefficient p) BadDegree a b = absurd (b (a.0, a.1.0.modulus))
one_field_fault g cs us (BadCoefficient p) NotIrreducible a b = absurd (b.1 a.1.0.irreducible)
one_field_fault g cs us (BadCoefficient p) BadLength a b = absurd (b.1.2 (at_degree (λ d. IsLength d (length cs)) g a.0 b.0 a.1.0 b.1.0 a.1.1))
one_field_fault g cs us (BadCoefficient p) (BadCoefficient q) a b = ap (λ place. BadCoefficient place) (first_unique b.0 cs p q (at_degree (λ d. IsFirstOutside d cs p) g a.0 b.0 a.1.0 b.1.0 a.1.2) b.1.2)
one_field_fault g cs us (BadCoefficient p) TowerNotIrreducible a b = absurd (first_clash b.0 cs p b.1.1.elements (at_degree (λ d. IsFirstOutside d cs p) g a.0 b.0 a.1.0 b.1.0 a.1.2))
one_field_fault g cs us TowerNotIrreducible BadDegree a b = absurd (b (a.0, a.1.0.modulus))
one_field_fault g cs us TowerNotIrreducible NotIrreducible a b = absurd (b.1 a.1.0.irreducible)
one_field_fault g cs us TowerNotIrreducible BadLength a b = absurd (b.1.2 (at_degree (λ d. IsLength d (length cs)) g a.0 b.0 a.1.0 b.1.0 a.1.1.size))
one_field_fault g cs us TowerNotIrreducible (BadCoefficient q) a b = absurd (first_clash a.0 cs q a.1.1.elements (at_degree (λ d. IsFirstOutside d cs q) g b.0 a.0 b.1.0 a.1.0 b.1.2))
one_field_fault g cs us TowerNotIrreducible TowerNotIrreducible a b = refl
one_field_fault g cs us BadDegree UpperBadLength a b = absurd (below_tower g cs us BadDegree b.0 a b.1.0)
one_field_fault g cs us BadDegree (UpperBadCoefficient q) a b = absurd (below_tower g cs us BadDegree b.0 a b.1.0)
one_field_fault g cs us BadDegree UpperNotIrreducible a b = absurd (below_tower g cs us BadDegree b.0 a b.1.0)
one_field_fault g cs us NotIrreducible UpperBadLength a b = absurd (below_tower g cs us NotIrreducible b.0 a b.1.0)
one_field_fault g cs us NotIrreducible (UpperBadCoefficient q) a b = absurd (below_tower g cs us NotIrreducible b.0 a b.1.0)
one_field_fault g cs us NotIrreducible UpperNotIrreducible a b = absurd (below_tower g cs us NotIrreducible b.0 a b.1.0)
one_field_fault g cs us BadLength UpperBadLength a b = absurd (below_tower g cs us BadLength b.0 a b.1.0)
one_field_fault g cs us BadLength (UpperBadCoefficient q) a b = absurd (below_tower g cs us BadLength b.0 a b.1.0)
one_field_fault g cs us BadLength UpperNotIrreducible a b = absurd (below_tower g cs us BadLength b.0 a b.1.0)
one_field_fault g cs us (BadCoefficient p) UpperBadLength a b = absurd (below_tower g cs us (BadCoefficient p) b.0 a b.1.0)
one_field_fault g cs us (BadCoefficient p) (UpperBadCoefficient q) a b = absurd (below_tower g cs us (BadCoefficient p) b.0 a b.1.0)
one_field_fault g cs us (BadCoefficient p) UpperNotIrreducible a b = absurd (below_tower g cs us (BadCoefficient p) b.0 a b.1.0)
one_field_fault g cs us TowerNotIrreducible UpperBadLength a b = absurd (below_tower g cs us TowerNotIrreducible b.0 a b.1.0)
one_field_fault g cs us TowerNotIrreducible (UpperBadCoefficient q) a b = absurd (below_tower g cs us TowerNotIrreducible b.0 a b.1.0)
one_field_fault g cs us TowerNotIrreducible UpperNotIrreducible a b = absurd (below_tower g cs us TowerNotIrreducible b.0 a b.1.0)
one_field_fault g cs us UpperBadLength BadDegree a b = absurd (below_tower g cs us BadDegree a.0 b a.1.0)
one_field_fault g cs us UpperBadLength NotIrreducible a b = absurd (below_tower g cs us NotIrreducible a.0 b a.1.0)
one_field_fault g cs us UpperBadLength BadLength a b = absurd (below_tower g cs us BadLength a.0 b a.1.0)
one_field_fault g cs us UpperBadLength (BadCoefficient q) a b = absurd (below_tower g cs us (BadCoefficient q) a.0 b a.1.0)
one_field_fault g cs us UpperBadLength TowerNotIrreducible a b = absurd (below_tower g cs us TowerNotIrreducible a.0 b a.1.0)
one_field_fault g cs us (UpperBadCoefficient p) BadDegree a b = absurd (below_tower g cs us BadDegree a.0 b a.1.0)
one_field_fault g cs us (UpperBadCoefficient p) NotIrreducible a b = absurd (below_tower g cs us NotIrreducible a.0 b a.1.0)
one_field_fault g cs us (UpperBadCoefficient p) BadLength a b = absurd (below_tower g cs us BadLength a.0 b a.1.0)
one_field_fault g cs us (UpperBadCoefficient p) (BadCoefficient q) a b = absurd (below_tower g cs us (BadCoefficient q) a.0 b a.1.0)
one_field_fault g cs us (UpperBadCoefficient p) TowerNotIrreducible a b = absurd (below_tower g cs us TowerNotIrreducible a.0 b a.1.0)
one_field_fault g cs us UpperNotIrreducible BadDegree a b = absurd (below_tower g cs us BadDegree a.0 b a.1.0)
one_field_fault g cs us UpperNotIrreducible NotIrreducible a b = absurd (below_tower g cs us NotIrreducible a.0 b a.1.0)
one_field_fault g cs us UpperNotIrreducible BadLength a b = absurd (below_tower g cs us BadLength a.0 b a.1.0)
one_field_fault g cs us UpperNotIrreducible (BadCoefficient q) a b = absurd (below_tower g cs us (BadCoefficient q) a.0 b a.1.0)
one_field_fault g cs us UpperNotIrreducible TowerNotIrreducible a b = absurd (below_tower g cs us TowerNotIrreducible a.0 b a.1.0)
one_field_fault g cs us UpperBadLength UpperBadLength a b = refl
one_field_fault g cs us UpperBadLength (UpperBadCoefficient q) a b = absurd (a.1.2 (at_degree (λ d. IsLength (d * length cs) (length us)) g b.0 a.0 b.1.0.base a.1.0.base b.1.1))
one_field_fault g cs us UpperBadLength UpperNotIrreducible a b = absurd (a.1.2 (at_degree (λ d. IsLength (d * length cs) (length us)) g b.0 a.0 b.1.0.base a.1.0.base b.1.1.size))
one_field_fault g cs us (UpperBadCoefficient p) UpperBadLength a b = absurd (b.1.2 (at_degree (λ d. IsLength (d * length cs) (length us)) g a.0 b.0 a.1.0.base b.1.0.base a.1.1))
one_field_fault g cs us (UpperBadCoefficient p) (UpperBadCoefficient q) a b = ap (λ place. UpperBadCoefficient place) (first_unique (b.0 * length cs) us p q (at_degree (λ d. IsFirstOutside (d * length cs) us p) g a.0 b.0 a.1.0.base b.1.0.base a.1.2) b.1.2)
one_field_fault g cs us (UpperBadCoefficient p) UpperNotIrreducible a b = absurd (first_clash (b.0 * length cs) us p b.1.1.elements (at_degree (λ d. IsFirstOutside (d * length cs) us p) g a.0 b.0 a.1.0.base b.1.0.base a.1.2))
one_field_fault g cs us UpperNotIrreducible UpperBadLength a b = absurd (b.1.2 (at_degree (λ d. IsLength (d * length cs) (length us)) g a.0 b.0 a.1.0.base b.1.0.base a.1.1.size))
one_field_fault g cs us UpperNotIrreducible (UpperBadCoefficient q) a b = absurd (first_clash (a.0 * length cs) us q a.1.1.elements (at_degree (λ d. IsFirstOutside (d * length cs) us q) g b.0 a.0 b.1.0.base a.1.0.base b.1.2))
one_field_fault g cs us UpperNotIrreducible UpperNotIrreducible a b = refl
