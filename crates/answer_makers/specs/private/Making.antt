-- The kinds over fields without towers and without fed words, and digits: for the clauses of private functions. Source: this
-- project's own.
use Rattle.std.specs.Prelude.{◌≡◌, ℕ, List, [], ◌∷◌}
use Rattle.net_core.specs.NetList.{NetList}
use Rattle.net_signature.specs.Signature.{SignatureValue}
use Rattle.net_words.specs.declared.word.BasisText.TheVariants as basis
use Rattle.net_words.specs.declared.word.WordText.{WordText}
use Rattle.mult_gen.specs.Form.{HasPolyForm, made_mastrovito, made_squarer}
use Rattle.mult_montgomery.specs.Form.{HasMontgomeryForm, made_montgomery}
use Rattle.job_words.specs.declared.kind.Kind.{Kind}
use Rattle.job_words.specs.declared.kind.Kind.TheVariants.{Mastrovito, Montgomery, Composite, Normal, Adder, Squarer, Digit}

-- the kind asks for a field without a tower, and for no feeds
abbrev pub IsOfRing : Kind → Type 0
IsOfRing Mastrovito = Unit {0}
IsOfRing Montgomery = Unit {0}
IsOfRing Composite = ⊥
IsOfRing Normal = ⊥
IsOfRing Adder = ⊥
IsOfRing Squarer = Unit {0}
IsOfRing Digit = ⊥

-- its form
abbrev pub HasRingForm : Kind → SignatureValue → Type 0
HasRingForm Mastrovito = HasPolyForm 2
HasRingForm Montgomery = HasMontgomeryForm
HasRingForm Composite = λ signature. ⊥
HasRingForm Normal = λ signature. ⊥
HasRingForm Adder = λ signature. ⊥
HasRingForm Squarer = HasPolyForm 1
HasRingForm Digit = λ signature. ⊥

-- its net list, over the field of degree k with this modulus
abbrev pub IsRingNet : Kind → (k modulus : ℕ) → SignatureValue → NetList → Type 0
IsRingNet Mastrovito k modulus signature net = net ≡ made_mastrovito k modulus signature.words
IsRingNet Montgomery k modulus signature net = net ≡ made_montgomery k modulus signature.words
IsRingNet Composite k modulus signature net = ⊥
IsRingNet Normal k modulus signature net = ⊥
IsRingNet Adder k modulus signature net = ⊥
IsRingNet Squarer k modulus signature net = net ≡ made_squarer k modulus signature.words
IsRingNet Digit k modulus signature net = ⊥

-- the first word is in the normal basis of this element
abbrev pub FirstIsNormal : List WordText → ℕ → Type 0
FirstIsNormal [] gamma = ⊥
FirstIsNormal (word ∷ words) gamma = word.basis ≡ basis.Normal gamma
