-- The field and the bases of a setting, as its signature names them.
use Rattle.std.proofs.Common.{◌≡◌, ◌∙◌, ap, sym, refl, subst, ℕ, suc, ◌*◌, List, [], ◌∷◌, length, Ok}
use Rattle.lists.specs.Lists.{Has}
use Rattle.make_nets.specs.Form.{same_bases}
use Rattle.net_words.specs.declared.word.BasisText.{BasisText}
use Rattle.net_words.specs.declared.word.BasisText.TheVariants.{Poly, Normal, Elements}
use Rattle.net_words.specs.declared.word.WordText.{WordText}
use Rattle.gf_field.specs.Bit.{bit_mul}
use Rattle.gf_field.specs.Quotient.{product}
use Rattle.gf_tower.specs.FieldName.{IsFieldModulus, IsFieldName}
use Rattle.gf_tower.specs.Tower.{tower_polynomial}
use Rattle.gf_tower.proofs.FieldNameLaws.{degree_unique}
use Rattle.job_input.specs.FieldOf.{FieldValue, field_of}
use Rattle.job_input.specs.SettingOf.{BasesOf, BasisOf, SettingOf, SignedOf, SignedValue}
use Rattle.job_input.specs.SettingValue.{SettingValue}

-- the field that the signature names, and the bases of its words
pub record IsNamed (setting : SettingValue) : Type 0 where
  pub name : IsFieldName setting.signature.modulus setting.signature.tower setting.signature.upper
  pub field : ◌≡◌ {A = FieldValue} (record { k = setting.k; product = setting.product }) (field_of name.degree setting.signature.modulus setting.signature.tower setting.signature.upper)
  pub bases : BasesOf setting.k setting.product setting.signature.words (Ok setting.bases)

pub named_by : (text : List ℕ) (setting : SettingValue) → SettingOf text (Ok setting) → IsNamed setting
unfolding SignedOf
named_by text setting (signed, (said, sig, (field, (name, is_field), same)), (bases, are, (u, blocks, (v, feeds, is)))) =
    let P : SettingValue → Type 0 = IsNamed in
    let Q : SignedValue → Type 0 = λ s. BasesOf s.field.k s.field.product s.signature.words (Ok bases) in
    let R : SignedValue → Type 0 = λ s. IsNamed (record { signature = s.signature; k = s.field.k; product = s.field.product; bases = bases }) in
    subst P (sym is) (subst R (sym same) (record { name = name; field = is_field; bases = subst Q same are }))

-- ---- the field

-- without a tower
module _ (setting : SettingValue) (named : IsNamed setting) (no_tower : setting.signature.tower ≡ []) where
  base_is : ◌≡◌ {A = FieldValue} (record { k = setting.k; product = setting.product }) (field_of named.name.degree setting.signature.modulus [] setting.signature.upper)
  base_is = named.field ∙ ap (λ (cs : List ℕ). field_of named.name.degree setting.signature.modulus cs setting.signature.upper) no_tower

  pub base_product : setting.product ≡ product 1 setting.k bit_mul setting.signature.modulus
  base_product = ap (λ (f : FieldValue). f.product) base_is ∙ ap (λ d. product 1 d bit_mul setting.signature.modulus) (sym (ap (λ (f : FieldValue). f.k) base_is))

-- with one tower step
some_tower : (d g : ℕ) (cs : List ℕ) → (cs ≡ [] → ⊥) → field_of d g cs [] ≡ record { k = d * length cs; product = product d (length cs) (product 1 d bit_mul g) (tower_polynomial d cs) }
some_tower d g [] some = absurd (some refl)
some_tower d g (c ∷ cs) some = refl

module _ (setting : SettingValue) (named : IsNamed setting) (some : setting.signature.tower ≡ [] → ⊥) (one_step : setting.signature.upper ≡ []) (n : ℕ) (base : IsFieldModulus n setting.signature.modulus) where
  pub tower_product : setting.product ≡ product n (length setting.signature.tower) (product 1 n bit_mul setting.signature.modulus) (tower_polynomial n setting.signature.tower)
  tower_product =
      let same : named.name.degree ≡ n = degree_unique named.name.degree n setting.signature.modulus named.name.base.modulus base.modulus in
      let is = named.field ∙ ap (λ (us : List ℕ). field_of named.name.degree setting.signature.modulus setting.signature.tower us) one_step ∙ some_tower named.name.degree setting.signature.modulus setting.signature.tower some in
      ap (λ (f : FieldValue). f.product) is ∙ ap (λ d. product d (length setting.signature.tower) (product 1 d bit_mul setting.signature.modulus) (tower_polynomial d setting.signature.tower)) same

-- ---- the bases

-- a text names one basis
one_basis : (k : ℕ) (mul : ℕ → ℕ → ℕ) (text : BasisText) (a b : List ℕ) → BasisOf k mul text (Ok a) → BasisOf k mul text (Ok b) → a ≡ b
one_basis k mul Poly a b h g = h ∙ sym g
one_basis k mul (Normal gamma) a b h g = h.2 ∙ sym g.2
one_basis k mul (Elements list) a b h g = h.1 ∙ sym g.1

-- words whose bases have one text have one basis
pub bases_of : (k : ℕ) (mul : ℕ → ℕ → ℕ) (text : BasisText) (basis : List ℕ) → BasisOf k mul text (Ok basis) → (words : List WordText) (bases : List (List ℕ)) → BasesOf k mul words (Ok bases) → ((word : WordText) → Has words word → word.basis ≡ text) → bases ≡ same_bases basis words
bases_of k mul text basis is [] bases are same = are
bases_of k mul text basis is (word ∷ words) bases (b, (u, bits, of), (bs, rest, e)) same =
    let P : BasisText → Type 0 = λ t. BasisOf k mul t (Ok b) in
    e ∙ (λ i. one_basis k mul text b basis (subst P (same word (0, refl)) of) is i ∷ bases_of k mul text basis is words bs rest (λ w has. same w (suc has.0, has.1)) i)

-- the basis of the first word
pub first_basis : (k : ℕ) (mul : ℕ → ℕ → ℕ) (word : WordText) (words : List WordText) (bases : List (List ℕ)) → BasesOf k mul (word ∷ words) (Ok bases) → (basis : List ℕ) × BasisOf k mul word.basis (Ok basis) × Has bases basis
first_basis k mul word words bases (b, (u, bits, of), (bs, rest, e)) =
    let P : List (List ℕ) → Type 0 = λ xs. Has xs b in
    (b, of, subst P (sym e) (0, refl))
