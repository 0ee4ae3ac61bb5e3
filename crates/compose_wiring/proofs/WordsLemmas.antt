-- Words of blocks.
use Rattle.std.proofs.Common.{◌≡◌, ◌∙◌, ap, sym, refl, subst, ℕ, zero, suc, ◌+◌, true, not, List, [], ◌∷◌, ◌++◌, length, take, Some, arith}
use Rattle.std.specs.Prelude.{slice_get}
use Rattle.std.specs.Str.{bytes_eq}
use Rattle.std.proofs.lemmas.Slice.Eq.{bytes_eq-Decides}
use Rattle.std.proofs.lemmas.List.Elements.{filter-append}
use Rattle.lists.specs.Lists.{Has}
use Rattle.lists.specs.laws.HasLaws.{has_any, any_has}
use Rattle.lists.specs.laws.TakeLaws.{taken_more}
use Rattle.net_words.specs.Roles.{same_role}
use Rattle.net_words.specs.declared.word.Role.TheVariants.{Output}
use Rattle.net_blif.specs.Instances.{is_among}
use Rattle.net_blif.specs.Statement.{Token}
use Rattle.compose_model.specs.NamedWord.{inputs_among, outputs_among, NamedWord}
use Rattle.compose_wiring.proofs.ListLemmas.{from_kept}
use Rattle.compose_wiring.specs.private.Words.{in_some, is_mixed, some_in}

-- ---- tests on lists

-- ---- roles

-- ---- a bit of the output word that is an input

pub mixed_bit : (words : List NamedWord) (word : NamedWord) → outputs_among words ≡ word ∷ [] → is_mixed words ≡ true → (net : Token) × Has word.nets net × ((other : NamedWord) × Has (inputs_among words) other × Has other.nets net)
mixed_bit words word one mixed =
    let found = has_any (λ (w : NamedWord). some_in (inputs_among words) w.nets) (outputs_among words) mixed in
    let P : List NamedWord → Type 0 = λ ws. Has ws found.0 in
    let is : found.0 ≡ word = only (found.0) (subst P one found.1) in
    let Q : NamedWord → Type 0 = λ w. some_in (inputs_among words) w.nets ≡ true in
    let bit = has_any (in_some (inputs_among words)) word.nets (subst Q is found.2) in
    let other = has_any (λ (w : NamedWord). is_among w.nets bit.0) (inputs_among words) bit.2 in
    let same = has_any (λ (name : Token). bytes_eq name bit.0) (other.0).nets other.2 in
    let R : Token → Type 0 = λ name. Has (other.0).nets name in
    (bit.0, bit.1, (other.0, other.1, subst R ((bytes_eq-Decides same.0 bit.0).0 same.2) same.1))
  where
    only : (w : NamedWord) → Has (word ∷ []) w → w ≡ word
    only w (zero, got) = cc
    only w (suc k, got) = absurd (cc)

pub bit_mixed : (words : List NamedWord) (word : NamedWord) → outputs_among words ≡ word ∷ [] → (net : Token) → Has word.nets net → (other : NamedWord) → Has (inputs_among words) other → Has other.nets net → is_mixed words ≡ true
bit_mixed words word one net bit other has in_it =
    let here : is_among other.nets net ≡ true = any_has (λ (name : Token). bytes_eq name net) other.nets net in_it ((bytes_eq-Decides net net).1 refl) in
    let some : in_some (inputs_among words) net ≡ true = any_has (λ (w : NamedWord). is_among w.nets net) (inputs_among words) other has here in
    let bits : some_in (inputs_among words) word.nets ≡ true = any_has (in_some (inputs_among words)) word.nets net bit some in
    let P : List NamedWord → Type 0 = λ ws. Has ws word in
    any_has (λ (w : NamedWord). some_in (inputs_among words) w.nets) (outputs_among words) word (subst P (sym one) (0, refl)) bits

-- ---- one more

pub inputs_more : (words : List NamedWord) (w : ℕ) (word : NamedWord) → slice_get words w ≡ Some word → inputs_among (take (w + 1) words) ≡ inputs_among (take w words) ++ inputs_among (word ∷ [])
inputs_more words w word got = ap inputs_among (taken_more words w word got) ∙ filter-append (λ (x : NamedWord). not (same_role x.role Output)) (take w words) (word ∷ [])

-- an output word is the one output word
pub output_is : (words : List NamedWord) (w : ℕ) (word : NamedWord) → length (outputs_among words) ≡ 1 → slice_get words w ≡ Some word → same_role word.role Output ≡ true → outputs_among words ≡ word ∷ []
output_is words w word one got is = of_one (outputs_among words) one (from_kept (λ (x : NamedWord). same_role x.role Output) words w word got is)
  where
    of_one : (ws : List NamedWord) → length ws ≡ 1 → Has ws word → ws ≡ word ∷ []
    of_one [] e has = absurd (omega (arith, e))
    of_one (x ∷ []) e (zero, at) = let same : x ≡ word = cc in ap (λ y. y ∷ []) same
    of_one (x ∷ []) e (suc k, at) = absurd (cc)
    of_one (x ∷ y ∷ ws) e has = absurd (omega (arith, e))
