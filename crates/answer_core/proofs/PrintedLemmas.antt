-- The polynomial of the output of a well-formed circuit in its words.
use Rattle.std.proofs.Common.{◌≡◌, ◌∙◌, ap, sym, refl, subst, ℕ, true, false, ◌||◌, List, [], ◌∷◌, length, drop, arith}
use Rattle.std.specs.Prelude.{nat_eq}
use Rattle.std.specs.List.{AllByRecursion, list_any}
use Rattle.std.proofs.lemmas.Bool.{eq-eqb}
use Rattle.gf_field.specs.Field.{HasNoZeroDivisors}
use Rattle.gf_field.specs.Ring.{IsRing}
use Rattle.net_words.specs.Binding.{BoundNet}
use Rattle.poly_mixed.specs.Cofactor.{LacksBit}
use Rattle.poly_mixed.specs.Polynomial.{Terms, IsReduced, value}
use Rattle.poly_mixed.proofs.FieldLaws.{field_of}
use Rattle.poly_mixed.proofs.FirstWordLemmas.{first_point, first_taken, is_first_point, first_alone}
use Rattle.circuit_model.specs.Circuit.{Circuit}
use Rattle.circuit_model.specs.Out.{IsOut}
use Rattle.circuit_model.specs.WellFormed.{IsWellFormed}
use Rattle.circuit_model.proofs.OutLemmas.{one_out}
use Rattle.stage_model.specs.InputPoint.{input_of}
use Rattle.stage_model.proofs.MixLemmas.{mix_all}
use Rattle.stage_model.proofs.NextMixLemmas.{mix_lacks}
use Rattle.stage_model.proofs.SizeLemmas.{is_unique}
use Rattle.job_input.specs.SettingValue.{SettingValue}
use Rattle.answer_core.specs.Printed.{IsInItsWords, HasOutput}
use Rattle.answer_core.specs.Abstraction.{taken_circuit, IsInWords}

-- a polynomial in which no bit stands has no bits
no_ranks : (rs : List ℕ) → ((rank : ℕ) → list_any (λ r. nat_eq r rank) rs ≡ false) → rs ≡ []
no_ranks [] lacks = refl
no_ranks (r ∷ rs) lacks = let found : true ≡ false = sym (ap (λ b. b || list_any (λ q. nat_eq q r) rs) (eq-eqb r r refl)) ∙ lacks r in absurd (cc)

pub no_bits : (ts : Terms) → ((rank : ℕ) → LacksBit rank ts) → AllByRecursion (λ t. t.0.bits ≡ []) ts
no_bits [] lacks = tt
no_bits (t ∷ ts) lacks = (no_ranks t.0.bits (λ rank. (lacks rank).0), no_bits ts (λ rank. (lacks rank).1))

module _ (setting : SettingValue) (circuit : BoundNet) (ring : IsRing setting.k setting.product) (field : HasNoZeroDivisors setting.k setting.product) (well : IsWellFormed (taken_circuit setting circuit)) where
  abbrev whole : Circuit
  whole = taken_circuit setting circuit

  -- a polynomial of the output stands in words alone
  alone : (ts : Terms) → IsReduced setting.k ts → HasOutput setting whole ts → AllByRecursion (λ t. AllByRecursion (λ e. e ≡ 0) (drop (length whole.words) t.0.exponents)) ts
  alone ts reduced values =
      let f = field_of setting.k setting.product ring field in
      let n = length whole.words in
      first_alone f (is_unique setting.k setting.product ring field) n ts reduced
      (λ p at.
      let P : List ℕ → Type 0 = λ xs. IsOut whole xs (value setting.product (first_point n p) ts) in
      one_out whole (input_of whole p) (value setting.product (first_point n p) ts) (value setting.product p ts) well
      (subst P (first_taken n p.words) (values (first_point n p) (is_first_point f n p at))) (values p at))

  -- the terms of the output as a function of all words are its polynomial in words
  pub words_values : (ts : Terms) → IsInWords setting circuit ts → HasOutput setting (taken_circuit setting circuit) ts
  words_values ts is = λ p at. (mix_all whole well p (value setting.product p ts) at).0 (is.values p at)

  pub words_alone : (ts : Terms) → IsInWords setting circuit ts → IsInItsWords setting (taken_circuit setting circuit) ts
  words_alone ts is =
      let lacks : (rank : ℕ) → LacksBit rank ts = λ rank. mix_lacks whole well (length whole.words) rank ts (λ i j low high less. absurd (omega arith)) is in
      record { reduced = is.reduced; words = record { bits = no_bits ts lacks; words = alone ts is.reduced (words_values ts is) } }
