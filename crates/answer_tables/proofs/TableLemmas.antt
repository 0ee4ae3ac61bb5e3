-- Tables that were read, and that there is one reply of `lift` and of `table`.
use Rattle.std.proofs.Common.{◌≡◌, ◌∙◌, ap, sym, refl, ℕ, ◌+◌, List, get_or, Ok, Err, arith}
use Rattle.std.proofs.lemmas.Option.{slice_get-get_or}
use Rattle.outcome.specs.Outcome.{Determined}
use Rattle.net_words.specs.Binding.{BoundNet}
use Rattle.gf_field.specs.Element.{AreElements}
use Rattle.poly_mixed.specs.Polynomial.{Terms}
use Rattle.lift_table.specs.TablePolynomial.{IsPolynomialOfTable}
use Rattle.lift_table.specs.TableText.{IsTable, table_text}
use Rattle.lift_table.proofs.PolynomialLemmas.{same_value}
use Rattle.lift_table.proofs.TableLemmas.{one_table}
use Rattle.stage_model.proofs.SizeLemmas.{is_unique}
use Rattle.job_input.specs.CircuitOf.{CircuitOfText}
use Rattle.job_input.specs.NetlistOf.{NetlistText}
use Rattle.job_input.specs.SettingSound.{IsSoundSetting}
use Rattle.job_input.specs.SettingValue.{SettingValue}
use Rattle.answer_core.specs.Reply.{prints}
use Rattle.answer_core.specs.Abstraction.{taken_circuit}
use Rattle.answer_tables.specs.Lift.{LiftReply, SmallEnough, table_words}
use Rattle.answer_tables.specs.Table.{TableReply}
use Rattle.answer_core.proofs.TakenLemmas.{circuit_well}

-- the values of a table that was read are elements
pub read_elements : (k n : ℕ) (every : List (List ℕ)) (table : List ℕ) → IsTable k n every table → AreElements k table
read_elements k n every table is i less =
    let number = is.values i (get_or table i 0) (slice_get-get_or table i 0 less) in
    let long = is.long in
    is.right.small (i + 1) (get_or table i 0) (omega (arith, long, less)) number

pub small_determined : (setting : SettingValue) → Determined (SmallEnough setting)
small_determined setting (Ok a) (Ok b) h g = refl
small_determined setting (Ok a) (Err e) h g = absurd (g.1 h)
small_determined setting (Err d) (Ok b) h g = absurd (h.1 g)
small_determined setting (Err d) (Err e) h g = ap Err (h.0 ∙ sym g.0)

-- a table has one polynomial
pub one_lifted : (setting : SettingValue) → IsSoundSetting setting → (table : List ℕ) (ts us : Terms) → IsPolynomialOfTable setting.k setting.product (table_words setting) table ts → IsPolynomialOfTable setting.k setting.product (table_words setting) table us → ts ≡ us
one_lifted setting sound table ts us a b =
    is_unique setting.k setting.product sound.ring sound.field ts us a.reduced b.reduced (λ p at. same_value table _ _ _ (a.values p at) (b.values p at))

pub lift_determined : (setting : SettingValue) → IsSoundSetting setting → (table : List ℕ) → Determined (LiftReply setting table)
lift_determined setting sound table (Ok a) (Ok b) h g = ap Ok (h.2 ∙ ap (λ ts. prints setting ts) (one_lifted setting sound table h.0 g.0 h.1 g.1) ∙ sym g.2)
lift_determined setting sound table (Ok a) (Err e) h g = absurd g
lift_determined setting sound table (Err d) (Ok b) h g = absurd h
lift_determined setting sound table (Err d) (Err e) h g = absurd h

pub table_determined : (setting : SettingValue) (circuit : BoundNet) → IsSoundSetting setting → (text : NetlistText) (cycles : ℕ) → CircuitOfText setting.signature text cycles (Ok circuit) → Determined (TableReply setting circuit)
table_determined setting circuit sound text cycles is (Ok a) (Ok b) h g =
    let same : h.0 ≡ g.0 = one_table (taken_circuit setting circuit) (circuit_well setting circuit sound text cycles is) h.0 g.0 h.1 g.1 in
    ap Ok (h.2 ∙ ap (λ (t : List ℕ). record { status = 0; text = table_text t }) same ∙ sym g.2)
table_determined setting circuit sound text cycles is (Ok a) (Err e) h g = absurd g
table_determined setting circuit sound text cycles is (Err d) (Ok b) h g = absurd h
table_determined setting circuit sound text cycles is (Err d) (Err e) h g = absurd h
