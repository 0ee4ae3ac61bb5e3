-- At most one reply or fault comes of `eval` for a setting, a circuit and values.
use Rattle.std.proofs.Common.{◌≡◌, ◌∙◌, ap, sym, refl, ℕ, ◌+◌, List, [], ◌∷◌, drop, Ok, Err}
use Rattle.outcome.proofs.DeterminedLemmas.{determined_bind, determined_exactly}
use Rattle.outcome.specs.Outcome.{Determined, Exactly, ◌>>=◌}
use Rattle.text_core.specs.Numbers.{IsHex, value_of}
use Rattle.net_words.specs.Binding.{BoundNet}
use Rattle.circuit_model.proofs.OutLemmas.{one_out}
use Rattle.job_words.specs.Operands.{Word}
use Rattle.job_input.specs.CircuitOf.{CircuitOfText}
use Rattle.job_input.specs.NetlistOf.{NetlistText}
use Rattle.job_input.specs.SettingSound.{IsSoundSetting}
use Rattle.job_input.specs.SettingValue.{SettingValue}
use Rattle.answer_polynomials.specs.Values.{ElementOf, ElementsOf, HaveCount, ValuesOf}
use Rattle.answer_core.specs.Abstraction.{taken_circuit}
use Rattle.answer_polynomials.specs.Eval.{EvalReply, element_line}
use Rattle.answer_core.proofs.TakenLemmas.{circuit_well}

-- a token has one number
hex_number : (token : Word) (n : ℕ) → IsHex token n → n ≡ value_of 16 (drop 2 token)
hex_number token n is = is.3 ∙ ap (λ (w : Word). value_of 16 (drop 2 w)) (sym is.1)

one_number : (token : Word) (m n : ℕ) → IsHex token m → IsHex token n → m ≡ n
one_number token m n a b = hex_number token m a ∙ sym (hex_number token n b)

count_determined : (count : ℕ) (values : List Word) → Determined (HaveCount count values)
count_determined count values (Ok a) (Ok b) h k = refl
count_determined count values (Ok a) (Err e) h k = absurd (k.0 h)
count_determined count values (Err d) (Ok b) h k = absurd (h.0 k)
count_determined count values (Err d) (Err e) h k = ap Err (h.1 ∙ sym k.1)

element_determined : (k place : ℕ) (value : Word) → Determined (ElementOf k place value)
element_determined k place value (Ok a) (Ok b) h g = ap Ok (one_number value a b h.0 g.0)
element_determined k place value (Ok a) (Err e) h g = absurd (g.0 a h.0 h.1)
element_determined k place value (Err d) (Ok b) h g = absurd (h.0 b g.0 g.1)
element_determined k place value (Err d) (Err e) h g = ap Err (h.1 ∙ sym g.1)

elements_determined : (k place : ℕ) (values : List Word) → Determined (ElementsOf k place values)
elements_determined k place [] = determined_exactly []
elements_determined k place (value ∷ values) =
    determined_bind (ElementOf k place value) (λ x. ElementsOf k (place + 1) values >>= (λ xs. Exactly (x ∷ xs))) (element_determined k place value)
    (λ x. determined_bind (ElementsOf k (place + 1) values) (λ xs. Exactly (x ∷ xs)) (elements_determined k (place + 1) values) (λ xs. determined_exactly (x ∷ xs)))

pub values_determined : (k count : ℕ) (values : List Word) → Determined (ValuesOf k count values)
values_determined k count values = determined_bind (HaveCount count values) (λ u. ElementsOf k 1 values) (count_determined count values) (λ u. elements_determined k 1 values)

pub eval_determined : (setting : SettingValue) (circuit : BoundNet) (xs : List ℕ) → IsSoundSetting setting → (text : NetlistText) (cycles : ℕ) → CircuitOfText setting.signature text cycles (Ok circuit) → Determined (EvalReply setting circuit xs)
eval_determined setting circuit xs sound text cycles is (Ok a) (Ok b) h k =
    let same : h.0 ≡ k.0 = one_out (taken_circuit setting circuit) xs h.0 k.0 (circuit_well setting circuit sound text cycles is) h.1 k.1 in
    ap Ok (h.2 ∙ (ap (λ e. record { status = 0; text = element_line setting e }) same ∙ sym k.2))
eval_determined setting circuit xs sound text cycles is (Ok a) (Err e) h k = absurd k
eval_determined setting circuit xs sound text cycles is (Err d) (Ok b) h k = absurd h
eval_determined setting circuit xs sound text cycles is (Err d) (Err e) h k = absurd h
