-- What is said of the circuit of all cycles is said of the job.
use Rattle.std.proofs.Common.{◌≡◌, ◌∙◌, ap, sym, refl, subst, ℕ, ◌<◌, ◌^◌, List, [], ◌∷◌, ◌++◌, length, map, take, Option, None, Some, Ok, ◌↔◌}
use Rattle.lists.specs.Lists.{Has}
use Rattle.net_words.specs.Binding.{BoundNet}
use Rattle.net_words.specs.declared.bound.BoundWord.{BoundWord}
use Rattle.net_words.specs.declared.word.Role.{Role}
use Rattle.net_words.specs.declared.word.Role.TheVariants.{Input, State, Fed, Output}
use Rattle.poly_mixed.specs.Polynomial.{Terms, value}
use Rattle.circuit_model.specs.Alike.{AreAlike}
use Rattle.circuit_model.specs.Circuit.{Circuit, IsInput}
use Rattle.circuit_model.specs.Differing.{Difference, IsComparison, IsDifferingInput}
use Rattle.circuit_model.specs.JobOfBinding.{job_word_with, job_words_of}
use Rattle.circuit_model.specs.OfBinding.{word_with, words_of}
use Rattle.circuit_model.specs.Out.{IsOut}
use Rattle.circuit_model.specs.Word.{Word}
use Rattle.circuit_model.proofs.OnesLemmas.{alike_back, alike_long, alike_ones}
use Rattle.spec_expand.specs.Specification.{SpecTerms}
use Rattle.job_input.specs.CircuitOf.{CircuitOf, all_cycles}
use Rattle.job_input.specs.JobOf.{job_of}
use Rattle.job_input.specs.NetlistOf.{BoundNetOf, NetlistText}
use Rattle.job_input.specs.SettingSound.{IsSoundSetting}
use Rattle.job_input.specs.SettingValue.{SettingValue}
use Rattle.job_input.proofs.CycleLemmas.{keeps_words}
use Rattle.answer_core.specs.Judged.{Computes, IsSpecified}
use Rattle.answer_core.specs.Printed.{AreOneFunction, HasOutput, IsInItsWords, IsPrinted, StandsInWords}
use Rattle.answer_core.specs.Reply.{Reply}
use Rattle.answer_core.specs.Abstraction.{taken_circuit}
use Rattle.answer_core.proofs.TakenLemmas.{netlist_bases, netlist_bits, netlist_bound_to, netlist_sound}
use Rattle.answer_core.proofs.UnrollingLemmas.{IsSmall, unrolled_output}

-- one function over the same words
pub record IsOneWith (circuit job : Circuit) : Type 0 where
  pub alike : AreAlike circuit job
  pub output : AreOneFunction circuit job

-- ---- the circuit of all cycles and the job

abbrev bases : List Word → List (List ℕ)
bases words = map (λ (w : Word). w.basis) words

first_role : List Role → Role
first_role [] = Output
first_role (r ∷ rs) = r

rest_roles : List Role → List Role
rest_roles [] = []
rest_roles (r ∷ rs) = rs

-- neither the nets of a word nor what it is to the job are in its basis
before : (r : Role) (m n b : List ℕ) (us vs : List Word) → bases us ≡ bases vs → bases (word_with r m b ++ us) ≡ bases (job_word_with r n b ++ vs)
before Input m n b us vs e = ap (λ bs. b ∷ bs) e
before State m n b us vs e = ap (λ bs. b ∷ bs) e
before Fed m n b us vs e = ap (λ bs. b ∷ bs) e
before Output m n b us vs e = e

same_bases : (us vs : List BoundWord) (bs : List (List ℕ)) → map (λ (w : BoundWord). w.role) us ≡ map (λ (w : BoundWord). w.role) vs → bases (words_of us bs) ≡ bases (job_words_of vs bs)
unfolding first_role rest_roles
same_bases [] [] bs e = refl
same_bases [] (v ∷ vs) bs e = absurd (cc)
same_bases (u ∷ us) [] bs e = absurd (cc)
same_bases (u ∷ us) (v ∷ vs) [] e = refl
same_bases (u ∷ us) (v ∷ vs) (b ∷ bs) e =
    (λ i. bases (word_with (ap first_role e i) u.nets b ++ words_of us bs))
    ∙ before v.role u.nets v.nets b (words_of us bs) (job_words_of vs bs) (same_bases us vs bs (ap rest_roles e))

-- all cycles as one circuit are one with the job
cycles_with : (setting : SettingValue) (netlist : BoundNet) (cycles : ℕ) → IsSmall netlist cycles → IsSoundSetting setting → (text : NetlistText) → BoundNetOf setting.signature text (Ok netlist) → IsOneWith (taken_circuit setting (all_cycles netlist cycles)) (job_of setting netlist cycles)
cycles_with setting netlist cycles small sound text is = record {
  alike = record { k = refl; product = refl; bases = same_bases (all_cycles netlist cycles).binding.words netlist.binding.words setting.bases (keeps_words netlist cycles).roles };
  output = unrolled_output setting.k setting.product netlist setting.bases cycles (netlist_bits setting netlist sound text is) sound.ring sound.field small (netlist_sound setting.signature text netlist is) (netlist_bound_to setting netlist sound text is) (netlist_bases setting netlist sound text is);
}

pub with_job : (setting : SettingValue) (netlist circuit : BoundNet) (cycles : ℕ) → IsSoundSetting setting → (text : NetlistText) → BoundNetOf setting.signature text (Ok netlist) → CircuitOf netlist cycles (Ok circuit) → IsOneWith (taken_circuit setting circuit) (job_of setting netlist cycles)
with_job setting netlist circuit cycles sound text is of =
    let P : BoundNet → Type 0 = λ c. IsOneWith (taken_circuit setting c) (job_of setting netlist cycles) in
    subst P (sym of.0) (cycles_with setting netlist cycles (record { few = of.1; small = of.2 }) sound text is)

-- ---- what is said of one is said of the other

module _ (setting : SettingValue) (c job : Circuit) (one : IsOneWith c job) where
  pub long : length c.words ≡ length job.words
  long = alike_long c job one.alike

  pub words_to : (ts : Terms) → IsInItsWords setting c ts → IsInItsWords setting job ts
  words_to ts is = let P : ℕ → Type 0 = λ n. StandsInWords n ts in record { reduced = is.reduced; words = subst P long is.words }

  pub words_from : (ts : Terms) → IsInItsWords setting job ts → IsInItsWords setting c ts
  words_from ts is = let P : ℕ → Type 0 = λ n. StandsInWords n ts in record { reduced = is.reduced; words = subst P (sym long) is.words }

  pub output_to : (ts : Terms) → HasOutput setting c ts → HasOutput setting job ts
  output_to ts values p at =
      let P : ℕ → Type 0 = λ n. IsOut job (take n p.words) (value setting.product p ts) in
      subst P long ((one.output (take (length c.words) p.words) (value setting.product p ts)).0 (values p at))

  pub output_from : (ts : Terms) → HasOutput setting job ts → HasOutput setting c ts
  output_from ts values p at =
      let P : ℕ → Type 0 = λ n. IsOut c (take n p.words) (value setting.product p ts) in
      subst P (sym long) ((one.output (take (length job.words) p.words) (value setting.product p ts)).1 (values p at))

  pub printed_to : (reply : Reply) → IsPrinted setting c reply → IsPrinted setting job reply
  printed_to reply is = record { polynomial = is.polynomial; status = is.status; line = is.line; in_words = words_to is.polynomial is.in_words; values = output_to is.polynomial is.values }

  input_to : (xs : List ℕ) → IsInput c xs → IsInput job xs
  input_to xs is = let P : ℕ → Type 0 = λ k. (x : ℕ) → Has xs x → x < 2 ^ k in record { long = is.long ∙ long; elements = subst P one.alike.k is.elements }

  pub input_from : (xs : List ℕ) → IsInput job xs → IsInput c xs
  input_from xs is = let P : ℕ → Type 0 = λ k. (x : ℕ) → Has xs x → x < 2 ^ k in record { long = is.long ∙ sym long; elements = subst P (sym one.alike.k) is.elements }

  -- a specification has the same values
  pub specified : (spec : SpecTerms) (xs : List ℕ) (e : ℕ) → IsSpecified setting c spec xs e ↔ IsSpecified setting job spec xs e
  specified spec xs e = ((λ s. record { input = input_to xs s.input; value = s.value }), (λ s. record { input = input_from xs s.input; value = s.value }))

  pub computes : (spec : SpecTerms) → Computes setting c spec ↔ Computes setting job spec
  computes spec = (
    (λ f xs e. ((λ out. (specified spec xs e).0 ((f xs e).0 ((one.output xs e).1 out))), (λ said. (one.output xs e).0 ((f xs e).1 ((specified spec xs e).1 said))))),
    (λ f xs e. ((λ out. (specified spec xs e).1 ((f xs e).0 ((one.output xs e).0 out))), (λ said. (one.output xs e).1 ((f xs e).1 ((specified spec xs e).0 said))))),
  )

  -- two functions that are the same two are told apart at the same input
  pub differing : (f g f' g' : List ℕ → ℕ → Type 0) → ((xs : List ℕ) (e : ℕ) → f xs e ↔ f' xs e) → ((xs : List ℕ) (e : ℕ) → g xs e ↔ g' xs e) → (xs : List ℕ) (left right : ℕ) → IsDifferingInput c f g xs left right → IsDifferingInput job f' g' xs left right
  differing f g f' g' same more xs left right is = record {
    differ = record { first = (same xs left).0 is.differ.first; second = (more xs right).0 is.differ.second; apart = is.differ.apart };
    ones = is.ones;
    are = alike_ones c job one.alike xs is.ones is.are;
    least = λ ys others l r are differ. is.least ys others l r (alike_ones job c (alike_back c job one.alike) ys others are) (record { first = (same ys l).1 differ.first; second = (more ys r).1 differ.second; apart = differ.apart });
  }

  -- and so are their comparisons
  pub comparison : (f g f' g' : List ℕ → ℕ → Type 0) → ((xs : List ℕ) (e : ℕ) → f xs e ↔ f' xs e) → ((xs : List ℕ) (e : ℕ) → g xs e ↔ g' xs e) → (found : Option Difference) → IsComparison c f g found → IsComparison job f' g' found
  comparison f g f' g' same more None is = λ xs left right input first second. is xs left right (input_from xs input) ((same xs left).1 first) ((more xs right).1 second)
  comparison f g f' g' same more (Some found) is = differing f g f' g' same more found.input found.left found.right is

-- two circuits that are one with the same job are one with each other
pub one_through : (c d job : Circuit) → IsOneWith c job → IsOneWith d job → IsOneWith c d
one_through c d job one other = record {
  alike = record { k = one.alike.k ∙ sym other.alike.k; product = one.alike.product ∙ sym other.alike.product; bases = one.alike.bases ∙ sym other.alike.bases };
  output = λ xs e. ((λ out. (other.output xs e).1 ((one.output xs e).0 out)), (λ out. (one.output xs e).1 ((other.output xs e).0 out)));
}

-- two pairs of one function each are one function at once
pub both_one : (c job d other : Circuit) → IsOneWith c job → IsOneWith d other → AreOneFunction c d ↔ AreOneFunction job other
both_one c job d other one two = (
  (λ f xs e. ((λ out. (two.output xs e).0 ((f xs e).0 ((one.output xs e).1 out))), (λ out. (one.output xs e).0 ((f xs e).1 ((two.output xs e).1 out))))),
  (λ f xs e. ((λ out. (two.output xs e).1 ((f xs e).0 ((one.output xs e).0 out))), (λ out. (one.output xs e).1 ((f xs e).1 ((two.output xs e).0 out))))),
)
