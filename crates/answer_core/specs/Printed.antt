-- What printed polynomials say of the jobs in the files, and when two jobs are one function. Source: Pruss, Kalla, Enescu,
-- Word-Level Abstraction from Bit-Level Circuits Using Gröbner Bases, DAC 2014; for bits Lv, Kalla, Enescu, IEEE TCAD 2013.
use Rattle.std.specs.Prelude.{◌≡◌, ℕ, Bool, ◌*◌, ◌↔◌, List, [], ◌++◌, codes, length, Some, Ok}
use Rattle.std.specs.List.{AllByRecursion}
use Rattle.job_io.specs.Shelf.{Files}
use Rattle.net_words.specs.Binding.{BoundNet}
use Rattle.poly_mixed.specs.Polynomial.{Terms, Point, IsPoint, IsReduced, value}
use Rattle.poly_mixed.specs.laws.Uniqueness.{InBits, InFirstWords}
use Rattle.circuit_model.specs.Circuit.{Circuit, input_in}
use Rattle.circuit_model.specs.Differing.{Difference, IsDifferingInput}
use Rattle.circuit_model.specs.Ones.{AreOnes}
use Rattle.circuit_model.specs.Out.{IsOut}
use Rattle.stage_model.specs.First.{InFirstRanks}
use Rattle.spec_compare.specs.ValueAt.{at_ones}
use Rattle.job_words.specs.Operands.{Word}
use Rattle.job_input.specs.File.{Read}
use Rattle.job_input.specs.JobOf.{IsJobOf}
use Rattle.job_input.specs.Labelling.{labels_of}
use Rattle.job_input.specs.NetlistOf.{NetlistText, by_ending}
use Rattle.job_input.specs.SettingOf.{SettingOf}
use Rattle.job_input.specs.SettingValue.{SettingValue}
use Rattle.answer_core.specs.DifferingLines.{differing_lines}
use Rattle.answer_core.specs.Reply.{Reply, polynomial_line}
use Rattle.answer_core.specs.Simpler.{SimplerOfText}

-- the text of a signature gives the setting, and the text of a netlist gives the circuit of its cycles under its words, or a simpler one
pub record IsTaken (setting : SettingValue) (circuit : BoundNet) : Type 0 where
  pub signature : List ℕ
  pub is_setting : SettingOf signature (Ok setting)
  pub netlist : NetlistText
  pub cycles : ℕ
  pub simple : Bool
  pub is_circuit : SimplerOfText setting.signature netlist cycles simple (Ok circuit)

-- the held files of these names give the setting, and the job over so many cycles after the first
pub record AreHeld (files : Files) (signature net : Word) (cycles : ℕ) (setting : SettingValue) (job : Circuit) : Type 0 where
  pub bytes : List ℕ
  pub signature_read : Read (Some files) signature (Ok bytes)
  pub text : List ℕ
  pub net_read : Read (Some files) net (Ok text)
  pub is_job : IsJobOf bytes (by_ending net text) cycles setting job

-- no bit stands in the terms, and no word from the n-th on
pub record StandsInWords (n : ℕ) (ts : Terms) : Type 0 where
  pub bits : AllByRecursion (λ t. t.0.bits ≡ []) ts
  pub words : InFirstWords n ts

-- a reduced polynomial in the job's input, state and fed words alone
pub record IsInItsWords (setting : SettingValue) (job : Circuit) (ts : Terms) : Type 0 where
  pub reduced : IsReduced setting.k ts
  pub words : StandsInWords (length job.words) ts

-- a reduced polynomial in the bits of the job's input, state and fed words alone
pub record IsInItsBits (setting : SettingValue) (job : Circuit) (ts : Terms) : Type 0 where
  pub reduced : IsReduced setting.k ts
  pub bits_alone : InBits ts
  pub words_alone : InFirstRanks (setting.k * length job.words) ts

-- at each point the value is the output word's element at the point's elements
abbrev pub HasOutput : SettingValue → Circuit → Terms → Type 0
HasOutput setting job ts = (p : Point) → IsPoint setting.k p → IsOut job (input_in job p.words) (value setting.product p ts)

-- where the bits of an input that are 1 are 1 and all others 0, the value is the output word's element at the input
abbrev pub HasOutputInBits : SettingValue → Circuit → Terms → Type 0
HasOutputInBits setting job ts = (xs ones : List ℕ) → AreOnes job xs ones → IsOut job xs (value setting.product (at_ones ones) ts)

-- the reply is the line of a reduced polynomial in the job's words alone, with the output's values
pub record IsPrinted (setting : SettingValue) (job : Circuit) (reply : Reply) : Type 0 where
  pub polynomial : Terms
  pub status : reply.status ≡ 0
  pub line : reply.text ≡ polynomial_line setting polynomial
  pub in_words : IsInItsWords setting job polynomial
  pub values : HasOutput setting job polynomial

-- the reply is the line of a reduced polynomial in the bits of the job's words alone, with the output's value at the bits of each input
pub record IsPrintedInBits (setting : SettingValue) (job : Circuit) (reply : Reply) : Type 0 where
  pub polynomial : Terms
  pub status : reply.status ≡ 0
  pub line : reply.text ≡ polynomial_line setting polynomial
  pub in_bits : IsInItsBits setting job polynomial
  pub values : HasOutputInBits setting job polynomial

-- the held files give a setting and a job whose output the reply prints in words
pub record PrintsHeld (files : Files) (signature net : Word) (cycles : ℕ) (reply : Reply) : Type 0 where
  pub setting : SettingValue
  pub job : Circuit
  pub held : AreHeld files signature net cycles setting job
  pub printed : IsPrinted setting job reply

-- or in bits
pub record PrintsHeldInBits (files : Files) (signature net : Word) (cycles : ℕ) (reply : Reply) : Type 0 where
  pub setting : SettingValue
  pub job : Circuit
  pub held : AreHeld files signature net cycles setting job
  pub printed : IsPrintedInBits setting job reply

-- the two jobs have the same output elements at each input
abbrev pub AreOneFunction : Circuit → Circuit → Type 0
AreOneFunction job other = (xs : List ℕ) (e : ℕ) → IsOut job xs e ↔ IsOut other xs e

-- the reply prints the input at which the outputs of two jobs are told apart, and the two outputs there
pub record PrintsDifference (setting : SettingValue) (job other : Circuit) (reply : Reply) : Type 0 where
  pub found : Difference
  pub text : reply.text ≡ codes "differ\n" ++ differing_lines (labels_of setting.k setting.signature.words) (codes "first") (codes "second") found
  pub differing : IsDifferingInput job (IsOut job) (IsOut other) found.input found.left found.right
