-- What a run printed, command by command, of the job that the held files give. Source: this project's own.
use Rattle.std.specs.Prelude.{◌≡◌, ℕ, Bool, List, Option, Some}
use Rattle.job_io.specs.Shelf.{Files}
use Rattle.job_words.specs.Command.{Abstract, Bits, Certify, Check, Compose, Eval, Iso, Job, Lift, Make, Over, Same, Table, Trial, Upgrade, Verify, IsSpelled}
use Rattle.job_words.specs.Operands.{Word}
use Rattle.job_words.specs.declared.kind.Kind.{Kind}
use Rattle.answer_core.specs.Printed.{PrintsHeld, PrintsHeldInBits}
use Rattle.answer_core.specs.Reply.{Reply}
use Rattle.gf_abs.specs.CertificateHeadline.{HasTheSameReply, IsAcceptedAgain, PrintsHeldProof, PrintsTermsLeft}
use Rattle.gf_abs.specs.CheckHeadline.{PrintsHeldAcceptance, PrintsHeldRejection}
use Rattle.gf_abs.specs.EvalHeadline.{PrintsHeldElement}
use Rattle.gf_abs.specs.Headline.{PrintsHeldDifference, PrintsHeldSame}
use Rattle.gf_abs.specs.IsoHeadline.{PrintsImages}
use Rattle.gf_abs.specs.MakeHeadline.{IsComputedAgain}
use Rattle.gf_abs.specs.TableHeadline.{PrintsHeldLift, PrintsHeldTable}
use Rattle.gf_abs.specs.TrialHeadline.{PrintsTrial}
use Rattle.gf_abs.specs.Written.{IsAppended}

-- of a run: its words, what the shelf tells of its files, its status, and what had been written before it and after it, where the sink tells
module _ (words : List Word) (held : Option Files) (status : ℕ) (old new : Option (List ℕ)) where
  -- where the shelf tells these files, the words spell this command, and the status is this one, a reply of which this is said was
  -- written whole
  abbrev pub Wrote : Files → Job → ℕ → (Reply → Type 0) → Type 0
  Wrote files job ends Says = held ≡ Some files → IsSpelled words job → status ≡ ends → IsAppended Says old new

  -- `abstract` printed the reduced polynomial in the job's words that has the output's element at every input
  abbrev pub AbstractPrints : Type 0
  AbstractPrints = (files : Files) (signature net : Word) (bound cycles : ℕ) (simple : Bool) → Wrote files (Over signature (Abstract net bound cycles simple)) 0 (PrintsHeld files signature net cycles)

  -- `bits` printed the reduced polynomial in the bits of these words that has the output's element at the bits of every input
  abbrev pub BitsPrints : Type 0
  BitsPrints = (files : Files) (signature net : Word) (bound cycles : ℕ) (simple : Bool) → Wrote files (Over signature (Bits net bound cycles simple)) 0 (PrintsHeldInBits files signature net cycles)

  -- `check` printed that the job computes its specification, and the job's polynomial
  abbrev pub CheckAccepts : Type 0
  CheckAccepts = (files : Files) (signature net specification : Word) (bound cycles : ℕ) (simple : Bool) → Wrote files (Over signature (Check net specification bound cycles simple)) 0 (PrintsHeldAcceptance files signature net specification cycles)

  -- or it printed an input at which the job does not compute its specification, with both values there, and the job's polynomial
  abbrev pub CheckRejects : Type 0
  CheckRejects = (files : Files) (signature net specification : Word) (bound cycles : ℕ) (simple : Bool) → Wrote files (Over signature (Check net specification bound cycles simple)) 1 (PrintsHeldRejection files signature net specification cycles)

  -- `same` printed that both jobs have one output at every input
  abbrev pub SameAgrees : Type 0
  SameAgrees = (files : Files) (signature net other : Word) (bound cycles : ℕ) (simple : Bool) → Wrote files (Over signature (Same net other bound cycles simple)) 0 (PrintsHeldSame files signature net other cycles)

  -- or it printed an input at which they have not, with both outputs there
  abbrev pub SameDiffers : Type 0
  SameDiffers = (files : Files) (signature net other : Word) (bound cycles : ℕ) (simple : Bool) → Wrote files (Over signature (Same net other bound cycles simple)) 1 (PrintsHeldDifference files signature net other cycles)

  -- `verify` printed a claim that is the polynomial of the output
  abbrev pub VerifyProves : Type 0
  VerifyProves = (files : Files) (signature net certificate : Word) (bound cycles : ℕ) → Wrote files (Over signature (Verify net certificate bound cycles)) 0 (PrintsHeldProof files signature net cycles)

  -- or it printed how many terms the last running sum has
  abbrev pub VerifyLeavesTerms : Type 0
  VerifyLeavesTerms = (files : Files) (signature net certificate : Word) (bound cycles : ℕ) → Wrote files (Over signature (Verify net certificate bound cycles)) 1 (PrintsTermsLeft files signature net certificate bound cycles)

  -- `eval` printed the output at the values
  abbrev pub EvalPrints : Type 0
  EvalPrints = (files : Files) (signature net : Word) (values : List Word) (cycles : ℕ) → Wrote files (Over signature (Eval net values cycles)) 0 (PrintsHeldElement files signature net values cycles)

  -- `table` printed the output at every input
  abbrev pub TablePrints : Type 0
  TablePrints = (files : Files) (signature net : Word) (cycles : ℕ) → Wrote files (Over signature (Table net cycles)) 0 (PrintsHeldTable files signature net cycles)

  -- `lift` printed the one polynomial of a table
  abbrev pub LiftPrints : Type 0
  LiftPrints = (files : Files) (signature table : Word) → Wrote files (Over signature (Lift table)) 0 (PrintsHeldLift files signature table)

  -- `iso` printed the images of the numbers 2^i
  abbrev pub IsoPrints : Type 0
  IsoPrints = (files : Files) (signature other : Word) → Wrote files (Over signature (Iso other)) 0 (PrintsImages files signature other)

  -- `certify` printed what `verify` accepts
  abbrev pub CertifyPrints : Type 0
  CertifyPrints = (files : Files) (signature net : Word) (bound cycles : ℕ) → Wrote files (Over signature (Certify net bound cycles)) 0 (IsAcceptedAgain files signature net bound cycles)

  -- `upgrade` printed what has the same reply
  abbrev pub UpgradePrints : Type 0
  UpgradePrints = (files : Files) (signature net certificate : Word) (cycles : ℕ) → Wrote files (Over signature (Upgrade net certificate cycles)) 0 (HasTheSameReply files signature net certificate cycles)

  -- `compose` printed the polynomial of the whole netlist, flattened
  abbrev pub ComposePrints : Type 0
  ComposePrints = (files : Files) (signature net : Word) (bound : ℕ) → Wrote files (Over signature (Compose net bound)) 0 (PrintsHeld files signature net 0)

  -- `make` printed a netlist that computes what its kind says
  abbrev pub MakePrints : Type 0
  MakePrints = (files : Files) (kind : Kind) (signature : Word) → Wrote files (Over signature (Make kind)) 0 (IsComputedAgain files kind signature)

  -- `trial`, which reads no file, printed an input at which its netlist does not give the product
  abbrev pub TrialPrints : Type 0
  TrialPrints = (number modulus bound : ℕ) → IsSpelled words (Trial number modulus bound) → status ≡ 0 → IsAppended (PrintsTrial number modulus) old new
