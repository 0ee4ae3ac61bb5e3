-- What comes of the file of a hierarchical netlist. Source: this project's own, docs/COMMANDS.md; the Berkeley Logic Interchange Format
-- (BLIF), University of California, Berkeley.
use Rattle.std.specs.Prelude.{ℕ, List, Option}
use Rattle.outcome.specs.Outcome.{Outcome, ◌>>=◌, Exactly, Within}
use Rattle.job_io.specs.Shelf.{Files}
use Rattle.net_blif.specs.Design.{ModelValue}
use Rattle.net_blif.specs.Models.{BlifDesign}
use Rattle.net_flat.specs.Flat.{Flattens}
use Rattle.net_signature.specs.Signature.{SignatureValue}
use Rattle.job_words.specs.declared.fault.Fault.{Fault}
use Rattle.job_words.specs.declared.fault.Fault.TheVariants.{File, Netlist}
use Rattle.job_words.specs.declared.netlist_fault.NetlistFault.{NetlistFault}
use Rattle.job_words.specs.Operands.{Word}
use Rattle.job_input.specs.File.{Read}
use Rattle.job_input.specs.NetlistOf.{of_model, of_text, WordsBound}

-- the words and feeds of a signature bind to the net of the first model, flattened
abbrev pub TopBinds : SignatureValue → List ModelValue → Outcome NetlistFault (Unit {0})
TopBinds signature design = do
  net ← Within of_model (Flattens design 0)
  bound ← WordsBound signature.words signature.feeds net
  Exactly tt

-- the models of a text in BLIF, to whose first one the words and feeds bind
abbrev pub HierarchyOf : SignatureValue → List ℕ → Outcome NetlistFault (List ModelValue)
HierarchyOf signature text = do
  design ← Within of_text (BlifDesign text)
  binds ← TopBinds signature design
  Exactly design

-- those of a file: it is read, and its text taken
abbrev pub HierarchyIn : Option Files → SignatureValue → Word → Outcome Fault (List ModelValue)
HierarchyIn held signature file = do
  text ← Within File (Read held file)
  Within (Netlist file) (HierarchyOf signature text)
