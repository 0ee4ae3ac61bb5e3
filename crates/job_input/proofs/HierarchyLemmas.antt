-- What comes of a hierarchical netlist, step by step.
use Rattle.std.proofs.Common.{◌≡◌, ◌⊎◌, inl, inr, ℕ, List, Ok, Err}
use Rattle.outcome.specs.Outcome.{◌>>=◌, Exactly}
use Rattle.net_blif.specs.Design.{ModelValue}
use Rattle.net_blif.specs.Models.{BlifDesign}
use Rattle.net_blif.specs.declared.fault.BlifFault.{BlifFault}
use Rattle.net_blif.specs.declared.fault.BlifFault.TheVariants as texts
use Rattle.net_core.specs.NetList.{NetList}
use Rattle.net_flat.specs.Flat.{Flattens}
use Rattle.net_signature.specs.Signature.{SignatureValue}
use Rattle.net_words.specs.Binding.{BoundNet}
use Rattle.job_input.specs.HierarchyIn.{HierarchyOf, TopBinds}
use Rattle.job_input.specs.NetlistOf.{WordsBound}
use Rattle.job_input.specs.declared.netlist.Refusal.{Refusal}
use Rattle.job_input.specs.declared.netlist.Refusal.TheVariants.{Fault, OutOfMemory}
use Rattle.job_input.specs.private.NetlistReading.{FitsNetlist, text_refusal}
use Rattle.job_input.proofs.NetlistLemmas.{text_stops}

-- the words do not bind to the first model's net
pub top_unbound : (signature : SignatureValue) (design : List ModelValue) (net : NetList) (refusal : Refusal) → Flattens design 0 (Ok net) → FitsNetlist {A = BoundNet} (Err refusal) (WordsBound signature.words signature.feeds net) → FitsNetlist {A = Unit {0}} (Err refusal) (TopBinds signature design)
top_unbound signature design net (Fault fault) flat is = inr (net, flat, inl is)
top_unbound signature design net OutOfMemory flat is = tt

-- the text is refused
pub text_refuses : (signature : SignatureValue) (text : List ℕ) (fault : BlifFault) → (fault ≡ texts.OutOfMemory) ⊎ BlifDesign text (Err fault) → FitsNetlist {A = List ModelValue} (Err (text_refusal fault)) (HierarchyOf signature text)
text_refuses signature text fault why = text_stops {B = List ModelValue} (λ design. TopBinds signature design >>= (λ u. Exactly design)) text fault why
