use Rattle.std.proofs.Common.{◌≡◌, ◌⊎◌, subst, List, Ok, Err}
use Rattle.net_blif.specs.Models.{ReadsLine}
use Rattle.net_blif.specs.Statement.{Token}
use Rattle.net_blif.specs.declared.fault.BlifFault.TheVariants.{OutOfMemory}
use Rattle.net_blif.proofs.FirstLineLemmas.{begins_read, begins_refused_or}
use Rattle.net_blif.proofs.read.read_joined.Goals as goal

pub returns-in-Ok-clause-read : goal.returns-in-Ok-clause-read
returns-in-Ok-clause-read c =
    let words = c.next_joined.new.words.items in
    let P : List Token → Type 0 = λ ws. ReadsLine c.args.reader.now c.args.number ws (Ok c.read_words.new.self) in
    begins_read c.args.reader.now c.read_words.new.self c.args.text.now words c.in_ok-after.count c.in_ok-after.after.now c.args.number c.in_ok-after.ensures.line (subst P c.deref-2.ensures.value c.in-Ok.ensures.read)

pub returns-in-Err-clause-fault : goal.returns-in-Err-clause-fault
returns-in-Err-clause-fault c =
    let words = c.next_joined.new.words.items in
    let P : List Token → Type 0 = λ ws. (c.in-Err.fault ≡ OutOfMemory) ⊎ ReadsLine c.args.reader.now c.args.number ws (Err c.in-Err.fault) in
    begins_refused_or c.args.reader.now c.args.text.now words c.in_ok-after.count c.in_ok-after.after.now c.args.number c.in-Err.fault OutOfMemory c.in_ok-after.ensures.line (subst P c.deref-2.ensures.value c.in-Err.ensures.fault)
