use Rattle.outcome.specs.Outcome.{Within}
use Rattle.job_io.specs.Counts.{Rose}
use Rattle.job_words.specs.declared.fault.Fault.TheVariants.{File}
use Rattle.job_words.specs.Stop.{bytes_of}
use Rattle.job_words.proofs.StepLemmas.{after, stops}
use Rattle.job_input.specs.File.{Read}
use Rattle.answer_certificates.specs.Certificates.{CertifiedBy}
use Rattle.answer_certificates.specs.declared.certificates.Certified.{Certified}
use Rattle.answer_certificates.specs.private.CertificateStop.{certified_of}
use Rattle.answer_certificates.proofs.certificates.certified_over.Goals as goal

pub returns-in-Ok : goal.returns-in-Ok
returns-in-Ok g c =
    let missed = Rose (g.S.Shelf.misses c.args.shelf.now) (g.S.Shelf.misses c.read_file.new.shelf) in
    let failed = Rose (g.S.Shelf.faults c.args.shelf.now) (g.S.Shelf.faults c.read_file.new.shelf) in
    record {
      held = c.read_file.ensures.held;
      never_fall = c.read_file.ensures.never_fall;
      gives = after certified_of c.certified_by.result (Within File (Read (g.S.Shelf.held c.args.shelf.now) c.args.file.now)) (λ bytes. CertifiedBy c.args.net.now c.args.netlist c.args.cycles bytes) c.in-Ok.text.items
          missed failed ⊥ ⊥ c.in-Ok.ensures.gives (λ m. absurd m) (λ f. absurd f) c.certified_by.ensures.gives;
      taken = c.certified_by.ensures.taken;
      short = c.certified_by.ensures.short;
    }

pub returns-in-Err : goal.returns-in-Err
returns-in-Err g c =
    let missed = Rose (g.S.Shelf.misses c.args.shelf.now) (g.S.Shelf.misses c.read_file.new.shelf) in
    let failed = Rose (g.S.Shelf.faults c.args.shelf.now) (g.S.Shelf.faults c.read_file.new.shelf) in
    record {
      held = c.read_file.ensures.held;
      never_fall = c.read_file.ensures.never_fall;
      gives = stops {Y = Certified} bytes_of certified_of c.in-Err.stop (Within File (Read (g.S.Shelf.held c.args.shelf.now) c.args.file.now)) (λ bytes. CertifiedBy c.args.net.now c.args.netlist c.args.cycles bytes)
          missed failed missed failed (λ m. m) (λ f. f) c.in-Err.ensures.gives;
      taken = tt;
      short = tt;
    }
