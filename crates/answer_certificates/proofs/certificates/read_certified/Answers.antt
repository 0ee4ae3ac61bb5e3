use Rattle.std.proofs.Common.{◌∙◌, arith}
use Rattle.job_io.specs.Counts.{Rose}
use Rattle.net_words.specs.Binding.{BoundNet}
use Rattle.job_words.proofs.StepLemmas.{after, stops}
use Rattle.job_input.specs.NetlistOf.{NetlistIn}
use Rattle.job_input.proofs.RoseLemmas.{rose_earlier}
use Rattle.answer_certificates.specs.Certificates.{CertifiedOver}
use Rattle.answer_certificates.specs.declared.certificates.Certified.{Certified}
use Rattle.answer_certificates.specs.private.CertificateStop.{certified_of}
use Rattle.answer_certificates.proofs.CertifiedLemmas.{still_taken}
use Rattle.answer_certificates.proofs.certificates.read_certified.Goals as goal

pub returns-in-Ok : goal.returns-in-Ok
returns-in-Ok g c =
    let held = g.S.Shelf.held c.args.shelf.now in
    let m0 = g.S.Shelf.misses c.args.shelf.now in
    let m1 = g.S.Shelf.misses c.read_netlist.new.shelf in
    let m2 = g.S.Shelf.misses c.certified_over.new.shelf in
    let f0 = g.S.Shelf.faults c.args.shelf.now in
    let f1 = g.S.Shelf.faults c.read_netlist.new.shelf in
    let f2 = g.S.Shelf.faults c.certified_over.new.shelf in
    record {
      held = c.certified_over.ensures.held ∙ c.read_netlist.ensures.held;
      never_fall = (omega (arith, c.read_netlist.ensures.never_fall.0, c.certified_over.ensures.never_fall.0), omega (arith, c.read_netlist.ensures.never_fall.1, c.certified_over.ensures.never_fall.1));
      gives = after certified_of c.certified_over.result (NetlistIn held c.args.setting.now.signature c.args.net.now) (λ netlist. CertifiedOver held c.args.net.now netlist c.args.file.now c.args.cycles) c.in-Ok.netlist
          (Rose m0 m2) (Rose f0 f2) (Rose m1 m2) (Rose f1 f2) c.in-Ok.ensures.gives
          (rose_earlier m0 m1 m2 c.read_netlist.ensures.never_fall.1) (rose_earlier f0 f1 f2 c.read_netlist.ensures.never_fall.0) (rw c.read_netlist.ensures.held at c.certified_over.ensures.gives);
      taken = still_taken c.args.setting.now c.in-Ok.netlist c.certified_over.result c.certified_over.ensures.taken c.in-Ok.ensures.taken;
      short = c.certified_over.ensures.short;
    }

pub returns-in-Err : goal.returns-in-Err
returns-in-Err g c =
    let held = g.S.Shelf.held c.args.shelf.now in
    let missed = Rose (g.S.Shelf.misses c.args.shelf.now) (g.S.Shelf.misses c.read_netlist.new.shelf) in
    let failed = Rose (g.S.Shelf.faults c.args.shelf.now) (g.S.Shelf.faults c.read_netlist.new.shelf) in
    record {
      held = c.read_netlist.ensures.held;
      never_fall = c.read_netlist.ensures.never_fall;
      gives = stops {X = BoundNet} {Y = Certified} (λ netlist. netlist) certified_of c.in-Err.stop (NetlistIn held c.args.setting.now.signature c.args.net.now) (λ netlist. CertifiedOver held c.args.net.now netlist c.args.file.now c.args.cycles)
          missed failed missed failed (λ m. m) (λ f. f) c.in-Err.ensures.gives;
      taken = tt;
      short = tt;
    }
