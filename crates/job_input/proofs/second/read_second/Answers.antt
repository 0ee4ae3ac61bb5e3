use Rattle.job_io.specs.Counts.{Rose}
use Rattle.job_words.proofs.StepLemmas.{after, stops}
use Rattle.net_signature.specs.Signature.{SignatureValue}
use Rattle.job_input.specs.declared.signed.Signed.{Signed}
use Rattle.job_input.specs.Setting.{second_stop, signed_value}
use Rattle.job_input.specs.SignedIn.{SecondOf, SecondSignedIn}
use Rattle.job_input.proofs.SecondLemmas.{signed_stop}
use Rattle.job_input.proofs.second.read_second.Goals as goal

pub returns-in-Ok : goal.returns-in-Ok
returns-in-Ok g c =
    let held = g.S.Shelf.held c.args.shelf.now in
    let missed = Rose (g.S.Shelf.misses c.args.shelf.now) (g.S.Shelf.misses c.read_signed.new.shelf) in
    let failed = Rose (g.S.Shelf.faults c.args.shelf.now) (g.S.Shelf.faults c.read_signed.new.shelf) in
    let view : Signed → SignatureValue = λ s. s.signature in
    record {
      held = c.read_signed.ensures.held;
      never_fall = c.read_signed.ensures.never_fall;
      gives = after view c.judged.result (SecondSignedIn held c.args.file.now) SecondOf (signed_value c.in-Ok.signed) missed failed ⊥ ⊥ c.in-Ok.ensures.gives (λ m. absurd m) (λ f. absurd f) c.judged.ensures.gives;
      named = c.judged.ensures.named;
    }

pub returns-in-Err : goal.returns-in-Err
returns-in-Err g c =
    let held = g.S.Shelf.held c.args.shelf.now in
    let missed = Rose (g.S.Shelf.misses c.args.shelf.now) (g.S.Shelf.misses c.read_signed.new.shelf) in
    let failed = Rose (g.S.Shelf.faults c.args.shelf.now) (g.S.Shelf.faults c.read_signed.new.shelf) in
    let view : Signed → SignatureValue = λ s. s.signature in
    record {
      held = c.read_signed.ensures.held;
      never_fall = c.read_signed.ensures.never_fall;
      gives = rw c.second_stop.ensures
          (stops signed_value view (second_stop c.in-Err.stop) (SecondSignedIn held c.args.file.now) SecondOf missed failed missed failed (λ m. m) (λ f. f)
          (signed_stop signed_value held c.args.file.now missed failed c.in-Err.stop c.in-Err.ensures.gives));
      named = tt;
    }
