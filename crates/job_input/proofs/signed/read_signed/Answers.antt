use Rattle.std.proofs.Common.{ℕ, List, subst}
use Rattle.outcome.specs.Outcome.{Within}
use Rattle.job_io.specs.Counts.{Rose}
use Rattle.job_words.specs.declared.fault.Fault.TheVariants.{File, Signature}
use Rattle.job_words.specs.Stop.{bytes_of, GivesBy}
use Rattle.job_words.proofs.StepLemmas.{after, stops}
use Rattle.job_input.specs.File.{Read}
use Rattle.job_input.specs.SettingOf.{SignedOf}
use Rattle.job_input.specs.Setting.{signed_value}
use Rattle.job_input.proofs.signed.read_signed.Goals as goal

pub returns-in-Err : goal.returns-in-Err
returns-in-Err g c =
    let missed = Rose (g.S.Shelf.misses c.args.shelf.now) (g.S.Shelf.misses c.read_file.new.shelf) in
    let failed = Rose (g.S.Shelf.faults c.args.shelf.now) (g.S.Shelf.faults c.read_file.new.shelf) in
    record {
      held = c.read_file.ensures.held;
      never_fall = c.read_file.ensures.never_fall;
      gives = stops bytes_of signed_value c.in-Err.stop (Within File (Read (g.S.Shelf.held c.args.shelf.now) c.args.file.now)) (λ text. Within Signature (SignedOf text)) missed failed missed failed (λ m. m) (λ f. f) c.in-Err.ensures.gives;
      said = tt;
      named = tt;
    }

pub returns : goal.returns
returns g c =
    let missed = Rose (g.S.Shelf.misses c.args.shelf.now) (g.S.Shelf.misses c.read_file.new.shelf) in
    let failed = Rose (g.S.Shelf.faults c.args.shelf.now) (g.S.Shelf.faults c.read_file.new.shelf) in
    let P : List ℕ → Type 0 = λ text. GivesBy signed_value c.signed_of.result (Within Signature (SignedOf text)) ⊥ ⊥ in
    record {
      held = c.read_file.ensures.held;
      never_fall = c.read_file.ensures.never_fall;
      gives = after signed_value c.signed_of.result (Within File (Read (g.S.Shelf.held c.args.shelf.now) c.args.file.now)) (λ text. Within Signature (SignedOf text)) c.in-Ok.text.items
          missed failed ⊥ ⊥ c.in-Ok.ensures.gives (λ m. absurd m) (λ f. absurd f) (subst P c.deref.ensures.value c.signed_of.ensures.gives);
      said = c.signed_of.ensures.said;
      named = c.signed_of.ensures.named;
    }
