use Rattle.std.proofs.Common.{◌≤◌, length, ap, arith, Err}
use Rattle.job_io.specs.Counts.{Rose}
use Rattle.job_words.specs.Stop.{bytes_of}
use Rattle.job_input.proofs.StopLemmas.{file_stops}
use Rattle.job_input.proofs.files.read_file.Goals as goal

pub returns-in-Ok : goal.returns-in-Ok
returns-in-Ok g c =
    let short : length c.in-Ok.bytes.items ≤ 67108864 = omega (arith, c.in-Ok.ensures.within, c.in-Ok.bytes.ok.0) in
    record { held = c.read.ensures.held; never_fall = (c.read.ensures.faults_never_fall, c.read.ensures.misses_never_fall); gives = (c.in-Ok.ensures.bytes, short); short = short }

pub returns-in-Err : goal.returns-in-Err
returns-in-Err g c =
    let held = g.S.Shelf.held c.args.shelf.now in
    let missed = Rose (g.S.Shelf.misses c.args.shelf.now) (g.S.Shelf.misses c.read.new.self) in
    let failed = Rose (g.S.Shelf.faults c.args.shelf.now) (g.S.Shelf.faults c.read.new.self) in
    record {
      held = c.read.ensures.held;
      never_fall = (c.read.ensures.faults_never_fall, c.read.ensures.misses_never_fall);
      gives = file_stops bytes_of held c.args.name.now c.in-Err.fault c.file_stop.result missed failed
          (λ is. (c.in-Err.ensures.absent (ap Err is), c.in-Err.ensures.lacks (ap Err is)))
          (λ n is. let long = c.in-Err.ensures.too_long n (ap Err is) in (long.1, long.2))
          (λ is. c.in-Err.ensures.failed (ap Err is)) c.file_stop.ensures;
      short = tt;
    }
