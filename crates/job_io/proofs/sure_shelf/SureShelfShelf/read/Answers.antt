use Rattle.std.proofs.Common.{subst, refl, false, List}
use Rattle.std.specs.FinMap.{get}
use Rattle.job_io.specs.Shelf.{files_of}
use Rattle.job_io.specs.private.Reads.{Gives}
use Rattle.job_io.proofs.FilesLemmas.{Pair}
use Rattle.job_io.proofs.ReadLemmas.{absent_rose, absent_where, file_held, file_lacks, long_where, misses_never_fall, never_fails, too_long, too_long_rose, within_limit}
use Rattle.job_io.proofs.sure_shelf.SureShelfShelf.read.Goals as goal

pub returns : goal.returns
returns c =
    let self = c.args.self.now in
    let read = c.read_pair-read.result in
    let name = c.args.name.now in
    let limit = c.args.limit in
    let Q : List Pair → Type 0 = λ pairs. Gives false (get (files_of pairs) name) limit read in
    let file = get (files_of self.pairs.items) name in
    let gives : Gives false file limit read = subst Q c.deref.ensures.value c.read_pair-read.ensures in
    record {
      held = refl;
      misses = c.count_read.ensures.misses;
      misses_never_fall = rw c.count_read.ensures.misses (misses_never_fall read self.misses self.counts);
      counts = c.count_read.ensures.counts.1;
      bytes = file_held false file limit read gives;
      within = within_limit false file limit read gives;
      failed = never_fails false file limit read gives refl;
      finds_none = absent_where false file limit read gives refl;
      lacks = file_lacks false file limit read gives;
      absent = λ is. rw c.count_read.ensures.misses (absent_rose read self.misses is);
      finds_more = long_where false file limit read gives refl;
      too_long = λ n is. let found = too_long false file limit read gives n is in (found.0, rw c.count_read.ensures.misses (too_long_rose read self.misses n is), found.1);
    }
