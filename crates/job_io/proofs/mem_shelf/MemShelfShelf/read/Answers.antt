use Rattle.std.proofs.Common.{◌≡◌, ◌∙◌, ap, subst, refl, Bool, List, ℕ}
use Rattle.std.specs.FinMap.{get}
use Rattle.job_io.specs.Counts.{is_listed, next_of}
use Rattle.job_io.specs.Shelf.{files_of}
use Rattle.job_io.specs.private.Reads.{Gives}
use Rattle.job_io.proofs.FilesLemmas.{Pair}
use Rattle.job_io.proofs.ReadLemmas.{absent_rose, absent_where, failed_rose, fails_where, faults_never_fall, file_held, file_lacks, long_where, misses_never_fall, too_long, too_long_rose, within_limit}
use Rattle.job_io.proofs.mem_shelf.MemShelfShelf.read.Goals as goal

pub returns : goal.returns
returns c =
    let self = c.args.self.now in
    let read = c.read_pair-read.result in
    let name = c.args.name.now in
    let limit = c.args.limit in
    let listed : Bool = is_listed self.failing.items (next_of self.reads) in
    let fails : c.is_listed-fails.result ≡ listed = c.is_listed-fails.ensures ∙ (ap (λ (xs : List ℕ). is_listed xs c.next_count-self.result) c.deref.ensures.value ∙ ap (λ (n : ℕ). is_listed self.failing.items n) c.next_count-self.ensures) in
    let P : Bool → Type 0 = λ b. Gives b (get (files_of c.deref-2.result.now) name) limit read in
    let Q : List Pair → Type 0 = λ pairs. Gives listed (get (files_of pairs) name) limit read in
    let file = get (files_of self.pairs.items) name in
    let gives : Gives listed file limit read = subst Q c.deref-2.ensures.value (subst P fails c.read_pair-read.ensures) in
    record {
      held = refl;
      failing = refl;
      reads = c.next_count-self.ensures;
      faults = c.count_read.ensures.faults;
      misses = c.count_read.ensures.misses;
      faults_never_fall = rw c.count_read.ensures.faults (faults_never_fall read self.faults self.counts.0);
      misses_never_fall = rw c.count_read.ensures.misses (misses_never_fall read self.misses self.counts.1);
      counts = c.count_read.ensures.counts;
      bytes = file_held listed file limit read gives;
      within = within_limit listed file limit read gives;
      fails = fails_where listed file limit read gives;
      failed = λ is. rw c.count_read.ensures.faults (failed_rose read self.faults is);
      finds_none = absent_where listed file limit read gives;
      lacks = file_lacks listed file limit read gives;
      absent = λ is. rw c.count_read.ensures.misses (absent_rose read self.misses is);
      finds_more = long_where listed file limit read gives;
      too_long = λ n is. let found = too_long listed file limit read gives n is in (found.0, rw c.count_read.ensures.misses (too_long_rose read self.misses n is), found.1);
    }
