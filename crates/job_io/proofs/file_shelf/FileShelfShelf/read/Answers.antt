use Rattle.std.proofs.Common.{◌≡◌, ℕ, refl}
use Rattle.std.proofs.lemmas.Result.{IfErr-at_err}
use Rattle.job_io.specs.declared.shelf.ShelfFault.{ShelfFault}
use Rattle.job_io.specs.declared.shelf.ShelfFault.TheVariants.{TooLong}
use Rattle.job_io.proofs.file_shelf.FileShelfShelf.read.Goals as goal

pub returns-clause-too_long : goal.returns-clause-too_long
returns-clause-too_long g c = λ n is. IfErr-at_err (λ (e : ShelfFault). (m : ℕ) → e ≡ TooLong m → m ≡ c.args.limit) is c.read_file-read.ensures.too_long n refl
