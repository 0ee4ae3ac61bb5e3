use Rattle.reader_laws.proofs.NetlistExists.{some_read}
use Rattle.job_laws.proofs.settings.some_file_or_fault.Goals as goal

pub returns : goal.returns
returns c = some_read
