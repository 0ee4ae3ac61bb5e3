use Rattle.job_words.proofs.netlist_fault.binding_text.Goals as goal

pub returns-in-NoSuchNet : goal.returns-in-NoSuchNet
returns-in-NoSuchNet c = rw c.in-NoSuchNet.is c.bit_text.ensures

pub returns-in-NotInput : goal.returns-in-NotInput
returns-in-NotInput c = rw c.in-NotInput.is c.bit_text-in-NotInput.ensures

pub returns-in-NotLatch : goal.returns-in-NotLatch
returns-in-NotLatch c = rw c.in-NotLatch.is c.bit_text-in-NotLatch.ensures
