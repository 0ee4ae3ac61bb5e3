use Rattle.job_words.proofs.fault.write_fault.Goals as goal

pub returns-in-File : goal.returns-in-File
returns-in-File c = rw c.in-File.is (c.line_with.ensures _ c.file_text.ensures)

pub returns-in-Signature : goal.returns-in-Signature
returns-in-Signature c = rw c.in-Signature.is (c.line_with-in-Signature.ensures _ c.signature_text.ensures)

pub returns-in-Specification : goal.returns-in-Specification
returns-in-Specification c = rw c.in-Specification.is (c.line_with-in-Specification.ensures _ c.specification_text.ensures)

pub returns-in-Value : goal.returns-in-Value
returns-in-Value c = rw c.in-Value.is (c.line_with-in-Value.ensures _ c.value_text.ensures)

pub returns-in-SecondSignature : goal.returns-in-SecondSignature
returns-in-SecondSignature c = rw c.in-SecondSignature.is (c.line_with-in-SecondSignature.ensures _ c.second_signature_text.ensures)

pub returns-in-Table : goal.returns-in-Table
returns-in-Table c = rw c.in-Table.is (c.line_with-in-Table.ensures _ c.table_text.ensures)

pub returns-in-Certificate : goal.returns-in-Certificate
returns-in-Certificate c = rw c.in-Certificate.is (c.line_with-in-Certificate.ensures _ c.certificate_text.ensures)

pub returns-in-Form : goal.returns-in-Form
returns-in-Form c = rw c.in-Form.is (c.line_with-in-Form.ensures _ c.form_text.ensures)

pub returns-in-Composition : goal.returns-in-Composition
returns-in-Composition c = rw c.in-Composition.is (c.line_with-in-Composition.ensures _ c.composition_text.ensures)

pub returns-in-Stage : goal.returns-in-Stage
returns-in-Stage c = rw c.in-Stage.is (c.line_with-in-Stage.ensures _ c.stage_fault_text.ensures)
