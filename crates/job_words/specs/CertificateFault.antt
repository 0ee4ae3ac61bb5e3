-- The texts of faults of certificates. Source: this project's own texts, docs/COMMANDS.md.
use Rattle.std.specs.Prelude.{ℕ, List, ◌++◌, codes}
use Rattle.std.specs.Fmt.{decimal}
use Rattle.job_words.specs.declared.certificate_fault.CertificateFault.{CertificateFault}
use Rattle.job_words.specs.declared.certificate_fault.CertificateFault.TheVariants as certificate

-- the number and the text of a certificate's fault
abbrev pub certificate_text : CertificateFault → List ℕ
certificate_text (certificate.Syntax line) = codes "50: certificate line " ++ decimal line
certificate_text (certificate.NoSuchNet line) = codes "51: no such net at line " ++ decimal line
certificate_text (certificate.NoSuchBit line) = codes "52: no such bit at line " ++ decimal line
certificate_text (certificate.NotDriven line) = codes "53: no gate at line " ++ decimal line
certificate_text certificate.NoEnd = codes "54: no end line"
certificate_text (certificate.NoSuchLet line) = codes "55: no such let at line " ++ decimal line
