-- A circuit beside a certificate, and what is printed of one: for the clauses of private functions. Source: this project's own.
use Rattle.std.specs.Prelude.{ℕ, List}
use Rattle.net_words.specs.Binding.{BoundNet}
use Rattle.poly_mixed.specs.Labels.{Labelling}
use Rattle.poly_mixed.specs.Text.{HasNames, HasWordNames}
use Rattle.cert_check.specs.Verdict.{Verdict, valid, invalid}
use Rattle.answer_certificates.specs.declared.certificates.Certified.{Certified}

-- a circuit with the bytes of a certificate
abbrev pub certified_of : Certified → BoundNet × List ℕ
certified_of certified = (certified.circuit, certified.text.items)

-- the labels name all that is printed of a verdict
abbrev pub IsNamedVerdict : Labelling → Verdict → Type 0
IsNamedVerdict labels (valid claim) = HasNames labels claim × HasWordNames labels claim
IsNamedVerdict labels (invalid remaining) = Unit {0}
