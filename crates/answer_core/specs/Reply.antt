-- What the program writes, and the status that it ends with. Source: this project's own.
use Rattle.std.specs.Prelude.{ℕ, List, ◌++◌, codes}
use Rattle.poly_mixed.specs.Labels.{Labelling}
use Rattle.poly_mixed.specs.Polynomial.{Terms}
use Rattle.poly_mixed.specs.Text.{text}
use Rattle.job_input.specs.Labelling.{labels_of}
use Rattle.job_input.specs.SettingValue.{SettingValue}
use Rattle.answer_core.specs.declared.output.Output.{Output}

-- a status and the bytes of an output
pub record Reply : Type 0 where
  pub status : ℕ
  pub text : List ℕ

-- the output word's name, ` = ` and the polynomial's text
abbrev pub line_with : Labelling → Terms → List ℕ
line_with labels ts = labels.output ++ (codes " = " ++ (text labels ts ++ codes "\n"))

-- this line with the labels of a setting
abbrev pub polynomial_line : SettingValue → Terms → List ℕ
polynomial_line setting ts = line_with (labels_of setting.k setting.signature.words) ts

-- the reply that prints a polynomial
abbrev pub prints : SettingValue → Terms → Reply
prints setting ts = record { status = 0; text = polynomial_line setting ts }

-- the reply that the program's output is
abbrev pub reply_of : Output → Reply
reply_of output = record { status = output.status; text = output.text.items }
