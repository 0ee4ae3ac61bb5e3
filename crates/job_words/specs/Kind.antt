-- The kinds of netlists that are made, and their names. Source: this project's own, docs/COMMANDS.md.
use Rattle.std.specs.Prelude.{ℕ, List, codes}
use Rattle.job_words.specs.declared.kind.Kind.{Kind}
use Rattle.job_words.specs.declared.kind.Kind.TheVariants as kinds

-- what a kind is called
abbrev pub kind_name : Kind → List ℕ
kind_name kinds.Mastrovito = codes "mastrovito"
kind_name kinds.Montgomery = codes "montgomery"
kind_name kinds.Composite = codes "composite"
kind_name kinds.Normal = codes "normal"
kind_name kinds.Adder = codes "adder"
kind_name kinds.Squarer = codes "squarer"
kind_name kinds.Digit = codes "digit"
