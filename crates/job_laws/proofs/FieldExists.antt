-- A modulus and the coefficients of towers name the field of a signature, or they have a fault.
use Rattle.std.proofs.Common.{refl, inl, inr, ℕ, List, Ok, Err}
use Rattle.outcome.proofs.SomeLemmas.{some_within}
use Rattle.job_input.specs.FieldOf.{FieldOrFault, field_fault, field_of}
use Rattle.job_laws.specs.HasOutcome.{HasOutcome}
use Rattle.job_laws.specs.Named.{HaveFields}
use Rattle.job_laws.proofs.FieldNamed.{IsNamedOr, name_or}

some_name : (modulus : ℕ) (tower upper : List ℕ) → IsNamedOr modulus tower upper → HasOutcome (FieldOrFault modulus tower upper)
some_name modulus tower upper (inl name) = (Ok (field_of name.degree modulus tower upper), (name, refl))
some_name modulus tower upper (inr (fault, is)) = (Err fault, is)

pub some_field : HaveFields
some_field modulus tower upper only = some_within field_fault (FieldOrFault modulus tower upper) (some_name modulus tower upper (name_or modulus tower upper only))
