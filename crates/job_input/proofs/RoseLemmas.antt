-- Counts that rose in a later step rose from the beginning on.
use Rattle.std.proofs.Common.{inl, inr, ◌≤◌, ℕ, arith}
use Rattle.job_io.specs.Counts.{Rose}

pub rose_earlier : (a b c : ℕ) → a ≤ b → Rose b c → Rose a c
rose_earlier a b c less rose = elim rose [ inl more ↦ inl (omega arith) | inr most ↦ inr most ]
