-- A small worked example of the definitions of specs/, which the check computes: the bases of blocks.
use Rattle.std.proofs.Common.{inl, inr, ℕ, [], ◌∷◌, codes, refl, Err}
use Rattle.net_words.specs.declared.word.BasisText.TheVariants.{Poly}
use Rattle.net_words.specs.declared.word.Role.TheVariants.{Input, Output}
use Rattle.net_words.specs.declared.word.WordText.{WordText}
use Rattle.net_signature.specs.Body.{BlockValue}
use Rattle.job_words.specs.declared.signature_fault.SignatureFault.TheVariants as signature
use Rattle.job_input.specs.SettingOf.{BlocksHaveBases, HasWidth}

-- an input word of two nets and an output word of one
abbrev two_nets : WordText
two_nets = record { line = 6; name = codes "A"; role = Input; basis = Poly; nets = codes "a0" ∷ codes "a1" ∷ [] }

abbrev one_net : WordText
one_net = record { line = 7; name = codes "Z"; role = Output; basis = Poly; nets = codes "z0" ∷ [] }

abbrev block : BlockValue
block = record { model = codes "m"; words = two_nets ∷ one_net ∷ [] }

too_few : HasWidth 2 one_net → ⊥
too_few (inl nets) = absurd (cc)
too_few (inr fed) = absurd (cc)

-- over a field of two bits, whatever its product, a block with these words is refused for its second word
refused_for_the_second_word : (product : ℕ → ℕ → ℕ) → BlocksHaveBases 2 product (block ∷ []) (Err (signature.Bits 7))
refused_for_the_second_word product = inl (inr (1 ∷ 2 ∷ [], (tt, inl refl, refl), inl (inl (inl (too_few, refl)))))
