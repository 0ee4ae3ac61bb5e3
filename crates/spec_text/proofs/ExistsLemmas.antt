-- Of each text there is an outcome but out of memory: its tokens are read to their end or to the first fault.
use Rattle.std.proofs.Common.{◌≡◌, sym, subst, refl, ℕ, List, [], ◌∷◌, Ok, Err}
use Rattle.std.specs.Prelude.{Result}
use Rattle.gf_field.specs.Ring.{IsRing}
use Rattle.poly_mixed.specs.Labels.{Labelling}
use Rattle.spec_expand.specs.Specification.{SpecTerms}
use Rattle.spec_text.specs.Fault.{ComesOfText, IsOfText}
use Rattle.spec_text.specs.Token.{Token}
use Rattle.spec_text.specs.Tokens.{Stop, ended, stuck}
use Rattle.spec_text.specs.declared.fault.SpecFault.{SpecFault}
use Rattle.spec_text.specs.declared.reader.Next.{Next}
use Rattle.spec_text.specs.declared.reader.Next.TheVariants.{Output, Assign, Factor, AfterNumber, AfterName, Exponent}
use Rattle.spec_text.specs.private.Progress.{Progress, Read, end_read, token_read}
use Rattle.spec_text.proofs.GoodLemmas.{text_may}
use Rattle.spec_text.proofs.MoveLemmas.{Shape, Refused, unfit, unknown, large, wrong, shape, refused}
use Rattle.spec_text.proofs.ReadTokens.{start, stop_read, tokens_read}
use Rattle.spec_text.proofs.SomeTokenLemmas.{some_tokens}

-- the end of the text is one of a specification or a fault of syntax
end_of_text : (n : Next) (p : Progress) (place : ℕ) → IsOfText (end_read n p place)
end_of_text Output p place = tt
end_of_text Assign p place = tt
end_of_text Factor p place = tt
end_of_text AfterNumber p place = tt
end_of_text (AfterName w) p place = tt
end_of_text (Exponent w) p place = tt

stop_of_text : (p : Progress) (stop : Stop) → IsOfText (stop_read p stop)
stop_of_text p (ended place) = end_of_text p.next p place
stop_of_text p (stuck place) = tt

module _ (l : Labelling) (k : ℕ) (mul : ℕ → ℕ → ℕ) where
  fault_of_text : (s : Shape) (t : Token) (place : ℕ) (fault : SpecFault) → Refused l k mul s t place fault → IsOfText (Err fault)
  fault_of_text s t place fault (unfit bad is) = let P : SpecFault → Type 0 = λ f. IsOfText (Err f) in subst P (sym is) tt
  fault_of_text s t place fault (unknown u n goes same bad is) = let P : SpecFault → Type 0 = λ f. IsOfText (Err f) in subst P (sym is) tt
  fault_of_text s t place fault (large u n goes same bad is) = let P : SpecFault → Type 0 = λ f. IsOfText (Err f) in subst P (sym is) tt
  fault_of_text s t place fault (wrong u n goes same bad is) = let P : SpecFault → Type 0 = λ f. IsOfText (Err f) in subst P (sym is) tt

  one_of_text : (ts : List (Token × ℕ)) (stop : Stop) (p : Progress) (t : Token × ℕ) → ((q : Progress) → IsOfText (tokens_read l k mul (Ok q) ts stop)) → (read : Read) → token_read l k mul p t.0 t.1 ≡ read → IsOfText (tokens_read l k mul read ts stop)
  one_of_text ts stop p t rest (Ok q) said = rest q
  one_of_text ts stop p t rest (Err fault) said = fault_of_text (shape p.next) t.0 t.1 fault (refused l k mul p t.0 t.1 fault said)

  read_of_text : (ts : List (Token × ℕ)) (stop : Stop) (p : Progress) → IsOfText (tokens_read l k mul (Ok p) ts stop)
  read_of_text [] stop p = stop_of_text p stop
  read_of_text (t ∷ ts) stop p = one_of_text ts stop p t (read_of_text ts stop) (token_read l k mul p t.0 t.1) refl

  -- each text is a specification or has a fault
  pub some_outcome : IsRing k mul → (bytes : List ℕ) → (result : Result SpecTerms SpecFault) × ComesOfText l k mul bytes result
  some_outcome ring bytes =
      let have = some_tokens 0 bytes in (
        tokens_read l k mul (Ok start) have.tokens have.stop,
        (text_may l k mul ring bytes have.tokens have.stop have.are, read_of_text have.tokens have.stop start),
      )
