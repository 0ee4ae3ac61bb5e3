-- The pairs with one more line.
use Rattle.std.proofs.Common.{◌≡◌, sym, refl, subst, ℕ, ◌<◌, ◌≤◌, ◌+◌, ◌^◌, List, [], ◌∷◌, ◌++◌, length, Ok, arith}
use Rattle.std.proofs.lemmas.List.{length-append}
use Rattle.net_core.specs.NetList.{NetList}
use Rattle.poly_mixed.specs.Labels.{Labelling}
use Rattle.cert_check.specs.Certificate.{Certificate, AsksNothing}
use Rattle.cert_check.specs.declared.line.Line.{Line}
use Rattle.cert_check.specs.declared.line.Line.TheVariants.{Pair, Share}
use Rattle.cert_check.specs.private.Kept.{with_line, IsLineIn}
use Rattle.cert_check.specs.private.Reading.{multiplier_in, IsMultiplier, IsLine}
use Rattle.cert_check.proofs.CheckLemmas.{numbered}
use Rattle.cert_check.proofs.LoopLemmas.{AsksAfter}

-- nothing is asked after a line
pub nothing_asked : (k : ℕ) (net : NetList) (labels : Labelling) (version n : ℕ) (whole more : List (List ℕ)) (text : List ℕ) (c : Certificate) (is : whole ≡ text ∷ more) (line : Line) → AsksAfter k net labels (AsksNothing k net labels) version n whole more text c is line (Ok tt)
nothing_asked k net labels version n whole more text c is (Pair g m) = refl
nothing_asked k net labels version n whole more text c is (Share p) = tt

pub added_pairs : (c : Certificate) (line : Line) → length (with_line c line).pairs ≤ length c.pairs + 1
added_pairs c (Pair g m) = let long : length (c.pairs ++ (g, multiplier_in c.shared m) ∷ []) ≡ length c.pairs + 1 = length-append c.pairs ((g, multiplier_in c.shared m) ∷ []) in omega (arith, long)
added_pairs c (Share p) = omega arith

pub added_shared : (c : Certificate) (line : Line) → length (with_line c line).shared ≤ length c.shared + 1
added_shared c (Pair g m) = omega arith
added_shared c (Share p) = let long : length (c.shared ++ p.terms ∷ []) ≡ length c.shared + 1 = length-append c.shared (p.terms ∷ []) in omega (arith, long)

-- what a line names is there
pub is_in : (k : ℕ) (net : NetList) (labels : Labelling) (count : ℕ) (c : Certificate) (line : Line) → length c.shared ≡ count → length c.pairs + 1 < 2 ^ 32 → IsLine k net labels count line → IsLineIn c line
is_in k net labels count c (Pair g m) long few is = (numbered k (length c.shared) m (let P : ℕ → Type 0 = λ n. IsMultiplier k n m in subst P (sym long) is.1), few)
is_in k net labels count c (Share p) long few is = tt
