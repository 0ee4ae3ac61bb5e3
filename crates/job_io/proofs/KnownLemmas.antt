-- What pieces that are written one after another append.
use Rattle.std.proofs.Common.{◌≡◌, ℕ, ◌+◌, List, ◌++◌, length, take, drop, Option, None, Some}
use Rattle.std.specs.Io.KnownBytes.{Appends}
use Rattle.std.proofs.Math.Seq.{take-add}
use Rattle.std.proofs.Common.{append_assoc, sym, ap, ◌∙◌, ◌-◌, length-drop}
use Rattle.std.proofs.Math.Seq.{take-length}

-- the front of a piece, and then the front of its rest
pub Appends-take : (a b c : Option (List ℕ)) (piece : List ℕ) (done more : ℕ) → Appends a b (take done piece) → Appends b c (take more (drop done piece)) → Appends a c (take (done + more) piece)
Appends-take None b c piece done more first second = tt
Appends-take (Some xs) None c piece done more first second = absurd first
Appends-take (Some xs) (Some ys) None piece done more first second = absurd second
Appends-take (Some xs) (Some ys) (Some zs) piece done more first second = second ∙ (ap (λ front. front ++ take more (drop done piece)) first ∙ (append_assoc xs (take done piece) (take more (drop done piece)) ∙ ap (λ front. xs ++ front) (sym (take-add done more piece))))

-- the same, where the rest is a slice up to the end
pub Appends-slice : (a b c : Option (List ℕ)) (piece : List ℕ) (done more : ℕ) → Appends a b (take done piece) → Appends b c (take more (take (length piece - done) (drop done piece))) → Appends a c (take (done + more) piece)
Appends-slice a b c piece done more first second =
    let whole : take (length piece - done) (drop done piece) ≡ drop done piece = ap (λ n. take n (drop done piece)) (sym (length-drop done piece)) ∙ take-length (drop done piece) in
    Appends-take a b c piece done more first (rw whole at second)
