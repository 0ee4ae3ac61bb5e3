-- From the mask of one load of 16 bytes to the bytes that belong to a word.
use Rattle.std.proofs.Common.{◌≡◌, ◌∙◌, ap, sym, ℕ, ◌<◌, ◌≤◌, ◌%◌, ◌^◌, ◌||◌, ◌&&◌, Bool, true, not, leb, ◌==◌, if◌then◌else◌, List, map, length, get_or, Fits, w8, arith}
use Rattle.std.specs.Int.{w64, trailing_zeros}
use Rattle.std.specs.List.{prefix_len}
use Rattle.std.proofs.lemmas.Bool.{agree_below, agree_below_at, and_parts, leb-true}
use Rattle.std.proofs.lemmas.List.{length-map}
use Rattle.std.proofs.lemmas.Simd.{first_set_mask_l, length-chunk, map-map, mask_l-mod, run_in_chunk_fails, run_in_chunk_le}
use lib.Lanes.{chunk, mask_l, top}
use Rattle.net_blif.specs.private.FirstLine.{IsWordByte}

-- each lane is f of its byte, and its highest bit tells that the byte is no word's
module _ (text : List ℕ) (r : ℕ) (lanes : List ℕ) (f : ℕ → ℕ) (room : 16 ≤ length text) (fits : (k : ℕ) → Fits w8 (get_or text k 0)) (found : r ≡ (if mask_l (map (top 7) lanes) % 2 ^ 64 == 0 then 16 else trailing_zeros w64 (mask_l (map (top 7) lanes) % 2 ^ 64))) (are : lanes ≡ map f (chunk 0 16 text)) where
  abbrev other : ℕ → Bool
  other b = top 7 (f b)

  long : length (chunk 0 16 text) ≡ 16
  long = length-chunk 0 16 text room

  counted : r ≡ prefix_len (λ b. not (other b)) (chunk 0 16 text)
  counted =
      let bytes = chunk 0 16 text in
      let mask = ap (λ l. mask_l l % 2 ^ 64) (ap (map (top 7)) are ∙ map-map (top 7) f bytes) ∙ mask_l-mod (map other bytes) 64 (omega (arith, length-map bytes other, long)) in
      found ∙ (ap (λ m. if m == 0 then 16 else trailing_zeros w64 m) mask ∙ first_set_mask_l other bytes 16 long (omega arith))

  pub run_short : r ≤ 16
  run_short = run_in_chunk_le other text 0 16 r 0 room counted

  pub run_words : agree_below (λ b. other b || (leb 36 b && leb b 126)) (λ _. true) 256 ≡ true → (k : ℕ) → k < r → IsWordByte (get_or text k 0)
  run_words all k below =
      let no = run_in_chunk_fails other text 0 16 r 0 room counted k (omega arith) (omega (arith, below)) in
      let is = sym (ap (λ t. t || (leb 36 (get_or text k 0) && leb (get_or text k 0) 126)) no) ∙ agree_below_at (λ b. other b || (leb 36 b && leb b 126)) (λ _. true) 256 (get_or text k 0) all (fits k).fits in
      let both = and_parts (leb 36 (get_or text k 0)) (leb (get_or text k 0) 126) is in
      (leb-true 36 (get_or text k 0) both.0, leb-true (get_or text k 0) 126 both.1)
