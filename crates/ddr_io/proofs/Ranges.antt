-- Parts of a list by their ends.
use Rattle.std.proofs.Common.{◌≡◌, ℕ, ◌+◌, ◌-◌, ◌≤◌, List, ◌++◌, length, take, drop, slice_range, sym, ap, ◌∙◌, arith, append-nil, drop-drop, take-add, take_at, drop_at, length-take, length-take-le, length-drop}
use Rattle.std.proofs.lemmas.List.{drop-take, take-take, take-append-le, drop-append-le}
use borrow.Rule.Slice.PartMut.{put_mid}

-- moving the start of a range drops its front
pub slice_range_advance : (xs : List ℕ) (i j n m : ℕ) → m ≡ i + n → m ≤ j → slice_range xs m j ≡ drop n (slice_range xs i j)
slice_range_advance xs i j n m is within =
    let len : j - i ≡ n + (j - m) = omega arith in
    sym (ap (λ k. drop n (take k (drop i xs))) len ∙ drop-take n (j - m) (drop i xs) ∙ ap (take (j - m)) (drop-drop n i xs ∙ ap (λ k. drop k xs) (sym is)))

-- moving the end of a range back keeps its front
pub slice_range_front : (xs : List ℕ) (i j n m : ℕ) → m ≡ i + n → m ≤ j → slice_range xs i m ≡ take n (slice_range xs i j)
slice_range_front xs i j n m is within =
    let len : m - i ≡ n = omega arith in
    let le : n ≤ j - i = omega arith in
    ap (λ k. take k (drop i xs)) len ∙ sym (take-take n (j - i) (drop i xs) le)

-- the first bytes of two parts
pub take-append_more : (front back : List ℕ) (n k : ℕ) → length front ≡ n → take (n + k) (front ++ back) ≡ front ++ take k back
take-append_more front back n k len =
    take-add n k (front ++ back) ∙ ap (λ l. l ++ take k (drop n (front ++ back))) (take_at front back n len) ∙ ap (λ l. front ++ take k l) (drop_at front back n len)

-- a range, and the bytes that were read behind it
pub slice_range-put_mid : (buffer read : List ℕ) (start end m count : ℕ) → start ≤ end → end ≤ length buffer → count ≤ length read
    → slice_range (put_mid end m buffer read) start (end + count) ≡ slice_range buffer start end ++ take count read
slice_range-put_mid buffer read start end m count ordered within most =
    let rest = read ++ drop m (drop end buffer) in
    let len : length (take end buffer) ≡ end = length-take-le end buffer within in
    let is : start + (end - start) ≡ end = omega arith in
    let front : drop start (take end buffer ++ rest) ≡ slice_range buffer start end ++ rest =
    drop-append-le start (take end buffer) rest (omega (arith, len)) ∙ ap (λ l. l ++ rest) (ap (λ k. drop start (take k buffer)) (sym is) ∙ drop-take start (end - start) buffer) in
    let some : length (slice_range buffer start end) ≡ end - start = omega (arith, length-take (end - start) (drop start buffer), length-drop start buffer) in
    let whole : end + count - start ≡ (end - start) + count = omega arith in
    ap (λ n. take n (drop start (take end buffer ++ rest))) whole ∙ ap (take ((end - start) + count)) front
    ∙ take-append_more (slice_range buffer start end) rest (end - start) count some
    ∙ ap (λ l. slice_range buffer start end ++ l) (take-append-le count read (drop m (drop end buffer)) most)

-- a range in front of what was written behind it
pub slice_range-put_mid_front : (buffer read : List ℕ) (start end m : ℕ) → start ≤ end → end ≤ length buffer
    → slice_range (put_mid end m buffer read) start end ≡ slice_range buffer start end
slice_range-put_mid_front buffer read start end m ordered within =
    let is : end ≡ end + 0 = omega arith in
    ap (slice_range (put_mid end m buffer read) start) is ∙ slice_range-put_mid buffer read start end m 0 ordered within (omega arith) ∙ append-nil (slice_range buffer start end)
