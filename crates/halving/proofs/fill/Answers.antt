-- `fill`: the filled part is as long as the range, and with what stands before and after it it is the run of stores.
use Rattle.std.proofs.Common.{◌≡◌, ℕ, ◌+◌, ◌≤◌, List, length, replicate, sym, ◌∙◌, append_assoc, arith}
use Rattle.std.proofs.lemmas.List.{length-replicate, length-take, length-drop}
use Rattle.std.proofs.lemmas.List.Edits.{sets, sets-eq, paste_all}
use Rattle.std.proofs.lemmas.Slice.{put_mid-paste}
use borrow.Rule.Slice.PartMut.{put_mid, mid_of}
use Rattle.halving.proofs.fill.Goals as goal

filled : (m v : List ℕ) (i n k a : ℕ) → i + n ≤ length m → k ≡ n → v ≡ replicate (length (mid_of i k m)) a
    → put_mid i k m v ≡ sets m i (replicate n a)
filled m v i n k a h e f =
    let s = replicate n a in
    let r : length s ≡ n = length-replicate n a in
    let l : length (mid_of i k m) ≡ n = simp (length-take, length-drop) (omega arith) in
    put_mid-paste i k m v s n (rw l at f) (sym e) (sym r) ∙ paste_all m i s n (sym r)
    ∙ rw (sets-eq s m i (omega (arith, r)), r, append_assoc)

pub returns : goal.returns
returns c = filled _ _ _ _ _ _ c.requires (omega arith) (c.fill.ensures.after (λ y h. h))
