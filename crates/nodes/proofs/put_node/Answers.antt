use Rattle.std.proofs.Common.{arith, ◌≡◌, ◌+◌, ◌-◌, ◌≤◌, [], ◌∷◌, ◌++◌, List, ℕ, ℤ, length, drop, take, refl, append_assoc, append-nil}
use Rattle.std.proofs.lemmas.List.{length-drop, drop_all}
use Rattle.std.proofs.lemmas.List.Edits.{sets, sets-eq}
use lib.Seq.{take_all, drop-drop}
use borrow.Rule.Slice.PartMut.{put_mid}
use Rattle.nodes.specs.Numbers.{numbers}
use Rattle.nodes.proofs.put_node.Goals as goal

-- the first six of `l[to..]` are replaced
stored : (xs l ys : List ℤ) (to k : ℕ) → length xs ≡ 6 → k ≡ length l - to → to + 6 ≤ length l → ys ≡ xs ++ drop 6 (take k (drop to l))
    → put_mid to k l ys ≡ sets l to xs
stored xs l ys to k e f h p =
    let d : length (drop to l) ≡ length l - to = length-drop to l in
    let t : take k (drop to l) ≡ drop to l = take_all k (drop to l) (omega arith) in
    let z : drop k (drop to l) ≡ [] = drop_all k (drop to l) (omega arith) in
    rw (p, t, z, drop-drop 6 to l, append-nil, sets-eq xs l to (omega (arith, e)), e, append_assoc)

pub returns : goal.returns
unfolding numbers
returns c =
    let a = c.args in
    stored (numbers (a.n ∷ [])) a.out.now _ a.to _ refl refl c.requires c.put_first.ensures
