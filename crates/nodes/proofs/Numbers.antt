-- Laws of the nodes' numbers in a lent array: the k-th node of n (`numbers-step`), how many there are, and the array after all (`nodes_stored`).
-- `nodes_stored file n at l h`, from `h : 6 * n ≤ length l`: stored from the start of l, the numbers of n nodes stand before what l had after them.
use Prim.Native.Nat.{ℕ, ◌+◌, ◌-◌, ◌*◌, ◌≤◌, ◌<◌}
use native.Mathlib.Omega.{arith}
use mathlib.Core.Path.{◌≡◌, refl, ap, ◌∙◌}
use mathlib.Core.List.{List, [], ◌∷◌, ◌++◌}
use lib.ListN.{length, drop}
use lib.IntN.{ℤ}
use lib.Seq.{sets}
use Rattle.exact.proofs.Buffers.{sets-append, sets-whole}
use Rattle.record.specs.Record.{node_at}
use Rattle.record.specs.declared.Node.{Node}
use Rattle.part.specs.File.{nodes_from}
use Rattle.part.proofs.Records.{nodes-step, nodes-length}
use Rattle.nodes.specs.Numbers.{numbers}

-- the array after the nodes from the k-th on are stored in their places
abbrev pub stored_from : List ℕ → ℕ → ℕ → List ℤ → ℕ → List ℤ
stored_from file n first l k = sets l (6 * k) (numbers (nodes_from file (n - k) (first + 12 * k)))

-- the k-th stored, and then those after it
pub numbers-step : (file : List ℕ) (n first : ℕ) (l : List ℤ) (k : ℕ) {out : List ℤ} → k < n
    → out ≡ sets l (6 * k) (numbers (node_at file (first + 12 * k) ∷ [])) → stored_from file n first out (k + 1) ≡ stored_from file n first l k
unfolding numbers
numbers-step file n first l k h e =
    let left : n - (k + 1) ≡ n - k - 1 = omega arith in
    let at : first + 12 * (k + 1) ≡ first + 12 * k + 12 = omega arith in
    let to : 6 * (k + 1) ≡ 6 * k + 6 = omega arith in
    rw (nodes-step file (n - k) (first + 12 * k) (omega arith), e, left, at, to)
    (sets-append (numbers (node_at file (first + 12 * k) ∷ [])) (numbers (nodes_from file (n - k - 1) (first + 12 * k + 12))) l (6 * k))

pub numbers-length : (ns : List Node) → length (numbers ns) ≡ 6 * length ns
unfolding numbers
numbers-length [] = refl
numbers-length (n ∷ later) = omega (arith, numbers-length later)

-- stored from the start of a long enough array: the numbers, and then what was there
pub nodes_stored : (file : List ℕ) (n at : ℕ) (l : List ℤ) → 6 * n ≤ length l
    → sets l 0 (numbers (nodes_from file n at)) ≡ numbers (nodes_from file n at) ++ drop (6 * n) l
nodes_stored file n at l h =
    sets-whole (numbers (nodes_from file n at)) l (6 * n) (numbers-length (nodes_from file n at) ∙ ap (λ (k : ℕ). 6 * k) (nodes-length file n at)) h
