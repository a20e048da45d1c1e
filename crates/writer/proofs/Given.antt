-- Laws of the nodes that are given: one node of n, with the code's `n - 1`; and their numbers, both ways.
-- `numbers-given l h : numbers (given l) ≡ l`, from `h`, that there are six numbers a node; `given-numbers ns : given (numbers ns) ≡ ns`.
use Prim.Native.Nat.{ℕ, zero, suc, ◌+◌, ◌-◌, ◌*◌, ◌/◌, ◌≤◌, ◌<◌}
use native.Mathlib.Nat.{not-suc-le-zero, add-zero, zero-add, add_assoc}
use native.Mathlib.Numerals.{sub-one}
use native.Mathlib.Omega.{arith}
use mathlib.Core.Path.{◌≡◌, refl, sym, ap, ap₂, ◌∙◌}
use mathlib.Core.List.{List, [], ◌∷◌, ◌++◌, append-nil}
use lib.ListN.{length, get_or, drop}
use lib.Seq.{drop-length, get_or-append-add}
use lib.IntN.{ℤ, pos}
use Rattle.record.specs.declared.Node.{Node}
use Rattle.nodes.specs.Numbers.{numbers}
use Rattle.nodes.proofs.Numbers.{numbers-length}
use Rattle.writer.specs.Given.{node_in, nodes_in, given}
use Rattle.writer.proofs.Pieces.{run, runs}

-- ---- one node of n

pub given-step : (l : List ℤ) (n at : ℕ) → 0 < n → nodes_in l n at ≡ node_in l at ∷ nodes_in l (n - 1) (at + 6)
unfolding nodes_in
given-step l zero at h = absurd (not-suc-le-zero h)
given-step l (suc n) at h = rw (sub-one (suc n))

in_length : (l : List ℤ) (n at : ℕ) → length (nodes_in l n at) ≡ n
unfolding nodes_in
in_length l zero at = refl
in_length l (suc n) at = ap suc (in_length l n (at + 6))

pub given-length : (l : List ℤ) → length (given l) ≡ length l / 6
unfolding given
given-length l = in_length l (length l / 6) 0

-- ---- the numbers of the nodes that are given

numbers-run : (l : List ℤ) (n at : ℕ) → at + 6 * n ≤ length l → numbers (nodes_in l n at) ++ drop (at + 6 * n) l ≡ drop at l
unfolding numbers nodes_in node_in
numbers-run l zero at h = ap (λ (j : ℕ). drop j l) (add-zero at)
numbers-run l (suc n) at h =
    let e : at + 6 * suc n ≡ at + 6 + 6 * n = omega arith in
    ap (λ (m : List ℤ). (node_in l at).kind ∷ run (pos 0) l at 1 5 ++ m)
    (ap (λ (j : ℕ). numbers (nodes_in l n (at + 6)) ++ drop j l) e ∙ numbers-run l n (at + 6) (omega arith))
    ∙ sym (runs (pos 0) l at 5 (omega arith))

pub numbers-given : (l : List ℤ) → length l ≡ 6 * (length l / 6) → numbers (given l) ≡ l
unfolding given
numbers-given l h =
    let n = length l / 6 in
    let e : drop (0 + 6 * n) l ≡ [] = ap (λ (j : ℕ). drop j l) (zero-add (6 * n) ∙ sym h) ∙ drop-length l in
    sym (append-nil (numbers (nodes_in l n 0))) ∙ ap (λ (m : List ℤ). numbers (nodes_in l n 0) ++ m) (sym e) ∙ numbers-run l n 0 (omega arith)

-- ---- the nodes of the numbers

node_after : (u l : List ℤ) (at : ℕ) → node_in (u ++ l) (length u + at) ≡ node_in l at
unfolding node_in
node_after u l at =
    rw (
      add_assoc (length u) at 1,
      add_assoc (length u) at 2,
      add_assoc (length u) at 3,
      add_assoc (length u) at 4,
      add_assoc (length u) at 5,
      get_or-append-add u l at (pos 0),
      get_or-append-add u l (at + 1) (pos 0),
      get_or-append-add u l (at + 2) (pos 0),
      get_or-append-add u l (at + 3) (pos 0),
      get_or-append-add u l (at + 4) (pos 0),
      get_or-append-add u l (at + 5) (pos 0),
    )

nodes-after : (u l : List ℤ) (n at : ℕ) → nodes_in (u ++ l) n (length u + at) ≡ nodes_in l n at
unfolding nodes_in
nodes-after u l zero at = refl
nodes-after u l (suc n) at =
    let e : length u + at + 6 ≡ length u + (at + 6) = omega arith in
    ap₂ ◌∷◌ (node_after u l at) (ap (nodes_in (u ++ l) n) e ∙ nodes-after u l n (at + 6))

nodes_in_lem : (ns : List Node) → nodes_in (numbers ns) (length ns) 0 ≡ ns
unfolding nodes_in numbers node_in
nodes_in_lem [] = refl
nodes_in_lem (n ∷ later) = ap (λ (m : List Node). n ∷ m) (nodes-after (numbers (n ∷ [])) (numbers later) (length later) 0 ∙ nodes_in_lem later)

pub given-numbers : (ns : List Node) → given (numbers ns) ≡ ns
unfolding given
given-numbers ns =
    let h = numbers-length ns in
    let e : length (numbers ns) / 6 ≡ length ns = omega arith in
    ap (λ (k : ℕ). nodes_in (numbers ns) k 0) e ∙ nodes_in_lem ns

-- in what a read hands over, each node is found at its place
pub node_found : (ns : List Node) (rest : List ℤ) (k : ℕ) (d : Node) → k < length ns → node_in (numbers ns ++ rest) (6 * k) ≡ get_or ns k d
unfolding numbers node_in
node_found [] rest k d h = absurd (not-suc-le-zero h)
node_found (n ∷ ns) rest zero d h = refl
node_found (n ∷ ns) rest (suc k) d h =
    let e : 6 * suc k ≡ 6 + 6 * k = omega arith in
    ap (node_in (numbers (n ∷ ns) ++ rest)) e ∙ node_after (numbers (n ∷ [])) (numbers ns ++ rest) (6 * k) ∙ node_found ns rest k d (omega arith)
