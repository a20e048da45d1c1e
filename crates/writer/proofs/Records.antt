-- A record's bytes read back. `records_back ns held rest ok : records_from (records_bytes ns ++ rest) (length ns) 0 ≡ map record_of ns`, from `ok`,
-- that the questions accept the nodes: whatever follows them.
use Rattle.std.specs.Prelude.{Ok}
use Prim.Native.Nat.{ℕ, ◌+◌, ◌-◌, ◌*◌, ◌≤◌, ◌<◌}
use native.Mathlib.Omega.{arith}
use mathlib.Core.Path.{◌≡◌, refl, sym, ap, ap₂, ◌∙◌, subst}
use mathlib.Core.List.{List, [], ◌∷◌, ◌++◌, map, append_assoc}
use mathlib.Core.Bool.{Bool, true, false, cond, ◌&&◌}
use lib.ListN.{length, length-append}
use lib.IntN.{ℤ, pos, nat_abs}
use lib.Seq.{sets}
use lib.Signed.{◌≤ℤ◌}
use Rattle.exact.specs.Range.{Small, eq_ℤ}
use Rattle.exact.proofs.Order.{≤ℤ_trans, nn_pos}
use Rattle.exact.proofs.Absolute.{pos-nat_abs_nn}
use Rattle.exact.proofs.Tests.{both_true, eq_ℤ_true, positive_small}
use Rattle.exact.proofs.Buffers.{sets-then}
use Rattle.record.specs.Bytes.{u16, i16, has_bytes, zeros}
use Rattle.record.specs.Questions.{first_no}
use Rattle.record.specs.Nodes.{is_point, for_operator, held_after}
use Rattle.record.specs.Record.{node_at, zero_bytes, record_at, record_questions}
use Rattle.record.specs.Ranges.{Ready}
use Rattle.record.specs.declared.Node.{Node}
use Rattle.record.proofs.Questions.{all_yes, yes_append}
use Rattle.record.proofs.Ranges.{ready, for_operator_lem}
use Rattle.part.specs.File.{records_from, records_questions}
use Rattle.part.proofs.Leading.{records_moved}
use Rattle.writer.specs.Bytes.{bits16, u16_bytes, i16_bytes, record_bytes, records_bytes}
use Rattle.writer.specs.Given.{node_in, nodes_in, others_zero, record_of}
use Rattle.writer.specs.Storable.{Storable, AllStorable}
use Rattle.writer.proofs.Numbers.{u16_back, i16_back}
use Rattle.writer.proofs.Given.{given-step}

-- ---- what a record's bytes can hold

-- an operator's numbers
pub record OthersZero (n : Node) : Type 0 where
  pub radius : n.radius ≡ pos 0
  pub x : n.x ≡ pos 0
  pub y : n.y ≡ pos 0
  pub z : n.z ≡ pos 0
  pub weight : n.weight ≡ pos 0

pub others_facts : (n : Node) → others_zero n ≡ true → OthersZero n
unfolding others_zero
others_facts n e =
    let r = eq_ℤ n.radius (pos 0) in
    let x = eq_ℤ n.x (pos 0) in
    let y = eq_ℤ n.y (pos 0) in
    let z = eq_ℤ n.z (pos 0) in
    let upToWeight = both_true (r && x && y && z) (eq_ℤ n.weight (pos 0)) e in
    let upToZ = both_true (r && x && y) z upToWeight.0 in
    let upToY = both_true (r && x) y upToZ.0 in
    let upToX = both_true r x upToY.0 in
    record {
      radius = eq_ℤ_true n.radius (pos 0) upToX.0;
      x = eq_ℤ_true n.x (pos 0) upToX.1;
      y = eq_ℤ_true n.y (pos 0) upToY.1;
      z = eq_ℤ_true n.z (pos 0) upToZ.1;
      weight = eq_ℤ_true n.weight (pos 0) upToWeight.1;
    }

wider : {k : ℕ} {z : ℤ} → k ≤ 32767 → Small k z → Small 32767 z
wider h s = record { abs = omega arith }

from_zero : {z : ℤ} → z ≡ pos 0 → Small 32767 z
from_zero e = record { abs = rw e (omega arith) }

positive : {k : ℕ} {z : ℤ} → pos 1 ≤ℤ z → z ≤ℤ pos k → (pos (nat_abs z) ≡ z) × (nat_abs z ≤ k)
positive l h = (pos-nat_abs_nn (≤ℤ_trans (nn_pos 1) l), (positive_small l h).1.abs)

operator_zero : (n : Node) → for_operator n (others_zero n) ≡ true → is_point n ≡ false → OthersZero n
operator_zero n e p = others_facts n (for_operator_lem n (others_zero n) e p)

pub storable : (n : Node) (held : ℕ) → Ready n held → for_operator n (others_zero n) ≡ true → Storable n
storable n held r e = go (is_point n) refl
  where
    go : (t : Bool) → is_point n ≡ t → Storable n
    go true p =
        let k = positive r.kind_low r.kind_high in
        let f = (r.point p).0 in
        let radius = positive f.radius_low f.radius_high in
        record {
          kind = k.0;
          kind_below = omega (arith, k.1);
          radius = radius.0;
          radius_below = omega (arith, radius.1);
          x = wider (omega arith) f.x;
          y = wider (omega arith) f.y;
          z = wider (omega arith) f.z;
          weight = wider (omega arith) f.weight;
        }
    go false p =
        let k = positive r.kind_low r.kind_high in
        let b = operator_zero n e p in
        record {
          kind = k.0;
          kind_below = omega (arith, k.1);
          radius = rw b.radius;
          radius_below = rw b.radius (omega arith);
          x = from_zero b.x;
          y = from_zero b.y;
          z = from_zero b.z;
          weight = from_zero b.weight;
        }

-- ---- one record

pub same_node : {k k' r r' x x' y y' z z' w w' : ℤ} → k ≡ k' → r ≡ r' → x ≡ x' → y ≡ y' → z ≡ z' → w ≡ w'
    → ◌≡◌ {A = Node} (record { kind = k; radius = r; x = x; y = y; z = z; weight = w })
    (record { kind = k'; radius = r'; x = x'; y = y'; z = z'; weight = w' })
same_node k r x y z w = λ i. record { kind = k i; radius = r i; x = x i; y = y i; z = z i; weight = w i }

pub node_back : (n : Node) (rest : List ℕ) → Storable n → node_at (record_bytes n ++ rest) 0 ≡ n
unfolding node_at u16 i16 record_bytes u16_bytes i16_bytes
node_back n rest s =
    same_node s.kind (ap pos (u16_back (nat_abs n.radius) s.radius_below) ∙ s.radius) (i16_back n.x s.x) (i16_back n.y s.y)
    (i16_back n.z s.z) (i16_back n.weight s.weight)

operator_zeros : (n : Node) (rest : List ℕ) → OthersZero n → zeros (record_bytes n ++ rest) 1 11 ≡ true
unfolding zeros has_bytes record_bytes u16_bytes i16_bytes bits16
operator_zeros n rest b = rw (b.radius, b.x, b.y, b.z, b.weight)

point_zeros : (n : Node) (rest : List ℕ) → zeros (record_bytes n ++ rest) 1 1 ≡ true
unfolding zeros has_bytes record_bytes
point_zeros n rest = refl

pub record_back : (n : Node) (rest : List ℕ) → Storable n → for_operator n (others_zero n) ≡ true
    → record_at (record_bytes n ++ rest) 0 ≡ record_of n
unfolding record_at zero_bytes record_of
record_back n rest s e = rw (node_back n rest s, e) (ap (λ (t : Bool). record { node = n; zeroed = t }) (go (is_point n) refl))
  where
    go : (t : Bool) → is_point n ≡ t → zeros (record_bytes n ++ rest) 1 (cond t 1 11) ≡ true
    go true p = point_zeros n rest
    go false p = operator_zeros n rest (operator_zero n e p)

-- ---- all of them

pub length_record : (n : Node) → length (record_bytes n) ≡ 12
unfolding record_bytes u16_bytes i16_bytes
length_record n = refl

pub length-records : (ns : List Node) → length (records_bytes ns) ≡ 12 * length ns
unfolding records_bytes
length-records [] = refl
length-records (n ∷ later) = rw (length-append, length_record n, length-records later) (omega arith)

-- what the questions say of each
pub node_facts : (n : Node) (held : ℕ) → first_no (record_questions (record_of n) held) ≡ Ok tt → Storable n × (for_operator n (others_zero n) ≡ true)
unfolding record_questions record_of
node_facts n held ok =
    let e : for_operator n (others_zero n) ≡ true = all_yes (record_questions (record_of n) held) ok 1 in
    (storable n held (ready (record_of n) held ok) e, e)

pub records_back : (ns : List Node) (held : ℕ) (rest : List ℕ) → first_no (records_questions (map record_of ns) held) ≡ Ok tt
    → records_from (records_bytes ns ++ rest) (length ns) 0 ≡ map record_of ns
unfolding records_from records_bytes records_questions
records_back [] held rest ok = refl
records_back (n ∷ later) held rest ok =
    let q = yes_append (record_questions (record_of n) held) (records_questions (map record_of later) (held_after (record_of n).node held)) ok in
    let f = node_facts n held q.0 in
    subst (λ (file : List ℕ). records_from file (length (n ∷ later)) 0 ≡ map record_of (n ∷ later))
    (sym (append_assoc (record_bytes n) (records_bytes later) rest))
    (ap₂ ◌∷◌ (record_back n (records_bytes later ++ rest) f.0 f.1)
    (ap (λ (k : ℕ). records_from (record_bytes n ++ (records_bytes later ++ rest)) (length later) k) (sym (ap (λ (k : ℕ). k + 0) (length_record n)))
    ∙ records_moved (record_bytes n) (records_bytes later ++ rest) (length later) 0
    ∙ records_back later (held_after (record_of n).node held) rest q.1))

pub all_storable : (ns : List Node) (held : ℕ) → first_no (records_questions (map record_of ns) held) ≡ Ok tt → AllStorable ns
unfolding records_questions AllStorable
all_storable [] held ok = tt
all_storable (n ∷ later) held ok =
    let after = held_after (record_of n).node held in
    let q = yes_append (record_questions (record_of n) held) (records_questions (map record_of later) after) ok in
    ((node_facts n held q.0).0, all_storable later after q.1)

-- ---- the k-th of n nodes that are given, and those after it

abbrev pub given_from : List ℤ → ℕ → ℕ → List Node
given_from l n k = nodes_in l (n - k) (6 * k)

from_step : (l : List ℤ) (n k : ℕ) → k < n → given_from l n k ≡ node_in l (6 * k) ∷ given_from l n (k + 1)
from_step l n k h =
    let left : n - k - 1 ≡ n - (k + 1) = omega arith in
    let at : 6 * k + 6 ≡ 6 * (k + 1) = omega arith in
    given-step l (n - k) (6 * k) (omega arith) ∙ rw (left, at)

pub storable_step : (l : List ℤ) (n k : ℕ) → k < n → AllStorable (given_from l n k)
    → Storable (node_in l (6 * k)) × AllStorable (given_from l n (k + 1))
unfolding AllStorable
storable_step l n k h s = rw (from_step l n k h) at s

-- the buffer after the records from the k-th on are stored in their places
abbrev pub stored_from : List ℤ → ℕ → List ℕ → ℕ → ℕ → List ℕ
stored_from l n out place k = sets out (place + 12 * k) (records_bytes (given_from l n k))

pub bytes_step : (l : List ℤ) (n : ℕ) (out : List ℕ) (place k : ℕ) {after : List ℕ} → k < n
    → after ≡ sets out (place + 12 * k) (record_bytes (node_in l (6 * k))) → stored_from l n after place (k + 1) ≡ stored_from l n out place k
unfolding records_bytes
bytes_step l n out place k h e =
    let r = record_bytes (node_in l (6 * k)) in
    let v = records_bytes (given_from l n (k + 1)) in
    let to : place + 12 * (k + 1) ≡ place + 12 * k + length r = omega (arith, length_record (node_in l (6 * k))) in
    rw (from_step l n k h) (sets-then r v out (place + 12 * k) e refl refl to)
