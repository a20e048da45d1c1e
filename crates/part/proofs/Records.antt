-- Laws of the records of a file: one record of n, with the code's `n - 1`, of records and of nodes; the questions about records, by the first of them
-- (`questions_step`); and how many nodes n records have.
-- `nodes-step file n at h : nodes_from file n at ≡ node_at file at ∷ nodes_from file (n - 1) (at + 12)`.
use Prim.Native.Nat.{ℕ, zero, suc, ◌+◌, ◌-◌, ◌<◌}
use native.Mathlib.Nat.{not-suc-le-zero}
use native.Mathlib.Numerals.{sub-one}
use mathlib.Core.Path.{◌≡◌, refl, ap}
use mathlib.Core.List.{List, ◌∷◌, map}
use lib.ListN.{length}
use Rattle.record.specs.Questions.{first_no, next}
use Rattle.record.specs.Nodes.{held_after}
use Rattle.record.specs.Record.{node_at, record_at, record_questions}
use Rattle.record.specs.declared.Record.{Record}
use Rattle.record.proofs.Questions.{first_no-append}
use Rattle.part.specs.File.{records_from, nodes_from, records_questions}

pub records-step : (file : List ℕ) (n at : ℕ) → 0 < n → records_from file n at ≡ record_at file at ∷ records_from file (n - 1) (at + 12)
unfolding records_from
records-step file zero at h = absurd (not-suc-le-zero h)
records-step file (suc n) at h = rw (sub-one (suc n))

pub nodes-step : (file : List ℕ) (n at : ℕ) → 0 < n → nodes_from file n at ≡ node_at file at ∷ nodes_from file (n - 1) (at + 12)
unfolding nodes_from record_at
nodes-step file n at h = ap (map (λ r. r.node)) (records-step file n at h)

-- the questions about records, by the first of them
pub questions_step : (r : Record) (later : List Record) (held : ℕ)
    → first_no (records_questions (r ∷ later) held)
    ≡ next (first_no (record_questions r held)) (first_no (records_questions later (held_after r.node held)))
unfolding records_questions
questions_step r later held = first_no-append (record_questions r held) (records_questions later (held_after r.node held))

pub nodes-length : (file : List ℕ) (n at : ℕ) → length (nodes_from file n at) ≡ n
unfolding nodes_from records_from
nodes-length file zero at = refl
nodes-length file (suc n) at = ap suc (nodes-length file n (at + 12))
