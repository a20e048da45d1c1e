-- Demands 2 and 3 on the marching cast's definitions (`march_demands`): by the laws of the search, and by what `cast` shows of every cast that hands
-- over marks (`marks_by`). And that an unspent march and an unspent full cast leave the same bytes (`same_bytes`).
use Rattle.std.specs.Prelude.{Ok, Err}
use mathlib.Core.Path.{◌≡◌, refl, ap, ◌∙◌}
use mathlib.Core.List.{List, ◌++◌}
use Prim.Native.Nat.{ℕ, ◌-◌, ◌^◌}
use lib.ListN.{length, take, drop, replicate}
use lib.Seq.{take_at}
use lib.Pow.{pow_pos}
use Rattle.record.specs.Questions.{first_no, Verdict}
use Rattle.field.specs.Vectors.{Ray}
use Rattle.field.specs.Solid.{Solid, Valid, solid_of}
use Rattle.field.specs.Bounds.{not_looked_at}
use Rattle.halving.specs.declared.Cast.{Cast}
use Rattle.halving.specs.declared.Cast.TheVariants as cast
use Rattle.halving.specs.Halving.{cast_looked_at, handed}
use Rattle.halving.proofs.Handed.{handed_all}
use Rattle.cast.specs.Ticks.{exponent, ray_state}
use Rattle.cast.specs.Questions.{buffer_questions}
use Rattle.cast.specs.Calls.{ray_marks, ray_walk, cast_after, full_cast, marks_after, marks_left}
use Rattle.record.specs.declared.Refusal.{Refusal}
use Rattle.cast.specs.Demands.{BufferRefusal}
use Rattle.cast.proofs.Ticks.{ray_nested, tick_mark}
use Rattle.cast.proofs.Demands.{buffer_valid, buffer_refusal, marks_by}
use Rattle.march.specs.Marching.{march_enough}
use Rattle.march.specs.Calls.{march_probes, marched_marks, ray_march, marching_cast, marched_left}
use Rattle.march.specs.Demands.{Alike, MarchDemands}
use Rattle.march.proofs.Marching.{counted, length-march, march_at, marks_equal}

module _ (solid : Solid) (ray : Ray) (k : ℕ) where
  abbrev st : ℕ → ℕ → ℕ
  st = ray_state solid ray (2 ^ k)

  -- "its marks equal the halving full cast's"
  pub equal_marks : Valid solid → marched_marks solid ray k ≡ ray_marks solid ray k
  equal_marks valid = marks_equal st (2 ^ k) (ray_nested solid valid ray (pow_pos k)) k refl

  alike_by : (v : Verdict) (budget : ℕ) (lent : List ℕ) → (v ≡ Ok tt → Valid solid)
      → Alike solid ray k (cast_after v (ray_march solid ray k budget))
      (marks_after v (2 ^ k) (ray_march solid ray k budget) (marched_marks solid ray k) lent)
  unfolding cast_after marks_after Alike
  alike_by (Ok tt) budget lent valid = go (ray_march solid ray k budget)
    where
      go : (w : Cast) → Alike solid ray k (Ok w) (handed (2 ^ k) w (marched_marks solid ray k) ++ drop (2 ^ k) lent)
      go (cast.Complete p) =
          ap (λ (l : List ℕ). take (2 ^ k) (l ++ drop (2 ^ k) lent)) (handed_all (2 ^ k) p (marched_marks solid ray k) (length-march st (2 ^ k)))
          ∙ take_at (marched_marks solid ray k) (drop (2 ^ k) lent) (2 ^ k) (length-march st (2 ^ k))
          ∙ equal_marks (valid refl)
      go (cast.Spent t p) = tt
  alike_by (Err n) budget lent valid = tt

  -- the demands of a marching cast of 2^k ticks, by the verdict of its questions
  pub march_by : (v : Verdict) (budget : ℕ) (lent : List ℕ) → (v ≡ Ok tt → Valid solid) → ((e : Refusal) → v ≡ Err e → BufferRefusal e)
      → MarchDemands solid ray k budget (cast_after v (ray_march solid ray k budget))
      (marks_after v (2 ^ k) (ray_march solid ray k budget) (marched_marks solid ray k) lent)
  march_by v budget lent valid refusal = record {
    marks =
        marks_by solid ray (2 ^ k) (march_probes solid ray k) (march_enough (2 ^ k)) budget (ray_march solid ray k budget) (marched_marks solid ray k)
        (counted st (2 ^ k) budget) (length-march st (2 ^ k))
        (λ ok t h. march_at st (2 ^ k) (ray_nested solid ok ray (pow_pos k)) t not_looked_at h ∙ tick_mark solid ray (2 ^ k) t)
        (pow_pos k) v lent valid refusal;
    alike = alike_by v budget lent valid;
  }

  -- an unspent march and an unspent full cast leave the same bytes
  same_by : (b b' : ℕ) (v : Verdict) (lent : List ℕ) → (v ≡ Ok tt → Valid solid) → {p p' : ℕ}
      → cast_after v (ray_march solid ray k b) ≡ Ok (cast.Complete p) → cast_after v (ray_walk solid ray k b') ≡ Ok (cast.Complete p')
      → marks_after v (2 ^ k) (ray_march solid ray k b) (marched_marks solid ray k) lent
      ≡ marks_after v (2 ^ k) (ray_walk solid ray k b') (ray_marks solid ray k) lent
  unfolding cast_after marks_after handed cast_looked_at
  same_by b b' (Ok _) lent valid {p} {p'} e e' =
      let f : ray_march solid ray k b ≡ cast.Complete p = cc in
      let f' : ray_walk solid ray k b' ≡ cast.Complete p' = cc in
      rw (f, f') (ap (λ (ms : List ℕ). (take (2 ^ k) ms ++ replicate (2 ^ k - 2 ^ k) not_looked_at) ++ drop (2 ^ k) lent) (equal_marks (valid refl)))
  same_by b b' (Err n) lent valid e e' = refl

module _ (file : List ℕ) (ray : Ray) (lent : List ℕ) where
  abbrev verdict : Verdict
  verdict = first_no (buffer_questions file ray (2 ^ exponent) (length lent))

  pub march_demands : (budget : ℕ)
      → MarchDemands (solid_of file) ray exponent budget (marching_cast file ray budget (length lent)) (marched_left file ray budget lent)
  unfolding marching_cast marched_left
  march_demands budget =
      march_by (solid_of file) ray exponent verdict budget lent
      (buffer_valid file ray (2 ^ exponent) (length lent)) (λ n e. buffer_refusal file ray (2 ^ exponent) (length lent) e)

  -- "Where neither is spent, its marks equal the halving full cast's on every accepted file and ray": whatever the budgets, both leave the same bytes
  pub same_bytes : (b b' : ℕ) {p p' : ℕ} → marching_cast file ray b (length lent) ≡ Ok (cast.Complete p)
      → full_cast file ray b' (length lent) ≡ Ok (cast.Complete p') → marched_left file ray b lent ≡ marks_left file ray b' lent
  unfolding marching_cast marched_left full_cast marks_left
  same_bytes b b' = same_by (solid_of file) ray exponent b b' verdict lent (buffer_valid file ray (2 ^ exponent) (length lent))
