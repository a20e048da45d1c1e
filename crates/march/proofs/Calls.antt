-- What each way out of the marching cast shows.
use Rattle.std.specs.Prelude.{Ok, Err}
use mathlib.Core.Path.{◌≡◌}
use mathlib.Core.List.{List, ◌++◌}
use Prim.Native.Nat.{ℕ, ◌^◌}
use lib.ListN.{length, drop}
use Rattle.record.specs.declared.Refusal.{Refusal}
use Rattle.part.specs.declared.Summary.{Summary}
use Rattle.field.specs.Vectors.{Ray}
use Rattle.field.specs.Solid.{solid_of}
use Rattle.halving.specs.declared.Cast.{Cast}
use Rattle.halving.specs.Answers.{CastAnswer}
use Rattle.halving.specs.Halving.{handed}
use Rattle.halving.proofs.Within.{Agree}
use Rattle.cast.specs.Ticks.{exponent, ray_state}
use Rattle.cast.specs.Questions.{check_buffer}
use Rattle.cast.proofs.Calls.{Made, marks_refused, marks_made}
use Rattle.march.specs.Marching.{first_length, march_enough, march_marks, march}
use Rattle.march.specs.Calls.{marching_cast, marched_left}
use Rattle.march.specs.Demands.{MarchDemands}
use Rattle.march.proofs.Within.{marks_within, walk_within}
use Rattle.march.proofs.Demands.{march_demands}

module _ (file : List ℕ) (ray : Ray) (budget : ℕ) (lent : List ℕ) where
  -- what the call promises of an answer and of the buffer
  abbrev pub MarchPromised : CastAnswer → List ℕ → Type 0
  MarchPromised w l =
      (w ≡ marching_cast file ray budget (length lent))
      × ((l ≡ marched_left file ray budget lent) × MarchDemands (solid_of file) ray exponent budget w l)

  -- the marching search of states
  abbrev march_in : (ℕ → ℕ → ℕ) → Cast
  march_in st = march st (2 ^ exponent) budget

  abbrev marks_of_lem : (ℕ → ℕ → ℕ) → List ℕ
  marks_of_lem st = march_marks st (2 ^ exponent)

  march_promised : (w : CastAnswer) (l : List ℕ) → Made file ray (2 ^ exponent) lent march_in marks_of_lem w l → MarchPromised w l
  unfolding marching_cast marched_left
  march_promised w l (e, f) = (e, (f, rw (e, f) (march_demands file ray lent budget)))

  pub march_refused : {e : Refusal} → check_buffer file ray (2 ^ exponent) (length lent) ≡ Err e → MarchPromised (Err e) lent
  march_refused e = march_promised _ lent (marks_refused file ray (2 ^ exponent) lent march_in marks_of_lem e)

  pub march_made : {st : ℕ → ℕ → ℕ} (w : Cast) (l : List ℕ) {part : Summary}
      → Agree (2 ^ exponent) st (ray_state (solid_of file) ray (2 ^ exponent))
      → check_buffer file ray (2 ^ exponent) (length lent) ≡ Ok part → w ≡ march st (2 ^ exponent) budget
      → l ≡ handed (2 ^ exponent) w (march_marks st (2 ^ exponent)) ++ drop (2 ^ exponent) lent → MarchPromised (Ok w) l
  march_made w l agree e answer bytes =
      march_promised (Ok w) l (marks_made file ray (2 ^ exponent) lent march_in marks_of_lem w l
      (walk_within agree budget 0 first_length 0) (marks_within agree (march_enough (2 ^ exponent)) 0 first_length) e answer bytes)
