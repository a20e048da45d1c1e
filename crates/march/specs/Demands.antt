-- What a marching cast promises beside its equations, of a solid and a ray of 2^k ticks.
use Rattle.std.specs.Prelude.{ℕ, ◌^◌, ◌≡◌, List, take, Ok, Err}
use Rattle.field.specs.Vectors.{Ray}
use Rattle.field.specs.Solid.{Solid}
use Rattle.halving.specs.declared.Cast.TheVariants as cast
use Rattle.halving.specs.Answers.{CastAnswer}
use Rattle.cast.specs.Calls.{ray_marks}
use Rattle.cast.specs.Demands.{MarkDemands}
use Rattle.march.specs.Marching.{march_enough}
use Rattle.march.specs.Calls.{march_probes}

module _ (solid : Solid) (ray : Ray) (k : ℕ) where
  -- "Where neither is spent, its marks equal the halving full cast's": unspent, its marks are those of an unspent full cast
  unfoldable pub Alike : CastAnswer → List ℕ → Type 0
  Alike (Err refusal) after = Unit {0}
  Alike (Ok (cast.Complete probes)) after = take (2 ^ k) after ≡ ray_marks solid ray k
  Alike (Ok (cast.Spent tick probes)) after = Unit {0}

  -- demands 2 and 3 as of a full cast, with the count of this rule, and that
  pub record MarchDemands (budget : ℕ) (answer : CastAnswer) (after : List ℕ) : Type 0 where
    pub marks : MarkDemands solid ray (2 ^ k) (march_probes solid ray k) (march_enough (2 ^ k)) budget answer after
    pub alike : Alike answer after
