-- What the theorems ask of a kernel, of whatever degree. Both have it (`quartic_lawful`, `sextic_lawful`).
use Rattle.std.specs.Prelude.{◌≡◌, ℕ, ◌+◌, ◌*◌, ◌-◌, ◌^◌, ◌≤◌, pos, ◌≤ℤ◌}
use Rattle.exact.specs.Fraction.{◌over◌, Proper, ◌≼◌, plus}
use Rattle.field.specs.Kernel.{fixed_one, Kernel}

pub record Lawful (k : Kernel) : Type 0 where
  -- the two sizes are 2³² × (q/65536)^power, rounded down and up
  pub down : (q : ℕ) → k.low q * 65536 ^ k.power ≤ q ^ k.power * fixed_one
  pub up : (q : ℕ) → q ^ k.power * fixed_one ≤ k.high q * 65536 ^ k.power
  -- and at most 2³² where q is at most 65536
  pub small : {q : ℕ} → q ≤ 65536 → (k.low q ≤ 2 ^ 32) × (k.high q ≤ 2 ^ 32)
  -- both are 0 where q is
  pub none : (k.low 0 ≡ 0) × (k.high 0 ≡ 0)
  -- more q, no smaller a size
  pub low_rises : {q q' : ℕ} → q ≤ q' → k.low q ≤ k.low q'
  pub high_rises : {q q' : ℕ} → q ≤ q' → k.high q ≤ k.high q'
  -- q as close as those of one tick (`tick_width`; t is T r) give sizes within the tolerance
  pub slack_proper : Proper k.slack
  pub slack_nn : pos 0 ≤ℤ k.slack.num
  pub narrow : (qlo qhi S t : ℕ) → qlo ≤ 65536 → qhi ≤ 65536 → (qhi - qlo) * t ≤ 131072 * S + 2 * t
      → pos (k.high qhi - k.low qlo) over fixed_one ≼ plus (pos (k.slope * S) over t) k.slack
