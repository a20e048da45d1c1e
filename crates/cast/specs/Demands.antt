-- What the casting calls promise beside their equations (demands 2 and 3; document 02, P6 and P7), of a solid and a ray. What speaks of marks alone
-- holds for any number T of ticks; what speaks of the halvings, for 2^k.
use Rattle.std.specs.Prelude.{◌≡◌, ◌⊎◌, List, ℕ, ◌+◌, ◌*◌, ◌/◌, ◌%◌, ◌^◌, ◌≤◌, ◌<◌, get_or, pos, Ok, Err}
use Rattle.exact.specs.Fraction.{Fraction, ◌over◌, Proper, ◌≼◌, ◌≺◌, plus}
use Rattle.field.specs.Vectors.{Ray}
use Rattle.field.specs.Ray.{tick, middle, Place}
use Rattle.field.specs.Solid.{Solid}
use Rattle.field.specs.Field.{field_at}
use Rattle.field.specs.Tolerance.{demanded, rounding}
use Rattle.field.specs.Bounds.{empty_mark, not_looked_at, tree_bounds, Encloses}
use Rattle.field.specs.Marks.{mark_of, SoundMark}
use Rattle.record.specs.Questions.{number}
use Rattle.record.specs.declared.Refusal.{Refusal}
use Rattle.record.specs.declared.Refusal.TheVariants as no
use Rattle.halving.specs.declared.Cast.TheVariants as cast
use Rattle.halving.specs.declared.FirstHit.TheVariants as found
use Rattle.halving.specs.Halving.{cast_looked_at}
use Rattle.halving.specs.Answers.{CastAnswer, HitAnswer, cast_reaches, hit_reaches}
use Rattle.cast.specs.Column.{bit_of, column_looked_at, ColumnAnswer}
use Rattle.cast.specs.Ticks.{enough, hit_cost}
use Rattle.cast.specs.Calls.{ray_probes, ray_walk}

-- what a bit says of the field at a place: solid "is where the field is at least the iso-value", to within a tolerance
pub record SoundBit (iso bit : ℕ) (field tolerance : Fraction) : Type 0 where
  pub proper : Proper field × Proper tolerance
  pub solid : bit ≡ 1 → pos iso over 1 ≼ plus field tolerance
  pub empty : bit ≡ 0 → field ≺ plus (pos iso over 1) tolerance

module _ (solid : Solid) (ray : Ray) (T : ℕ) where
  -- Demand 3: "this holds at every place, whole or fractional, of every tick looked at", the first `limit` ones
  unfoldable pub Sound : ℕ → Type 0
  Sound limit =
      (t : ℕ) → t < limit → (x : Place (tick t T))
      → SoundMark solid.iso (mark_of solid ray T t) (field_at solid ray x.n x.m) (demanded solid ray T)

  -- Demand 2: "each looked-at tick being marked the same as if it had been judged alone". The first `limit` bytes are the ticks' marks.
  unfoldable pub Alone : ℕ → List ℕ → Type 0
  Alone limit bytes = (t : ℕ) → t < limit → get_or bytes t not_looked_at ≡ mark_of solid ray T t

  -- the same of a column's bits
  unfoldable pub AloneBits : ℕ → List ℕ → Type 0
  AloneBits limit bytes = (t : ℕ) → t < limit → get_or bytes (t / 8) 0 / 2 ^ (t % 8) % 2 ≡ bit_of solid ray T t

  -- the exact field at the middle of tick t: the bounds there enclose it, and the tick's bit is right of it but for the rounding
  pub record MiddleSays (t : ℕ) : Type 0 where
    pub encloses : Encloses (tree_bounds solid ray (middle t T)) (field_at solid ray (2 * t + 1) (2 * T))
    pub sound : SoundBit solid.iso (bit_of solid ray T t) (field_at solid ray (2 * t + 1) (2 * T)) (rounding solid)

  -- so it is at the middle of every tick looked at, crossing or not
  unfoldable pub Middles : ℕ → Type 0
  Middles limit = (t : ℕ) → t < limit → MiddleSays t

  -- every tick from the first on and before `limit` is empty
  unfoldable pub Empty : ℕ → Type 0
  Empty limit = (t : ℕ) → t < limit → mark_of solid ray T t ≡ empty_mark

  -- "the first tick not empty with its mark, or clear, or spent with the tick reached", each tick judged alone
  unfoldable pub AloneHit : HitAnswer → Type 0
  AloneHit (Err refusal) = Unit {0}
  AloneHit (Ok (found.Hit tick mark probes)) = (tick < T) × (mark_of solid ray T tick ≡ mark) × (1 ≤ mark) × Empty tick
  AloneHit (Ok (found.Clear probes)) = Empty T
  AloneHit (Ok (found.Spent tick probes)) = (tick < T) × Empty tick

  -- tick h is the first that is not empty
  unfoldable pub FirstNotEmpty : ℕ → Type 0
  FirstNotEmpty h = (h < T) × Empty h × (mark_of solid ray T h ≡ empty_mark → ⊥)

  -- the answer, unless it is a refusal, is the hit at tick h, with the tick's mark
  unfoldable pub HitAt : ℕ → HitAnswer → Type 0
  HitAt h (Err refusal) = Unit {0}
  HitAt h (Ok (found.Hit tick mark probes)) = (tick ≡ h) × (mark ≡ mark_of solid ray T h)
  HitAt h (Ok (found.Clear probes)) = ⊥
  HitAt h (Ok (found.Spent tick probes)) = ⊥

-- a refusal: of a first hit 1 to 12, of a call that is lent a buffer 14 too, and never 13
abbrev pub RayRefusal : Refusal → Type 0
RayRefusal refusal = (1 ≤ number refusal) × (number refusal ≤ 12)

abbrev pub BufferRefusal : Refusal → Type 0
BufferRefusal refusal = RayRefusal refusal ⊎ (refusal ≡ no.Buffer)

-- "a full cast is spent exactly when the probe count of the whole ray is more than its budget; the probes it reports are the smaller of the two", and
-- there is a budget that "is always enough": for a ray of T ticks that takes `count` probes, of at most `most`. Spent, a cast leaves ticks not looked
-- at.
unfoldable pub Counted : (T count most budget : ℕ) → CastAnswer → Type 0
Counted T count most budget (Err refusal) = BufferRefusal refusal
Counted T count most budget (Ok (cast.Complete probes)) = (probes ≡ count) × (count ≤ budget) × (count ≤ most)
Counted T count most budget (Ok (cast.Spent tick probes)) = (tick < T) × (probes ≡ budget) × (budget < count) × (count ≤ most)

-- demands 2 and 3 of a cast that hands over T ticks' marks: of its answer, and of the bytes afterwards in the buffer that was lent
pub record MarkDemands (solid : Solid) (ray : Ray) (T count most budget : ℕ) (answer : CastAnswer) (after : List ℕ) : Type 0 where
  pub alone : Alone solid ray T (cast_reaches T answer) after
  pub counted : Counted T count most budget answer
  pub sound : Sound solid ray T (cast_reaches T answer)

-- P7: "a first hit found at tick h costs at most" `hit_cost`, of 2^k ticks; and a search is spent only at a tick whose cost is more than its budget
unfoldable pub PromptHit : (k budget : ℕ) → HitAnswer → Type 0
PromptHit k budget (Err refusal) = Unit {0}
PromptHit k budget (Ok (found.Hit tick mark probes)) = probes ≤ hit_cost k tick
PromptHit k budget (Ok (found.Clear probes)) = Unit {0}
PromptHit k budget (Ok (found.Spent tick probes)) = budget < hit_cost k tick

module _ (solid : Solid) (ray : Ray) (k : ℕ) where
  -- a first hit, "always the probes": a clear ray's are the full cast's, a hit's are no more, and a spent search has made its whole budget, which is
  -- less than the full cast's
  unfoldable pub CountedHit : ℕ → HitAnswer → Type 0
  CountedHit budget (Err refusal) = RayRefusal refusal
  CountedHit budget (Ok (found.Hit tick mark probes)) =
      (probes ≤ budget) × (probes ≤ ray_probes solid ray k) × (ray_probes solid ray k ≤ enough (2 ^ k))
  CountedHit budget (Ok (found.Clear probes)) =
      (probes ≡ ray_probes solid ray k) × (ray_probes solid ray k ≤ budget) × (ray_probes solid ray k ≤ enough (2 ^ k))
  CountedHit budget (Ok (found.Spent tick probes)) =
      (probes ≡ budget) × (budget < ray_probes solid ray k) × (ray_probes solid ray k ≤ enough (2 ^ k))

  -- "It probes in the same order and stops as soon as that tick is known": a hit's probes are the least budget with which the full cast looks at its
  -- tick, and a first hit that is clear or spent is a full cast that is complete, or spent at the same tick, with the same probes
  unfoldable pub SameOrder : ℕ → HitAnswer → Type 0
  SameOrder budget (Err refusal) = Unit {0}
  SameOrder budget (Ok (found.Hit tick mark probes)) =
      (b : ℕ)
      → (probes ≤ b → tick < cast_looked_at (2 ^ k) (ray_walk solid ray k b)) × (b < probes → cast_looked_at (2 ^ k) (ray_walk solid ray k b) ≤ tick)
  SameOrder budget (Ok (found.Clear probes)) = ray_walk solid ray k budget ≡ cast.Complete probes
  SameOrder budget (Ok (found.Spent tick probes)) = ray_walk solid ray k budget ≡ cast.Spent tick probes

  -- P7: "with a budget of that size or more such a hit is never answered as spent"
  unfoldable pub FoundHit : ℕ → HitAnswer → Type 0
  FoundHit budget answer = (h : ℕ) → FirstNotEmpty solid ray (2 ^ k) h → hit_cost k h ≤ budget → HitAt solid ray (2 ^ k) h answer

  -- a column: "the probes, which are the full cast's"
  unfoldable pub CountedColumn : ColumnAnswer → Type 0
  CountedColumn (Err refusal) = BufferRefusal refusal
  CountedColumn (Ok probes) = (probes ≡ ray_probes solid ray k) × (ray_probes solid ray k ≤ enough (2 ^ k))

  -- ---- demands 2 and 3 of a call's answer, and of the bytes afterwards in the buffer that was lent

  -- a full cast: the count is that of the halvings
  abbrev pub CastDemands : ℕ → CastAnswer → List ℕ → Type 0
  CastDemands budget answer after = MarkDemands solid ray (2 ^ k) (ray_probes solid ray k) (enough (2 ^ k)) budget answer after

  pub record HitDemands (budget : ℕ) (answer : HitAnswer) : Type 0 where
    pub alone : AloneHit solid ray (2 ^ k) answer
    pub counted : CountedHit budget answer
    pub order : SameOrder budget answer
    pub prompt : PromptHit k budget answer
    pub in_time : FoundHit budget answer
    pub sound : Sound solid ray (2 ^ k) (hit_reaches (2 ^ k) answer)

  pub record ColumnDemands (answer : ColumnAnswer) (after : List ℕ) : Type 0 where
    pub alone : AloneBits solid ray (2 ^ k) (column_looked_at (2 ^ k) answer) after
    pub counted : CountedColumn answer
    pub sound : Sound solid ray (2 ^ k) (column_looked_at (2 ^ k) answer)
    pub middles : Middles solid ray (2 ^ k) (column_looked_at (2 ^ k) answer)
