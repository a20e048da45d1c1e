-- A host's place and ray as they are read (`hosts_place`, `hosts_ray`). The numbers that it gets fit, by what the calls promise: a refusal is at
-- most 18, and of 2^k ticks, k at most 12, a call has at most 2^(k+1) − 1 probes and a tick is below 2^k; a part has at most 511 nodes. The three
-- numbers that it lends are a record of totals (`lent_counts`, `lent_restores`).
use Rattle.std.specs.Prelude.{Ok, Err}
use mathlib.Core.Path.{◌≡◌, refl, sym, ap, subst, ◌∙◌}
use mathlib.Core.Logic.{inl, inr}
use mathlib.Core.List.{List, [], ◌∷◌}
use Prim.Native.Nat.{ℕ, ◌^◌, ◌≤◌, ◌<◌}
use native.Mathlib.Omega.{arith}
use lib.IntN.{ℤ}
use mir.Syntax.{w32}
use mir.Val.{SFits}
use mir.Facts.{to_z-of_z}
use Rattle.exact.proofs.Machine.{back}
use Rattle.part.specs.File.{file_questions, Says, Checked}
use Rattle.part.proofs.Trailer.{accepted_trailer, count_high}
use Rattle.part.proofs.File.{file_numbered}
use Rattle.record.specs.Questions.{number}
use Rattle.record.proofs.Questions.{numbered_append, no_numbered}
use Rattle.record.specs.declared.Refusal.{Refusal}
use Rattle.record.specs.declared.Refusal.TheVariants as no
use Rattle.writer.specs.Writer.{WriteRefusal, WriteSays, Written}
use Rattle.loading.specs.Loading.{position_in_range}
use Rattle.bounds.specs.Place.{place_questions, PlaceSays, BoundsAnswer}
use Rattle.field.specs.Vectors.{Position}
use Rattle.field.specs.Vectors.{Ray}
use Rattle.field.specs.Solid.{Solid, solid_of}
use Rattle.halving.specs.Answers.{CastAnswer}
use Rattle.halving.specs.declared.Cast.TheVariants as cast
use Rattle.halving.specs.Answers.{HitAnswer}
use Rattle.halving.specs.declared.FirstHit.TheVariants as found
use Rattle.halving.specs.Answers.{cast_number, hit_number}
use Rattle.cast.specs.Column.{column_number, ColumnAnswer}
use Rattle.cast.specs.Demands.{BufferRefusal, AloneHit, Counted, CountedHit, CountedColumn}
use Rattle.cast.proofs.Ticks.{mark_few}
use Rattle.view.specs.Ray.{ViewRay}
use Rattle.view.specs.Ray.{steps_ray}
use Rattle.view.specs.Call.{view_of, viewer_ticks}
use Rattle.view.specs.Demands.{in_ticks, CountedView, ViewDemands}
use Rattle.tally.specs.Counts.{after_tally, Tally}
use Rattle.tally.specs.Saved.{SavedSays, after_saved, Saved}
use Rattle.numbers.specs.Numbers.{place_at, ray_of, Told, check_number, bounds_number, write_number}
use Rattle.tally.specs.Lent.{totals_in}
use Rattle.numbers.specs.Numbers.{lent_after, saved_number, saved_left}

-- the place of the host's three numbers, as they are read
pub hosts_place : (x y z : ℤ) {p : Position} → SFits w32 x → SFits w32 y → SFits w32 z → p ≡ place_at (back w32 x) (back w32 y) (back w32 z)
    → p ≡ place_at x y z
hosts_place x y z f g h e = e ∙ simp (to_z-of_z f, to_z-of_z g, to_z-of_z h)

-- the ray of the host's six numbers, as they are read
pub hosts_ray : (ax ay az bx by bz : ℤ) {ray : Ray}
    → SFits w32 ax → SFits w32 ay → SFits w32 az → SFits w32 bx → SFits w32 by → SFits w32 bz
    → ray ≡ ray_of (back w32 ax) (back w32 ay) (back w32 az) (back w32 bx) (back w32 by) (back w32 bz) → ray ≡ ray_of ax ay az bx by bz
hosts_ray ax ay az bx by bz f g h i j k e =
    e ∙ simp (to_z-of_z f, to_z-of_z g, to_z-of_z h, to_z-of_z i, to_z-of_z j, to_z-of_z k)

-- the number of a refusal by a buffer's questions
refusal_few : {e : Refusal} → BufferRefusal e → number e ≤ 14
refusal_few (inl (low, high)) = omega arith
refusal_few (inr is) = omega (arith, ap number is)

-- a cast that hands over marks, with at most `most` probes
pub cast_number_fits : (T count : ℕ) {most : ℕ} (budget : ℕ) → most < 2 ^ 16 → (w : CastAnswer) → Counted T count most budget w
    → cast_number w < 2 ^ 32
unfolding cast_number Counted
cast_number_fits T count budget few (Err n) refusal = omega (arith, refusal_few refusal)
cast_number_fits T count budget few (Ok (cast.Complete p)) (is, in-budget, at_most) = omega (arith, few)
cast_number_fits T count budget few (Ok (cast.Spent t p)) (before, all, more, at_most) = omega (arith, few)

module _ (solid : Solid) (ray : Ray) (k : ℕ) (few : 2 ^ k ≤ 4096) where
  pub hit_number_fits : (budget : ℕ) (f : HitAnswer) → AloneHit solid ray (2 ^ k) f → CountedHit solid ray k budget f → hit_number f < 2 ^ 64
  unfolding hit_number AloneHit CountedHit
  hit_number_fits budget (Err n) alone (low, high) = omega arith
  hit_number_fits budget (Ok (found.Hit t s p)) (before, is, some, empty) (in-budget, count, most) =
      omega (arith, few, is, mark_few solid ray (2 ^ k) t)
  hit_number_fits budget (Ok (found.Clear p)) alone (is, in-budget, most) = omega (arith, few)
  hit_number_fits budget (Ok (found.Spent t p)) (before, empty) (all, more, most) = omega (arith, few)

  pub column_number_fits : (w : ColumnAnswer) → CountedColumn solid ray k w → column_number w < 2 ^ 32
  unfolding column_number CountedColumn
  column_number_fits (Err n) refusal = omega (arith, refusal_few refusal)
  column_number_fits (Ok p) (is, most) = omega (arith, few)

-- ---- the check of a file and the bounds at a place

module _ (file : List ℕ) where
  pub check_number_fits : (a : Checked) → Says file a → check_number a < 2 ^ 64
  unfolding check_number Says
  check_number_fits (Err n) e = omega (arith, (no_numbered 1 11 (file_questions file) (file_numbered 11 (omega arith) file) e).1)
  check_number_fits (Ok s) (ok, nodes, iso, version) =
      let t = accepted_trailer file ok in omega (arith, nodes, iso, version, count_high t, t.iso_high, t.version_high)

  pub check_told : (a : Checked) → Says file a → Told 11 (check_number a)
  unfolding check_number Says
  check_told (Err n) e = inl (no_numbered 1 11 (file_questions file) (file_numbered 11 (omega arith) file) e)
  check_told (Ok s) (ok, nodes, iso, version) = inr (omega (arith, version, (accepted_trailer file ok).version_low))

  pub bounds_told : (p : Position) (a : BoundsAnswer) → PlaceSays file p a → Told 12 (bounds_number a)
  unfolding bounds_number PlaceSays place_questions
  bounds_told p (Err n) e =
      inl (no_numbered 1 12 (place_questions file p)
      (numbered_append 1 12 (file_questions file) ((no.Coordinates, position_in_range p) ∷ []) (file_numbered 12 (omega arith) file)
      (omega arith, omega arith, tt)) e)
  bounds_told p (Ok b) says = inr (omega arith)

  -- ---- the viewer's first hit

  module _ (ray : ViewRay) (k : ℕ) (few : 2 ^ k ≤ 4096) (budget : ℕ) where
    pub view_number_fits : (a : HitAnswer) → a ≡ viewer_ticks k file ray budget → ViewDemands file ray k budget (view_of (2 ^ k) a)
        → hit_number a < 2 ^ 64
    unfolding view_of in_ticks CountedView CountedHit hit_number
    view_number_fits a e d = go a (subst (AloneHit (solid_of file) (steps_ray ray) (2 ^ k)) (d.ticks ∙ sym e) d.alone) d.counted
      where
        go : (a : HitAnswer) → AloneHit (solid_of file) (steps_ray ray) (2 ^ k) a → CountedView file ray k budget (view_of (2 ^ k) a)
            → hit_number a < 2 ^ 64
        go (Err n) alone c = elim c [ inl c ↦ omega (arith, c.1) | inr c ↦ omega (arith, ap number c) ]
        go (Ok (found.Hit t s p)) alone c = hit_number_fits (solid_of file) (steps_ray ray) k few budget (Ok (found.Hit t s p)) alone c
        go (Ok (found.Clear p)) alone c = hit_number_fits (solid_of file) (steps_ray ray) k few budget (Ok (found.Clear p)) alone c
        go (Ok (found.Spent t p)) alone c = hit_number_fits (solid_of file) (steps_ray ray) k few budget (Ok (found.Spent t p)) alone c

-- ---- a write

few : {e : Refusal} → WriteRefusal e → (1 ≤ number e) × (number e ≤ 17)
few (inl is) = (omega (arith, ap number is), omega (arith, ap number is))
few (inr (inl (low, high))) = (omega (arith, low), omega (arith, high))
few (inr (inr (inl is))) = (omega (arith, ap number is), omega (arith, ap number is))
few (inr (inr (inr is))) = (omega (arith, ap number is), omega (arith, ap number is))

module _ (l : List ℤ) (iso version : ℕ) (before : List ℕ) (place : ℕ) (after : List ℕ) where
  pub write_number_fits : (a : Written) → WriteSays l iso version before place a after → write_number a < 2 ^ 32
  unfolding write_number WriteSays
  write_number_fits (Err n) (e, refusal, same) = omega (arith, (few refusal).1)
  write_number_fits (Ok e) part = omega (arith, part.short)

  pub write_told : (a : Written) → WriteSays l iso version before place a after → Told 17 (write_number a)
  unfolding write_number WriteSays
  write_told (Err n) (e, refusal, same) = inl (few refusal)
  write_told (Ok e) part = inr (omega arith)

-- ---- a saved record

pub saved_told : (bytes : List ℕ) (a : Saved) → SavedSays bytes a → Told 18 (saved_number a)
unfolding saved_number SavedSays
saved_told bytes (Err n) (other, is) = inl (omega (arith, ap number is), omega (arith, ap number is))
saved_told bytes (Ok t) says = inr (omega arith)

-- ---- the three numbers that a host lends are a record of totals: they follow every call and every saved record as it does

pub lent_counts : (tally : Tally) (lent : List ℕ) → totals_in (lent_after tally lent) ≡ after_tally (totals_in lent) tally
unfolding totals_in lent_after
lent_counts tally lent = refl

pub lent_restores : (a : Saved) (lent : List ℕ) → totals_in (saved_left a lent) ≡ after_saved (totals_in lent) a
unfolding totals_in saved_left after_saved
lent_restores (Err n) lent = refl
lent_restores (Ok t) lent = refl
