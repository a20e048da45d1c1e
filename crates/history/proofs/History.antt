-- What a history makes of running totals: each total is what there was and what was added, up to the ceiling (`history_adds`). The probes added are
-- at most 2,047 times the casts added if no marching cast has changed the totals (`figure`), and at most 2,052 times in every history
-- (`marching_figure`). So it is with a record that was zeroed (`probes_few`, `marching_probes_few`), and with three numbers that a host in C set to 0
-- (`host_probes_few`, `host_marching_probes_few`).
use Rattle.std.specs.Prelude.{Ok, Err, Some, None}
use mathlib.Core.Path.{◌≡◌, refl, ap, ◌∙◌}
use mathlib.Core.List.{List, [], ◌∷◌}
use Prim.Native.Nat.{ℕ, ◌+◌, ◌*◌, ◌^◌, ◌≤◌, ◌<◌}
use native.Mathlib.Omega.{arith}
use lib.ListN.{length}
use Rattle.field.specs.Vectors.{Ray}
use Rattle.field.specs.Solid.{Solid, solid_of}
use Rattle.halving.specs.Answers.{CastAnswer}
use Rattle.halving.specs.declared.Cast.TheVariants as cast
use Rattle.halving.specs.Answers.{HitAnswer}
use Rattle.halving.specs.declared.FirstHit.TheVariants as found
use Rattle.cast.specs.Ticks.{exponent, enough}
use Rattle.cast.specs.Demands.{Counted, CountedHit, CountedColumn}
use Rattle.cast.proofs.Demands.{cast_demands, hit_demands, column_demands}
use Rattle.march.specs.Marching.{march_enough}
use Rattle.march.proofs.Demands.{march_demands}
use Rattle.view.specs.Ray.{ViewRay}
use Rattle.view.specs.declared.ViewAnswer.{ViewAnswer}
use Rattle.view.specs.declared.ViewAnswer.TheVariants as view
use Rattle.view.specs.Ray.{steps_ray}
use Rattle.view.specs.Demands.{in_ticks, CountedView}
use Rattle.view.proofs.Call.{view_promised}
use Rattle.tally.specs.declared.Totals.{Totals}
use Rattle.tally.specs.Counts.{ceiling, capped, cast_tally, hit_tally, column_tally, view_tally, Tally}
use Rattle.tally.specs.Counts.{Total, casts_total, probes_total, refusals_total, total, adds}
use Rattle.tally.specs.Saved.{after_saved}
use Rattle.tally.proofs.Counts.{tally_adds}
use Rattle.totals.specs.declared.Call.{Call}
use Rattle.totals.specs.declared.Call.TheVariants as call
use Rattle.totals.specs.declared.ViewCall.{ViewCall}
use Rattle.totals.specs.Calls.{answer_to, tally_of, totals_after, view_to, totals_after_view, totals_restored}
use Rattle.tally.specs.Lent.{totals_in, totals_out}
use Rattle.numbers.proofs.Numbers.{lent_counts, lent_restores}
use Rattle.history.specs.History.{Event, performed, viewed, restored, after_all, after_event, after_history, zeroed}
use Rattle.history.specs.History.{lent_after_event, lent_after_history, adds_to, added, Every, Unread, NoneRead, Unmarched, NoneMarched}
use Rattle.cast.specs.Column.{ColumnAnswer}

-- ---- each total is what was added

-- after an event that is no saved record read
event_adds : (i : Total) (t : Totals) (e : Event) → Unread e → total i t ≤ ceiling → total i (after_event t e) ≡ capped (total i t + adds_to i e)
unfolding after_event adds_to totals_after totals_after_view totals_restored Unread after_saved capped
event_adds i t (performed file call buffer) u h = tally_adds i t _ h
event_adds i t (viewed file call) u h = tally_adds i t _ h
event_adds i t (restored saved) u h = rw u (omega arith)

-- from any record on: what there was and what was added, up to the ceiling
pub history_adds : (i : Total) (t : Totals) (h : List Event) → NoneRead h → total i t ≤ ceiling
    → total i (after_history t h) ≡ capped (total i t + added i h)
unfolding after_all added Every capped
history_adds i t [] none below = omega arith
history_adds i t (e ∷ later) (u, none) below =
    let now = event_adds i t e u below in
    history_adds i (after_event t e) later none (omega (arith, now)) ∙ omega (arith, now)

-- ---- the probes of a call

-- a tally's probes are at most so many for each cast that it adds
abbrev Few : ℕ → Tally → Type 0
Few most tally = adds probes_total tally ≤ most * adds casts_total tally

few_more : {less most : ℕ} → less ≤ most → (tally : Tally) → Few less tally → Few most tally
unfolding adds
few_more h (Some p) few = omega arith
few_more h None few = omega arith

-- a cast that hands over marks
cast_few : (T count most budget : ℕ) (a : CastAnswer) → Counted T count most budget a → Few most (cast_tally a)
unfolding adds cast_tally Counted
cast_few T count most budget (Err n) c = omega arith
cast_few T count most budget (Ok (cast.Complete p)) (is, in-budget, at_most) = omega (arith, is)
cast_few T count most budget (Ok (cast.Spent t p)) (before, all, more, at_most) = omega (arith, all)

module _ (solid : Solid) (ray : Ray) (k : ℕ) where
  hit_few : (budget : ℕ) (a : HitAnswer) → CountedHit solid ray k budget a → Few (enough (2 ^ k)) (hit_tally a)
  unfolding adds hit_tally CountedHit
  hit_few budget (Err n) c = omega arith
  hit_few budget (Ok (found.Hit t s p)) (in-budget, count, most) = omega arith
  hit_few budget (Ok (found.Clear p)) (is, in-budget, most) = omega (arith, is)
  hit_few budget (Ok (found.Spent t p)) (all, more, most) = omega (arith, all)

  column_few : (a : ColumnAnswer) → CountedColumn solid ray k a → Few (enough (2 ^ k)) (column_tally a)
  unfolding adds column_tally CountedColumn
  column_few (Err n) c = omega arith
  column_few (Ok p) (is, most) = omega (arith, is)

view_few : (file : List ℕ) (ray : ViewRay) (k budget : ℕ) (a : ViewAnswer) → CountedView file ray k budget a
    → Few (enough (2 ^ k)) (view_tally a)
unfolding adds view_tally hit_tally CountedView in_ticks
view_few file ray k budget (view.Refused n) c = omega arith
view_few file ray k budget (view.Hit entry mark p) c = hit_few (solid_of file) (steps_ray ray) k budget _ c
view_few file ray k budget (view.Clear p) c = hit_few (solid_of file) (steps_ray ray) k budget _ c
view_few file ray k budget (view.Spent place p) c = hit_few (solid_of file) (steps_ray ray) k budget _ c

-- at most 2 T − 1 by halving, 2 T + 4 by marching
abbrev most_of : Call → ℕ
most_of (call.FullCast ray budget) = enough (2 ^ exponent)
most_of (call.FirstHit ray budget) = enough (2 ^ exponent)
most_of (call.Column ray) = enough (2 ^ exponent)
most_of (call.MarchingCast ray budget) = march_enough (2 ^ exponent)

call_few : (file : List ℕ) (c : Call) (lent : List ℕ) → Few (most_of c) (tally_of (answer_to file c (length lent)))
unfolding answer_to tally_of
call_few file (call.FullCast ray budget) lent = cast_few _ _ _ budget _ (cast_demands file ray budget lent).counted
call_few file (call.FirstHit ray budget) lent = hit_few (solid_of file) ray exponent budget _ (hit_demands file ray budget).counted
call_few file (call.Column ray) lent = column_few (solid_of file) ray exponent _ (column_demands file ray lent).counted
call_few file (call.MarchingCast ray budget) lent = cast_few _ _ _ budget _ (march_demands file ray lent budget).marks.counted

most_of_lem : (c : Call) → most_of c ≤ 2052
most_of_lem (call.FullCast ray budget) = omega arith
most_of_lem (call.FirstHit ray budget) = omega arith
most_of_lem (call.Column ray) = omega arith
most_of_lem (call.MarchingCast ray budget) = omega arith

-- ---- the figure

-- an event's probes are at most so many for each cast that it adds
abbrev FewIn : ℕ → Event → Type 0
FewIn most e = adds_to probes_total e ≤ most * adds_to casts_total e

seen_few : (file : List ℕ) (c : ViewCall) → Few (enough (2 ^ exponent)) (view_tally (view_to file c))
unfolding view_to
seen_few file c = view_few file c.ray exponent c.budget _ (view_promised file c.ray c.budget refl).1.counted

event_few : (e : Event) → Unmarched e → FewIn 2047 e
unfolding adds_to adds answer_to tally_of Unmarched
event_few (performed file (call.FullCast ray budget) buffer) u = call_few file (call.FullCast ray budget) buffer
event_few (performed file (call.FirstHit ray budget) buffer) u = call_few file (call.FirstHit ray budget) buffer
event_few (performed file (call.Column ray) buffer) u = call_few file (call.Column ray) buffer
event_few (performed file (call.MarchingCast ray budget) buffer) u = rw u (omega arith)
event_few (viewed file c) u = seen_few file c
event_few (restored saved) u = omega arith

marching_event_few : (e : Event) → FewIn 2052 e
unfolding adds_to
marching_event_few (performed file c buffer) = few_more (most_of_lem c) _ (call_few file c buffer)
marching_event_few (viewed file c) = few_more (omega arith) _ (seen_few file c)
marching_event_few (restored saved) = omega arith

-- "the probes added […] are at most 2,047 times the casts added", of totals "that no marching cast has changed"
pub figure : (h : List Event) → NoneMarched h → added probes_total h ≤ 2047 * added casts_total h
unfolding added Every
figure [] none = omega arith
figure (e ∷ later) (u, none) = omega (arith, event_few e u, figure later none)

-- and at most 2,052 times, whatever was cast
pub marching_figure : (h : List Event) → added probes_total h ≤ 2052 * added casts_total h
unfolding added
marching_figure [] = omega arith
marching_figure (e ∷ later) = omega (arith, marching_event_few e, marching_figure later)

-- ---- a record that was zeroed, with no saved record read since

zero_is : (i : Total) → total i zeroed ≡ 0
unfolding total
zero_is casts_total = refl
zero_is probes_total = refl
zero_is refusals_total = refl

module _ (h : List Event) (none : NoneRead h) where
  -- each total is what was added, up to the ceiling
  zeroed-adds : (i : Total) → total i (after_history zeroed h) ≡ capped (added i h)
  unfolding capped
  zeroed-adds i = history_adds i zeroed h none (omega (arith, zero_is i)) ∙ omega (arith, zero_is i)

  -- "While no total has reached its ceiling": it is exactly what was added
  pub exactly-added : (i : Total) → total i (after_history zeroed h) < ceiling → total i (after_history zeroed h) ≡ added i h
  unfolding capped
  exactly-added i below = omega (arith, zeroed-adds i)

  -- the figures of the record itself, which hold at the ceilings too
  pub probes_few : NoneMarched h → (after_history zeroed h).probes ≤ 2047 * (after_history zeroed h).casts
  unfolding capped total
  probes_few unmarched = omega (arith, zeroed-adds probes_total, zeroed-adds casts_total, figure h unmarched)

  pub marching_probes_few : (after_history zeroed h).probes ≤ 2052 * (after_history zeroed h).casts
  unfolding capped total
  marching_probes_few = omega (arith, zeroed-adds probes_total, zeroed-adds casts_total, marching_figure h)

-- ---- the three numbers that a host in C lends: they are the record's, event by event, so all this holds of them

host_event : (lent : List ℕ) (e : Event) → totals_in (lent_after_event lent e) ≡ after_event (totals_in lent) e
unfolding lent_after_event after_event totals_after totals_after_view totals_restored
host_event lent (performed file call buffer) = lent_counts _ lent
host_event lent (viewed file call) = lent_counts _ lent
host_event lent (restored saved) = lent_restores _ lent

pub host_history : (lent : List ℕ) (h : List Event) → totals_in (lent_after_history lent h) ≡ after_history (totals_in lent) h
unfolding after_all
host_history lent [] = refl
host_history lent (e ∷ later) = host_history (lent_after_event lent e) later ∙ ap (λ (t : Totals). after_history t later) (host_event lent e)

-- the figures, from three zeros on
zeros_in : totals_in (totals_out zeroed) ≡ zeroed
unfolding totals_in
zeros_in = refl

pub host_probes_few : (h : List Event) → NoneRead h → NoneMarched h
    → let t = totals_in (lent_after_history (totals_out zeroed) h) in t.probes ≤ 2047 * t.casts
host_probes_few h none unmarched = rw (host_history (totals_out zeroed) h, zeros_in) (probes_few h none unmarched)

pub host_marching_probes_few : (h : List Event) → NoneRead h
    → let t = totals_in (lent_after_history (totals_out zeroed) h) in t.probes ≤ 2052 * t.casts
host_marching_probes_few h none = rw (host_history (totals_out zeroed) h, zeros_in) (marching_probes_few h none)
