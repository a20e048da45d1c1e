-- Full cast, first hit, column and marching cast as one call, and the viewer's first hit beside it; each with the running totals afterwards
-- (document 01, "Calls"; document 02, P5). And the totals after a saved record (document 02, P4).
use Rattle.std.specs.Prelude.{◌≡◌, List, ℕ, length}
use Rattle.field.specs.Solid.{solid_of}
use Rattle.cast.specs.Ticks.{exponent}
use Rattle.cast.specs.Calls.{full_cast, marks_left, first_hit, column_answer, bits_left}
use Rattle.cast.specs.Demands.{CastDemands, HitDemands, ColumnDemands}
use Rattle.march.specs.Calls.{marching_cast, marched_left}
use Rattle.march.specs.Demands.{MarchDemands}
use Rattle.view.specs.declared.ViewAnswer.{ViewAnswer}
use Rattle.view.specs.Call.{viewer_first_hit}
use Rattle.view.specs.Demands.{ViewDemands}
use Rattle.tally.specs.declared.Totals.{Totals}
use Rattle.tally.specs.Counts.{after_tally, cast_tally, hit_tally, column_tally, view_tally, Tally}
use Rattle.tally.specs.Saved.{read_saved, SavedSays, after_saved, Saved}
use Rattle.totals.specs.declared.Call.{Call}
use Rattle.totals.specs.declared.Call.TheVariants as call
use Rattle.totals.specs.declared.Answer.{Answer}
use Rattle.totals.specs.declared.Answer.TheVariants as answer
use Rattle.totals.specs.declared.ViewCall.{ViewCall}

-- ---- full cast, first hit, column and marching cast

-- the answer, with a buffer of so many bytes
unfoldable pub answer_to : List ℕ → Call → ℕ → Answer
answer_to file (call.FullCast ray budget) room = answer.FullCast (full_cast file ray budget room)
answer_to file (call.FirstHit ray budget) room = answer.FirstHit (first_hit file ray budget)
answer_to file (call.Column ray) room = answer.Column (column_answer file ray room)
answer_to file (call.MarchingCast ray budget) room = answer.MarchingCast (marching_cast file ray budget room)

-- the lent buffer afterwards; a first hit has none and leaves it as it was
unfoldable pub bytes_left : List ℕ → Call → List ℕ → List ℕ
bytes_left file (call.FullCast ray budget) lent = marks_left file ray budget lent
bytes_left file (call.FirstHit ray budget) lent = lent
bytes_left file (call.Column ray) lent = bits_left file ray lent
bytes_left file (call.MarchingCast ray budget) lent = marched_left file ray budget lent

-- demands 2 and 3 of the answer, and of the bytes afterwards in a buffer of so many
unfoldable pub Demanded : List ℕ → Call → ℕ → List ℕ → Type 0
Demanded file (call.FullCast ray budget) room after = CastDemands (solid_of file) ray exponent budget (full_cast file ray budget room) after
Demanded file (call.FirstHit ray budget) room after = HitDemands (solid_of file) ray exponent budget (first_hit file ray budget)
Demanded file (call.Column ray) room after = ColumnDemands (solid_of file) ray exponent (column_answer file ray room) after
Demanded file (call.MarchingCast ray budget) room after = MarchDemands (solid_of file) ray exponent budget (marching_cast file ray budget room) after

-- a call that is lent no totals: its answer, and the bytes afterwards in the buffer that was lent
pub record Performed (file : List ℕ) (call : Call) (lent : List ℕ) (r : Answer) (after : List ℕ) : Type 0 where
  pub answer : r ≡ answer_to file call (length lent)
  pub bytes : after ≡ bytes_left file call lent
  pub demands : Demanded file call (length lent) after

-- what an answer adds to the totals; a marching cast changes them "as the full cast does"
unfoldable pub tally_of : Answer → Tally
tally_of (answer.FullCast a) = cast_tally a
tally_of (answer.FirstHit a) = hit_tally a
tally_of (answer.Column a) = column_tally a
tally_of (answer.MarchingCast a) = cast_tally a

-- the totals after the call
unfoldable pub totals_after : List ℕ → Call → ℕ → Totals → Totals
totals_after file call room totals = after_tally totals (tally_of (answer_to file call room))

-- ---- viewer's first hit

-- the answer
unfoldable pub view_to : List ℕ → ViewCall → ViewAnswer
view_to file call = viewer_first_hit file call.ray call.budget

-- a call that is lent no totals: its answer, and what `view` promises of it
pub record Viewed (file : List ℕ) (call : ViewCall) (r : ViewAnswer) : Type 0 where
  pub answer : r ≡ view_to file call
  pub demands : ViewDemands file call.ray exponent call.budget r

-- the totals after it
unfoldable pub totals_after_view : List ℕ → ViewCall → Totals → Totals
totals_after_view file call totals = after_tally totals (view_tally (view_to file call))

-- ---- a saved record

-- its answer, lent no totals, and what that says
pub record Answered (saved : List ℕ) (r : Saved) : Type 0 where
  pub answer : r ≡ read_saved saved
  pub says : SavedSays saved r

-- the totals after it: its own, or, where it is refused, those that there were
unfoldable pub totals_restored : List ℕ → Totals → Totals
totals_restored saved totals = after_saved totals (read_saved saved)
