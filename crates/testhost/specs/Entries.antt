-- Which call it is that the tests hand over.
use Rattle.std.specs.Prelude.{cond, ℕ, eqb}
use Rattle.field.specs.Vectors.{Ray}
use Rattle.view.specs.Ray.{ViewRay}
use Rattle.totals.specs.declared.Call.{Call}
use Rattle.totals.specs.declared.Call.TheVariants as call
use Rattle.totals.specs.declared.ViewCall.{ViewCall}

-- 0 for a full cast, 1 for a first hit, 2 for a column, any other number for a marching cast
unfoldable pub call_of : ℕ → Ray → ℕ → Call
call_of which ray budget =
    cond (eqb which 0) (call.FullCast ray budget)
    (cond (eqb which 1) (call.FirstHit ray budget) (cond (eqb which 2) (call.Column ray) (call.MarchingCast ray budget)))

abbrev pub view_call_of : ViewRay → ℕ → ViewCall
view_call_of ray budget = record { ray = ray; budget = budget }
