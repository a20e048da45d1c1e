-- Histories of running totals (document 02, P4 and P5): what is done to them, one after the other, and what that adds.
use Rattle.std.specs.Prelude.{◌≡◌, List, [], ◌∷◌, ℕ, ◌+◌, length, Err, None}
use Rattle.march.specs.Calls.{marching_cast}
use Rattle.tally.specs.declared.Totals.{Totals}
use Rattle.tally.specs.Counts.{cast_tally, view_tally, Total, adds}
use Rattle.tally.specs.Saved.{read_saved}
use Rattle.totals.specs.declared.Call.{Call}
use Rattle.totals.specs.declared.Call.TheVariants as call
use Rattle.totals.specs.declared.ViewCall.{ViewCall}
use Rattle.totals.specs.Calls.{answer_to, tally_of, totals_after, view_to, totals_after_view, totals_restored}
use Rattle.numbers.specs.Numbers.{lent_after, saved_left}
use Rattle.record.specs.declared.Refusal.TheVariants as no

-- one thing done: a full cast, first hit, column or marching cast on a file, with the buffer that was lent; a viewer's first hit on a file; a saved
-- record handed over to be read
pub data Event : Type 0 where
  performed : (file : List ℕ) → Call → (buffer : List ℕ) → Event
  viewed : (file : List ℕ) → ViewCall → Event
  restored : (saved : List ℕ) → Event

-- what a history makes of something, event by event, the earliest first
unfoldable pub after_all : {A : Type 0} → (A → Event → A) → A → List Event → A
after_all after a [] = a
after_all after a (e ∷ later) = after_all after (after a e) later

-- ---- the record

-- after an event
unfoldable pub after_event : Totals → Event → Totals
after_event t (performed file call buffer) = totals_after file call (length buffer) t
after_event t (viewed file call) = totals_after_view file call t
after_event t (restored saved) = totals_restored saved t

-- after a history
abbrev pub after_history : Totals → List Event → Totals
after_history t h = after_all after_event t h

-- "a zeroed record"
abbrev pub zeroed : Totals
zeroed = record { casts = 0; probes = 0; refusals = 0 }

-- ---- the three numbers that a host in C lends

-- after an event, as the counted calls' contracts and the restore's have it
unfoldable pub lent_after_event : List ℕ → Event → List ℕ
lent_after_event lent (performed file call buffer) = lent_after (tally_of (answer_to file call (length buffer))) lent
lent_after_event lent (viewed file call) = lent_after (view_tally (view_to file call)) lent
lent_after_event lent (restored saved) = saved_left (read_saved saved) lent

-- after a history
abbrev pub lent_after_history : List ℕ → List Event → List ℕ
lent_after_history lent h = after_all lent_after_event lent h

-- ---- what is added

-- to a total by an event, whatever the ceiling; a saved record adds nothing
unfoldable pub adds_to : Total → Event → ℕ
adds_to i (performed file call buffer) = adds i (tally_of (answer_to file call (length buffer)))
adds_to i (viewed file call) = adds i (view_tally (view_to file call))
adds_to i (restored saved) = 0

-- "the probes added", "the casts added"
unfoldable pub added : Total → List Event → ℕ
added i [] = 0
added i (e ∷ later) = adds_to i e + added i later

-- every event of a history is such
unfoldable pub Every : (Event → Type 0) → List Event → Type 0
Every Such [] = Unit {0}
Every Such (e ∷ later) = Such e × Every Such later

-- "with no saved record read since": any that was handed over was refused
unfoldable pub Unread : Event → Type 0
Unread (performed file call buffer) = Unit {0}
Unread (viewed file call) = Unit {0}
Unread (restored saved) = read_saved saved ≡ Err no.SavedLength

abbrev pub NoneRead : List Event → Type 0
NoneRead h = Every Unread h

-- "records that no marching cast has changed": every marching cast was refused, which adds to the refusals alone
unfoldable pub Unmarched : Event → Type 0
Unmarched (performed file (call.FullCast ray budget) buffer) = Unit {0}
Unmarched (performed file (call.FirstHit ray budget) buffer) = Unit {0}
Unmarched (performed file (call.Column ray) buffer) = Unit {0}
Unmarched (performed file (call.MarchingCast ray budget) buffer) = cast_tally (marching_cast file ray budget (length buffer)) ≡ None
Unmarched (viewed file call) = Unit {0}
Unmarched (restored saved) = Unit {0}

abbrev pub NoneMarched : List Event → Type 0
NoneMarched h = Every Unmarched h
