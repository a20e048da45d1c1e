-- Document 01's number for each case of an answer, as the slicing host gets it: that of the call's own answer.
use Rattle.std.specs.Prelude.{ℕ, ◌^◌, ◌<◌}
use Rattle.halving.specs.Answers.{cast_number, hit_number}
use Rattle.cast.specs.Column.{column_number}
use Rattle.totals.specs.declared.Answer.{Answer}
use Rattle.totals.specs.declared.Answer.TheVariants as answer

unfoldable pub number_of : Answer → ℕ
number_of (answer.FullCast a) = cast_number a
number_of (answer.FirstHit a) = hit_number a
number_of (answer.Column a) = column_number a
number_of (answer.MarchingCast a) = cast_number a

-- that it fits the slicing host's width
unfoldable pub NumberFits : Answer → Type 0
NumberFits (answer.FullCast a) = cast_number a < 2 ^ 32
NumberFits (answer.FirstHit a) = hit_number a < 2 ^ 64
NumberFits (answer.Column a) = column_number a < 2 ^ 32
NumberFits (answer.MarchingCast a) = cast_number a < 2 ^ 32
