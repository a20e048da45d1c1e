-- Document 01's number and values for each case of the viewer's answer.
use Rattle.std.specs.Prelude.{ℕ, ◌+◌, ◌*◌, ◌^◌, false, pos, Float}
use Rattle.std.specs.Float.{fin}
use Rattle.record.specs.Questions.{number}
use Rattle.view.specs.declared.ViewAnswer.{ViewAnswer}
use Rattle.view.specs.declared.ViewAnswer.TheVariants as view

-- the refusal number, or k × 2³² + probes, with k as the slicing host has it: a hit's is its mark, 3 for clear, 4 for spent
unfoldable pub view_number : ViewAnswer → ℕ
view_number (view.Refused refusal) = number refusal
view_number (view.Hit entry mark probes) = mark * 2 ^ 32 + probes
view_number (view.Clear probes) = 3 * 2 ^ 32 + probes
view_number (view.Spent place probes) = 4 * 2 ^ 32 + probes

-- a hit's entry or the place reached, and 0 for any other answer
unfoldable pub view_place : ViewAnswer → Float
view_place (view.Refused refusal) = fin false 0 (pos 0)
view_place (view.Hit entry mark probes) = entry
view_place (view.Clear probes) = fin false 0 (pos 0)
view_place (view.Spent place probes) = place
