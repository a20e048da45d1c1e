-- Places and rays: vectors of three coordinates, and segments from one end to another.
use Rattle.std.specs.Prelude.{ℤ}
use Rattle.field.specs.declared.Vector.{Vector}
use Rattle.field.specs.declared.Segment.{Segment}

-- a place whose coordinates are whole steps, and the difference of two
abbrev pub Position : Type 0
Position = Vector ℤ

abbrev pub Offset : Type 0
Offset = Vector ℤ

-- "A ray runs from end A to end B"
abbrev pub Ray : Type 0
Ray = Segment ℤ
