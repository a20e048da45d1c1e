-- The viewer's ray in steps (document 01, "Viewer's first hit"): "The products are the ray's coordinates in steps, A's three and then B's."
use Rattle.std.specs.Prelude.{Bool, true, false, cond, ◌&&◌, ℤ, pos, Float, Option, Some, None}
use Rattle.field.specs.declared.Vector.{Vector}
use Rattle.field.specs.declared.Segment.{Segment}
use Rattle.field.specs.Vectors.{Position}
use Rattle.field.specs.Vectors.{Ray}
use Rattle.view.specs.Steps.{steps_of, Steps}

-- an end in millimetres, and the ray of two
abbrev pub ViewEnd : Type 0
ViewEnd = Vector Float

abbrev pub ViewRay : Type 0
ViewRay = Segment Float

-- what a float's answer says: whether it has steps, and which, 0 for none
abbrev pub is_whole : Steps → Bool
is_whole (Some n) = true
is_whole None = false

abbrev pub or_zero : Steps → ℤ
or_zero (Some n) = n
or_zero None = pos 0

-- ---- question 15: of a float, of an end and of a ray

unfoldable pub whole : Float → Bool
whole x = is_whole (steps_of x)

unfoldable pub end_whole : ViewEnd → Bool
end_whole e = whole e.x && whole e.y && whole e.z

unfoldable pub ray_whole : ViewRay → Bool
ray_whole ray = end_whole ray.start && end_whole ray.end

-- ---- the coordinates in steps, 0 for a float that has none

unfoldable pub coordinate_of : Float → ℤ
coordinate_of x = or_zero (steps_of x)

unfoldable pub position_of : ViewEnd → Position
position_of e = record { x = coordinate_of e.x; y = coordinate_of e.y; z = coordinate_of e.z }

unfoldable pub steps_ray : ViewRay → Ray
steps_ray ray = record { start = position_of ray.start; end = position_of ray.end }

-- ---- an end and a ray in steps, if they have them

unfoldable pub end_steps : ViewEnd → Option Position
end_steps e = cond (end_whole e) (Some (position_of e)) None

unfoldable pub ray_steps : ViewRay → Option Ray
ray_steps r = cond (ray_whole r) (Some (steps_ray r)) None
